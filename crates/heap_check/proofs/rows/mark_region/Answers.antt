use Rattle.std.proofs.Common.{length, slice_index_or, ap, refl, arith}
use Rattle.heap_model.specs.Images.{image_heap}
use Rattle.heap_check.proofs.WordsRead.{read_at}
use Rattle.heap_check.proofs.RegionFlaws.{region_within, region_marked, region_blank, region_breaks}
use Rattle.heap_check.proofs.rows.mark_region.Goals as goal

pub flaw_of_blank-requires : goal.flaw_of_blank-requires
flaw_of_blank-requires c =
    region_within (image_heap c.args.image.now) c.args.start c.args.end c.requires.sized c.requires.stands

pub bounds-as_slice-at : goal.bounds-as_slice-at
bounds-as_slice-at c =
    let within = region_within (image_heap c.args.image.now) c.args.start c.args.end c.requires.sized
    c.requires.stands in
    let bounds = c.bound_of.ensures in
    let off = c.in-Err.ensures.breaks in
    omega (arith, within, ap length c.as_slice.ensures, off.before, bounds.bounds.within, bounds.stands.ends)

pub returns-in-None-clause-marks : goal.returns-in-None-clause-marks
returns-in-None-clause-marks c =
    region_marked (image_heap c.args.image.now) c.args.start c.args.end c.in-Ok.row_end c.bound_of.result
    c.args.starts.now c.mark_row.new.starts c.bound_of.ensures c.in-Ok.ensures.ends c.in-None.ensures

pub returns-in-Some-clause-breaks : goal.returns-in-Some-clause-breaks
returns-in-Some-clause-breaks c =
    region_blank (image_heap c.args.image.now) c.args.start c.args.end c.in-Ok.row_end c.bound_of.result
    c.args.starts.now c.mark_row.new.starts c.in-Some.flaw c.requires.few c.bound_of.ensures c.in-Ok.ensures.ends
    c.in-Some.ensures

pub returns-in-Err-clause-breaks : goal.returns-in-Err-clause-breaks
returns-in-Err-clause-breaks c =
    let at = c.in-Err.at in
    let read = c.as_slice.result.now in
    let within = region_within (image_heap c.args.image.now) c.args.start c.args.end c.requires.sized
    c.requires.stands in
    let bounds = c.bound_of.ensures in
    let off = c.in-Err.ensures.breaks in
    region_breaks (image_heap c.args.image.now) c.args.start c.args.end c.bound_of.result
    (record { at = at; found = slice_index_or read at 0; wanted = c.filler_word.result })
    bounds off
    (read_at c.args.image.now.words read at at c.as_slice.ensures refl
    (omega (arith, within, ap length c.as_slice.ensures, off.before, bounds.bounds.within, bounds.stands.ends)))
    c.filler_word.ensures
