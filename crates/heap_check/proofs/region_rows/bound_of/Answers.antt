use Rattle.std.proofs.Common.{sym, subst}
use Rattle.heap_model.specs.Images.{image_heap}
use Rattle.heap_check.specs.declared.region_rows.Bound.{Bound}
use Rattle.heap_check.specs.RegionRows.{BoundsFrom}
use Rattle.heap_model.proofs.RegionRows.{start_inside}
use Rattle.heap_check.proofs.UsedRows.{used_within, bounds_from}
use Rattle.heap_check.proofs.region_rows.bound_of.Goals as goal

pub bound_by-requires : goal.bound_by-requires
bound_by-requires c =
    used_within (image_heap c.args.image.now) c.args.start c.args.end c.sizes_fit.ensures c.requires.few
    c.requires.stands

pub returns : goal.returns
returns c =
    let heap = image_heap c.args.image.now in
    let limits = c.sizes_fit.ensures in
    let inside = c.region.ensures.inside (start_inside heap.space c.args.start c.args.end limits c.requires.stands) in
    let Bounds : Bound → Type 0 = λ bound. BoundsFrom heap c.args.start c.args.end bound in
    subst Bounds (sym c.bound_by.ensures)
    (bounds_from heap c.args.start c.args.end c.region.result limits c.requires.few c.requires.stands inside)
