use Rattle.std.proofs.Common.{refl, arith}
use Rattle.std.proofs.lemmas.Result.{err_from_is_err_and}
use Rattle.heap_model.specs.Images.{image_heap}
use Rattle.heap_model.proofs.RegionSeams.{seam_stands}
use Rattle.heap_check.proofs.RegionFlaws.{region_within}
use Rattle.heap_check.proofs.MarkedRows.{marked_none, marked_more, marked_all, rows_first}
use Rattle.heap_check.proofs.rows.mark_rows.Goals as goal

pub loop-end-init : goal.loop-end-init
loop-end-init c = record { to = marked_none (image_heap c.args.image.now) c.args.starts.now; few = omega arith }

pub mark_region-requires-clause-stands : goal.mark_region-requires-clause-stands
mark_region-requires-clause-stands c =
    seam_stands c.args.image.now.regions c.loop-end.at c.in-Some.end c.loop-end.invariant.to.seam
    c.sizes_fit.ensures c.in-Some.ensures.cells

pub mark_region-requires-clause-room : goal.mark_region-requires-clause-room
mark_region-requires-clause-room c =
    let stands = seam_stands c.args.image.now.regions c.loop-end.at c.in-Some.end c.loop-end.invariant.to.seam
    c.sizes_fit.ensures c.in-Some.ensures.cells in
    omega (
      arith,
      region_within (image_heap c.args.image.now) c.loop-end.at c.in-Some.end c.requires.sized stands,
      c.requires.room,
      c.loop-end.auto.starts,
    )

pub returns-in_err-row_end-clause-breaks : goal.returns-in_err-row_end-clause-breaks
returns-in_err-row_end-clause-breaks c =
    let p = err_from_is_err_and c.from_residual.result c.from_residual.ensures.1 in
    rw (p.1, p.2)
    (rows_first (image_heap c.args.image.now) c.loop-end.at c.in-Some.end c.loop-end.survivors c.args.starts.now
    c.loop-end.starts c.in_err-row_end.field-0.0 c.sizes_fit.ensures c.requires.few
    c.in-Some.ensures.cells c.loop-end.invariant.to c.in_err-row_end.ensures.breaks)

pub survivors_at-survivors-requires-clause-stands : goal.survivors_at-survivors-requires-clause-stands
survivors_at-survivors-requires-clause-stands c =
    seam_stands c.args.image.now.regions c.loop-end.at c.in-Some.end c.loop-end.invariant.to.seam
    c.sizes_fit.ensures c.in-Some.ensures.cells

pub loop-end-preserved : goal.loop-end-preserved
loop-end-preserved c = record {
  to = marked_more (image_heap c.args.image.now) c.loop-end.at c.in-Some.end c.in_ok-row_end.row_end
      c.loop-end.survivors c.survivors_at-survivors.result c.args.starts.now c.loop-end.starts
      c.mark_region.new.starts c.sizes_fit.ensures c.in-Some.ensures.cells c.loop-end.invariant.to
      c.in_ok-row_end.ensures.marks c.survivors_at-survivors.ensures.counted;
  few = omega (arith, c.loop-end.invariant.few, c.survivors_at-survivors.ensures.within);
}

pub returns-clause-marks : goal.returns-clause-marks
returns-clause-marks c =
    marked_all (image_heap c.args.image.now) c.loop-end.at c.loop-end.survivors c.args.starts.now c.loop-end.starts
    c.sizes_fit.ensures (c.in_default.ensures.behind.0 refl) c.loop-end.invariant.to
