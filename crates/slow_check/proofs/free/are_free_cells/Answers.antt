use Rattle.std.proofs.Common.{ℕ, get_or, refl, sym, ◌∙◌, arith}
use Rattle.std.proofs.lemmas.Bool.{false≢true}
use Rattle.std.proofs.lemmas.Option.{slice_get-get_or}
use Rattle.std.proofs.lemmas.List.Elements.{Contains-get_or}
use Rattle.heap_model.specs.Types.{Run}
use Rattle.heap_model.specs.Images.{image_heap}
use Rattle.heap_model.specs.Collectable.{IsFreeCell}
use Rattle.slow_check.proofs.EachItem.{each_item_more}
use Rattle.slow_check.proofs.Listed.{each_listed}
use Rattle.slow_check.proofs.free.are_free_cells.Goals as goal

pub returns-then-not-is_free_cell : goal.returns-then-not-is_free_cell
returns-then-not-is_free_cell c =
    let none : Run = record { at = 0; words = 0 } in (
      λ wrong. absurd (false≢true wrong),
      λ free. sym c.if-not-is_free_cell.true ∙ c.is_free_cell.ensures.1
          (free (get_or c.args.row.now c.loop-run.run-index none)
          (Contains-get_or c.args.row.now c.loop-run.run-index none c.loop-run-test.true)),
    )

pub loop-run-preserved : goal.loop-run-preserved
loop-run-preserved c =
    let none : Run = record { at = 0; words = 0 } in
    let Free : ℕ → Run → Type 0 = λ k run. IsFreeCell (image_heap c.args.image.now) run in
    each_item_more c.args.row.now Free c.loop-run.run-index (get_or c.args.row.now c.loop-run.run-index none)
    c.loop-run.invariant (slice_get-get_or c.args.row.now c.loop-run.run-index none c.loop-run-test.true)
    (c.is_free_cell.ensures.0 c.if-not-is_free_cell.false)

pub returns : goal.returns
returns c = (
  λ done. each_listed c.args.row.now (IsFreeCell (image_heap c.args.image.now)) c.loop-run.run-index
      (omega (arith, c.loop-run-test.false)) c.loop-run.invariant,
  λ free. refl,
)
