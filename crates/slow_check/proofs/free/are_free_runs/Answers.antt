use Rattle.std.proofs.Common.{ℕ, List, Contains, map, subst, refl, sym, ◌∙◌, ap, arith, Some}
use Rattle.std.proofs.lemmas.Bool.{false≢true}
use Rattle.std.proofs.lemmas.List.Elements.{Contains-get_or}
use Rattle.std.proofs.lemmas.List.{length-map}
use Rattle.tagged_word.proofs.Members.{in_map}
use Rattle.heap_model.specs.Types.{Run}
use Rattle.heap_model.specs.Images.{image_heap}
use Rattle.slow_check.specs.FreeCells.{AreFreeCells}
use Rattle.slow_check.proofs.EachItem.{each_item_more}
use Rattle.slow_check.proofs.Listed.{each_listed, value_at}
use Rattle.slow_check.proofs.free.are_free_runs.Goals as goal

pub returns-then-not-are_free_cells : goal.returns-then-not-are_free_cells
returns-then-not-are_free_cells c =
    let rows = c.args.rows.now in
    let row = c.row-item.result in
    let listed = subst (Contains rows) (sym c.row-item.is)
    (Contains-get_or rows c.loop-row.row-index row c.loop-row-test.true) in (
      λ wrong. absurd (false≢true wrong),
      λ free. sym c.if-not-are_free_cells.true ∙ c.are_free_cells.ensures.1
          (subst (AreFreeCells (image_heap c.args.image.now)) (sym c.deref.ensures.value)
          (λ run. free row.items run (in_map (λ one. one.items) rows row listed))),
    )

pub loop-row-preserved : goal.loop-row-preserved
loop-row-preserved c =
    let heap = image_heap c.args.image.now in
    let rows = c.args.rows.now in
    let row = c.row-item.result in
    let Free : ℕ → List Run → Type 0 = λ k one. AreFreeCells heap one in
    each_item_more (map (λ one. one.items) rows) Free c.loop-row.row-index row.items c.loop-row.invariant
    (value_at (λ one. one.items) rows c.loop-row.row-index row c.loop-row-test.true
    ∙ ap (λ one. Some one.items) (sym c.row-item.is))
    (subst (AreFreeCells heap) c.deref.ensures.value (c.are_free_cells.ensures.0 c.if-not-are_free_cells.false))

pub returns : goal.returns
returns c =
    let rows = c.args.rows.now in (
      λ done row run listed. each_listed (map (λ one. one.items) rows) (AreFreeCells (image_heap c.args.image.now))
          c.loop-row.row-index
          (omega (arith, c.loop-row-test.false, length-map rows (λ one. one.items))) c.loop-row.invariant row listed
          run,
      λ free. refl,
    )
