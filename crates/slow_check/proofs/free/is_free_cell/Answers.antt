use Rattle.std.proofs.Common.{◌≡◌, IsTrue, sym, ◌∙◌, ap, subst}
use Rattle.std.proofs.lemmas.Bool.{false≢true}
use Rattle.tagged_word.specs.Cells.{is_free_kind}
use Rattle.heap_model.specs.Types.{Cell}
use Rattle.heap_model.specs.Images.{image_heap}
use Rattle.slow_check.proofs.FreeHere.{free_is_here, free_here, run_of_page}
use Rattle.slow_check.proofs.free.is_free_cell.Goals as goal

-- no cell stands at the address
pub returns-in_default : goal.returns-in_default
returns-in_default c = (
  λ wrong. absurd (false≢true wrong),
  λ free. absurd (c.in_default.ensures free.cell free.words free.has free.stands),
)

-- the cell has another size
pub returns-then-cell-run : goal.returns-then-cell-run
returns-then-cell-run c =
    let found = c.in-Some.ensures in (
      λ wrong. absurd (false≢true wrong),
      λ free.
          let same : free.cell ≡ c.in-Some.cell =
          free_is_here (image_heap c.args.image.now) c.args.run c.in-Some.cell found.1 found.0 free in
          absurd (c.if-cell-run.true (ap (λ (one : Cell). one.size) (sym same) ∙ free.size)),
    )

pub returns-then-is_free : goal.returns-then-is_free
returns-then-is_free c =
    let heap = image_heap c.args.image.now in
    let found = c.in-Some.ensures in (
      λ page. free_here heap c.args.run c.in-Some.cell found.1 found.0 c.if-cell-run.false
          (sym c.is_free.ensures ∙ c.if-is_free.true) (c.is_page.ensures.0 page),
      λ free. c.is_page.ensures.1 (run_of_page heap c.args.run free),
    )

-- the cell is not free
pub returns-else-is_free : goal.returns-else-is_free
returns-else-is_free c =
    let found = c.in-Some.ensures in (
      λ wrong. absurd (false≢true wrong),
      λ free.
          let same : free.cell ≡ c.in-Some.cell =
          free_is_here (image_heap c.args.image.now) c.args.run c.in-Some.cell found.1 found.0 free in
          let Free : Cell → Type 0 = λ one. IsTrue (is_free_kind one.layout.kind) in
          absurd (false≢true (sym c.if-is_free.false ∙ (c.is_free.ensures ∙ subst Free same free.free))),
    )
