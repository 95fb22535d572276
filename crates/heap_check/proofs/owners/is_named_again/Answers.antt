-- The flag of what the word names is set, and it is told whether it was.
use Rattle.std.proofs.Common.{◌≡◌, ℕ, sym, ◌∙◌, subst, arith}
use Rattle.cell_layout.proofs.OneCell.{cells_have_words}
use Rattle.std.proofs.lemmas.Bool.{false≢true}
use Rattle.heap_model.specs.Images.{image_heap}
use Rattle.heap_model.specs.Wholeness.{IsOwnedKind}
use Rattle.heap_model.specs.Types.{Cell}
use Rattle.heap_model.proofs.CellsApart.{has_is_cell}
use Rattle.heap_check.specs.Names.{IsOwnedAt}
use Rattle.heap_check.proofs.OwnedTargets.{no_reference, no_target, target_is}
use Rattle.heap_check.proofs.SetFlags.{marks_nowhere}
use Rattle.image_walk.proofs.SpanWords.{words_count_few}
use Rattle.heap_check.proofs.owners.is_named_again.Goals as goal

pub returns-in_default-clause-fresh : goal.returns-in_default-clause-fresh
returns-in_default-clause-fresh c was =
    let few = words_count_few c.args.image.now.regions c.sizes_fit.ensures in
    let none : (at : ℕ) → IsOwnedAt (image_heap c.args.image.now) c.args.word at → ⊥ =
    λ at is. no_reference {heap = image_heap c.args.image.now} c.requires.sized few
    (λ found reads. c.in_default.not-Some found (c.address.ensures ∙ reads)) is in
    record { marks = marks_nowhere none; fresh = λ at is. absurd (none at is) }

pub returns-in-None-clause-fresh : goal.returns-in-None-clause-fresh
returns-in-None-clause-fresh c was =
    let few = words_count_few c.args.image.now.regions c.sizes_fit.ensures in
    let none : (at : ℕ) → IsOwnedAt (image_heap c.args.image.now) c.args.word at → ⊥ =
    λ at is. no_target {heap = image_heap c.args.image.now} c.requires.sized few (sym c.in-Some.ensures)
    c.in-None.ensures is in
    record { marks = marks_nowhere none; fresh = λ at is. absurd (none at is) }

pub set-requires : goal.set-requires
set-requires c =
    let found = c.in-Some-find.ensures in
    let heap = image_heap c.args.image.now in
    omega (
      arith,
      found.0,
      (has_is_cell found.1).reads.there,
      (cells_have_words heap.space heap.words c.in-Some-find.cell (has_is_cell found.1)).0,
      c.requires.as_many,
    )

pub returns-else-is_owned-clause-fresh : goal.returns-else-is_owned-clause-fresh
returns-else-is_owned-clause-fresh c was =
    let few = words_count_few c.args.image.now.regions c.sizes_fit.ensures in
    let found = c.in-Some-find.ensures in
    let none : (at : ℕ) → IsOwnedAt (image_heap c.args.image.now) c.args.word at → ⊥ =
    λ at is.
    let same : is.cell ≡ c.in-Some-find.cell =
    target_is {heap = image_heap c.args.image.now} c.requires.sized few (sym c.in-Some.ensures) found.1 found.0 is in
    let owned : IsOwnedKind c.in-Some-find.cell.layout.kind =
    subst (λ (cell : Cell). IsOwnedKind cell.layout.kind) same is.owned in
    absurd (false≢true (sym c.if-is_owned.false ∙ c.is_owned.ensures.1 owned)) in
    record { marks = marks_nowhere none; fresh = λ at is. absurd (none at is) }
