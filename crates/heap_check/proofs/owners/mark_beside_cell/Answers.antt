-- The flag of what stands beside an object is set.
use Rattle.std.proofs.Common.{sym, ◌∙◌, arith}
use Rattle.std.proofs.lemmas.Bool.{false≢true}
use Rattle.std.proofs.lemmas.Option.{same_Some}
use Rattle.cell_layout.proofs.OneCell.{cells_have_words}
use Rattle.heap_model.specs.Images.{image_heap}
use Rattle.heap_model.proofs.CellsApart.{has_is_cell}
use Rattle.image_walk.proofs.ObjectNaming.{slot_within}
use Rattle.heap_check.proofs.BesideFlags.{beside_at}
use Rattle.heap_check.proofs.SetFlags.{marks_nowhere}
use Rattle.image_walk.proofs.SpanWords.{words_count_few}
use Rattle.heap_check.proofs.owners.mark_beside_cell.Goals as goal

pub returns-then-not-is_object : goal.returns-then-not-is_object
returns-then-not-is_object c =
    marks_nowhere (λ at is. false≢true (sym c.if-not-is_object.true ∙ c.is_object.ensures ∙ is.is))

pub word_of-requires-clause-within : goal.word_of-requires-clause-within
word_of-requires-clause-within c =
    slot_within (image_heap c.args.image.now) c.args.cell c.requires.stands
    (sym c.is_object.ensures ∙ c.if-not-is_object.false)

pub returns-in_default : goal.returns-in_default
returns-in_default c =
    let few = words_count_few c.args.image.now.regions c.sizes_fit.ensures in
    marks_nowhere (λ at is.
    c.in_default.not-Some at (c.address.ensures ∙ beside_at c.requires.sized few c.word_of.ensures is))

pub set-was-requires : goal.set-was-requires
set-was-requires c =
    let heap = image_heap c.args.image.now in
    let found = c.in-Some-find.ensures in
    omega (
      arith,
      found.0,
      (has_is_cell found.1).reads.there,
      (cells_have_words heap.space heap.words c.in-Some-find._other (has_is_cell found.1)).0,
      c.requires.as_many,
    )

pub returns-in_default-find : goal.returns-in_default-find
returns-in_default-find c =
    let few = words_count_few c.args.image.now.regions c.sizes_fit.ensures in
    marks_nowhere (λ at is.
    let reads = beside_at c.requires.sized few c.word_of.ensures is in
    c.in_default-find.ensures is.other _ is.next_to.stands
    (is.place ∙ same_Some _ _ (sym reads ∙ sym c.in-Some.ensures)))
