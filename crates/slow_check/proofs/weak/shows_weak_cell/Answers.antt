use Rattle.std.proofs.Common.{arith}
use Rattle.tagged_word.specs.declared.layout.Kind.TheVariants as kind
use Rattle.heap_model.specs.Images.{image_heap}
use Rattle.heap_model.specs.Heaps.{words_of_cell}
use Rattle.heap_model.proofs.CellWords.{words_are_size, words_by_kind}
use Rattle.slow_check.proofs.ShownCells.{weak_shown_from, weak_shown_to}
use Rattle.slow_check.proofs.weak.shows_weak_cell.Goals as goal

-- a weak map has three words
pub word_of-store-requires-clause-within : goal.word_of-store-requires-clause-within
word_of-store-requires-clause-within c =
    omega (arith, words_are_size c.requires.stands, words_by_kind kind.Weak c.requires.stands c.requires.weak)

pub returns-in-Some : goal.returns-in-Some
returns-in-Some c =
    let heap = image_heap c.args.image.now in
    let cell = c.args.cell in
    let words = words_of_cell heap cell in
    let marks = c.args.marks.now in
    let entries = c.args.entries.now in
    let store = c.word_of-store.result in
    let table = c.in-Some.table in (
      λ yes. weak_shown_from heap marks cell words entries store table c.requires.weak c.word_of-store.ensures
          c.in-Some.ensures (c.show_pairs.ensures.0 yes),
      λ shows. c.show_pairs.ensures.1
          (weak_shown_to heap marks cell words entries store table c.word_of-store.ensures c.in-Some.ensures shows),
    )
