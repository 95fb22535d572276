use Rattle.std.proofs.Common.{arith}
use Rattle.tagged_word.specs.declared.layout.Kind.TheVariants as kind
use Rattle.heap_model.specs.Images.{image_heap}
use Rattle.heap_model.specs.Heaps.{words_of_cell}
use Rattle.heap_model.proofs.CellWords.{words_are_size, words_by_kind}
use Rattle.slow_check.proofs.ShownCells.{list_shown_from, list_shown_to}
use Rattle.slow_check.proofs.lists.shows_list_cell.Goals as goal

-- a list has three words
pub word_of-count-requires-clause-within : goal.word_of-count-requires-clause-within
word_of-count-requires-clause-within c =
    omega (arith, words_are_size c.requires.stands, words_by_kind kind.List c.requires.stands c.requires.list)

pub word_of-store-requires-clause-within : goal.word_of-store-requires-clause-within
word_of-store-requires-clause-within c =
    omega (arith, words_are_size c.requires.stands, words_by_kind kind.List c.requires.stands c.requires.list)

pub returns-in-Some : goal.returns-in-Some
returns-in-Some c =
    let heap = image_heap c.args.image.now in
    let cell = c.args.cell in
    let words = words_of_cell heap cell in
    let elements = c.args.elements.now in
    let store = c.word_of-store.result in
    let count = c.word_of-count.result in
    let span = c.in-Some.span in (
      λ yes. list_shown_from heap cell words elements store count span c.requires.list c.word_of-count.ensures
          (omega arith) c.word_of-store.ensures c.in-Some.ensures.spans (c.show_elements.ensures.0 yes),
      λ shows. c.show_elements.ensures.1
          (list_shown_to heap cell words elements store span c.word_of-store.ensures c.in-Some.ensures.spans shows),
    )
