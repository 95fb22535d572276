use Rattle.std.proofs.Common.{arith}
use Rattle.tagged_word.specs.declared.layout.Kind.TheVariants as kind
use Rattle.heap_model.specs.Images.{image_heap}
use Rattle.heap_model.specs.Heaps.{words_of_cell}
use Rattle.heap_model.proofs.CellWords.{words_are_size, words_by_kind}
use Rattle.slow_check.proofs.ShownCells.{plain_shape, plain_shown_from, plain_shown_to}
use Rattle.slow_check.proofs.fields.shows_plain_cell.Goals as goal

-- a plain object is sound, and so its shape is a path's
pub is_path_of-requires : goal.is_path_of-requires
is_path_of-requires c =
    let heap = image_heap c.args.image.now in
    let cell = c.args.cell in
    let words = words_of_cell heap cell in
    plain_shape heap cell words c.requires.plain (c.requires.sound cell words c.requires.stands)

-- it has three words and more
pub word_of-store-requires-clause-within : goal.word_of-store-requires-clause-within
word_of-store-requires-clause-within c =
    omega (arith, words_are_size c.requires.stands, words_by_kind kind.Plain c.requires.stands c.requires.plain)

pub behind_head-requires-clause-long : goal.behind_head-requires-clause-long
behind_head-requires-clause-long c =
    omega (arith, words_are_size c.requires.stands, words_by_kind kind.Plain c.requires.stands c.requires.plain)

pub returns-in-Some : goal.returns-in-Some
returns-in-Some c =
    let heap = image_heap c.args.image.now in
    let cell = c.args.cell in
    let words = words_of_cell heap cell in
    let cap = c.args.cap in
    let fields = c.args.fields.now in
    let store = c.word_of-store.result in
    let own = c.behind_head.result in
    let beside = c.in-Some.beside in (
      λ yes. plain_shown_from heap cell words cap fields store own beside c.requires.plain
          (c.is_path_of.ensures.0 c.if-not-is_path_of.false) c.word_of-store.ensures c.behind_head.ensures.slots
          c.in-Some.ensures.spans (c.show_fields.ensures.0 yes),
      λ shows. c.show_fields.ensures.1
          (plain_shown_to heap cell words cap fields store own beside c.word_of-store.ensures
          c.behind_head.ensures.slots c.in-Some.ensures.spans shows),
    )
