use Rattle.std.proofs.Common.{arith}
use Rattle.tagged_word.specs.declared.layout.Kind.TheVariants as kind
use Rattle.heap_model.specs.Images.{image_heap}
use Rattle.heap_model.specs.Heaps.{words_of_cell}
use Rattle.heap_model.proofs.CellWords.{words_are_size, words_by_kind}
use Rattle.heap_check.proofs.WeakFlaws.{first_lacks_table}
use Rattle.heap_check.proofs.entries.flaw_of_weak.Goals as goal

-- a weak map has three words
pub word_of-word-requires-clause-within : goal.word_of-word-requires-clause-within
word_of-word-requires-clause-within c =
    omega (arith, words_are_size c.requires.stands, words_by_kind kind.Weak c.requires.stands c.requires.weak)

pub flaw_of_table-requires-clause-beside : goal.flaw_of_table-requires-clause-beside
flaw_of_table-requires-clause-beside c =
    record { word = c.word_of-word.result; slot = c.word_of-word.ensures; is = c.in-Some.ensures.beside }

pub returns-in-None : goal.returns-in-None
returns-in-None c =
    let heap = image_heap c.args.image.now in
    first_lacks_table heap c.args.cell (words_of_cell heap c.args.cell) c.word_of-word.result c.slot_flaw.result
    c.word_of-word.ensures c.in-None.ensures.spans c.slot_flaw.ensures
