use Rattle.std.proofs.Common.{arith}
use Rattle.tagged_word.specs.declared.layout.Kind.TheVariants as kind
use Rattle.heap_model.proofs.CellWords.{words_are_size, words_by_kind}
use Rattle.image_walk.proofs.slots.integer_of.Goals as goal

-- a box has two words
pub word_of-requires-clause-within : goal.word_of-requires-clause-within
word_of-requires-clause-within c =
    omega (
      arith,
      words_are_size c.requires.stands,
      words_by_kind kind.Boxed c.requires.stands c.requires.boxed,
    )
