use Rattle.std.proofs.Common.{◌+◌, sym, ◌∙◌, ap, arith}
use Rattle.tagged_word.specs.declared.layout.Kind.TheVariants as kind
use Rattle.heap_model.specs.Images.{image_heap}
use Rattle.heap_model.proofs.CellWords.{words_are_size, words_by_kind}
use Rattle.heap_check.proofs.WeakFlaws.{first_miscounted}
use Rattle.heap_check.proofs.entries.flaw_of_count.Goals as goal

-- a weak map has three words
pub word_of-found-requires-clause-within : goal.word_of-found-requires-clause-within
word_of-found-requires-clause-within c =
    omega (arith, words_are_size c.requires.stands, words_by_kind kind.Weak c.requires.stands c.requires.weak)

pub overflow_add-result : goal.overflow_add-result
overflow_add-result c =
    omega (
      arith,
      c.requires.ends,
      words_are_size c.requires.stands,
      words_by_kind kind.Weak c.requires.stands c.requires.weak,
    )

pub returns : goal.returns
returns c =
    let cell = c.args.cell in
    let found = c.word_of-found.result in
    first_miscounted (image_heap c.args.image.now) cell c.args.table found
    (record { at = cell.at + 2; found = found; wanted = c.entries_in-wanted.result }) c.word_of-found.ensures
    (λ same. c.if-found-wanted.false (same ∙ sym c.entries_in-wanted.ensures))
    (ap (λ n. record { at = cell.at + 2; found = found; wanted = n }) c.entries_in-wanted.ensures)
