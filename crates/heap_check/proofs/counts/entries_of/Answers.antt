-- What a weak map counts is few, and stands in its cell.
use Rattle.std.proofs.Common.{◌≡◌, ◌∙◌, ap, sym, arith}
use Rattle.heap_model.specs.Images.{image_heap}
use Rattle.heap_model.specs.Kinds.{count_offset}
use Rattle.heap_model.specs.Needs.{count_at}
use Rattle.heap_model.proofs.WordsRead.{word_of_cell}
use Rattle.live_cells.specs.Census.{pairs_counted}
use Rattle.live_cells.proofs.FewPairs.{few_pairs}
use Rattle.heap_check.proofs.counts.entries_of.Goals as goal

pub word_of-requires-clause-stands : goal.word_of-requires-clause-stands
word_of-requires-clause-stands c = c.requires.stands

pub word_of-requires-clause-within : goal.word_of-requires-clause-within
word_of-requires-clause-within c = omega (arith, (few_pairs c.requires.whole c.requires.stands c.in-Weak.is).size)

pub returns-in-Weak-clause-few : goal.returns-in-Weak-clause-few
returns-in-Weak-clause-few c =
    let known = few_pairs c.requires.whole c.requires.stands c.in-Weak.is in
    let count : count_at (image_heap c.args.image.now) c.args.cell.at ≡ c.word_of.result =
    word_of_cell count_offset c.word_of.result c.requires.stands c.word_of.ensures in
    omega (arith, count, known.few, known.size)

pub returns-in-Weak-clause-counted : goal.returns-in-Weak-clause-counted
returns-in-Weak-clause-counted c =
    sym (word_of_cell count_offset c.word_of.result c.requires.stands c.word_of.ensures)
    ∙ sym (ap (λ k. pairs_counted (image_heap c.args.image.now) k c.args.cell.at) c.in-Weak.is)
