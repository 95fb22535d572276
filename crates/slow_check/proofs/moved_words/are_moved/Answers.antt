use Rattle.std.proofs.Common.{refl, sym, ◌∙◌, below_more, arith}
use Rattle.std.proofs.lemmas.Bool.{false≢true}
use Rattle.heap_model.specs.Images.{image_heap}
use Rattle.heap_model.specs.Heaps.{words_of_cell}
use Rattle.heap_model.proofs.CellWords.{words_are_size}
use Rattle.slow_check.specs.Moves.{to_of}
use Rattle.slow_check.proofs.CellsMoved.{moved_by_each, each_is_moved}
use Rattle.slow_check.proofs.moved_words.are_moved.Goals as goal

pub loop-offset-preserved : goal.loop-offset-preserved
loop-offset-preserved c =
    below_more _ _ c.loop-offset.invariant (c.is_moved_at.ensures.0 c.if-not-is_moved_at.false)

pub returns-then-not-is_moved_at : goal.returns-then-not-is_moved_at
returns-then-not-is_moved_at c = (
  λ wrong. absurd (false≢true wrong),
  λ are. sym c.if-not-is_moved_at.true ∙ c.is_moved_at.ensures.1 (each_is_moved c.loop-offset.offset are),
)

pub returns : goal.returns
returns c =
    let size = words_are_size c.requires.stands in
    let other_size = words_are_size c.requires.other_stands in (
      λ done. moved_by_each (to_of c.args.moves.now) c.args.cell (words_of_cell (image_heap c.args.old.now) c.args.cell)
          (words_of_cell (image_heap c.args.new.now) c.args.other) (omega (arith, size, other_size, c.requires.long))
          (λ offset within. c.loop-offset.invariant offset (omega (arith, within, size, c.loop-offset-test.false))),
      λ are. refl,
    )
