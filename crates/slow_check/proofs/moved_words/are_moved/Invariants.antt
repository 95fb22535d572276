use Rattle.std.proofs.Common.{ℕ, ◌<◌}
use Rattle.heap_model.specs.Images.{image_heap}
use Rattle.heap_model.specs.Heaps.{words_of_cell}
use Rattle.slow_check.specs.Moves.{to_of}
use Rattle.slow_check.specs.MovedCells.{IsMovedAt}
use Rattle.slow_check.proofs.moved_words.are_moved.Given as goal

abbrev pub invariant-loop-offset : goal.invariant-loop-offset
invariant-loop-offset l =
    (offset : ℕ) → offset < l.offset → IsMovedAt (to_of l.moves) l.cell (words_of_cell (image_heap l.old) l.cell)
    (words_of_cell (image_heap l.new) l.other) offset
