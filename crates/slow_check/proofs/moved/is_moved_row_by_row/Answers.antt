use Rattle.std.proofs.Common.{sym, ◌∙◌}
use Rattle.std.proofs.lemmas.Bool.{false≢true}
use Rattle.heap_model.specs.Images.{image_heap}
use Rattle.slow_check.specs.Moves.{to_of}
use Rattle.slow_check.proofs.HeapsMoved.{moved_from_parts, frame_of_moved, cells_of_moved, from_of_moved}
use Rattle.slow_check.proofs.moved.is_moved_row_by_row.Goals as goal

pub returns-then-not-has_same_frame : goal.returns-then-not-has_same_frame
returns-then-not-has_same_frame c = (
  λ wrong. absurd (false≢true wrong),
  λ moved. sym c.if-not-has_same_frame.true ∙ c.has_same_frame.ensures.1 (frame_of_moved moved),
)

pub returns-then-not-are_moved_cells : goal.returns-then-not-are_moved_cells
returns-then-not-are_moved_cells c = (
  λ wrong. absurd (false≢true wrong),
  λ moved. sym c.if-not-are_moved_cells.true ∙ c.are_moved_cells.ensures.1 (cells_of_moved moved),
)

pub returns-then-not-are_from : goal.returns-then-not-are_from
returns-then-not-are_from c = (
  λ wrong. absurd (false≢true wrong),
  λ moved. sym c.if-not-are_from.true ∙ c.are_from.ensures.1 (from_of_moved moved),
)

pub returns : goal.returns
returns c = (
  λ yes. moved_from_parts (image_heap c.args.old.now) (image_heap c.args.new.now) (to_of c.args.moves.now)
      c.requires.rows (c.has_same_frame.ensures.0 c.if-not-has_same_frame.false)
      (c.are_moved_cells.ensures.0 c.if-not-are_moved_cells.false)
      (c.are_from.ensures.0 c.if-not-are_from.false) (c.are_moved_roots.ensures.0 yes),
  λ moved. c.are_moved_roots.ensures.1 moved.roots,
)
