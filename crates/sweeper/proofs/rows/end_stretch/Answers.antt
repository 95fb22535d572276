-- What waits is a part of the row, and becomes one free cell.
use Rattle.std.proofs.Common.{arith}
use Rattle.sweeper.proofs.RowSteps.{comes_to, row_within, end_below_roots, roots_below_marks, same_roots}
use Rattle.sweeper.proofs.RowSteps.{waiting_is_roomy, waiting_covered, none_waits}
use Rattle.sweeper.proofs.rows.end_stretch.Goals as goal

pub cover-requires-clause-within : goal.cover-requires-clause-within
cover-requires-clause-within c =
    let state = c.requires.row.5 in
    omega (
      arith,
      comes_to state,
      row_within state,
      end_below_roots state,
      same_roots state,
      roots_below_marks state,
    )

pub cover-requires-clause-room : goal.cover-requires-clause-room
cover-requires-clause-room c = waiting_is_roomy c.requires.row.5 c.if-from-at.true

pub returns-then-from-at : goal.returns-then-from-at
returns-then-from-at c first marked start end limit state = waiting_covered state c.if-from-at.true c.cover.ensures

pub returns-else-from-at : goal.returns-else-from-at
returns-else-from-at c first marked start end limit state = none_waits state c.if-from-at.false
