use Rattle.linear_probing.proofs.BackwardShifts.{shift_begins, shift_ends, shift_moves, shift_passes}
use Rattle.linear_probing.proofs.Rounds.{moves_stay_below}
use Rattle.linear_probing.proofs.backward_shift.laws_of_backward_shift.Goals as goal

pub returns-clause-begins : goal.returns-clause-begins
returns-clause-begins c = shift_begins

pub returns-clause-passes : goal.returns-clause-passes
returns-clause-passes c = shift_passes

pub returns-clause-moves : goal.returns-clause-moves
returns-clause-moves c = shift_moves

pub returns-clause-ends : goal.returns-clause-ends
returns-clause-ends c = shift_ends

pub returns-clause-below : goal.returns-clause-below
returns-clause-below c = moves_stay_below
