use Rattle.cycle_laws.proofs.OwnCells.{runs_have_no_used_word, opens_with_no_own_cell, changes_avoid_own_cells}
use Rattle.cycle_laws.proofs.OwnCells.{scavenges_avoid_own_cells}
use Rattle.cycle_laws.proofs.laws.laws_of_own_cells.Goals as goal

pub returns-clause-used : goal.returns-clause-used
returns-clause-used c = runs_have_no_used_word

pub returns-clause-open : goal.returns-clause-open
returns-clause-open c = opens_with_no_own_cell

pub returns-clause-changes : goal.returns-clause-changes
returns-clause-changes c = changes_avoid_own_cells

pub returns-clause-scavenges : goal.returns-clause-scavenges
returns-clause-scavenges c = scavenges_avoid_own_cells
