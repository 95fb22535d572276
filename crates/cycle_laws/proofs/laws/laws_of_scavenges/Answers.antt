use Rattle.cycle_laws.proofs.Restarting.{scavenges_restart}
use Rattle.cycle_laws.proofs.Scavenged.{scavenges_keep_closed, scavenges_keep_cells}
use Rattle.cycle_laws.proofs.laws.laws_of_scavenges.Goals as goal

pub returns-clause-closed : goal.returns-clause-closed
returns-clause-closed c = scavenges_keep_closed

pub returns-clause-cells : goal.returns-clause-cells
returns-clause-cells c = scavenges_keep_cells

pub returns-clause-restart : goal.returns-clause-restart
returns-clause-restart c = scavenges_restart
