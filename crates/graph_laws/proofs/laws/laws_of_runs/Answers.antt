use Rattle.graph_laws.proofs.RunLaws.{runs_agree, runs_go_on, faults_stay}
use Rattle.graph_laws.proofs.RunBytes.{bytes_stay}
use Rattle.graph_laws.proofs.RunsEnd.{runs_end}
use Rattle.graph_laws.proofs.RunsEndOnce.{runs_end_once}
use Rattle.graph_laws.proofs.laws.laws_of_runs.Goals as goal

pub returns : goal.returns
returns c = record {
  agree = runs_agree;
  go_on = runs_go_on;
  bytes_stay = bytes_stay;
  faults_stay = faults_stay;
  end = runs_end;
  end_once = runs_end_once;
}
