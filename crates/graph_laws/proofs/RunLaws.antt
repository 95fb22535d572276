-- Laws of runs that follow at once from how a run goes on.
use Rattle.object_graph.specs.Run.{untold}
use Rattle.object_graph.proofs.Runs.{run_of-push, run_of-append, run_from-none}
use Rattle.graph_laws.specs.Laws.{RunsAgree, RunsGoOn, FaultsStay}

-- the run after one line more is that line after the run
pub runs_agree : RunsAgree
runs_agree limits names lines line = run_of-push limits names lines line

-- runs with the same first lines go on from the same point
pub runs_go_on : RunsGoOn
runs_go_on limits names same more = run_of-append limits names same more

-- after a line with a fault there is no graph
pub faults_stay : FaultsStay
faults_stay limits names lines more none = run_from-none limits names untold lines more none
