-- The regions of a heap are the same after a line, whatever became of it.
use Rattle.std.proofs.Common.{◌≡◌, ◌∙◌, Bool, ℕ, List, Option, Some, None, Result, Ok, Err, ap}
use Rattle.heap_model.specs.Types.{Command, FaultWord}
use Rattle.object_graph.specs.Graphs.{Graph}
use Rattle.write_barrier.specs.MutatorState.{Mutator}
use Rattle.collector.specs.Born.{BeginsCycle}
use Rattle.mutator.specs.declared.stop.Stop.{Stop}
use Rattle.mutator.specs.declared.stop.Stop.TheVariants.{Fault, NoRoom, NoClear}
use Rattle.heap_script.specs.Collecting.{CarriesAsked, CarriesAtLast, CarriesCommand, Collects, FaultsOn}
use Rattle.heap_script.specs.Progress.{CarriesLine}
use Rattle.heap_script.proofs.Retrying.{carried_space, fully_space, served_space}

-- what a command finds of a heap has its regions
found_space : {names : List (List ℕ)} {old mid : Mutator} {graph : Graph} {command : Command}
    → Collects names old mid graph command → mid.seat.space ≡ old.seat.space
found_space (Collects.unchanged same) = ap (λ (main : Mutator). main.seat.space) same
found_space (Collects.scavenged need sound lacks makes) = served_space makes.serves ∙ makes.scavenges.seat.space
found_space (Collects.collected fully) = fully_space fully
found_space (Collects.granted last need fully lacks serves) = served_space serves ∙ fully_space fully

-- and so does the heap after a fault
fault_space : {names : List (List ℕ)} {old new : Mutator} {graph : Graph} {command : Command} {word : FaultWord}
    → FaultsOn names old new graph command word → new.seat.space ≡ old.seat.space
fault_space (FaultsOn.unchanged other same) = ap (λ (main : Mutator). main.seat.space) same
fault_space (FaultsOn.collected is fully) = fully_space fully

-- and after a command of the collector's
asked_space : {names : List (List ℕ)} {in_cycle : Bool} {old new : Mutator} {graph : Graph} {command : Command}
    {text : List ℕ} → CarriesAsked names in_cycle old new graph command text → new.seat.space ≡ old.seat.space
asked_space (CarriesAsked.scavenges is scavenges keeps carries) = scavenges.seat.space
asked_space (CarriesAsked.begins is none (BeginsCycle.promotes_all scavenges keeps no_survivor) carries) =
    scavenges.seat.space
asked_space (CarriesAsked.begins is none (BeginsCycle.collects_all mid scavenges keeps some collects) carries) =
    collects.seat.space ∙ scavenges.seat.space
asked_space (CarriesAsked.finishes is goes collects carries) = collects.seat.space
asked_space (CarriesAsked.collects_all asks collects carries) = collects.seat.space
asked_space (CarriesAsked.collects_nothing none same carries) = ap (λ (main : Mutator). main.seat.space) same

-- and after any other command
last_space : (names : List (List ℕ)) (old new : Mutator) (graph : Graph) (command : Command) (text : List ℕ)
    (result : Result (Unit {0}) Stop) → CarriesAtLast names old new graph command text result
    → new.seat.space ≡ old.seat.space
last_space names old new graph command text (Ok done) is =
    carried_space names is.shows is.carries ∙ found_space is.collects
last_space names old new graph command text (Err (Fault word)) (means, faults) = fault_space faults
last_space names old new graph command text (Err (NoRoom need)) (sound, fully, lacks) = fully_space fully
last_space names old new graph command text (Err (NoClear entries)) (means, fully) = fully_space fully

-- a line leaves the regions as they were
pub line_space : (names : List (List ℕ)) (in_cycle : Bool) (old new : Mutator) (graph : Graph)
    (command : Option Command) (text : List ℕ) (result : Result (Unit {0}) Stop)
    → CarriesLine names in_cycle old new graph command text result → new.seat.space ≡ old.seat.space
line_space names in_cycle old new graph None text result (same, none, ok) =
    ap (λ (main : Mutator). main.seat.space) same
line_space names in_cycle old new graph (Some command) text result (CarriesCommand.asked ok asked) = asked_space asked
line_space names in_cycle old new graph (Some command) text result (CarriesCommand.apart is carries) =
    last_space names old new graph command text result carries
