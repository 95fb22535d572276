-- A cycle that is open between two lines: what it began with, and that what was lost then stays lost.
use Rattle.std.proofs.Common.{◌≡◌, ℕ, true, false, List, Option, Some, None, is_some, refl}
use Rattle.std.proofs.lemmas.Bool.{false≢true}
use Rattle.heap_model.specs.Types.{Command}
use Rattle.heap_model.specs.Heaps.{Heap}
use Rattle.heap_command.specs.declared.command.Command.TheVariants as command
use Rattle.object_graph.specs.Graphs.{Graph}
use Rattle.object_graph.specs.Invariants.{IsGraph}
use Rattle.object_graph.specs.Limits.{ideal_limits}
use Rattle.object_graph.specs.Meaning.{done, meaning}
use Rattle.graph_laws.specs.ReachAfter.{StaysLost}
use Rattle.graph_laws.proofs.LostObjects.{stays_itself, stays_twice, command_stays}
use Rattle.collector.specs.Born.{Opening}
use Rattle.heap_script.specs.Between.{StaysLostSince}
use Rattle.heap_script.specs.Cycles.{cycle_after_command, opened_after}

-- behind a command a cycle is open where the heap holds one open
pub cycle_opened : (opened : Option Opening) (one : Command) (heap : Heap) (graph : Graph)
    → is_some (opened_after opened (Some one) heap graph) ≡ cycle_after_command (is_some opened) one
cycle_opened opened command.Mark heap graph = refl
cycle_opened opened command.Finish heap graph = refl
cycle_opened opened command.Gc heap graph = refl
cycle_opened opened command.Census heap graph = refl
cycle_opened opened _ heap graph = refl

-- where none is open, none began
pub none_began : (opened : Option Opening) → is_some opened ≡ false → opened ≡ None
none_began None none = refl
none_began (Some opening) none = absurd (cc)

-- where one is open, it began with something, and what was lost then is lost still
pub one_began : (opened : Option Opening) (graph : Graph) → is_some opened ≡ true → StaysLostSince opened graph
    → (opening : Opening) × (opened ≡ Some opening) × StaysLost opening.graph graph
one_began None graph is since = absurd (false≢true is)
one_began (Some opening) graph is since = (opening, refl, since)

-- so what was lost when the cycle began, if one is open, stays lost
since_later : {before after : Graph} (opened : Option Opening) → StaysLost before after → StaysLostSince opened before
    → StaysLostSince opened after
since_later None later since = tt
since_later {before} {after} (Some opening) later since = stays_twice opening.graph before after since later

-- and since the one began that is open behind a `mark`
since_marked : (opened : Option Opening) (heap : Heap) (graph : Graph) → StaysLostSince opened graph
    → StaysLostSince (opened_after opened (Some command.Mark) heap graph) graph
since_marked None heap graph since = stays_itself graph
since_marked (Some opening) heap graph since = since

-- and behind any command
since_command : (opened : Option Opening) (one : Command) (heap : Heap) (graph : Graph) → StaysLostSince opened graph
    → StaysLostSince (opened_after opened (Some one) heap graph) graph
since_command opened command.Mark heap graph since = since_marked opened heap graph since
since_command opened command.Finish heap graph since = tt
since_command opened command.Gc heap graph since = tt
since_command opened command.Census heap graph since = tt
since_command opened _ heap graph since = since

-- since the cycle began that is open behind a command, what was lost then stays lost
pub since_behind : (names : List (List ℕ)) (opened : Option Opening) (one : Command) (heap : Heap)
    (graph after : Graph) (text : List ℕ) → IsGraph graph → meaning ideal_limits names graph one ≡ done after text
    → StaysLostSince opened graph → StaysLostSince (opened_after opened (Some one) heap after) after
since_behind names opened one heap graph after text is_graph does since =
    since_command opened one heap after
    (since_later opened (command_stays ideal_limits names graph one after text is_graph does) since)
