-- Commands of the collector, and cycles of marking, which some of them open and end.
use Rattle.std.specs.Prelude.{◌≡◌, ◌⊎◌, Bool, true, false, Option, Some, None, unwrap_or}
use Rattle.object_graph.specs.Graphs.{Graph}
use Rattle.heap_model.specs.Types.{Command}
use Rattle.heap_model.specs.Heaps.{Heap}
use Rattle.heap_command.specs.declared.command.Command.TheVariants.{Scavenge, Mark, Finish, Gc, Census}
use Rattle.collector.specs.Born.{Opening}

-- whether a command is one of the collector's: it asks for a collection, or opens or ends a cycle
abbrev pub asks_collector : Command → Bool
asks_collector Scavenge = true
asks_collector Mark = true
asks_collector Finish = true
asks_collector Gc = true
asks_collector Census = true
asks_collector _ = false

-- Whether a cycle is open behind a command, by whether one is open before it. `mark` opens one. `finish`, `gc` and
-- `census` end it.
abbrev pub cycle_after_command : Bool → Command → Bool
cycle_after_command in_cycle Mark = true
cycle_after_command in_cycle Finish = false
cycle_after_command in_cycle Gc = false
cycle_after_command in_cycle Census = false
cycle_after_command in_cycle _ = in_cycle

-- behind a line
abbrev pub cycle_after_line : Bool → Option Command → Bool
cycle_after_line in_cycle None = in_cycle
cycle_after_line in_cycle (Some command) = cycle_after_command in_cycle command

-- What the cycle began with that is open behind a line, if one is, by what that before it began with, and by the heap
-- and the graph behind the line. `mark` opens one where none is open. `finish`, `gc` and `census` end it. The lines
-- alone tell whether a cycle is open: a full collection that is forced between two of them ends none.
abbrev pub opened_after : Option Opening → Option Command → Heap → Graph → Option Opening
opened_after opened (Some Mark) heap graph = Some (unwrap_or opened (record { heap = heap; graph = graph }))
opened_after opened (Some Finish) heap graph = None
opened_after opened (Some Gc) heap graph = None
opened_after opened (Some Census) heap graph = None
opened_after opened _ heap graph = opened

-- the command asks for a full collection: `gc`, or `census`, which counts what is left
abbrev pub AsksForAll : Command → Type 0
AsksForAll command = (command ≡ Gc) ⊎ (command ≡ Census)

-- the command is one of the collector's that collects nothing: `mark` where a cycle is open, or `finish` where none is
abbrev pub CollectsNothing : Bool → Command → Type 0
CollectsNothing in_cycle command = ((command ≡ Mark) × (in_cycle ≡ true)) ⊎ ((command ≡ Finish) × (in_cycle ≡ false))
