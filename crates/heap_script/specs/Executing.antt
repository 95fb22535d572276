-- What is done where a command is executed that neither writes nor collects the heap.
use Rattle.std.specs.Prelude.{◌≡◌, ℕ, ◌+◌, Bool, true, false, List, [], length, Result, Ok, Err}
use Rattle.heap_model.specs.Types.{Command}
use Rattle.heap_command.specs.declared.command.Command.TheVariants.{Print, Same, Alike, Shape}
use Rattle.object_graph.specs.Graphs.{Graph}
use Rattle.mutator.specs.declared.stop.Stop.{Stop}
use Rattle.collector.specs.States.{HeapState, HeapShows}
use Rattle.heap_script.specs.Collecting.{Tries}
use Rattle.heap_script.specs.Progress.{objects_made}

-- whether a command writes
abbrev pub writes : Command → Bool
writes (Print v) = true
writes (Same a b) = true
writes (Alike x y) = true
writes (Shape x) = true
writes _ = false

-- so many and one more, if the command came out well
abbrev pub counted_more : ℕ → Result (Unit {0}) Stop → ℕ
counted_more count (Ok _) = count + 1
counted_more count (Err stop) = count

-- so many objects and those that the command makes, if it came out well
abbrev pub objects_after : ℕ → Command → Result (Unit {0}) Stop → ℕ
objects_after objects command (Ok _) = objects + objects_made command
objects_after objects command (Err stop) = objects

-- A command was tried once on a heap that had so many objects, came out so, and wrote nothing. The objects that it made
-- are counted.
pub record Executes (old new : HeapState) (objects_old objects_new : ℕ) (command : Command)
    (came : Result (Unit {0}) Stop) : Type 0 where
  pub tries : (names : List (List ℕ)) (graph : Graph) → HeapShows old graph → objects_old ≡ length graph.objects
      → Tries names old.main new.main graph command [] came
  pub rest : new.rest ≡ old.rest
  pub noted : new.collected ≡ old.collected
  pub counted : objects_new ≡ objects_after objects_old command came
