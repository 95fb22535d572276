-- What holds of a run between two of its lines.
use Rattle.std.specs.Prelude.{◌≡◌, ℕ, ◌+◌, ◌-◌, ◌≤◌, true, List, [], length, drop, Option, Some, None, is_some}
use Rattle.object_graph.specs.Graphs.{Graph}
use Rattle.object_graph.specs.Run.{lines_most}
use Rattle.graph_laws.specs.ReachAfter.{StaysLost}
use Rattle.script_text.specs.declared.script.Line.{Line}
use Rattle.script_text.specs.declared.script.What.{What}
use Rattle.script_text.specs.Scripts.{ScriptText}
use Rattle.script_text.specs.Sound.{IsNumbered, IsMatched, what_at}
use Rattle.script_text.specs.Left.{IsLeft}
use Rattle.nursery.specs.Young.{in_eden}
use Rattle.mutator.specs.CarriesOut.{field_numbers}
use Rattle.write_barrier.specs.MutatorState.{heap_of}
use Rattle.collector.specs.Born.{Opening}
use Rattle.collector.specs.States.{HeapState, HeapShows}
use Rattle.heap_script.specs.Stages.{Collections, uncollected, stage_of}
use Rattle.heap_script.specs.Reached.{left_after, RanTo}
use Rattle.heap_script.specs.Spending.{Spends}
use Rattle.heap_script.specs.Progress.{Handed, command_in}

-- what could not be reached when the cycle began that is open, if one is, stays lost
abbrev pub StaysLostSince : Option Opening → Graph → Type 0
StaysLostSince None graph = Unit {0}
StaysLostSince (Some opening) graph = StaysLost opening.graph graph

-- Between two lines: the lines that are left are those from this place on with these turns left, what was told was
-- handed on or waits, the objects are counted, the words that were spent are those that the lines need, the heap was so
-- far collected since the last line, no word of a page is granted, and a cycle is open exactly where the lines say so.
-- What was lost when it began is lost still.
pub record Running (script : ScriptText) (heap : HeapState) (objects : ℕ) (waiting : List ℕ)
    (old new : List ℕ → Type 0) (at : ℕ) (ts : List ℕ) (executed : ℕ) (collections : Collections) : Type 0 where
  pub reached : RanTo script (heap_of heap.main) executed
  pub opened : Option Opening
  pub spends : Spends script (stage_of heap.main) executed collections opened
  pub ungranted : in_eden heap.main.young ≡ true
  pub shown : HeapShows heap reached.so_far.graph
  pub left : IsLeft script.lines at ts (left_after script executed)
  pub handed : Handed old new waiting reached.so_far.bytes
  pub made : objects ≡ length reached.so_far.graph.objects
  pub few : objects ≤ executed
  pub cycle : heap.rest.in_cycle ≡ is_some opened
  pub since : StaysLostSince opened reached.so_far.graph

-- these bytes were taken, and no other
abbrev pub only : List ℕ → List ℕ → Type 0
only bytes taken = taken ≡ bytes

-- these are the last of some lines
pub record IsRest (lines rest : List Line) : Type 0 where
  pub within : length rest ≤ length lines
  pub tail : rest ≡ drop (length lines - length rest) lines

-- Lines are executed one after another: between two of them the last of the script's lines are left, from the place of
-- the run on, and so many more may be executed than they are, until so many were executed in all. Nothing is handed on.
pub record RunsLines (script : ScriptText) (heap : HeapState) (objects : ℕ) (out taken ts : List ℕ) (rest : List Line)
    (spare last : ℕ) : Type 0 where
  pub numbered : IsNumbered script
  pub matched : IsMatched script.lines
  pub fields : length script.fields ≤ field_numbers
  pub is : IsRest script.lines rest
  pub most : spare + length rest ≤ last
  pub few : last ≤ lines_most
  pub running : Running script heap objects out (only []) (only taken) (length script.lines - length rest) ts
      (last - (spare + length rest)) uncollected

-- the first of these lines does this, which is no command
pub record Begins (rest : List Line) (what : What) : Type 0 where
  pub first : what_at rest 0 ≡ Some what
  pub none : command_in what ≡ None
