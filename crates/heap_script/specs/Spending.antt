-- What the executed lines of a script spend of a heap, and how it is collected between them.
use Rattle.std.specs.Prelude.{◌≡◌, ◌↔◌, ℕ, ◌+◌, ◌<◌, ◌≤◌}
use Rattle.std.specs.Prelude.{Bool, Option, Some, None, is_some, IsTrue, true, false, slice_get}
use Rattle.heap_model.specs.Types.{Command}
use Rattle.heap_command.specs.Executed.{Executed}
use Rattle.heap_command.specs.declared.command.Command.TheVariants.{Scavenge, Mark, Finish}
use Rattle.object_graph.specs.Graphs.{Graph}
use Rattle.object_graph.specs.Limits.{ideal_limits}
use Rattle.object_graph.specs.Run.{Told, lines_most, ending, end}
use Rattle.script_text.specs.Scripts.{ScriptText}
use Rattle.script_text.specs.Unrolled.{executed_lines}
use Rattle.page_space.specs.Extents.{roots_start}
use Rattle.heap_model.specs.Heaps.{Heap}
use Rattle.heap_model.specs.Needs.{lacks_room}
use Rattle.heap_model.specs.Collectable.{AreFreeRuns}
use Rattle.heap_model.specs.Reaching.{IsTight, FillsPages}
use Rattle.heap_model.specs.Rooms.{Room, HasRooms, need_of, FindsMapFull}
use Rattle.free_runs.specs.FreeRuns.{AreFree, FitsNowhere, whole_rows}
use Rattle.collector.specs.Born.{Opening, LeavesBorn}
use Rattle.collector.specs.Collected.{LeavesExact}
use Rattle.scavenger.specs.Backs.{AreBacks}
use Rattle.scavenger.specs.Laws.{KeepsPlaces, TakesWords, PromotesWhatFits, PromotesNoOther}
use Rattle.mutator.specs.Capacities.{KeepsStores}
use Rattle.mutator.specs.Changing.{IsChangedWord, MakesNoOtherCell}
use Rattle.heap_script.specs.Cycles.{asks_collector, opened_after, AsksForAll, CollectsNothing}
use Rattle.heap_script.specs.Stages.{Stage, Collections, uncollected, scavenged, fully_collected, finally_collected}
use Rattle.heap_script.specs.Stages.{SpendsWords, IsSpentWord}
use Rattle.heap_script.specs.Reached.{left_after, RanTo, EndsAs}

-- Where objects have these rooms, exactly the words that the command needs are spent behind these collections, and
-- objects come to have the rooms that it gives them. Of the words before the roots only those that are spent are
-- written, and those of the object that the command may change.
pub record UsesNeed (old new : Stage) (graph after : Graph) (collections : Collections) (command : Command)
    (rooms : ℕ → Room) : Type 0 where
  pub spends : SpendsWords old new collections (need_of graph rooms command)
  pub words : (word : ℕ) → word < roots_start old.heap.space → (IsChangedWord old.heap graph command word → ⊥)
      → (IsSpentWord spends word → ⊥) → slice_get new.heap.words word ≡ slice_get old.heap.words word
  pub stores : KeepsStores old.heap new.heap graph after command rooms

-- a command finds its weak map full of pairs, whatever rooms objects have in the heap
abbrev pub FindsMapFullFor : Heap → Graph → Option Command → Type 0
FindsMapFullFor heap graph None = ⊥
FindsMapFullFor heap graph (Some command) =
    (entries : ℕ) × ((rooms : ℕ → Room) → HasRooms heap graph rooms → FindsMapFull graph rooms command entries)

-- A command that leads from one graph to another allocates on the heap, behind these collections. It does not find its
-- weak map full of pairs. The regions stay, and no survivor comes or goes. Each free run that is left is one free cell.
-- It spends the words that it needs. Before the roots it writes no others but words of the object that it may change.
-- No cell with slots stands behind it but those that stood, and those of objects that can be reached then.
pub record Allocates (old new : Stage) (graph after : Graph) (collections : Collections) (command : Command)
    : Type 0 where
  pub space : new.heap.space ≡ old.heap.space
  pub survivors : new.heap.survivors ≡ old.heap.survivors
  pub free : AreFreeRuns new.heap new.rows
  pub cells : MakesNoOtherCell old.heap new.heap after
  pub unfull : FindsMapFullFor old.heap graph (Some command) → ⊥
  pub uses : (rooms : ℕ → Room) → HasRooms old.heap graph rooms
      → UsesNeed old new graph after collections command rooms

-- What is told of a scavenge, which promotes survivors, or all that lives: the regions stay, objects have the rooms
-- that they had, eden is empty, the survivors are no more than survivors and used words before, of young cells only
-- what is reached is kept, what came to pages is free, or is reached from variables and from cells of pages that stood
-- there before, each cell of a page stays in its place, words of free runs went to cells that were promoted alone, and
-- the runs that are left are the backs of those that stood, and neither overlap nor touch. A young cell that was to be
-- promoted and stays came to a page, or is longer than each run that is left, and no other one came to a page.
pub record IsCollected (old new : Stage) (all : Bool) (graph : Graph) : Type 0 where
  pub space : new.heap.space ≡ old.heap.space
  pub rooms : (rooms : ℕ → Room) → HasRooms old.heap graph rooms ↔ HasRooms new.heap graph rooms
  pub emptied : new.heap.used ≡ 0
  pub few : new.heap.survivors ≤ old.heap.survivors + old.heap.used
  pub tight : IsTight new.heap
  pub pages : FillsPages old.heap new.heap
  pub words : TakesWords old.heap new.heap all old.rows new.rows
  pub promotes : PromotesWhatFits old.heap all new.rows words.to
  pub stays : PromotesNoOther old.heap all words.to
  pub places : KeepsPlaces old.heap old.rows words.to
  pub backs : AreBacks old.rows new.rows
  pub free : AreFreeRuns new.heap new.rows
  pub apart : AreFree new.rows

-- What is told of a `mark` that opens a cycle: a scavenge promotes all that lives, and no survivor stays young; or one
-- stays, and then the heap is fully collected.
pub data HasBegun (old new : Stage) (graph : Graph) : Type 0 where
  promotes_all : IsCollected old new true graph → new.heap.survivors ≡ 0 → HasBegun old new graph
  collects_all : (mid : Stage) → IsCollected old mid true graph → 0 < mid.heap.survivors
      → LeavesExact mid.heap new.heap new.rows graph → HasBegun old new graph

-- What a line does with the heap, by what the cycle that is open before it began with, if one is, and where these
-- collections came since the last line. One that runs no command leaves it as it is. `scavenge` collects, and promotes
-- survivors alone. `mark` opens a cycle, and `finish` ends it. `gc` and `census` collect fully. A `mark` where a cycle
-- is open, and a `finish` where none is, leave it as it is. Any other command allocates.
pub data LineAllocates (opened : Option Opening) (old new : Stage) (graph after : Graph) (collections : Collections)
    : Option Command → Type 0 where
  passes : new ≡ old → LineAllocates opened old new graph after collections None
  scavenges : IsCollected old new false graph
      → LineAllocates opened old new graph after collections (Some Scavenge)
  begins : opened ≡ None → HasBegun old new graph → LineAllocates opened old new graph after collections (Some Mark)
  finishes : (opening : Opening) → opened ≡ Some opening → LeavesBorn opening old.heap new.heap new.rows graph
      → LineAllocates opened old new graph after collections (Some Finish)
  collects_all : (command : Command) → AsksForAll command → LeavesExact old.heap new.heap new.rows graph
      → LineAllocates opened old new graph after collections (Some command)
  collects_nothing : (command : Command) → CollectsNothing (is_some opened) command → new ≡ old
      → LineAllocates opened old new graph after collections (Some command)
  allocates : (command : Command) → asks_collector command ≡ false
      → Allocates old new graph after collections command
      → LineAllocates opened old new graph after collections (Some command)

-- the line runs a command, and this holds of the number of words that it needs, whatever rooms objects have in the heap
abbrev pub HoldsOfNeed : Heap → Graph → Option Command → (ℕ → Type 0) → Type 0
HoldsOfNeed heap graph None Holds = ⊥
HoldsOfNeed heap graph (Some command) Holds =
    (rooms : ℕ → Room) → HasRooms heap graph rooms → Holds (need_of graph rooms command)

-- The run does not end after so many lines, and the next line does not find its weak map full of pairs, but eden lacks
-- room for the words that it needs.
pub record WantsRoom (script : ScriptText) (heap : Heap) (executed : ℕ) (so_far : Told) : Type 0 where
  pub goes_on : ending ideal_limits script.fields so_far.graph executed (left_after script executed) ≡ None
  pub line : Executed
  pub next : slice_get (executed_lines script.lines) executed ≡ Some line
  pub lacks : HoldsOfNeed heap so_far.graph line.command (λ need. IsTrue (lacks_room heap need))
  pub unfull : FindsMapFullFor heap so_far.graph line.command → ⊥

-- There is no room at all for the words that the next line needs: eden lacks it, and no free run has so many.
pub record LacksAllRoom (script : ScriptText) (stage : Stage) (executed : ℕ) (so_far : Told) : Type 0 where
  pub wants : WantsRoom script stage.heap executed so_far
  pub runs : HoldsOfNeed stage.heap so_far.graph wants.line.command (FitsNowhere stage.rows)

-- The next line finds its weak map full of pairs, and is no line too many.
pub record WantsClearing (script : ScriptText) (heap : Heap) (executed : ℕ) (so_far : Told) : Type 0 where
  pub few : executed < lines_most
  pub line : Executed
  pub next : slice_get (executed_lines script.lines) executed ≡ Some line
  pub full : FindsMapFullFor heap so_far.graph line.command

-- The words that the executed lines of a script spend, one line after another, up to this stage; which collections came
-- since the last line; and what the cycle of marking began with that is open, if one is. Before the first line no word
-- is used, the free runs are the pages, each whole, and no cycle is open. Each line spends what its command needs, by
-- the graph and the rooms that the lines before it led to. Between two lines the heap is scavenged once where its eden
-- lacks room for the words that the next line needs, and then survivors alone are promoted; and where eden lacks room
-- for them still, and no free run has them, a full collection comes. It comes too, and alone, where the next line finds
-- its weak map full of pairs, since some of them may be such as it clears. Nothing comes behind it. A run that is to
-- count its heap may be followed, at the script's end alone, by one full collection more.
pub data Spends (script : ScriptText) : Stage → ℕ → Collections → Option Opening → Type 0 where
  none : (stage : Stage) → stage.heap.used ≡ 0 → stage.heap.survivors ≡ 0
      → stage.rows ≡ whole_rows stage.heap.space.sizes.pages → AreFreeRuns stage.heap stage.rows
      → RanTo script stage.heap 0 → Spends script stage 0 uncollected None
  one_more : (old new : Stage) (executed : ℕ) (collections : Collections) (opened : Option Opening) (line : Executed)
      → Spends script old executed collections opened
      → slice_get (executed_lines script.lines) executed ≡ Some line
      → (before : RanTo script old.heap executed) (after : RanTo script new.heap (executed + 1))
      → LineAllocates opened old new before.so_far.graph after.so_far.graph collections line.command
      → Spends script new (executed + 1) uncollected
      (opened_after opened line.command new.heap after.so_far.graph)
  once : (old new : Stage) (executed : ℕ) (opened : Option Opening) → Spends script old executed uncollected opened
      → (before : RanTo script old.heap executed) → WantsRoom script old.heap executed before.so_far
      → RanTo script new.heap executed → IsCollected old new false before.so_far.graph
      → Spends script new executed scavenged opened
  twice : (old new : Stage) (executed : ℕ) (opened : Option Opening) → Spends script old executed scavenged opened
      → (before : RanTo script old.heap executed) → LacksAllRoom script old executed before.so_far
      → RanTo script new.heap executed → LeavesExact old.heap new.heap new.rows before.so_far.graph
      → Spends script new executed fully_collected opened
  cleared : (old new : Stage) (executed : ℕ) (opened : Option Opening) → Spends script old executed uncollected opened
      → (before : RanTo script old.heap executed) → WantsClearing script old.heap executed before.so_far
      → RanTo script new.heap executed → LeavesExact old.heap new.heap new.rows before.so_far.graph
      → Spends script new executed fully_collected opened
  finally : (old new : Stage) (executed : ℕ) (opened : Option Opening) → Spends script old executed uncollected opened
      → (before : RanTo script old.heap executed) → EndsAs script executed before.so_far end
      → RanTo script new.heap executed → LeavesExact old.heap new.heap new.rows before.so_far.graph
      → Spends script new executed finally_collected opened
