-- What is done for a command that stopped, so that it is tried again.
use Rattle.std.specs.Prelude.{◌≡◌, ◌≢◌, ℕ, ◌≤◌, Bool, Option, Some, None, true, false}
use Rattle.tagged_word.specs.Cells.{cell_words_most}
use Rattle.object_graph.specs.Graphs.{Graph}
use Rattle.nursery.specs.Young.{HasRoom}
use Rattle.free_runs.specs.FreeRuns.{FitsNowhere}
use Rattle.scavenger.specs.Scavenged.{Scavenges}
use Rattle.scavenger.specs.Laws.{KeepsGraphs}
use Rattle.collector.specs.Collected.{CollectsAll}
use Rattle.collector.specs.Making.{IsOutOfRoom, Serves, MakesRoom}
use Rattle.collector.specs.States.{HeapState, HeapShows}
use Rattle.mutator.specs.declared.stop.Stop.{Stop}
use Rattle.mutator.specs.declared.stop.Stop.TheVariants.{Fault, NoRoom, NoClear}
use Rattle.heap_script.specs.declared.making_room.Attempt.{Attempt}
use Rattle.heap_script.specs.declared.making_room.Attempt.TheVariants.{Once, Scavenged, Collected, Granted}

-- where it stopped for want of room, it wants 1 to 2,048 words
abbrev pub IsServable : Stop → Type 0
IsServable stop = (need : ℕ) → stop ≡ NoRoom need → (1 ≤ need) × (need ≤ cell_words_most)

-- where it stopped since its weak map is full of pairs, the heap was not scavenged for it
abbrev pub IsClearable : Stop → Attempt → Type 0
IsClearable stop tried = (entries : ℕ) → stop ≡ NoClear entries → tried ≢ Scavenged

-- nothing is done
abbrev pub DoesNothing : HeapState → HeapState → Option Attempt → Type 0
DoesNothing old new next = (next ≡ None) × (new ≡ old)

-- whichever graph the heap shows, it was fully collected
abbrev pub CollectsShown : HeapState → HeapState → Type 0
CollectsShown old new = (graph : Graph) → HeapShows old graph → CollectsAll old.main new.main graph

-- At first the heap is scavenged for so many words, and where they have no room then, it is fully collected. None are
-- granted behind that: the command is to say first how many it wants still.
pub data FindsFirst (old new : HeapState) (need : ℕ) (next : Attempt) : Type 0 where
  scavenges : next ≡ Scavenged → MakesRoom old.main new.main false need → HasRoom new.main.young need
      → KeepsGraphs old.main new.main → FindsFirst old new need next
  collects : (mid : HeapState) → next ≡ Collected → Scavenges old.main mid.main false → KeepsGraphs old.main mid.main
      → IsOutOfRoom mid.main need → ((graph : Graph) → HeapShows old graph → HeapShows mid graph)
      → CollectsShown mid new → FindsFirst old new need next

-- Behind a full collection there is room for so many words, or there is none, and nothing changes.
pub data FindsLast (old new : HeapState) (need : ℕ) (next : Option Attempt) : Type 0 where
  serves : next ≡ Some Granted → Serves old.main new.main need → HasRoom new.main.young need
      → KeepsGraphs old.main new.main → FindsLast old new need next
  lacks : DoesNothing old new next → (HasRoom old.main.young need → ⊥) → FitsNowhere old.main.free need
      → FindsLast old new need next

-- Room is looked for, by what was done for the command: by collections at first, and behind a full one in free runs.
-- There is no other way.
abbrev pub FindsRoom : HeapState → HeapState → ℕ → Attempt → Option Attempt → Type 0
FindsRoom old new need Once next = (one : Attempt) × (next ≡ Some one) × FindsFirst old new need one
FindsRoom old new need Scavenged next = DoesNothing old new next
FindsRoom old new need Collected next = FindsLast old new need next
FindsRoom old new need Granted next = DoesNothing old new next

-- the heap is fully collected
abbrev pub CollectsNow : HeapState → HeapState → Attempt → Type 0
CollectsNow old new next = (next ≡ Collected) × CollectsShown old new

-- Pairs of weak maps are cleared, unless a full collection came. A command for which a scavenge came finds no map full.
abbrev pub ClearsPairs : HeapState → HeapState → Attempt → Option Attempt → Type 0
ClearsPairs old new Once next = (one : Attempt) × (next ≡ Some one) × CollectsNow old new one
ClearsPairs old new Scavenged next = ⊥
ClearsPairs old new Collected next = DoesNothing old new next
ClearsPairs old new Granted next = DoesNothing old new next

-- room is made for a command by what it stopped at; nothing is done for one that faults
abbrev pub MakesRoomFor : HeapState → HeapState → Attempt → Stop → Option Attempt → Type 0
MakesRoomFor old new tried (Fault word) next = DoesNothing old new next
MakesRoomFor old new tried (NoRoom need) next = FindsRoom old new need tried next
MakesRoomFor old new tried (NoClear entries) next = ClearsPairs old new tried next

-- what the heap notes of full collections after this was done for a command, by what it noted before
abbrev pub noted_by : Bool → Option Attempt → Bool
noted_by noted (Some Collected) = true
noted_by noted _ = noted
