-- What a scavenge leaves of the graph that the heap shows, of the rooms of its objects and of free runs; and what it
-- begins with.
use Rattle.std.specs.Prelude.{◌≡◌, ℕ, ◌+◌, ◌-◌, ◌<◌, ◌≤◌, ◌↔◌, ◌⊎◌, Bool, true, List, Option, Some}
use Rattle.std.specs.Prelude.{Contains, length}
use Rattle.object_graph.specs.Graphs.{Graph}
use Rattle.page_space.specs.Extents.{eden_start}
use Rattle.page_space.specs.RegionLaws.{IsSpace}
use Rattle.nursery.specs.Young.{IsYoung, other_half, turned}
use Rattle.free_runs.specs.FreeRuns.{AreFree, longest_of}
use Rattle.free_runs.specs.Laws.{IsFreeWord}
use Rattle.write_barrier.specs.Seats.{RestStays, heap_words}
use Rattle.heap_model.specs.Types.{Cell, Run}
use Rattle.heap_model.specs.Heaps.{Heap, HasCell}
use Rattle.heap_model.specs.Reaching.{IsReached, IsTight, FillsPages}
use Rattle.heap_model.specs.Rooms.{Room, HasRooms}
use Rattle.heap_moves.specs.Moved.{IsMoved, moved_to}
use Rattle.write_barrier.specs.MutatorState.{Mutator, MayStore, MainShows, heap_of}
use Rattle.scav_copy.specs.declared.places.Home.{Home}
use Rattle.scav_copy.specs.Places.{Fixed}
use Rattle.scavenger.specs.Starts.{SegmentCopies, IsBegun, nothing_handed, start_of, start_with, room_start}
use Rattle.scavenger.specs.Filling.{CopiesFillRooms, AllAreDone, IsEmptied, words_of_segments}
use Rattle.scavenger.specs.Walking.{AreKept, IsWellPlaced, IsToPromote, room_end}
use Rattle.scavenger.specs.Scavenged.{Scavenges, StandsInOneSegment, HasHanded}

-- Each graph that the heap showed it shows, and its objects have the rooms that they had, so each command needs as many
-- words as before.
pub record KeepsGraphs (old new : Mutator) : Type 0 where
  pub shows : (graph : Graph) → MainShows old graph → MainShows new graph
  pub rooms : (graph : Graph) (rooms : ℕ → Room) → MainShows old graph
      → HasRooms (heap_of old) graph rooms ↔ HasRooms (heap_of new) graph rooms

-- A heap within the limits of all sizes that shows a graph may be scavenged.
abbrev pub ShownHeapsMayBegin : Type 0
ShownHeapsMayBegin =
    (main : Mutator) (graph : Graph) → IsSpace main.seat.space → MainShows main graph → IsYoung main.young
    → AreFree main.free → (fixed : Fixed) × IsBegun (start_of main) fixed

-- A scavenge that began with copies that helpers handed over has come to its end: all is done, the words that are left
-- were emptied, and the nursery was turned to all copies that stay young. No cycle of marking was open, or it waited.
pub record IsEnded (old : Mutator) (handed : List SegmentCopies) (new : Mutator) (all : Bool) (fixed : Fixed)
    (homes : List Home) (words : List ℕ) (fill refused : ℕ) : Type 0 where
  pub limits : IsSpace old.seat.space
  pub quiet : MayStore old
  pub begun : IsBegun (start_with old handed) fixed
  pub bounded : old.recorded.bound ≡ eden_start old.seat.space
  pub filled : CopiesFillRooms (start_with old handed) fixed words new.free homes fill
  pub done : AllAreDone fixed words homes
  pub placed : IsWellPlaced (start_with old handed) fixed new.free homes all refused
  pub kept : AreKept (start_with old handed) fixed words homes new.recorded.slots
  pub emptied : IsEmptied old.seat.space old.young.half fill (room_end old.seat.space (other_half old.young.half)) words
      (heap_words new.seat)
  pub seat : RestStays old.seat new.seat
  pub paths : new.paths ≡ old.paths
  pub cycle : new.cycle ≡ old.cycle
  pub bound : new.recorded.bound ≡ old.recorded.bound
  pub rows : length new.free ≡ length old.free
  pub young : new.young ≡ turned old.young
      (words_of_segments fixed handed + (fill - room_start old.seat.space (other_half old.young.half)))

-- What a scavenge comes to that began with such copies: the heap that is left shows the graph, with the same rooms. The
-- copies are among the homes. Where there were none, no young cell stands in a helper's segment.
pub record EndsWith (old : Mutator) (handed : List SegmentCopies) (new : Mutator) (graph : Graph) (all : Bool)
    : Type 0 where
  pub scavenges : Scavenges old new all
  pub homes : HasHanded scavenges handed
  pub shows : MainShows new graph
  pub rooms : (rooms : ℕ → Room) → HasRooms (heap_of old) graph rooms ↔ HasRooms (heap_of new) graph rooms
  pub alone : handed ≡ nothing_handed old.seat.space → StandsInOneSegment old new

-- So it does at its end.
abbrev pub EndsAreScavenges : Type 0
EndsAreScavenges =
    (old : Mutator) (handed : List SegmentCopies) (new : Mutator) (graph : Graph) (all : Bool) (fixed : Fixed)
    (homes : List Home) (words : List ℕ) (fill refused : ℕ) → MainShows old graph → IsYoung old.young
    → AreFree new.free → IsEnded old handed new all fixed homes words fill refused
    → EndsWith old handed new graph all

-- A scavenge of a heap that shows a graph leaves a tight heap.
abbrev pub ScavengesAreTight : Type 0
ScavengesAreTight =
    (old new : Mutator) (graph : Graph) (all : Bool) → MainShows old graph → Scavenges old new all
    → IsTight (heap_of new)

-- And nothing came to pages but free cells and what is reached from variables and from what stood in pages before.
abbrev pub ScavengesFillPages : Type 0
ScavengesFillPages =
    (old new : Mutator) (graph : Graph) (all : Bool) → MainShows old graph → Scavenges old new all
    → FillsPages (heap_of old) (heap_of new)

-- The address is a word of a cell that was promoted: it stood in the young generation of the old heap, was reached
-- there and was to be promoted, and stands in a page of the new heap, where it came.
pub record IsOfPromoted (old new : Heap) (all : Bool) (to : ℕ → Option ℕ) (at : ℕ) : Type 0 where
  pub cell : Cell
  pub words : List ℕ
  pub had : HasCell old cell words
  pub young : eden_start old.space ≤ cell.at
  pub reached : IsReached old cell.at
  pub to_promote : IsToPromote old.space all cell.at
  pub now : ℕ
  pub came : to cell.at ≡ Some now
  pub others : List ℕ
  pub has : HasCell new (moved_to cell now) others
  pub of_page : now < eden_start new.space
  pub from : now ≤ at
  pub below : at < now + cell.size

-- One heap is another one moved, and words of free runs were taken for cells that were promoted alone: each word that
-- was in a free run is in one, or is a word of such a cell. No word came to a free run.
pub record TakesWords (old new : Heap) (all : Bool) (rows left : List (List Run)) : Type 0 where
  pub to : ℕ → Option ℕ
  pub moved : IsMoved old new to
  pub taken : (at : ℕ) → IsFreeWord rows at → IsFreeWord left at ⊎ IsOfPromoted old new all to at
  pub no_other : (at : ℕ) → IsFreeWord left at → IsFreeWord rows at

-- Each cell of the young generation that was to be promoted, and stays, came to a page, or is longer than each free run
-- that is left.
abbrev pub PromotesWhatFits : Heap → Bool → List (List Run) → (ℕ → Option ℕ) → Type 0
PromotesWhatFits old all left to =
    (cell : Cell) (words : List ℕ) (now : ℕ) → HasCell old cell words → eden_start old.space ≤ cell.at
    → IsToPromote old.space all cell.at → to cell.at ≡ Some now
    → (now < eden_start old.space) ⊎ (longest_of left < cell.size)

-- No other cell of the young generation came to a page.
abbrev pub PromotesNoOther : Heap → Bool → (ℕ → Option ℕ) → Type 0
PromotesNoOther old all to =
    (cell : Cell) (words : List ℕ) (now : ℕ) → HasCell old cell words → eden_start old.space ≤ cell.at
    → to cell.at ≡ Some now → now < eden_start old.space → IsToPromote old.space all cell.at

-- Each cell of a page stays where it stands, unless a free run begins there.
abbrev pub KeepsPlaces : Heap → List (List Run) → (ℕ → Option ℕ) → Type 0
KeepsPlaces old rows to =
    (cell : Cell) (words : List ℕ) → HasCell old cell words → cell.at < eden_start old.space
    → ((row : List Run) (run : Run) → Contains rows row → Contains row run → run.at ≡ cell.at → ⊥)
    → to cell.at ≡ Some cell.at

-- So a scavenge of a heap that shows a graph throws no word of a free run away, promotes just what fits, and leaves
-- each cell of a page in its place, also one that nothing leads to.
abbrev pub ScavengesTakeWords : Type 0
ScavengesTakeWords =
    (old new : Mutator) (graph : Graph) (all : Bool) → MainShows old graph → Scavenges old new all
    → (takes : TakesWords (heap_of old) (heap_of new) all old.free new.free)
    × PromotesWhatFits (heap_of old) all new.free takes.to
    × PromotesNoOther (heap_of old) all takes.to × KeepsPlaces (heap_of old) old.free takes.to

-- What is young is stuck there: each cell of the young generation is longer than each free run.
abbrev pub IsStuck : Heap → List (List Run) → Type 0
IsStuck heap rows =
    (cell : Cell) (words : List ℕ) → HasCell heap cell words → eden_start heap.space ≤ cell.at
    → longest_of rows < cell.size

-- So it is behind a scavenge that promotes all that lives.
abbrev pub ScavengesOfAllLeaveStuck : Type 0
ScavengesOfAllLeaveStuck =
    (old new : Mutator) (graph : Graph) → MainShows old graph → Scavenges old new true
    → IsStuck (heap_of new) new.free
