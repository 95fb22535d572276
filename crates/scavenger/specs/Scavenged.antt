-- What a scavenge comes to.
use Rattle.std.specs.Prelude.{◌≡◌, ℕ, ◌+◌, ◌<◌, ◌≤◌, ◌↔◌, ◌⊎◌, Bool, false, ◌||◌, List, [], ◌∷◌, Option, Some, None}
use Rattle.std.specs.Prelude.{Contains}
use Rattle.std.specs.Prelude.{length, map, slice_get, nat_lt, ◌==◌, if◌then◌else◌}
use Rattle.page_space.specs.Extents.{eden_start, roots_start}
use Rattle.nursery.specs.Young.{turned}
use Rattle.free_runs.specs.FreeRuns.{AreFree, longest_of}
use Rattle.free_runs.specs.Laws.{IsFreeWord}
use Rattle.write_barrier.specs.Seats.{RestStays, heap_words}
use Rattle.heap_model.specs.Types.{Cell, Run}
use Rattle.heap_model.specs.Heaps.{HasCell}
use Rattle.heap_moves.specs.Moved.{IsMoved}
use Rattle.write_barrier.specs.MutatorState.{Mutator, heap_of}
use Rattle.scav_copy.specs.declared.places.Home.{Home}
use Rattle.scav_copy.specs.Places.{Fixed, size_of}
use Rattle.scav_copy.specs.Renamings.{Renaming}
use Rattle.scav_copy.specs.Copies.{AreHoused}
use Rattle.scavenger.specs.Starts.{Start, Begins, SegmentCopies, IsRootAt, start_of, copying_workers, room_start}
use Rattle.scavenger.specs.Backs.{AreBacks}
use Rattle.scavenger.specs.Filling.{FillsSegment, IsInPromoted, homes_in, words_of_segments}
use Rattle.scavenger.specs.Walking.{IsToPromote}

-- the home of the cell at an address, if it has one
abbrev pub home_of : List Home → ℕ → Option ℕ
home_of [] at = None
home_of (home ∷ homes) at = if home.from == at then Some home.to else home_of homes at

-- whether one of these runs begins at the address
abbrev pub begins_run : List Run → ℕ → Bool
begins_run [] at = false
begins_run (run ∷ more) at = (run.at == at) || begins_run more at

-- whether a free run does
abbrev pub begins_free : List (List Run) → ℕ → Bool
begins_free [] at = false
begins_free (row ∷ more) at = begins_run row at || begins_free more at

-- Where the cell at an address stands afterwards, if it stays: one of a page where it stood, unless it is a free run,
-- which copies may fill; and a young one at its home.
abbrev pub place_after : Start → List Home → ℕ → Option ℕ
place_after start homes at =
    if nat_lt at (eden_start start.heap.space)
    then (if begins_free start.rows at then None else Some at)
    else home_of homes at

-- the home copy stands in one of these segments
pub record StaysIn (segments : List SegmentCopies) (home : Home) : Type 0 where
  pub segment : SegmentCopies
  pub of_all : Contains segments segment
  pub among : Contains segment.homes home

-- A scavenge, which promotes survivors alone, or all. Exactly the young cells that were reached, from variables and
-- recorded slots through slots of such cells, have homes: they stand there, and all that referred to them refers to
-- that. Those that stay young fill segments of the half that was empty, one for each helper and one for the main side,
-- each from its start on; they are the survivors, and eden is empty. A survivor, or any where all are promoted, has its
-- home in a page, unless it is longer than each free run that is left; no other has. Each word that was in a free run
-- is in one, or in such a copy: copies take the fronts of free runs, and what is left are the backs of them. The runs
-- that are left neither overlap nor touch; as many pages have a row of them. Else nothing changed in pages, in second
-- root words and in layout words, nor in what is known of a cycle of marking.
pub record Scavenges (old new : Mutator) (all : Bool) : Type 0 where
  pub fixed : Fixed
  pub homes : List Home
  pub begins : Begins (start_of old) fixed
  pub renaming : Renaming fixed (heap_words new.seat) homes
  pub housed : AreHoused fixed homes
  pub outside : (at : ℕ) → (at < eden_start old.seat.space) ⊎ (roots_start old.seat.space ≤ at)
      → (IsRootAt old.seat.space at → ⊥) → (Contains old.recorded.slots at → ⊥) → (IsFreeWord old.free at → ⊥)
      → slice_get (heap_words new.seat) at ≡ slice_get (heap_words old.seat) at
  pub seat : RestStays old.seat new.seat
  pub paths : new.paths ≡ old.paths
  pub cycle : new.cycle ≡ old.cycle
  pub segments : List SegmentCopies
  pub workers : map (λ segment. segment.worker) segments ≡ copying_workers old.seat.space
  pub stayed : (home : Home) → StaysIn segments home ↔ (Contains homes home × (eden_start old.seat.space ≤ home.to))
  pub tiles : (segment : SegmentCopies) → Contains segments segment
      → FillsSegment old.seat.space (start_of old).half fixed segment
  pub young : new.young ≡ turned old.young (words_of_segments fixed segments)
  pub few : words_of_segments fixed segments ≤ old.young.survivors + old.young.used
  pub moved : IsMoved (heap_of old) (heap_of new) (place_after (start_of old) homes)
  pub alone : (cell : Cell) (words : List ℕ) → HasCell (heap_of new) cell words
      → eden_start old.seat.space ≤ cell.at → (home : Home) × Contains homes home × (home.to ≡ cell.at)
  pub promotes : (home : Home) → Contains homes home → IsToPromote old.seat.space all home.from
      → (home.to < eden_start old.seat.space) ⊎ (longest_of new.free < size_of fixed home.from)
  pub stays : (home : Home) → Contains homes home → home.to < eden_start old.seat.space
      → IsToPromote old.seat.space all home.from
  pub left : (at : ℕ) → IsFreeWord old.free at
      ↔ (IsFreeWord new.free at ⊎ IsInPromoted (start_of old) fixed homes at)
  pub backs : AreBacks old.free new.free
  pub apart : AreFree new.free
  pub rows : length new.free ≡ length old.free

-- Where the main side copied alone, no young cell stands in a helper's segment.
abbrev pub StandsInOneSegment : Mutator → Mutator → Type 0
StandsInOneSegment old new =
    (cell : Cell) (words : List ℕ) → HasCell (heap_of new) cell words → eden_start old.seat.space ≤ cell.at
    → let from = room_start old.seat.space (start_of old).half in
    (from ≤ cell.at) × (cell.at < from + old.seat.space.sizes.young)

-- The copies that helpers handed over are home copies of the scavenge.
abbrev pub HasHanded : {old new : Mutator} {all : Bool} → Scavenges old new all → List SegmentCopies → Type 0
HasHanded scavenges handed = (home : Home) → Contains (homes_in handed) home → Contains scavenges.homes home
