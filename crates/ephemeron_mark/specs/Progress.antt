-- How far a marking has come.
use Rattle.std.specs.Prelude.{◌≡◌, ◌≢◌, ℕ, ◌+◌, ◌≤◌, ◌<◌, ◌⊎◌, ◌↔◌, List, [], ◌∷◌, ◌++◌, Contains, Some, length}
use Rattle.std.specs.Prelude.{slice_get}
use Rattle.std.specs.List.{AllPairs}
use Rattle.page_space.specs.Extents.{roots_start}
use Rattle.tagged_word.specs.declared.layout.Kind.TheVariants as kind
use Rattle.heap_model.specs.Types.{Kind, Cell}
use Rattle.heap_model.specs.Heaps.{Heap, HasCell}
use Rattle.heap_model.specs.Slots.{reference_word, IsWeakCellAt}
use Rattle.heap_model.specs.Wholeness.{Whole}
use Rattle.live_cells.specs.Live.{HasSlotTo, HasEntry}
use Rattle.cell_list.specs.Listing.{Listing}
use Rattle.write_barrier.specs.MutatorState.{Mutator, heap_of}
use Rattle.ephemeron_mark.specs.Marked.{IsLiveFrom, StandsInHeap}
use Rattle.ephemeron_mark.specs.Pairs.{Waits, WaitsFor}

-- the word at an address is a reference to the other one
abbrev pub HoldsReference : Heap → ℕ → ℕ → Type 0
HoldsReference heap slot at = slice_get heap.words slot ≡ Some (reference_word at)

-- The heap is whole, and only cells of it are marked.
pub record IsMarking (main : Mutator) (cells : Listing) : Type 0 where
  pub whole : Whole (heap_of main)
  pub bound : cells.bound ≡ roots_start main.seat.space
  pub stand : (at : ℕ) → Contains cells.addresses at → StandsInHeap (heap_of main) at

-- more cells are marked, behind those that were: such as are live from those, and from what root words refer to
pub record HasGrown (main : Mutator) (old new : Listing) : Type 0 where
  pub marking : IsMarking main new
  pub kept : (place at : ℕ) → slice_get old.addresses place ≡ Some at → slice_get new.addresses place ≡ Some at
  pub live : (at : ℕ) → Contains new.addresses at → IsLiveFrom (heap_of main) old.addresses at

-- more such cells are marked, in any order
pub record HasMore (main : Mutator) (old new : Listing) : Type 0 where
  pub marking : IsMarking main new
  pub kept : (at : ℕ) → Contains old.addresses at → Contains new.addresses at
  pub live : (at : ℕ) → Contains new.addresses at → IsLiveFrom (heap_of main) old.addresses at

-- the cell is the heap's
abbrev pub IsCellOf : Heap → Cell → Type 0
IsCellOf heap cell = (words : List ℕ) × HasCell heap cell words

-- A pair of a marked table has its key and its value at these addresses.
pub record IsMarkedPair (heap : Heap) (cells : Listing) (of_key of_value : ℕ) : Type 0 where
  pub table : ℕ
  pub marked : Contains cells.addresses table
  pub within : of_value < roots_start heap.space
  pub next : of_value ≡ of_key + 1
  pub entry : (key value : ℕ) → HoldsReference heap of_key key → HoldsReference heap of_value value
      → HasEntry heap table key value

-- A pair of a marked table has its value at this address, and its key refers to this one.
pub record IsPairFor (heap : Heap) (cells : Listing) (key of_value : ℕ) : Type 0 where
  pub of_key : ℕ
  pub refers : HoldsReference heap of_key key
  pub pair : IsMarkedPair heap cells of_key of_value

-- each pair that waits is one of a marked table
pub record AreWaiting (heap : Heap) (cells : Listing) (waits : Waits) : Type 0 where
  pub bound : waits.bound ≡ roots_start heap.space
  pub each : (key slot : ℕ) → WaitsFor waits key slot → IsPairFor heap cells key slot

-- more pairs wait: for keys that were not marked
pub record WaitsMore (cells : Listing) (old new : Waits) : Type 0 where
  pub kept : (key slot : ℕ) → WaitsFor old key slot → WaitsFor new key slot
  pub fresh : (key slot : ℕ) → WaitsFor new key slot → WaitsFor old key slot ⊎ (Contains cells.addresses key → ⊥)

-- a pair waits for the key, and its value refers to the address
pub record WaitsWith (heap : Heap) (waits : Waits) (key value : ℕ) : Type 0 where
  pub slot : ℕ
  pub waits_for : WaitsFor waits key slot
  pub refers : HoldsReference heap slot value

-- the value is marked, or waits for its key
abbrev pub IsMarkedOrWaits : Heap → Listing → Waits → ℕ → ℕ → Type 0
IsMarkedOrWaits heap cells waits key value = Contains cells.addresses value ⊎ WaitsWith heap waits key value

-- What the cell at the address leads to is marked: what its slots refer to; the values of its pairs, but for those that
-- wait; and the values that waited for it.
pub record IsVisited (heap : Heap) (cells : Listing) (waits : Waits) (at : ℕ) : Type 0 where
  pub slots : (to : ℕ) → HasSlotTo heap at to → Contains cells.addresses to
  pub pairs : (key value : ℕ) → HasEntry heap at key value → IsMarkedOrWaits heap cells waits key value
  pub woken : (value : ℕ) → WaitsWith heap waits at value → Contains cells.addresses value

-- the cell is among the first so many that were marked
pub record IsAmong (cells : Listing) (count at : ℕ) : Type 0 where
  pub place : ℕ
  pub below : place < count
  pub there : slice_get cells.addresses place ≡ Some at

-- What the slots of the first so many cells refer to is marked, of those that marking visits, but for those of weak
-- maps.
abbrev pub LeadOn : Heap → Listing → ℕ → Type 0
LeadOn heap cells count =
    (from to : ℕ) → IsAmong cells count from → (IsWeakCellAt heap from → ⊥) → HasSlotTo heap from to
    → Contains cells.addresses to

-- the first so many cells are visited
abbrev pub AreVisited : Heap → Listing → Waits → ℕ → Type 0
AreVisited heap cells waits count = (at : ℕ) → IsAmong cells count at → IsVisited heap cells waits at

-- the addresses with that of a cell of this kind, if it is a weak map's
abbrev pub noted : Kind → List ℕ → ℕ → List ℕ
noted kind.Weak maps at = maps ++ at ∷ []
noted _ maps at = maps

-- these are the weak maps among the first so many cells, each once
pub record AreMapsAmong (heap : Heap) (cells : Listing) (maps : List ℕ) (count : ℕ) : Type 0 where
  pub are : (at : ℕ) → Contains maps at ↔ (IsAmong cells count at × IsWeakCellAt heap at)
  pub once : AllPairs (λ at other. at ≢ other) maps
  pub few : length maps ≤ count
