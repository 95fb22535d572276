-- The pairs of a weak table by their keys, and what they show.
use Rattle.std.specs.Prelude.{◌≡◌, ◌≢◌, ℕ, ◌≤◌, Bool, List, Some, slice_get, IsTrue}
use Rattle.heap_model.specs.Types.{Entry}
use Rattle.object_graph.specs.Reach.{is_marked}
use Rattle.heap_model.specs.Heaps.{Heap}
use Rattle.heap_model.specs.Slots.{RefersToPlace}
use Rattle.heap_model.specs.Kinds.{Pair, free_pair}
use Rattle.heap_model.specs.Showing.{ShowsOnce, IsKnownKey}

-- no pair from the place on has the object of this number as its key
abbrev pub HasNoPairFrom : Heap → List Pair → ℕ → ℕ → Type 0
HasNoPairFrom heap pairs key from =
    (at : ℕ) (pair : Pair) → slice_get pairs at ≡ Some pair → from ≤ at → RefersToPlace heap pair.key key → ⊥

-- the first pair from the place on that has this key stands there
pub record IsFirstPair (heap : Heap) (pairs : List Pair) (key from at : ℕ) : Type 0 where
  pub pair : Pair
  pub stands : slice_get pairs at ≡ Some pair
  pub key_is : RefersToPlace heap pair.key key
  pub reached : from ≤ at
  pub first : (other : ℕ) (another : Pair) → slice_get pairs other ≡ Some another → from ≤ other
      → RefersToPlace heap another.key key → at ≤ other

-- where the key of the entry can be reached, one pair shows the entry, and no other has the key
abbrev pub ShowsIfReached : Heap → List Bool → List Pair → Entry → Type 0
ShowsIfReached heap marks pairs entry = IsTrue (is_marked marks entry.key) → ShowsOnce heap pairs entry

-- so it is of each entry
abbrev pub ShowEntries : Heap → List Bool → List Pair → List Entry → Type 0
ShowEntries heap marks pairs entries =
    (at : ℕ) (entry : Entry) → slice_get entries at ≡ Some entry → ShowsIfReached heap marks pairs entry

-- one of the entries has the key
pub record HasEntryOf (entries : List Entry) (key : ℕ) : Type 0 where
  pub at : ℕ
  pub entry : Entry
  pub stands : slice_get entries at ≡ Some entry
  pub is : entry.key ≡ key

-- where the object of this number can be reached, it is the key of one of the entries
abbrev pub IsKnownNumber : List Bool → List Entry → ℕ → Type 0
IsKnownNumber marks entries number = IsTrue (is_marked marks number) → HasEntryOf entries number

-- the pair holds nothing, or its key is that of an entry or cannot be reached
abbrev pub IsKnownPair : Heap → List Bool → List Entry → Pair → Type 0
IsKnownPair heap marks entries pair = pair ≢ free_pair → IsKnownKey heap marks entries pair

-- so it is of each pair
abbrev pub AreKnown : Heap → List Bool → List Pair → List Entry → Type 0
AreKnown heap marks pairs entries =
    (at : ℕ) (pair : Pair) → slice_get pairs at ≡ Some pair → IsKnownPair heap marks entries pair

-- the pairs show the entries whose keys can be reached, and have no other key that can
pub record ShowPairs (heap : Heap) (marks : List Bool) (pairs : List Pair) (entries : List Entry) : Type 0 where
  pub each : ShowEntries heap marks pairs entries
  pub others : AreKnown heap marks pairs entries
