-- What is live where pairs of weak maps were taken away whose key is not live.
use Rattle.std.specs.Prelude.{◌≡◌, ℕ, ◌<◌, List, drop, Some, Contains, slice_get}
use Rattle.tagged_word.specs.declared.layout.Kind.TheVariants as kind
use Rattle.tagged_word.specs.Cells.{tagged_offsets, scavenge_offsets, store_head}
use Rattle.handle_roots.specs.Roots.{root_at}
use Rattle.object_graph.specs.Graphs.{Graph}
use Rattle.heap_model.specs.Types.{Cell}
use Rattle.heap_model.specs.Heaps.{Heap, HasCell}
use Rattle.heap_model.specs.Slots.{reference_word}
use Rattle.heap_model.specs.Kinds.{HasWord, Pair, pairs_in}
use Rattle.heap_model.specs.Showing.{HasPair, Shows}
use Rattle.live_cells.specs.Live.{IsLive, IsRootTarget, AreLive}

-- a pair of the weak table at an address has this key
pub record HasKey (heap : Heap) (table key : ℕ) : Type 0 where
  pub cell : Cell
  pub words : List ℕ
  pub has : HasCell heap cell words
  pub stands : cell.at ≡ table
  pub of_kind : cell.layout.kind ≡ kind.Table
  pub place : ℕ
  pub pair : Pair
  pub among : slice_get (pairs_in (drop store_head words)) place ≡ Some pair
  pub key_is : pair.key ≡ reference_word key

-- each key of a table that is live from these starts is
abbrev pub HasLiveKeysFrom : Heap → (ℕ → Type 0) → Type 0
HasLiveKeysFrom heap starts =
    (table key : ℕ) → IsLive heap starts table → HasKey heap table key → IsLive heap starts key

-- each key of a live table is live
abbrev pub HasLiveKeys : Heap → Type 0
HasLiveKeys heap = HasLiveKeysFrom heap (IsRootTarget heap)

-- Then what a slot of a live cell refers to is live, also of those that a scavenge visits and marking does not.
abbrev pub LiveIsClosed : Type 0
LiveIsClosed =
    (heap : Heap) (graph : Graph) (cell : Cell) (words : List ℕ) (offset at : ℕ) → Shows heap graph
    → HasLiveKeys heap → IsLive heap (IsRootTarget heap) cell.at → HasCell heap cell words
    → Contains (scavenge_offsets cell.layout cell.length) offset → HasWord words offset (reference_word at)
    → IsLive heap (IsRootTarget heap) at

-- the pair stands in the table of the weak map at the address
pub record IsPairOfMap (heap : Heap) (map : ℕ) (pair : Pair) : Type 0 where
  pub cell : Cell
  pub words : List ℕ
  pub has : HasCell heap cell words
  pub stands : cell.at ≡ map
  pub of_kind : cell.layout.kind ≡ kind.Weak
  pub holds : HasPair heap words pair

-- Each live table is that of a live weak map: so its keys are live where theirs are.
abbrev pub LiveMapsTell : Type 0
LiveMapsTell =
    (heap : Heap) (graph : Graph) (marked : List ℕ) → Shows heap graph → AreLive heap marked
    → ((map key : ℕ) (pair : Pair) → Contains marked map → IsPairOfMap heap map pair → pair.key ≡ reference_word key
    → Contains marked key)
    → HasLiveKeys heap

-- From one heap to another only pairs of weak maps were taken away, of those that stand at these addresses: cells stand
-- where they stood; root words are as they were, and so are slots of those cells that marking visits; each pair of such
-- a map stood in its table; and each that stood there stands there, if its key is at one of these addresses.
pub record TakesPairs (old new : Heap) (marked : List ℕ) : Type 0 where
  pub space : new.space ≡ old.space
  pub stays : (cell : Cell) (words : List ℕ) → HasCell old cell words → (others : List ℕ) × HasCell new cell others
  pub stood : (cell : Cell) (others : List ℕ) → HasCell new cell others → (words : List ℕ) × HasCell old cell words
  pub roots : (variable : ℕ) → variable < old.space.variables
      → slice_get new.words (root_at old.space variable) ≡ slice_get old.words (root_at old.space variable)
  pub slots : (cell : Cell) (words others : List ℕ) (offset : ℕ) → HasCell old cell words → HasCell new cell others
      → Contains marked cell.at → Contains (tagged_offsets cell.layout cell.length) offset
      → slice_get others offset ≡ slice_get words offset
  pub none_made : (map key : ℕ) (pair : Pair) → Contains marked map → pair.key ≡ reference_word key
      → IsPairOfMap new map pair → IsPairOfMap old map pair
  pub kept : (map key : ℕ) (pair : Pair) → Contains marked map → Contains marked key → pair.key ≡ reference_word key
      → IsPairOfMap old map pair → IsPairOfMap new map pair

-- So the same cells are live.
abbrev pub TakenPairsLeaveLive : Type 0
TakenPairsLeaveLive =
    (old new : Heap) (graph : Graph) (marked : List ℕ) → Shows old graph → AreLive old marked
    → TakesPairs old new marked → AreLive new marked
