-- Which cells of a heap are live.
use Rattle.std.specs.Prelude.{◌≡◌, ◌≢◌, ℕ, ◌<◌, ◌↔◌, List, Contains, Some, slice_get, drop}
use Rattle.tagged_word.specs.declared.layout.Kind.TheVariants as kind
use Rattle.tagged_word.specs.Cells.{tagged_offsets, store_head}
use Rattle.handle_roots.specs.Roots.{root_at}
use Rattle.heap_model.specs.Types.{Cell}
use Rattle.heap_model.specs.Heaps.{Heap, HasCell}
use Rattle.heap_model.specs.Slots.{reference_word}
use Rattle.heap_model.specs.Kinds.{HasWord, Pair, pairs_in}

-- A slot of the cell at one address, of those that marking visits, refers to the other address. The pairs of a weak
-- table are no such slots.
pub record HasSlotTo (heap : Heap) (from at : ℕ) : Type 0 where
  pub cell : Cell
  pub words : List ℕ
  pub has : HasCell heap cell words
  pub stands : cell.at ≡ from
  pub offset : ℕ
  pub visited : Contains (tagged_offsets cell.layout cell.length) offset
  pub holds : HasWord words offset (reference_word at)

-- A pair of the weak table at an address refers to these two by its key and by its value.
pub record HasEntry (heap : Heap) (table key value : ℕ) : Type 0 where
  pub cell : Cell
  pub words : List ℕ
  pub has : HasCell heap cell words
  pub stands : cell.at ≡ table
  pub of_kind : cell.layout.kind ≡ kind.Table
  pub place : ℕ
  pub pair : Pair
  pub among : slice_get (pairs_in (drop store_head words)) place ≡ Some pair
  pub key_is : pair.key ≡ reference_word key
  pub value_is : pair.value ≡ reference_word value

-- The cell at the address is live, where those at the starts are: it is one of these; or a slot of a live cell that
-- marking visits refers to it; or it is the value of a pair whose table and key are live.
pub data IsLive (heap : Heap) (starts : ℕ → Type 0) : ℕ → Type 0 where
  start : (at : ℕ) → starts at → IsLive heap starts at
  slot : (from at : ℕ) → IsLive heap starts from → HasSlotTo heap from at → IsLive heap starts at
  entry : (table key at : ℕ) → IsLive heap starts table → IsLive heap starts key → HasEntry heap table key at
      → IsLive heap starts at

-- the first root word of some variable refers to the address
pub record IsRootTarget (heap : Heap) (at : ℕ) : Type 0 where
  pub variable : ℕ
  pub within : variable < heap.space.variables
  pub refers : slice_get heap.words (root_at heap.space variable) ≡ Some (reference_word at)

-- A marking may start at the address: a root word refers to it, or it is one of those that the marking was given.
pub data IsStart (heap : Heap) (given : List ℕ) (at : ℕ) : Type 0 where
  root : IsRootTarget heap at → IsStart heap given at
  among : Contains given at → IsStart heap given at

-- no weak table stands at one of these addresses
abbrev pub AreNoTables : Heap → (ℕ → Type 0) → Type 0
AreNoTables heap starts =
    (cell : Cell) (words : List ℕ) → HasCell heap cell words → starts cell.at → cell.layout.kind ≢ kind.Table

-- these are the addresses of the cells that are live where those at the starts are
abbrev pub AreLiveFrom : Heap → (ℕ → Type 0) → List ℕ → Type 0
AreLiveFrom heap starts marked = (at : ℕ) → Contains marked at ↔ IsLive heap starts at

-- these are the addresses of the live cells
abbrev pub AreLive : Heap → List ℕ → Type 0
AreLive heap marked = AreLiveFrom heap (IsRootTarget heap) marked
