-- What breaks the cells of a heap, by their kinds, and the owners of stores, tables and boxes.
use Rattle.std.specs.Prelude.{◌≡◌, ◌≢◌, ℕ, ◌+◌, ◌*◌, ◌≤◌, ◌<◌, Bool, true, false, List, ◌++◌, drop, length}
use Rattle.std.specs.Prelude.{Some, slice_get, min, nat_lt, if◌then◌else◌}
use Rattle.tagged_word.specs.Cells.{store_slot, proto_slot, store_head, plain_head, length_offset}
use Rattle.tagged_word.specs.declared.layout.Kind.TheVariants as kind
use Rattle.tagged_word.specs.Headers.{header_bits}
use Rattle.object_graph.specs.Meaning.{list_most}
use Rattle.shape_tree.specs.Shapes.{IsPathShape, shape_path}
use Rattle.heap_model.specs.Types.{Kind, Path, Cell}
use Rattle.heap_model.specs.Heaps.{Heap, HasCell}
use Rattle.heap_model.specs.Slots.{reference_word, undefined_word, hole_word, IsSlotWord, IsValueWord}
use Rattle.heap_model.specs.Slots.{RefersTo, RefersToPlace, RefersToObject, HoldsStore}
use Rattle.heap_model.specs.Kinds.{HasWord, count_offset, IsProtoWord, Pair, pairs_in, IsPowerOfTwo, IsProbed, HasTable}
use Rattle.heap_model.specs.Wholeness.{NamesFrom}
use Rattle.heap_check.specs.Elements.{IsElement}
use Rattle.heap_check.specs.PathSlots.{FitsSlot}
use Rattle.image_walk.specs.Spans.{HoldsNoStore, IsStoreKind}
use Rattle.image_walk.specs.TablePairs.{filled_pairs}
use Rattle.heap_check.specs.Firsts.{asked_of}
use Rattle.heap_check.specs.Frames.{filler_word}

-- a cell of the kind has no number: it is no object's
abbrev pub IsUnnumbered : Kind → Type 0
IsUnnumbered kind.Plain = ⊥
IsUnnumbered kind.List = ⊥
IsUnnumbered kind.Weak = ⊥
IsUnnumbered _ = Unit {0}

-- a cell that is no object's has a number: the same header without it is asked for
pub data BreaksNumber (cell : Cell) : ℕ → ℕ → ℕ → Type 0 where
  numbered : IsUnnumbered cell.layout.kind → cell.header.object ≢ 0
      → BreaksNumber cell cell.at (header_bits cell.header)
      (header_bits (record { shape = cell.header.shape; object = 0 }))

-- a slot of a store or a table holds what no slot may
pub data BreaksSlots (heap : Heap) (cell : Cell) (words : List ℕ) : ℕ → ℕ → ℕ → Type 0 where
  slot : (place found : ℕ) → IsStoreKind cell.layout.kind → HasWord (drop store_head words) place found
      → (IsSlotWord heap found → ⊥) → BreaksSlots heap cell words (cell.at + store_head + place) found (asked_of found)

-- a store or a table has a number, or a slot of it holds what no slot may
pub data BreaksStoreCell (heap : Heap) (cell : Cell) (words : List ℕ) : ℕ → ℕ → ℕ → Type 0 where
  number : (at found wanted : ℕ) → BreaksNumber cell at found wanted → BreaksStoreCell heap cell words at found wanted
  slot : (at found wanted : ℕ) → BreaksSlots heap cell words at found wanted
      → BreaksStoreCell heap cell words at found wanted

-- slot 1 of an object refers to no store of the kind that it has, and says of none that there is none
pub data BreaksStore (heap : Heap) (cell : Cell) (words : List ℕ) (of : Kind) : ℕ → ℕ → ℕ → Type 0 where
  store : (found : ℕ) → HasWord words store_slot found → HoldsNoStore heap of found
      → BreaksStore heap cell words of (cell.at + store_slot) found (asked_of found)

-- the prototype slot of a plain object holds neither undefined nor a reference to the cell of a plain object: undefined
-- is asked for
pub data BreaksProto (heap : Heap) (cell : Cell) (words : List ℕ) : ℕ → ℕ → ℕ → Type 0 where
  proto : (found : ℕ) → HasWord words proto_slot found → (IsProtoWord heap found → ⊥)
      → BreaksProto heap cell words (cell.at + proto_slot) found undefined_word

-- what is asked for in a slot of a plain object: a field's word, or the hole behind the fields
abbrev pub asked_at : Path → ℕ → ℕ → ℕ
asked_at path place found = if nat_lt place (length path.fields) then asked_of found else hole_word

-- The store of a plain object lacks slots for its fields: another is asked for in slot 1. Else a slot, its own or one
-- of its store, does not hold what the field at its place has, or is no hole behind the fields.
pub data BreaksFields (heap : Heap) (cell : Cell) (words : List ℕ) (path : Path) (beside : List ℕ)
    : ℕ → ℕ → ℕ → Type 0 where
  short : (found : ℕ) → HasWord words store_slot found
      → length (drop plain_head words ++ beside) < length path.fields
      → BreaksFields heap cell words path beside (cell.at + store_slot) found (asked_of found)
  own : (place found : ℕ) → length path.fields ≤ length (drop plain_head words ++ beside)
      → HasWord (drop plain_head words) place found → (FitsSlot heap path place found → ⊥)
      → BreaksFields heap cell words path beside (cell.at + plain_head + place) found (asked_at path place found)
  in_store : (word place found : ℕ) (store : Cell) (others : List ℕ)
      → length path.fields ≤ length (drop plain_head words ++ beside)
      → HasWord words store_slot word → RefersTo heap word store others → store.layout.kind ≡ kind.Store
      → HasWord (drop store_head others) place found
      → (FitsSlot heap path (length (drop plain_head words) + place) found → ⊥)
      → BreaksFields heap cell words path beside (store.at + store_head + place) found
      (asked_at path (length (drop plain_head words) + place) found)

-- what is asked for in a slot of a list's store: a value where it is used, else the hole
abbrev pub asked_element : Bool → ℕ → ℕ
asked_element true found = asked_of found
asked_element false found = hole_word

-- The length of a list is over its store's capacity, or over the most that a list may have: the less of the two is
-- asked for. Else a slot of its store holds no value though it is used, or is no hole though it isn't.
pub data BreaksElements (heap : Heap) (cell : Cell) (words beside : List ℕ) (count : ℕ) : ℕ → ℕ → ℕ → Type 0 where
  long : min (length beside) list_most < count
      → BreaksElements heap cell words beside count (cell.at + count_offset) count (min (length beside) list_most)
  element : (word place found : ℕ) (store : Cell) (others : List ℕ) → count ≤ min (length beside) list_most
      → HasWord words store_slot word → RefersTo heap word store others → store.layout.kind ≡ kind.Store
      → HasWord (drop store_head others) place found → (IsElement heap (nat_lt place count) found → ⊥)
      → BreaksElements heap cell words beside count (store.at + store_head + place) found
      (asked_element (nat_lt place count) found)

-- the next greater power of two
pub record IsNextPower (n power : ℕ) : Type 0 where
  pub is_power : IsPowerOfTwo power
  pub greater : n < power
  pub next : (other : ℕ) → IsPowerOfTwo other → n < other → power ≤ other

-- the capacity of a weak map's table is no power of two: the next greater one is asked for
pub data BreaksCapacity (heap : Heap) (words : List ℕ) : ℕ → ℕ → ℕ → Type 0 where
  capacity : (word wanted : ℕ) (table : Cell) (others : List ℕ) → HasWord words store_slot word
      → RefersTo heap word table others → table.layout.kind ≡ kind.Table → (IsPowerOfTwo table.length → ⊥)
      → IsNextPower table.length wanted → BreaksCapacity heap words (table.at + length_offset) table.length wanted

-- A pair of the table whose slots begin at an address, at its place: the key is neither the hole nor an object; the
-- value is no hole beside a hole, or no value beside an object; or probing for the object does not come to this place,
-- and the hole is asked for there.
pub data BreaksPair (heap : Heap) (from : ℕ) (pairs : List Pair) (place : ℕ) (pair : Pair)
    : ℕ → ℕ → ℕ → Type 0 where
  key : pair.key ≢ hole_word → (RefersToObject heap pair.key → ⊥)
      → BreaksPair heap from pairs place pair (from + 2 * place) pair.key (asked_of pair.key)
  no_value : pair.key ≡ hole_word → pair.value ≢ hole_word
      → BreaksPair heap from pairs place pair (from + 2 * place + 1) pair.value hole_word
  value : RefersToObject heap pair.key → (IsValueWord heap pair.value → ⊥)
      → BreaksPair heap from pairs place pair (from + 2 * place + 1) pair.value (asked_of pair.value)
  misplaced : (number : ℕ) → RefersToPlace heap pair.key number → (IsProbed pairs number place → ⊥)
      → BreaksPair heap from pairs place pair (from + 2 * place) pair.key hole_word

-- a pair of the table of a weak map, whose capacity is a power of two, is broken; or the count is not that of the pairs
-- that are filled, which is asked for
pub data BreaksEntries (heap : Heap) (cell : Cell) (words : List ℕ) : ℕ → ℕ → ℕ → Type 0 where
  pair : (word place at found wanted : ℕ) (table : Cell) (others : List ℕ) (pair : Pair) → HasWord words store_slot word
      → RefersTo heap word table others → table.layout.kind ≡ kind.Table → IsPowerOfTwo table.length
      → slice_get (pairs_in (drop store_head others)) place ≡ Some pair
      → BreaksPair heap (table.at + store_head) (pairs_in (drop store_head others)) place pair at found wanted
      → BreaksEntries heap cell words at found wanted
  count : (word found : ℕ) (pairs : List Pair) → HasWord words store_slot word → HasTable heap word pairs
      → HasWord words count_offset found → found ≢ filled_pairs pairs
      → BreaksEntries heap cell words (cell.at + count_offset) found (filled_pairs pairs)

-- What breaks a plain object: its shape is no path's; or, where it is one's, slot 1, or the slot of its prototype, or,
-- where slot 1 is right, its fields.
pub data BreaksPlain (heap : Heap) (cell : Cell) (words : List ℕ) : ℕ → ℕ → ℕ → Type 0 where
  shape : (IsPathShape heap.paths cell.header.shape → ⊥)
      → BreaksPlain heap cell words cell.at (header_bits cell.header) filler_word
  store : (at found wanted : ℕ) → IsPathShape heap.paths cell.header.shape
      → BreaksStore heap cell words kind.Store at found wanted → BreaksPlain heap cell words at found wanted
  proto : (at found wanted : ℕ) → IsPathShape heap.paths cell.header.shape
      → BreaksProto heap cell words at found wanted → BreaksPlain heap cell words at found wanted
  field : (word at found wanted : ℕ) (beside : List ℕ) → IsPathShape heap.paths cell.header.shape
      → HasWord words store_slot word → HoldsStore heap kind.Store word beside
      → BreaksFields heap cell words (shape_path heap.paths cell.header.shape) beside at found wanted
      → BreaksPlain heap cell words at found wanted

-- What breaks a list: slot 1; or, where that is right, its length and its elements.
pub data BreaksList (heap : Heap) (cell : Cell) (words : List ℕ) : ℕ → ℕ → ℕ → Type 0 where
  store : (at found wanted : ℕ) → BreaksStore heap cell words kind.Store at found wanted
      → BreaksList heap cell words at found wanted
  element : (word count at found wanted : ℕ) (beside : List ℕ) → HasWord words store_slot word
      → HoldsStore heap kind.Store word beside → HasWord words count_offset count
      → BreaksElements heap cell words beside count at found wanted → BreaksList heap cell words at found wanted

-- What breaks a weak map: slot 1; or, where that is right, its table's capacity; or, where that is right too, its
-- entries.
pub data BreaksWeak (heap : Heap) (cell : Cell) (words : List ℕ) : ℕ → ℕ → ℕ → Type 0 where
  table : (at found wanted : ℕ) → BreaksStore heap cell words kind.Table at found wanted
      → BreaksWeak heap cell words at found wanted
  capacity : (at found wanted : ℕ) → BreaksCapacity heap words at found wanted
      → BreaksWeak heap cell words at found wanted
  entry : (at found wanted : ℕ) → BreaksEntries heap cell words at found wanted
      → BreaksWeak heap cell words at found wanted

-- what breaks a cell, by its kind
abbrev pub BreaksOf : Kind → Heap → Cell → List ℕ → ℕ → ℕ → ℕ → Type 0
BreaksOf kind.Plain heap cell words = BreaksPlain heap cell words
BreaksOf kind.List heap cell words = BreaksList heap cell words
BreaksOf kind.Weak heap cell words = BreaksWeak heap cell words
BreaksOf kind.Store heap cell words = BreaksStoreCell heap cell words
BreaksOf kind.Table heap cell words = BreaksStoreCell heap cell words
BreaksOf _ heap cell words = BreaksNumber cell

-- some cell of the heap is broken
pub data BreaksCells (heap : Heap) : ℕ → ℕ → ℕ → Type 0 where
  cell : (cell : Cell) (words : List ℕ) (at found wanted : ℕ) → HasCell heap cell words
      → BreaksOf cell.layout.kind heap cell words at found wanted → BreaksCells heap at found wanted

-- a slot names a store, a table or a box that a slot of a lower address names too: `undefined` is asked for
pub data BreaksOwners (heap : Heap) : ℕ → ℕ → ℕ → Type 0 where
  again : (owner another : Cell) (slot other named : ℕ) → NamesFrom heap owner slot named
      → NamesFrom heap another other named → other < slot
      → BreaksOwners heap slot (reference_word named) undefined_word
