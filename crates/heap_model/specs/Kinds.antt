-- What the words of a cell hold, by its kind: of every cell, one that nothing refers to as well.
use Rattle.std.specs.Prelude.{◌≡◌, ℕ, ◌<◌, ◌≤◌, ◌^◌, Bool, List, []}
use Rattle.std.specs.Prelude.{◌∷◌, ◌++◌, length, drop, All, Some, slice_get, nat_lt, count_by, not, ◌&&◌}
use Rattle.std.specs.Prelude.{◌==◌, ◌⊎◌, ℤ, FitsSigned}
use Rattle.std.specs.Int.{w64}
use Rattle.heap_model.specs.Types.{Kind, Path, PathField, Cell}
use Rattle.tagged_word.specs.declared.layout.Kind.TheVariants as kind
use Rattle.tagged_word.specs.Cells.{plain_head, store_head, store_slot, proto_slot}
use Rattle.linear_probing.specs.Tables as probing
use Rattle.object_graph.specs.Meaning.{list_most}
use Rattle.shape_tree.specs.Shapes.{IsPathShape, shape_path}
use Rattle.heap_model.specs.Heaps.{Heap}
use Rattle.heap_model.specs.Slots.{undefined_word, hole_word, raw_word, IsSlotWord, IsValueWord, IsFieldWord}
use Rattle.heap_model.specs.Slots.{HoldsStore}
use Rattle.heap_model.specs.Slots.{RefersTo, RefersToPlace}

-- a word of the cell is this one
abbrev pub HasWord : List ℕ → ℕ → ℕ → Type 0
HasWord words offset word = slice_get words offset ≡ Some word

-- the offset of the length of a list and of the count of a weak map
abbrev pub count_offset : ℕ
count_offset = 2

-- The slots of a plain object hold these fields in order, as many of the first as its cap in the object itself; behind
-- them are holes.
pub record HoldFields (heap : Heap) (path : Path) (slots : List ℕ) : Type 0 where
  pub room : length path.fields ≤ length slots
  pub each : (at : ℕ) (field : PathField) (word : ℕ) → slice_get path.fields at ≡ Some field → HasWord slots at word
      → IsFieldWord heap (nat_lt at path.cap) field.rep word
  pub rest : (at word : ℕ) → length path.fields ≤ at → HasWord slots at word → word ≡ hole_word

-- The slots of an object: its own, and behind them those of its store.
pub record HasSlots (heap : Heap) (words slots : List ℕ) : Type 0 where
  pub store : ℕ
  pub slot : HasWord words store_slot store
  pub beside : List ℕ
  pub stands : HoldsStore heap kind.Store store beside
  pub are : slots ≡ drop plain_head words ++ beside

-- The word of a prototype slot: undefined, or a reference to the cell of a plain object.
pub data IsProtoWord (heap : Heap) : ℕ → Type 0 where
  none : IsProtoWord heap undefined_word
  plain : (word : ℕ) (cell : Cell) (words : List ℕ) → RefersTo heap word cell words → cell.layout.kind ≡ kind.Plain
      → IsProtoWord heap word

-- a plain object: its shape is a path's, its prototype slot holds a prototype's word, and its other slots hold the
-- fields of that path
pub record IsPlainCell (heap : Heap) (cell : Cell) (words : List ℕ) : Type 0 where
  pub shape : IsPathShape heap.paths cell.header.shape
  pub slots : List ℕ
  pub has : HasSlots heap words slots
  pub hold : HoldFields heap (shape_path heap.paths cell.header.shape) slots
  pub proto : ℕ
  pub proto_has : HasWord words proto_slot proto
  pub proto_is : IsProtoWord heap proto

-- so many of the first slots hold values, and the others are holes
pub record HoldValues (heap : Heap) (count : ℕ) (slots : List ℕ) : Type 0 where
  pub room : count ≤ length slots
  pub each : (at word : ℕ) → at < count → HasWord slots at word → IsValueWord heap word
  pub rest : (at word : ℕ) → count ≤ at → HasWord slots at word → word ≡ hole_word

-- a list: its store's first slots hold its elements, as many as its length
pub record IsListCell (heap : Heap) (words : List ℕ) : Type 0 where
  pub store : ℕ
  pub slot : HasWord words store_slot store
  pub beside : List ℕ
  pub stands : HoldsStore heap kind.Store store beside
  pub count : ℕ
  pub counted : HasWord words count_offset count
  pub few : count ≤ list_most
  pub hold : HoldValues heap count beside

-- the words of a pair of a weak table: its key and its value
pub record Pair : Type 0 where
  pub key : ℕ
  pub value : ℕ

-- the pairs of a weak table, in order
abbrev pub pairs_in : List ℕ → List Pair
pairs_in [] = []
pairs_in (key ∷ []) = []
pairs_in (key ∷ value ∷ words) = record { key = key; value = value } ∷ pairs_in words

-- a pair that holds nothing
abbrev pub free_pair : Pair
free_pair = record { key = hole_word; value = hole_word }

-- the pair's key is an object, which has this number, and its value is a value
pub record IsFilledPair (heap : Heap) (pair : Pair) (number : ℕ) : Type 0 where
  pub key : RefersToPlace heap pair.key number
  pub value : IsValueWord heap pair.value

-- Probing for the number comes to this place: from its home on, which is the number modulo the capacity, going up and
-- round, no pair before this one is free.
abbrev pub IsProbed : List Pair → ℕ → ℕ → Type 0
IsProbed pairs number at = probing.IsProbed free_pair pairs number at

-- a filled pair, in a place where probing finds it
pub record IsFoundPair (heap : Heap) (pairs : List Pair) (at : ℕ) (pair : Pair) : Type 0 where
  pub number : ℕ
  pub filled : IsFilledPair heap pair number
  pub probed : IsProbed pairs number at

-- a power of two, as the capacity of a table of a weak map must be
abbrev pub IsPowerOfTwo : ℕ → Type 0
IsPowerOfTwo n = (k : ℕ) × (n ≡ 2 ^ k)

-- no table, or the pairs of the weak table to which the word refers; its capacity is a power of two
pub data HasTable (heap : Heap) : ℕ → List Pair → Type 0 where
  none : HasTable heap undefined_word []
  table : (word : ℕ) (cell : Cell) (words : List ℕ) → RefersTo heap word cell words → cell.layout.kind ≡ kind.Table
      → IsPowerOfTwo cell.length → HasTable heap word (pairs_in (drop store_head words))

-- whether the pair holds nothing
abbrev pub is_free_pair : Pair → Bool
is_free_pair pair = (pair.key == hole_word) && (pair.value == hole_word)

-- a weak map: each pair of its table holds nothing, or an entry where probing finds it; the count is that of entries
pub record IsWeakCell (heap : Heap) (words : List ℕ) : Type 0 where
  pub store : ℕ
  pub slot : HasWord words store_slot store
  pub pairs : List Pair
  pub table : HasTable heap store pairs
  pub each : (at : ℕ) (pair : Pair) → slice_get pairs at ≡ Some pair
      → (pair ≡ free_pair) ⊎ IsFoundPair heap pairs at pair
  pub counted : HasWord words count_offset (count_by (λ pair. not (is_free_pair pair)) pairs)

-- a cell without an object: it has no number
abbrev pub HasNoNumber : Cell → Type 0
HasNoNumber cell = cell.header.object ≡ 0

-- a store or a weak table, whose slots hold slot words
pub record IsStoreCell (heap : Heap) (cell : Cell) (words : List ℕ) : Type 0 where
  pub no_number : HasNoNumber cell
  pub slots : All (IsSlotWord heap) (drop store_head words)

-- a box: it holds an integer of 64 bits
pub record IsBoxCell (cell : Cell) (words : List ℕ) : Type 0 where
  pub no_number : HasNoNumber cell
  pub integer : ℤ
  pub fits : FitsSigned w64 integer
  pub holds : HasWord words 1 (raw_word integer)

-- what the words of a cell must be, by its kind
abbrev pub IsSoundOf : Kind → Heap → Cell → List ℕ → Type 0
IsSoundOf kind.Plain heap cell words = IsPlainCell heap cell words
IsSoundOf kind.List heap cell words = IsListCell heap words
IsSoundOf kind.Weak heap cell words = IsWeakCell heap words
IsSoundOf kind.Store heap cell words = IsStoreCell heap cell words
IsSoundOf kind.Table heap cell words = IsStoreCell heap cell words
IsSoundOf kind.Boxed heap cell words = IsBoxCell cell words
IsSoundOf kind.Filler heap cell words = HasNoNumber cell
IsSoundOf kind.Gap heap cell words = HasNoNumber cell

-- the words of the cell are what its kind has
abbrev pub IsSoundCell : Heap → Cell → List ℕ → Type 0
IsSoundCell heap cell words = IsSoundOf cell.layout.kind heap cell words
