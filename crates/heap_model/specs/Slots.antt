-- What the words of slots stand for: values, and the cells that they refer to.
use Rattle.std.specs.Prelude.{◌≡◌, ℕ, Bool, true, false, List, [], drop, Some, slice_get, ℤ, IsTrue, FitsSigned}
use Rattle.std.specs.Int.{cast_unsigned, w64}
use Rattle.tagged_word.specs.declared.word.Class.TheVariants.{Small, Ref, Odd}
use Rattle.heap_model.specs.Types.{Kind, Rep, Cell}
use Rattle.tagged_word.specs.declared.layout.Kind.TheVariants as kind
use Rattle.tagged_word.specs.Words.{small, bits_of}
use Rattle.tagged_word.specs.Odds.{undefined_code, hole_code}
use Rattle.tagged_word.specs.Cells.{store_head}
pub use Rattle.tagged_word.specs.Cells.{is_object_kind}
use Rattle.object_graph.specs.declared.value.Rep.TheVariants as rep
use Rattle.heap_model.specs.Heaps.{Heap, HasCell}

-- the word of a small integer
abbrev pub small_word : ℤ → ℕ
small_word v = bits_of (Small v)

-- the word of `undefined`
abbrev pub undefined_word : ℕ
undefined_word = bits_of (Odd undefined_code)

-- the word of a hole, which stands where a store or a table holds nothing
abbrev pub hole_word : ℕ
hole_word = bits_of (Odd hole_code)

-- the word of a reference to the cell at an address
abbrev pub reference_word : ℕ → ℕ
reference_word at = bits_of (Ref at)

-- a raw word: the integer in two's complement
abbrev pub raw_word : ℤ → ℕ
raw_word v = cast_unsigned w64 v

-- the word refers to a cell of the heap
pub record RefersTo (heap : Heap) (word : ℕ) (cell : Cell) (words : List ℕ) : Type 0 where
  pub refers : word ≡ reference_word cell.at
  pub has : HasCell heap cell words

-- an object's cell stands at the address and carries the number
pub record IsPlace (heap : Heap) (number at : ℕ) : Type 0 where
  pub cell : Cell
  pub words : List ℕ
  pub has : HasCell heap cell words
  pub stands : cell.at ≡ at
  pub object : IsTrue (is_object_kind cell.layout.kind)
  pub carries : cell.header.object ≡ number

-- a weak map's cell stands at the address
pub record IsWeakCellAt (heap : Heap) (at : ℕ) : Type 0 where
  pub cell : Cell
  pub words : List ℕ
  pub has : HasCell heap cell words
  pub stands : cell.at ≡ at
  pub of_kind : cell.layout.kind ≡ kind.Weak

-- the word refers to the place of an object
pub record RefersToPlace (heap : Heap) (word number : ℕ) : Type 0 where
  pub at : ℕ
  pub refers : word ≡ reference_word at
  pub place : IsPlace heap number at

-- the word refers to an object
abbrev pub RefersToObject : Heap → ℕ → Type 0
RefersToObject heap word = (number : ℕ) × RefersToPlace heap word number

-- the word refers to a box that holds the integer
pub record RefersToBox (heap : Heap) (word : ℕ) (v : ℤ) : Type 0 where
  pub cell : Cell
  pub words : List ℕ
  pub target : RefersTo heap word cell words
  pub box : cell.layout.kind ≡ kind.Boxed
  pub holds : slice_get words 1 ≡ Some (raw_word v)
  pub fits : FitsSigned w64 v

-- The word of a slot of any store or table: a small integer, undefined, the hole, an object, or a box.
pub data IsSlotWord (heap : Heap) : ℕ → Type 0 where
  small_integer : (v : ℤ) → IsTrue (small v) → IsSlotWord heap (small_word v)
  undefined : IsSlotWord heap undefined_word
  hole : IsSlotWord heap hole_word
  object : (word : ℕ) → RefersToObject heap word → IsSlotWord heap word
  boxed : (word : ℕ) (v : ℤ) → RefersToBox heap word v → IsSlotWord heap word

-- The word of a value in a tagged slot: a small integer, undefined, an object, or a box of an integer that is not
-- small.
pub data IsValueWord (heap : Heap) : ℕ → Type 0 where
  small_integer : (v : ℤ) → IsTrue (small v) → IsValueWord heap (small_word v)
  undefined : IsValueWord heap undefined_word
  object : (word : ℕ) → RefersToObject heap word → IsValueWord heap word
  boxed : (word : ℕ) (v : ℤ) → RefersToBox heap word v → small v ≡ false → IsValueWord heap word

-- The word of a wide field: raw in the object itself, and a box in the property store.
pub data IsWideWord (heap : Heap) : Bool → ℕ → Type 0 where
  raw : (word : ℕ) → IsWideWord heap true word
  boxed : (word : ℕ) (v : ℤ) → RefersToBox heap word v → IsWideWord heap false word

-- The word of a field of this representation, in an own slot of the object or else in its property store.
pub data IsFieldWord (heap : Heap) (own : Bool) : Rep → ℕ → Type 0 where
  small_integer : (v : ℤ) → IsTrue (small v) → IsFieldWord heap own rep.Small (small_word v)
  wide : (word : ℕ) → IsWideWord heap own word → IsFieldWord heap own rep.Wide word
  tagged : (word : ℕ) → IsValueWord heap word → IsFieldWord heap own rep.Tagged word

-- Nothing, or the slots of the store of the kind to which the word refers.
pub data HoldsStore (heap : Heap) (of : Kind) : ℕ → List ℕ → Type 0 where
  none : HoldsStore heap of undefined_word []
  store : (word : ℕ) (cell : Cell) (words : List ℕ) → RefersTo heap word cell words → cell.layout.kind ≡ of
      → HoldsStore heap of word (drop store_head words)
