-- The cells that calls touch, by their addresses.
use Rattle.std.specs.Prelude.{◌≡◌, ℕ, ◌<◌, List, length}
use Rattle.std.specs.Prelude.{Some, slice_get, nat_lt}
use Rattle.heap_model.specs.Types.{PathField, Value, Cell, Held}
use Rattle.shape_tree.specs.Shapes.{shape_path}
use Rattle.heap_model.specs.Showing.{ShowsField, ShowsHeld}
use Rattle.tagged_word.specs.declared.layout.Kind.TheVariants as kind
use Rattle.heap_model.specs.Heaps.{Heap, HasCell}
use Rattle.heap_model.specs.Kinds.{HasWord, HasSlots}

-- a cell of the heap stands at the address
pub record HasCellAt (heap : Heap) (at : ℕ) : Type 0 where
  pub cell : Cell
  pub words : List ℕ
  pub has : HasCell heap cell words
  pub stands : cell.at ≡ at

-- the cell at the address has so many in-object slots
abbrev pub IsCapAt : Heap → ℕ → ℕ → Type 0
IsCapAt heap at cap = (cell : Cell) (words : List ℕ) → HasCell heap cell words → cell.at ≡ at → cell.layout.cap ≡ cap

-- a plain object's cell stands at the address, and has a slot of this number
pub record HasPlainSlot (heap : Heap) (at slot : ℕ) : Type 0 where
  pub cell : Cell
  pub words : List ℕ
  pub has : HasCell heap cell words
  pub stands : cell.at ≡ at
  pub plain : cell.layout.kind ≡ kind.Plain
  pub slots : List ℕ
  pub are : HasSlots heap words slots
  pub below : slot < length slots

-- a plain object's cell of this shape stands at the address, and has a field of this number
pub record HasField (heap : Heap) (at shape slot : ℕ) : Type 0 where
  pub cell : Cell
  pub words : List ℕ
  pub has : HasCell heap cell words
  pub stands : cell.at ≡ at
  pub plain : cell.layout.kind ≡ kind.Plain
  pub of_shape : cell.header.shape ≡ shape
  pub below : slot < length (shape_path heap.paths shape).fields

-- of the field of this number of the plain object at the address it is the value
abbrev pub TellsField : Heap → ℕ → ℕ → Held → Type 0
TellsField heap at slot result =
    (cell : Cell) (words slots : List ℕ) (field : PathField) (word : ℕ) (value : Value) → HasCell heap cell words
    → cell.at ≡ at → HasSlots heap words slots
    → slice_get (shape_path heap.paths cell.header.shape).fields slot ≡ Some field → HasWord slots slot word
    → ShowsField heap (nat_lt slot (shape_path heap.paths cell.header.shape).cap) word field.rep value
    → ShowsHeld heap result (Some value)
