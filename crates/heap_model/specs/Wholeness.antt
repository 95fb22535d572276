-- When a heap is whole.
use Rattle.std.specs.Prelude.{◌≡◌, ℕ, ◌+◌, ◌<◌, ◌≤◌, List, length, Contains, Some, slice_get, IsTrue}
use Rattle.heap_model.specs.Types.{Kind, Cell, Held}
use Rattle.tagged_word.specs.declared.layout.Kind.TheVariants as kind
use Rattle.tagged_word.specs.Shapes.{shapes_most}
use Rattle.tagged_word.specs.Cells.{store_slot, scavenge_offsets, is_object_kind}
use Rattle.page_space.specs.Extents.{layouts_start, marks_start}
use Rattle.shape_tree.specs.Shapes.{AreShapes}
use Rattle.shape_tree.specs.ShapeLayouts.{layout_word}
use Rattle.handle_roots.specs.declared.held.Held.TheVariants as held
use Rattle.handle_roots.specs.Roots.{Holds}
use Rattle.heap_model.specs.Heaps.{Heap, Row, AreRows, HasCell, survivors_of}
use Rattle.heap_model.specs.Slots.{RefersTo, IsPlace}
use Rattle.heap_model.specs.Kinds.{HasWord, IsSoundCell}

-- As many words as the regions before the marks have. The paths are those of a tree of shapes, and the layout words are
-- those of the shapes in use, and else 0.
pub record HasSizes (heap : Heap) : Type 0 where
  pub words : length heap.words ≡ marks_start heap.space
  pub shapes : AreShapes heap.paths
  pub layouts : (shape : ℕ) → shape < shapes_most
      → slice_get heap.words (layouts_start heap.space + shape) ≡ Some (layout_word heap.paths shape)

-- Cells stand in rows everywhere; the survivors have so many words; and they and the used words are no more than the
-- words of the young generation.
pub record HasRows (heap : Heap) : Type 0 where
  pub rows : List Row
  pub are : AreRows heap rows
  pub counted : survivors_of rows ≡ heap.survivors
  pub few : heap.survivors + heap.used ≤ heap.space.sizes.young

-- what a variable may hold: a reference is to an object's cell
abbrev pub IsHeld : Heap → Held → Type 0
IsHeld heap (held.Ref at) = (number : ℕ) × IsPlace heap number at
IsHeld heap _ = Unit {0}

-- the root words of the variable stand for something that it may hold
pub record HasRoot (heap : Heap) (variable : ℕ) : Type 0 where
  pub held : Held
  pub holds : Holds heap.space heap.words variable held
  pub is : IsHeld heap held

-- An object's cell has these slots: its own, and those of the store or table that its slot 1 refers to.
pub data HasSlotAt (heap : Heap) (cell : Cell) (words : List ℕ) : ℕ → ℕ → Type 0 where
  own : (offset word : ℕ) → Contains (scavenge_offsets cell.layout cell.length) offset → HasWord words offset word
      → HasSlotAt heap cell words (cell.at + offset) word
  beside : (store : ℕ) (other : Cell) (others : List ℕ) (offset word : ℕ) → HasWord words store_slot store
      → RefersTo heap store other others → Contains (scavenge_offsets other.layout other.length) offset
      → HasWord others offset word → HasSlotAt heap cell words (other.at + offset) word

-- a cell that belongs to one other: a store, a weak table, a box
abbrev pub IsOwnedKind : Kind → Type 0
IsOwnedKind kind.Store = Unit {0}
IsOwnedKind kind.Table = Unit {0}
IsOwnedKind kind.Boxed = Unit {0}
IsOwnedKind _ = ⊥

-- The slot at this address names a store, a weak table or a box: it is one of this object's, and refers to that.
pub record NamesFrom (heap : Heap) (owner : Cell) (slot named : ℕ) : Type 0 where
  pub words : List ℕ
  pub has : HasCell heap owner words
  pub object : IsTrue (is_object_kind owner.layout.kind)
  pub word : ℕ
  pub of_owner : HasSlotAt heap owner words slot word
  pub cell : Cell
  pub others : List ℕ
  pub refers : RefersTo heap word cell others
  pub owned : IsOwnedKind cell.layout.kind
  pub at : cell.at ≡ named

-- no two slots name one store, table or box
abbrev pub IsOwned : Heap → Type 0
IsOwned heap =
    (owner another : Cell) (slot other named : ℕ) → NamesFrom heap owner slot named → NamesFrom heap another other named
    → slot ≡ other

-- The heap is whole.
pub record Whole (heap : Heap) : Type 0 where
  pub sized : HasSizes heap
  pub rows : HasRows heap
  pub roots : (variable : ℕ) → variable < heap.space.variables → HasRoot heap variable
  pub sound : (cell : Cell) (words : List ℕ) → HasCell heap cell words → IsSoundCell heap cell words
  pub owned : IsOwned heap

-- Of an image: the words of eden behind the used ones, and those of each segment behind its cells, are 0.
pub record Blank (heap : Heap) : Type 0 where
  pub rows : List Row
  pub are : AreRows heap rows
  pub rest : (row : Row) (at : ℕ) → Contains rows row → row.end ≤ at → at < row.extent.start + row.extent.words
      → slice_get heap.words at ≡ Some 0
