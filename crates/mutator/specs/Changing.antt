-- Which words of a heap a command changes, and which cells stand after it.
use Rattle.std.specs.Prelude.{◌≡◌, ℕ, ◌<◌, ◌≤◌, List, IsTrue, slice_get}
use Rattle.tagged_word.specs.declared.layout.Kind.TheVariants as kind
use Rattle.tagged_word.specs.Cells.{is_free_kind}
use Rattle.page_space.specs.Extents.{roots_start}
use Rattle.heap_model.specs.Types.{Cell, Command}
use Rattle.object_graph.specs.Graphs.{Graph}
use Rattle.graph_laws.specs.Laws.{MayChange}
use Rattle.heap_model.specs.Heaps.{Heap, HasCell}
use Rattle.heap_model.specs.Slots.{IsPlace}
use Rattle.live_cells.specs.Laws.{BelongsToReached}
use Rattle.object_cells.specs.OwnWords.{IsOwnWord}

-- The word belongs to the object that the command may change: to its cell, or to its store, its weak table or one of
-- its boxes.
pub record IsChangedWord (heap : Heap) (graph : Graph) (command : Command) (word : ℕ) : Type 0 where
  pub number : ℕ
  pub may : MayChange graph command number
  pub at : ℕ
  pub place : IsPlace heap number at
  pub own : IsOwnWord heap at word

-- Of the words before the roots the command changes only those of the object that it may change, and those from an
-- address up to another.
abbrev pub KeepsOtherWords : Heap → Heap → (from to : ℕ) → Graph → Command → Type 0
KeepsOtherWords old new from to graph command =
    (word : ℕ) → word < roots_start old.space → (IsChangedWord old graph command word → ⊥)
    → (from ≤ word → word < to → ⊥) → slice_get new.words word ≡ slice_get old.words word

-- A cell may stand after a command that leads to a graph: it stood before, with the same words; or it is free or a box,
-- which have no slots; or it belongs to an object that can be reached then.
pub data MayStandAfter (old new : Heap) (after : Graph) (cell : Cell) (words : List ℕ) : Type 0 where
  stood : HasCell old cell words → MayStandAfter old new after cell words
  free : IsTrue (is_free_kind cell.layout.kind) → MayStandAfter old new after cell words
  boxed : cell.layout.kind ≡ kind.Boxed → MayStandAfter old new after cell words
  reached : BelongsToReached new after cell.at → MayStandAfter old new after cell words

-- no other cell stands there
abbrev pub MakesNoOtherCell : Heap → Heap → Graph → Type 0
MakesNoOtherCell old new after =
    (cell : Cell) (words : List ℕ) → HasCell new cell words → MayStandAfter old new after cell words
