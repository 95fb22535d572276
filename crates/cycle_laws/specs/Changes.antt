-- What a command leaves of an open cycle, told by the cells that went, came and were made.
use Rattle.std.specs.Prelude.{◌≡◌, ◌<◌, ◌≤◌, ◌⊎◌, ℕ, List, [], ◌∷◌, ◌++◌, length, Contains, IsTrue}
use Rattle.tagged_word.specs.Cells.{is_object_kind, is_free_kind}
use Rattle.page_space.specs.Extents.{eden_start}
use Rattle.handle_roots.specs.declared.held.Held.TheVariants as held
use Rattle.object_graph.specs.Graphs.{Graph, make}
use Rattle.object_graph.specs.Reach.{is_marked, reach}
use Rattle.heap_model.specs.Types.{Object, Cell, Held}
use Rattle.heap_model.specs.Heaps.{Heap, HasCell, words_of_cell}
use Rattle.heap_model.specs.Slots.{IsPlace}
use Rattle.heap_model.specs.Wholeness.{IsOwnedKind, Whole}
use Rattle.heap_model.specs.Showing.{Shows}
use Rattle.heap_model.specs.Changes.{CellsChange, IsOwnOf, IsNewPlace, IsOwnChange, IsGraphChange}
use Rattle.heap_model.specs.Laws.{RefersToNothing, ReachesOneMore, bound}
use Rattle.live_cells.specs.Laws.{BelongsToReached}
use Rattle.live_cells.specs.Live.{HasSlotTo, HasEntry}
use Rattle.mark_world.specs.Cycles.{Cycle}
use Rattle.cycle_state.specs.Keeping.{IsKept, KeepsClosed}

-- The cycle goes on with what came to stand at new places: nothing that is born goes; what joins what is born stood
-- nowhere before; each cell that came to a new place of a page has joined, if it is not free; and each that was made is
-- young.
pub record JoinsNewCells (old new : Heap) (cycle later : Cycle) (came made : List Cell) : Type 0 where
  pub reached : later.reached ≡ cycle.reached
  pub counted : later.made ≡ cycle.made
  pub dead : later.dead ≡ cycle.dead
  pub stays : (at : ℕ) → Contains cycle.born at → Contains later.born at
  pub joined : (at : ℕ) → Contains later.born at → Contains cycle.born at ⊎ IsNewPlace old at
  pub new_born : (cell : Cell) → Contains came cell → (IsTrue (is_free_kind cell.layout.kind) → ⊥)
      → IsNewPlace old cell.at → IsKept new later.born cell.at
  pub young : (cell : Cell) → Contains made cell → eden_start new.space ≤ cell.at

-- a slot that marking visits, of an object that went or of what it owned, referred to the address
pub record WasTargetOf (old : Heap) (gone : List Cell) (at : ℕ) : Type 0 where
  pub from : ℕ
  pub slot : HasSlotTo old from at
  pub own : IsOwnOf old gone slot.cell

-- a kept weak table had a pair with this key, whose value was what stands at the address
pub record WasEntry (old : Heap) (born : List ℕ) (key at : ℕ) : Type 0 where
  pub table : ℕ
  pub kept : IsKept old born table
  pub entry : HasEntry old table key at

-- an object that can be reached stands at the address
pub record IsReachedPlace (heap : Heap) (graph : Graph) (at : ℕ) : Type 0 where
  pub number : ℕ
  pub place : IsPlace heap number at
  pub reached : IsTrue (is_marked (reach graph) number)

-- a store, a weak table or a box stands at the address
pub record IsOwnedAt (heap : Heap) (at : ℕ) : Type 0 where
  pub cell : Cell
  pub words : List ℕ
  pub has : HasCell heap cell words
  pub stands : cell.at ≡ at
  pub owned : IsOwnedKind cell.layout.kind

-- What cells that came or were made refer to. Each object's cell that came is of an object that can be reached. Each
-- cell refers to nothing, or belongs to such an object. Where a slot of theirs that marking visits refers to a store, a
-- table or a box, such a slot of what went referred to it, or it stands at a new place. Each pair of theirs was a kept
-- table's, or its value is an object that can be reached, or stands at a new place.
pub record ReferToKept (old new : Heap) (after : Graph) (cycle : Cycle) (gone came made : List Cell) : Type 0 where
  pub objects : (cell : Cell) → Contains came cell → IsTrue (is_object_kind cell.layout.kind)
      → IsTrue (is_marked (reach after) cell.header.object)
  pub belong : (cell : Cell) → Contains (came ++ made) cell
      → RefersToNothing cell (words_of_cell new cell) ⊎ BelongsToReached new after cell.at
  pub slots : (from at : ℕ) (slot : HasSlotTo new from at) → Contains (came ++ made) slot.cell → IsOwnedAt new at
      → WasTargetOf old gone at ⊎ IsNewPlace old at
  pub pairs : (table key at : ℕ) (entry : HasEntry new table key at) → Contains (came ++ made) entry.cell
      → WasEntry old cycle.born key at ⊎ (IsReachedPlace new after at ⊎ IsNewPlace old at)

-- Where a command changes cells so, what is kept stays closed.
abbrev pub ChangesKeepClosed : Type 0
ChangesKeepClosed =
    (old new : Heap) (before after : Graph) (cycle later : Cycle) (gone came made : List Cell) → Shows old before
    → Shows new after → CellsChange old new gone came made → IsOwnChange old new gone came made
    → IsGraphChange old new before after gone came made → cycle.made ≤ length before.objects
    → JoinsNewCells old new cycle later came made → ReferToKept old new after cycle gone came made
    → KeepsClosed old cycle → KeepsClosed new later

-- What is kept stays closed where a variable is bound anew, if the cell of each object that can be reached then is
-- kept.
abbrev pub BindingsKeepClosed : Type 0
BindingsKeepClosed =
    (heap : Heap) (after : Graph) (variable : ℕ) (one : Held) (cycle : Cycle) → variable < heap.space.variables
    → Whole heap → Shows (bound heap variable one) after
    → ((number at : ℕ) → IsTrue (is_marked (reach after) number) → IsPlace heap number at → IsKept heap cycle.born at)
    → KeepsClosed heap cycle → KeepsClosed (bound heap variable one) cycle

-- It does where a young object that refers to nothing is made, with the next number, and bound to a variable.
abbrev pub NewObjectsKeepClosed : Type 0
NewObjectsKeepClosed =
    (old new : Heap) (before : Graph) (variable : ℕ) (cell : Cell) (what : Object) (cycle : Cycle)
    → variable < new.space.variables → Shows old before → Whole new → CellsChange old new [] [] (cell ∷ [])
    → IsTrue (is_object_kind cell.layout.kind)
    → RefersToNothing cell (words_of_cell new cell) → eden_start new.space ≤ cell.at
    → cycle.made ≤ length before.objects → cell.header.object ≡ length before.objects
    → ReachesOneMore before (make before variable what) (length before.objects)
    → Shows (bound new variable (held.Ref cell.at)) (make before variable what) → KeepsClosed old cycle
    → KeepsClosed (bound new variable (held.Ref cell.at)) cycle
