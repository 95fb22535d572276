-- A change of the fields of one plain object, slot by slot.
use Rattle.std.specs.Prelude.{◌≡◌, ℕ, ◌+◌, ◌<◌, ◌≤◌, List, ◌∷◌}
use Rattle.std.specs.Prelude.{length, Contains, Some, slice_get, nat_lt, IsTrue}
use Rattle.tagged_word.specs.declared.layout.Kind.TheVariants as kind
use Rattle.tagged_word.specs.Cells.{proto_slot, plain_head, scavenge_offsets}
use Rattle.object_graph.specs.declared.object.Object.TheVariants.{Plain}
use Rattle.heap_model.specs.Types.{Field, Cell}
use Rattle.object_graph.specs.Paths.{path_of, with_path}
use Rattle.object_graph.specs.Graphs.{Graph, PlainObject}
use Rattle.object_graph.specs.Reach.{is_marked, reach}
use Rattle.object_graph.specs.Limits.{paths_most}
use Rattle.shape_tree.specs.Shapes.{shape_path}
use Rattle.heap_model.specs.Heaps.{Heap, words_of_cell}
use Rattle.heap_model.specs.Slots.{hole_word}
use Rattle.heap_model.specs.Kinds.{HasWord, HasSlots}
use Rattle.heap_model.specs.Wholeness.{Whole}
use Rattle.heap_model.specs.Showing.{ShowsField, ShowsPlain, ShowsProto}
use Rattle.write_barrier.specs.MutatorState.{Mutator, heap_of, MainShows}
use Rattle.write_barrier.specs.Recording.{Remembers}
use Rattle.object_cells.specs.Uses.{TakesRun}
use Rattle.object_cells.specs.CellWrites.{reshaped, WritesOwnCells}
use Rattle.object_cells.specs.CycleChanges.{KeepsCellsOpen}
use Rattle.object_cells.specs.OwnSlots.{IsNoBoxOf, Refills}
use Rattle.object_cells.specs.PlainObjects.{ShowsRefilled}
use Rattle.object_cells.specs.Refills.{AreNewFields, RefillsCells}

-- Words of a plain object's own cells were written, of which its own has the header of this shape then.
abbrev pub WritesFields : Heap → Heap → Cell → ℕ → List Cell → List Cell → Type 0
WritesFields old new cell shape others made =
    WritesOwnCells kind.Plain kind.Store old new cell (reshaped new.paths cell shape) others made

-- The slot of this number of a plain object's cell is tagged: it is in the property store, or a used in-object slot
-- that is not raw.
abbrev pub IsTaggedSlot : Cell → ℕ → Type 0
IsTaggedSlot cell slot =
    slot < cell.layout.cap → Contains (scavenge_offsets cell.layout cell.length) (plain_head + slot)

-- the slot of this number is tagged, and the word is its
abbrev pub HasTagged : Cell → List ℕ → ℕ → ℕ → Type 0
HasTagged cell slots slot word = HasWord slots slot word × IsTaggedSlot cell slot

-- What a slot shows: the field that the slot of number `origin` showed before, of the same representation and value,
-- and in an in-object slot exactly where that was in one; or its field anew.
pub data ShowsSlot (new : Heap) (cell : Cell) (slots : List ℕ) (others : List Cell) (before : List Field)
    (origin slot word : ℕ) (field : Field) : Type 0 where
  kept : (was : Field) → slice_get before origin ≡ Some was → was.rep ≡ field.rep → was.value ≡ field.value
      → HasWord slots origin word → nat_lt slot cell.layout.cap ≡ nat_lt origin cell.layout.cap
      → (IsTaggedSlot cell origin → IsNoBoxOf others word)
      → ShowsSlot new cell slots others before origin slot word field
  fresh : ShowsField new (nat_lt slot cell.layout.cap) word field.rep field.value
      → ShowsSlot new cell slots others before origin slot word field

-- The fields of a plain object become others, slot by slot, and its prototype stays. `others` are cells that belong to
-- the object and were written, and `made` those that were made: stores, of which the object has the one, and boxes.
pub record RefillsSlots (old new : Heap) (cell : Cell) (shape : ℕ) (others made : List Cell) (before after : List Field)
    : Type 0 where
  -- the slots before and after
  pub slots : List ℕ
  pub were : HasSlots old (words_of_cell old cell) slots
  pub now : List ℕ
  pub are : HasSlots new (words_of_cell new (reshaped new.paths cell shape)) now
  -- the prototype stays
  pub proto : slice_get (words_of_cell new (reshaped new.paths cell shape)) proto_slot
      ≡ slice_get (words_of_cell old cell) proto_slot
  -- the shape is that of the fields, for which there are slots
  pub path : shape_path new.paths shape ≡ path_of cell.layout.cap after
  pub enough : length after ≤ length now
  -- from where the word of each tagged slot comes, and what each slot shows
  pub refills : Refills kind.Store old new cell (reshaped new.paths cell shape) others made (HasTagged cell slots)
      (HasTagged (reshaped new.paths cell shape) now)
  pub each_field : (slot word : ℕ) (field : Field) → slice_get after slot ≡ Some field → HasWord now slot word
      → ShowsSlot new cell slots others before (refills.origin slot) slot word field
  pub rest : (slot word : ℕ) → length after ≤ slot → HasWord now slot word → word ≡ hole_word

-- Then the change of cells is one of an object's own cells, and the object's shows the fields.
abbrev pub SlotsRefill : Type 0
SlotsRefill =
    (old new : Heap) (plain : PlainObject) (cell : Cell) (shape : ℕ) (others made : List Cell) (fields : List Field)
    → Whole old → cell.header.object ≡ plain.number → cell.layout.cap ≡ plain.cap
    → ShowsPlain old cell (words_of_cell old cell) plain.cap plain.fields
    → ShowsProto old (words_of_cell old cell) plain.proto
    → WritesFields old new cell shape others made
    → RefillsSlots old new cell shape others made plain.fields fields
    → RefillsCells old new plain fields (cell ∷ others) (reshaped new.paths cell shape ∷ others) made

-- So a heap that showed a graph shows it with these fields in the object, where their path was added.
abbrev pub WrittenFieldsShow : Type 0
WrittenFieldsShow =
    (old new : Mutator) (graph : Graph) (plain : PlainObject) (cell : Cell) (shape : ℕ) (others made : List Cell)
    (fields : List Field) → MainShows old graph
    → slice_get graph.objects plain.number ≡ Some (Plain plain.cap plain.proto plain.fields)
    → IsTrue (is_marked (reach graph) plain.number)
    → cell.header.object ≡ plain.number → cell.layout.cap ≡ plain.cap
    → ShowsPlain (heap_of old) cell (words_of_cell (heap_of old) cell) plain.cap plain.fields
    → AreNewFields graph fields
    → with_path (Some paths_most) graph.paths (path_of plain.cap fields) ≡ Some new.paths
    → TakesRun old new made
    → WritesFields (heap_of old) (heap_of new) cell shape others made
    → RefillsSlots (heap_of old) (heap_of new) cell shape others made plain.fields fields
    → Remembers old new (cell ∷ others) (reshaped new.paths cell shape ∷ others) made
    → KeepsCellsOpen old new (reshaped new.paths cell shape) others
    → ShowsRefilled new graph plain fields
