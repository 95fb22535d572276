-- How many slots the stores of objects have, property stores and those of lists, and how many pairs the tables of weak
-- maps; and what becomes of them.
use Rattle.std.specs.Prelude.{◌≡◌, ◌≢◌, ℕ, ◌+◌, ◌^◌, ◌<◌, ◌⊎◌, List, ◌++◌, Contains, slice_get, Some, IsTrue}
use Rattle.heap_model.specs.Types.{Kind, Cell}
use Rattle.tagged_word.specs.declared.layout.Kind.TheVariants as kind
use Rattle.tagged_word.specs.Cells.{store_slot, is_free_kind, is_object_kind}
use Rattle.heap_model.specs.Heaps.{Heap, HasCell, words_of_cell}
use Rattle.heap_model.specs.Kinds.{HasWord}
use Rattle.heap_model.specs.Slots.{reference_word, IsPlace}
use Rattle.heap_model.specs.Wholeness.{Whole, NamesFrom}
use Rattle.heap_model.specs.Needs.{capacity_at}
use Rattle.write_barrier.specs.MutatorState.{Mutator, heap_of}
use Rattle.object_cells.specs.Contents.{next_at}
use Rattle.object_cells.specs.CellWrites.{Owns, WritesOwnCells}
use Rattle.object_cells.specs.OwnWords.{ChangesOwnWords}

-- A cell stands behind a change of the object at the address: it stood before, with the same words; or it is free or a
-- box, which have no slots; or it is the object's, or the store or table that the object names.
pub data IsOldOrOwn (old new : Heap) (at : ℕ) (cell : Cell) (words : List ℕ) : Type 0 where
  stood : HasCell old cell words → IsOldOrOwn old new at cell words
  free : IsTrue (is_free_kind cell.layout.kind) → IsOldOrOwn old new at cell words
  boxed : cell.layout.kind ≡ kind.Boxed → IsOldOrOwn old new at cell words
  itself : cell.at ≡ at → IsOldOrOwn old new at cell words
  named : (owner : Cell) (slot : ℕ) → owner.at ≡ at → NamesFrom new owner slot cell.at
      → IsOldOrOwn old new at cell words

-- Of the words before the layout words only those of the object at the address have changed, and those of the run in
-- which cells were made, from an address up to another. The object has a store of so many slots, or a table of so many
-- pairs, and each other object one of as many as before. Each object stands where it stood, with the same words in its
-- own cell but for the one that is changed, and none is made. No cell with slots stands there that did not, but the
-- object's own.
pub record ChangesObject (old new : Heap) (from to at capacity : ℕ) : Type 0 where
  pub words : ChangesOwnWords old new from to at
  pub own : capacity_at new at ≡ capacity
  pub others : (number other : ℕ) → IsPlace old number other → other ≢ at
      → capacity_at new other ≡ capacity_at old other
  pub stays : (number other : ℕ) → IsPlace old number other → IsPlace new number other
  pub stand : (cell : Cell) (words : List ℕ) → HasCell old cell words → IsTrue (is_object_kind cell.layout.kind)
      → cell.at ≢ at → HasCell new cell words
  pub none_made : (number other : ℕ) → IsPlace new number other → IsPlace old number other
  pub cells : (cell : Cell) (words : List ℕ) → HasCell new cell words → IsOldOrOwn old new at cell words

-- The object at the address was changed so, and the run in which cells were made is that of so many words, from where
-- the next cell is made.
abbrev pub ChangesObjectUsing : Mutator → Mutator → (need at capacity : ℕ) → Type 0
ChangesObjectUsing old new need at capacity =
    ChangesObject (heap_of old) (heap_of new) (next_at old) (next_at old + need) at capacity

-- Words of one object's own cells were written in a whole heap, and stores, tables and boxes made. Each store or table
-- that was written or made is the one to which the object refers then.
pub record WritesBeside (owner owned : Kind) (old new : Heap) (cell came : Cell) (others made : List Cell)
    : Type 0 where
  pub owns : Owns owner owned
  pub whole : Whole old
  pub writes : WritesOwnCells owner owned old new cell came others made
  pub belong : (other : Cell) → Contains others other → (slot : ℕ) × NamesFrom old cell slot other.at
  pub kinds : (other : Cell) → Contains made other → (other.layout.kind ≡ owned) ⊎ (other.layout.kind ≡ kind.Boxed)
  pub stores : (other : Cell) → Contains (others ++ made) other → other.layout.kind ≡ owned
      → HasWord (words_of_cell new came) store_slot (reference_word other.at)

-- Where the word by which the object refers to its store or table stays, each object keeps the capacity of its own.
abbrev pub CapacitiesStay : Type 0
CapacitiesStay =
    (owner owned : Kind) (old new : Heap) (cell came : Cell) (others made : List Cell)
    → (beside : WritesBeside owner owned old new cell came others made)
    → slice_get new.words (cell.at + store_slot) ≡ slice_get old.words (cell.at + store_slot)
    → ChangesObject old new beside.writes.from beside.writes.to cell.at (capacity_at old cell.at)

-- Where that word refers to a store or table that was made, the object has as many slots or pairs as this one.
abbrev pub CapacitiesGrow : Type 0
CapacitiesGrow =
    (owner owned : Kind) (old new : Heap) (cell came : Cell) (others made : List Cell) (store : Cell)
    → (beside : WritesBeside owner owned old new cell came others made) → Contains made store
    → store.layout.kind ≡ owned → store.at < 2 ^ 32
    → slice_get new.words (cell.at + store_slot) ≡ Some (reference_word store.at)
    → ChangesObject old new beside.writes.from beside.writes.to cell.at store.length
