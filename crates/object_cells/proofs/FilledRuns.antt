-- A run of words that is filled with a cell for an object, and a box behind it: these stand in it.
use Rattle.std.proofs.Common.{◌≡◌, ◌≢◌, ℕ, ◌+◌, ◌≤◌, ◌<◌, inl, inr, List, [], ◌∷◌, length, Some, slice_get, refl, sym}
use Rattle.std.proofs.Common.{◌∙◌, ap, subst, arith, IsTrue}
use Rattle.tagged_word.specs.declared.layout.Kind.TheVariants as kind
use Rattle.tagged_word.specs.Cells.{store_slot, is_object_kind}
use Rattle.page_space.specs.Extents.{Space, marks_start}
use Rattle.page_space.proofs.Starts.{marks_start_is}
use Rattle.nursery.specs.Young.{HasRoom, bumped}
use Rattle.cell_layout.specs.Cells.{IsRow}
use Rattle.write_barrier.specs.Seats.{heap_words, RestStays}
use Rattle.heap_model.specs.Types.{Kind, Cell}
use Rattle.heap_model.specs.Slots.{reference_word}
use Rattle.heap_model.specs.Heaps.{Heap, HasCell, words_of_cell}
use Rattle.heap_model.specs.Wholeness.{Whole, HasSizes}
use Rattle.heap_model.proofs.BoundHeaps.{none_in}
use Rattle.heap_model.proofs.CellOutcomes.{object_is_no_filler}
use Rattle.heap_model.proofs.CellsApart.{IsOfCell, first_of_cell}
use Rattle.write_barrier.specs.MutatorState.{Mutator, heap_of, IsTied}
use Rattle.object_cells.specs.CellWrites.{WritesOwnCells}
use Rattle.object_cells.specs.Contents.{next_at}
use Rattle.object_cells.specs.FilledRuns.{run_words, FillsRun}
use Rattle.object_cells.specs.Made.{IsStoreAt, content_need}
use Rattle.object_cells.specs.declared.content.SlotContent.{SlotContent}
use Rattle.object_cells.specs.declared.stores.Store.{Store}
use Rattle.object_cells.proofs.MadeBoxes.{made_boxes, BoxStands, row_with_box}
use Rattle.object_cells.proofs.NewStores.{IsLongCell, long_cell, store_cell}
use Rattle.object_cells.proofs.OwnCells.{cell_below_layouts}
use Rattle.object_cells.proofs.OwnPuts.{PutsOwn, own_sized, own_writes}
use Rattle.object_cells.proofs.StoreWords.{MakesStore}
use Rattle.object_cells.proofs.RunCells.{AreOfRegion, between}
use Rattle.object_cells.proofs.UnusedWords.{IsUnusedRun, next_run, run_beside, store_around}

-- a store is made of a run in the place of an object's
pub makes_store : {heap : Heap} {cell : Cell} {words before : List ℕ} {capacity at : ℕ} {store : Store}
    {holds : SlotContent} (object own : ℕ) → IsUnusedRun heap at (run_words (store_cell at capacity) holds) → Whole heap
    → HasCell heap cell words → length before ≡ marks_start heap.space → IsStoreAt heap object store
    → cell.layout.kind ≢ kind.Filler → store.capacity < capacity → IsOfCell cell (object + store_slot)
    → IsOfCell cell own → own ≢ object + store_slot
    → MakesStore before object own store capacity at holds
makes_store {heap} {at = at} {store} object own run whole has long is no_filler more of_slot of_own apart =
    let marks = marks_start_is heap.space in
    record {
      more = more;
      within = omega (arith, run.within, long, marks);
      other = omega (arith, is.within, long);
      apart = λ some. elim (store_around run is (omega arith) some) [
        | inl before ↦ inl before
        | inr behind ↦ inr (omega (arith, behind))
      ];
      slot = omega (arith, cell_below_layouts whole has of_slot, long, marks);
      own_in = omega (arith, cell_below_layouts whole has of_own, long, marks);
      named = run_beside (object + store_slot) run no_filler has of_slot;
      beside = run_beside own run no_filler has of_own;
      not_slot = apart;
    }

-- the row of the cells, and the words of the box
pub record FilledRow (heap : Heap) (first : Cell) (holds : SlotContent) : Type 0 where
  pub row : IsRow heap.space heap.words first.at (first.at + run_words first holds)
      (first ∷ made_boxes holds (first.at + first.size))
  pub box : BoxStands heap holds (first.at + first.size)

-- both stand there where the run was filled
pub filled_row : (heap : Heap) {before : List ℕ} {object own : ℕ} {first : Cell} {holds : SlotContent} → HasSizes heap
    → IsLongCell first → FillsRun before heap.words object own first holds
    → AreOfRegion heap.space first.at (first.at + run_words first holds) → FilledRow heap first holds
filled_row heap {first = first} {holds} sized long fills region =
    let end : ℕ = first.at + first.size in
    let cell = long_cell heap first sized long fills.header fills.counted
    (between first.at end region (omega arith) (omega arith)) in
    let box : BoxStands heap holds (first.at + first.size) = record {
      header = λ v is. (fills.box v is).header;
      raw = λ v is. (fills.box v is).raw;
      region = λ v is. between end (end + 2) region (omega arith) (omega (arith, ap content_need is));
    } in
    record {
      row = row_with_box heap first holds (first.at + run_words first holds) cell sized box (omega arith);
      box = box;
    }

-- A run was reserved and filled for an object whose cell stays, but for its slot for a store and one other word.
pub record FillsOwn (owner owned : Kind) (old new : Mutator) (cell first : Cell) (object own : ℕ)
    (holds : SlotContent) : Type 0 where
  pub tied : IsTied old
  pub whole : Whole (heap_of old)
  pub has : HasCell (heap_of old) cell (words_of_cell (heap_of old) cell)
  pub of_kind : cell.layout.kind ≡ owner
  pub of_object : IsTrue (is_object_kind owner)
  pub stands : cell.at ≡ object
  pub room : HasRoom old.young (run_words first holds)
  pub at : first.at ≡ next_at old
  pub long : IsLongCell first
  pub beside : RestStays old.seat new.seat
  pub paths : new.paths ≡ old.paths
  pub young : new.young ≡ bumped old.young (run_words first holds)
  pub fills : FillsRun (heap_words old.seat) (heap_words new.seat) object own first holds
  pub of_slot : IsOfCell cell (object + store_slot)
  pub of_own : IsOfCell cell own
  pub not_header : own ≢ object

module _ {owner owned : Kind} {old new : Mutator} {cell first : Cell} {object own : ℕ}
    {holds : SlotContent}
    (is : FillsOwn owner owned old new cell first object own holds) where
  -- the run
  pub own_run : IsUnusedRun (heap_of old) (next_at old) (run_words first holds)
  own_run = next_run old (run_words first holds) is.tied is.whole.rows is.room

  -- a word stays that is none of these, nor one of the run
  word_stays : (a : ℕ) → a ≢ object + store_slot → a ≢ own
      → (next_at old ≤ a → a < next_at old + run_words first holds → ⊥)
      → slice_get (heap_words new.seat) a ≡ slice_get (heap_words old.seat) a
  word_stays a not_slot not_own not_run =
      is.fills.stay a not_slot not_own
      (λ from below. not_run (omega (arith, is.at, from)) (omega (arith, is.at, below)))

  -- so words of the object's own cell were put
  pub own_puts : PutsOwn owner old new cell [] (run_words first holds) (heap_words new.seat)
  own_puts = record {
    tied = is.tied;
    whole = is.whole;
    has = is.has;
    of_kind = is.of_kind;
    stood = λ one among. absurd (none_in one among);
    room = is.room;
    puts = record { beside = is.beside; paths = is.paths; young = is.young; heap = refl };
    long = is.fills.long;
    stay = λ a not_cell not_others not_run. word_stays a
        (λ same. not_cell (record {
          from = omega (arith, same, is.of_slot.from);
          below = omega (arith, same, is.of_slot.below);
        }))
        (λ same. not_cell (record {
          from = omega (arith, same, is.of_own.from);
          below = omega (arith, same, is.of_own.below);
        })) not_run;
  }

  -- the cells stand in the run
  pub own_row : FilledRow (heap_of new) first holds
  own_row =
      let space = is.beside.space in
      filled_row (heap_of new) (own_sized own_puts) is.long is.fills
      (subst (λ at. AreOfRegion new.seat.space at (at + run_words first holds)) (sym is.at)
      (subst (λ (s : Space). AreOfRegion s (next_at old) (next_at old + run_words first holds)) (sym space)
      own_run.region))

  -- and cells of the object were written
  pub filled_writes : WritesOwnCells owner owned (heap_of old) (heap_of new) cell cell []
      (first ∷ made_boxes holds (first.at + first.size))
  filled_writes =
      let none = first_of_cell is.has in
      let no_filler =
      object_is_no_filler cell.layout.kind (ap is_object_kind is.of_kind ∙ is.of_object) in
      own_writes (first ∷ made_boxes holds (first.at + first.size)) own_puts
      (word_stays cell.at (λ same. omega (arith, same, is.stands)) (λ same. is.not_header (sym same ∙ is.stands))
      (run_beside cell.at own_run no_filler is.has none)) (λ one among. absurd (none_in one among))
      (subst (λ at. IsRow new.seat.space (heap_words new.seat) at (at + run_words first holds)
      (first ∷ made_boxes holds (first.at + first.size))) is.at own_row.row)

  -- the word of its slot for the cell refers to this
  pub filled_named : slice_get (heap_words new.seat) (cell.at + store_slot) ≡ Some (reference_word first.at)
  filled_named = ap (λ n. slice_get (heap_words new.seat) (n + store_slot)) is.stands ∙ is.fills.named
