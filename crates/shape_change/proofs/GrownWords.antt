-- The words where a store was made for a field that is new, and a box behind it where the field needs one.
use Rattle.std.proofs.Common.{◌≡◌, ℕ, ◌+◌, ◌≤◌, ◌<◌, List, ◌∷◌, Some, slice_get, refl, sym, ◌∙◌, ap, subst, arith}
use Rattle.std.specs.Prelude.{slice_set}
use Rattle.std.proofs.lemmas.List.{set_comm}
use Rattle.heap_model.specs.Types.{Header, Value, Cell, Held}
use Rattle.tagged_word.specs.Headers.{header_bits}
use Rattle.tagged_word.specs.Cells.{store_head, store_slot}
use Rattle.object_graph.specs.Graphs.{Graph, PlainObject}
use Rattle.page_space.specs.Extents.{Space, marks_start}
use Rattle.shape_tree.specs.Shapes.{shape_path}
use Rattle.write_barrier.specs.Seats.{heap_words}
use Rattle.heap_model.specs.Slots.{reference_word}
use Rattle.heap_model.specs.Needs.{grown}
use Rattle.heap_model.proofs.CellOutcomes.{object_is_no_filler}
use Rattle.heap_model.proofs.CellsApart.{IsOfCell, first_of_cell}
use Rattle.write_barrier.specs.MutatorState.{Mutator, heap_of}
use Rattle.object_cells.specs.declared.stores.Store.{Store}
use Rattle.object_cells.specs.Contents.{next_at}
use Rattle.object_cells.specs.FilledRuns.{run_words, FillsRun}
use Rattle.object_cells.specs.Made.{IsStoreAt, store_content, content_word, with_content, begun_store}
use Rattle.object_cells.proofs.FilledRuns.{makes_store, FilledRow, filled_row}
use Rattle.object_cells.proofs.MadeBoxes.{made_boxes, with_content_set}
use Rattle.object_cells.proofs.NewStores.{store_cell, store_is_long}
use Rattle.object_cells.proofs.OwnCells.{cell_below_layouts}
use Rattle.object_cells.proofs.OwnPlaces.{plain_is_object}
use Rattle.object_cells.proofs.RunCells.{AreOfRegion}
use Rattle.object_cells.proofs.SlotsNow.{plain_cell_size}
use Rattle.object_cells.proofs.StoreRuns.{filled_run, fills_run, own_put}
use Rattle.object_cells.proofs.StoreWords.{MakesStore}
use Rattle.object_cells.proofs.TouchedCells.{IsBeside}
use Rattle.object_cells.proofs.UnusedWords.{IsUnusedRun, next_run, run_beside}
use Rattle.shape_change.specs.Additions.{AddsToNewStore, added_path, count_of, behind_cap}
use Rattle.shape_change.specs.Deletions.{shaped_bits}
use Rattle.shape_change.proofs.AddedWords.{PutsOver, over_sized, over_space}
use Rattle.shape_change.proofs.AddedShown.{Adding}

-- What is known where a field comes to a store that is made.
pub record StoreGrowing (old new : Mutator) (graph : Graph) (plain : PlainObject) (object : ℕ) (header : Header)
    (name : ℕ) (value : Held) (what : Value) (store : Store) : Type 0 where
  pub known : Adding old graph plain object header name value what
  pub behind : (shape_path old.paths header.shape).cap ≤ count_of old.paths header.shape
  pub is : IsStoreAt (heap_of old) object store
  pub full : behind_cap old.paths header.shape ≡ store.capacity
  pub adds : AddsToNewStore old new object header name value store

module _ {old new : Mutator} {graph : Graph} {plain : PlainObject} {object : ℕ} {header : Header} {name : ℕ}
    {value : Held} {what : Value} {store : Store}
    (growing : StoreGrowing old new graph plain object header name value what store) where
  -- the store that is made, the address of the box,
  abbrev pub new_store : Cell
  new_store = store_cell (next_at old) (grown store.capacity)

  abbrev pub box : ℕ
  box = next_at old + (store_head + grown store.capacity)

  -- and the cells that are made
  abbrev pub made : List Cell
  made = new_store ∷ made_boxes (store_content value) box

  -- how many words are reserved
  abbrev pub need : ℕ
  need = run_words new_store (store_content value)

  pub run : IsUnusedRun (heap_of old) (next_at old) need
  run = next_run old need growing.known.can.tied growing.known.shows.shows.whole.rows growing.adds.room

  -- no word of the object's cell is one of them
  pub beside_run : {at : ℕ} → IsOfCell growing.known.cell at → IsBeside (next_at old) (next_at old + need) at
  beside_run {at} of_cell =
      let known = growing.known in
      run_beside at run (object_is_no_filler known.cell.layout.kind (plain_is_object known.shown.of_kind)) known.has
      of_cell

  -- the header and the slot for the store are words of the object's cell
  of_header : IsOfCell growing.known.cell object
  of_header = subst (IsOfCell growing.known.cell) growing.known.stands (first_of_cell growing.known.has)

  pub of_slot : IsOfCell growing.known.cell (object + store_slot)
  of_slot =
      let known = growing.known in
      let size = plain_cell_size known.has known.shown.of_kind in
      record { from = omega (arith, known.stands); below = omega (arith, known.stands, size) }

  -- so few slots has the store that is full
  few : store.capacity < 64
  few = omega (arith, growing.full, growing.known.can.few)

  -- the store is made of the run
  pub makes : MakesStore (heap_words growing.adds.mid.seat) object object store (grown store.capacity) (next_at old)
      (store_content value)
  makes =
      makes_store object object run growing.known.shows.shows.whole growing.known.has
      (growing.adds.path.sized.words ∙ ap (λ (s : Space). marks_start s) growing.adds.path.beside.space) growing.is
      (object_is_no_filler growing.known.cell.layout.kind (plain_is_object growing.known.shown.of_kind))
      (omega (arith, few)) of_slot of_header (λ same. omega (arith, same))

  -- the words are those with the run filled, and the header
  abbrev pub bits : ℕ
  bits = shaped_bits header growing.adds.next

  pub words_are : heap_words new.seat ≡ filled_run (heap_words growing.adds.mid.seat) object object bits store
      store.capacity
      (grown store.capacity) (next_at old) (store_content value)
  words_are =
      let begun = begun_store (heap_words growing.adds.mid.seat) store (grown store.capacity) (next_at old) in
      let place : ℕ = next_at old + (store_head + store.capacity) in
      let word : ℕ = content_word (store_content value) box in
      let named : ℕ = reference_word (next_at old) in
      growing.adds.words.heap
      ∙ ap (λ all. slice_set (slice_set all place word) object bits)
      (with_content_set begun (store_content value) box (object + store_slot) named
      (λ from below. makes.named (omega (arith, from)) (omega (arith, below))))
      ∙ ap (λ all. slice_set all object bits)
      (set_comm (with_content begun (store_content value) box) (object + store_slot) place named word
      (λ same. makes.named (omega (arith, same)) (omega (arith, same))))

  -- so the run is filled
  pub fills : FillsRun (heap_words growing.adds.mid.seat) (heap_words new.seat) object object new_store
      (store_content value)
  fills =
      subst (λ all. FillsRun (heap_words growing.adds.mid.seat) all object object new_store (store_content value))
      (sym words_are) (fills_run makes bits store.capacity refl)

  -- the words that are put are the slot for the store and the header, and words that were reserved
  pub over : PutsOver old growing.adds.mid new (added_path old.paths header.shape name value) growing.known.cell
      growing.adds.next (object + store_slot) (reference_word (next_at old)) need (heap_words new.seat)
  over =
      let known = growing.known in
      let put = growing.adds.words in
      record {
        tied = known.can.tied;
        room = growing.adds.room;
        adds = growing.adds.path;
        puts = record { beside = put.beside; paths = put.paths; young = put.young; heap = refl };
        long = fills.long;
        header = ap (slice_get (heap_words new.seat)) known.stands ∙ ap (λ all. slice_get all object) words_are
            ∙ own_put makes bits store.capacity refl
            ∙ ap (λ (h : Header). Some (header_bits (record h { shape = growing.adds.next }))) (sym known.headed);
        put = fills.named;
        stay = λ a not_cell not_at not_new. fills.stay a not_at (λ same. not_cell (same ∙ sym known.stands)) not_new;
        cell_below = cell_below_layouts known.shows.shows.whole known.has (first_of_cell known.has);
        at_below = cell_below_layouts known.shows.shows.whole known.has of_slot;
      }

  -- the cells stand in the run
  pub filled : FilledRow (heap_of new) new_store (store_content value)
  filled =
      let space = over_space over in
      filled_row (heap_of new) (over_sized over)
      (store_is_long (next_at old) (grown store.capacity) (omega (arith, few)))
      fills (subst (λ (s : Space). AreOfRegion s (next_at old) (next_at old + need)) (sym space) run.region)
