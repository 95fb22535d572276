-- A field that comes to a slot that the property store has is shown, in a box where it needs one.
use Rattle.std.proofs.Common.{◌≡◌, ℕ, ◌+◌, ◌≤◌, ◌<◌, false, List, ◌∷◌, length, sym}
use Rattle.std.proofs.Common.{◌∙◌, ap, subst, arith, inl, nat_lt, slice_get, Some, Contains}
use Rattle.std.specs.Prelude.{ℤ, slice_set}
use Rattle.std.proofs.lemmas.Bool.{false≢true}
use Rattle.std.proofs.lemmas.Bool.Decides.{nat_tests}
use Rattle.std.proofs.lemmas.List.Elements.{Contains-append_right}
use Rattle.heap_model.specs.Types.{Header, Value, Cell, Held}
use Rattle.tagged_word.specs.Cells.{store_head}
use Rattle.object_graph.specs.Values.{rep_of}
use Rattle.object_graph.specs.Objects.{with_field}
use Rattle.object_graph.specs.Graphs.{Graph, PlainObject}
use Rattle.page_space.specs.Extents.{Space, marks_start}
use Rattle.shape_tree.specs.Shapes.{shape_path}
use Rattle.cell_layout.specs.Cells.{IsRow}
use Rattle.write_barrier.specs.Seats.{heap_words}
use Rattle.heap_model.specs.Heaps.{HasCell, words_of_cell}
use Rattle.heap_model.specs.Showing.{ShowsField}
use Rattle.heap_model.proofs.CellOutcomes.{object_is_no_filler}
use Rattle.heap_model.proofs.CellsApart.{IsOfCell, first_of_cell}
use Rattle.write_barrier.specs.MutatorState.{Mutator, heap_of}
use Rattle.write_barrier.specs.Recording.{touched_one, touched_then}
use Rattle.object_cells.specs.declared.content.SlotContent.TheVariants as content
use Rattle.object_cells.specs.declared.stores.Store.{Store}
use Rattle.object_cells.specs.CellWrites.{reshaped}
use Rattle.object_cells.specs.PlainObjects.{ShowsRefilled}
use Rattle.object_cells.specs.Contents.{next_at}
use Rattle.shape_change.specs.Additions.{AddsToStore, added_path, count_of, behind_cap}
use Rattle.object_cells.specs.Made.{IsStoreAt, content_need}
use Rattle.shape_change.specs.Additions.{with_shape}
use Rattle.shape_change.specs.Shifts.{field_touch}
use Rattle.object_cells.specs.Made.{store_content, with_content}
use Rattle.object_cells.specs.Made.{content_word, content_touch}
use Rattle.shape_change.proofs.FullStores.{length-slots}
use Rattle.object_cells.proofs.NumberedSlots.{IsNumbered}
use Rattle.object_cells.proofs.OwnCells.{cell_below_layouts, beside_not_header}
use Rattle.object_cells.proofs.StoresRead.{StoredAt, stored_at}
use Rattle.heap_model.specs.Needs.{capacity_at}
use Rattle.heap_model.specs.Remembered.{Touch}
use Rattle.object_cells.specs.Capacities.{ChangesObjectUsing}
use Rattle.object_cells.proofs.OwnSteps.{written_places_stay}
use Rattle.object_cells.proofs.OwnerWrites.{plain_owns}
use Rattle.object_cells.proofs.RunCells.{AreOfRegion}
use Rattle.object_cells.proofs.UnusedWords.{IsUnusedRun, next_before_marks, next_run, run_beside}
use Rattle.object_cells.proofs.HeldNeeds.{new_value_held}
use Rattle.shape_change.proofs.AddedContents.{content_shows}
use Rattle.object_cells.specs.SlotChanges.{HasTagged}
use Rattle.object_cells.proofs.ContentValues.{content_comes, is_made_box}
use Rattle.shape_change.proofs.AddedFields.{new_field}
use Rattle.shape_change.proofs.AddedWords.{PutsOver, over_last, over_sized, over_space, over_run, last_stays}
use Rattle.shape_change.proofs.AddedShown.{Adding, added_shows}
use Rattle.object_cells.proofs.MadeBoxes.{made_boxes, BoxStands, made_row, made_box, boxed_integer, refers_to_made}
use Rattle.object_cells.proofs.MadeBoxes.{made_boxed}
use Rattle.object_cells.proofs.MadeBoxes.{made_sound, length-with_content, with_content_stays, put_box}
use Rattle.object_cells.proofs.NewBoxes.{box_cell}
use Rattle.object_cells.proofs.OwnPlaces.{plain_is_object}
use Rattle.object_cells.proofs.TouchedCells.{IsBeside}
use Rattle.object_cells.proofs.TouchedFields.{TouchesObject}
use Rattle.shape_change.proofs.OneAdded.{added_keeps, one_adds}
use Rattle.shape_change.proofs.RunTouches.{TouchesWith, numbered_beside, touches_box}
use Rattle.shape_change.proofs.OneAdding.{OneAdding, one_adding}
use Rattle.shape_change.proofs.AddedTouches.{path_touches, one_remembered}

-- What is known where a field comes to a store that has room.
pub record StoreAdding (old new : Mutator) (graph : Graph) (plain : PlainObject) (object : ℕ) (header : Header)
    (name : ℕ) (value : Held) (what : Value) (store : Store) : Type 0 where
  pub known : Adding old graph plain object header name value what
  pub behind : (shape_path old.paths header.shape).cap ≤ count_of old.paths header.shape
  pub is : IsStoreAt (heap_of old) object store
  pub room : behind_cap old.paths header.shape < store.capacity
  pub adds : AddsToStore old new object header name value store

-- the address of the slot behind those of the fields, in the store
abbrev store_place : Mutator → Header → Store → ℕ
store_place old header store = store.at + (store_head + behind_cap old.paths header.shape)

-- the words with the box made, if the field needs one
abbrev boxed_words : Mutator → Mutator → Held → List ℕ
boxed_words old mid value = with_content (heap_words mid.seat) (store_content value) (next_at old)

-- the word of the slot
abbrev store_word : Mutator → Held → ℕ
store_word old value = content_word (store_content value) (next_at old)

module _ {old new : Mutator} {graph : Graph} {plain : PlainObject} {object : ℕ} {header : Header} {name : ℕ}
    {value : Held} {what : Value} {store : Store}
    (adding : StoreAdding old new graph plain object header name value what store) where
  -- the store's cell
  there : StoredAt (heap_of old) adding.known.sound.has.store adding.known.sound.has.beside store
  there =
      let known = adding.known in
      stored_at object known.sound.has.store known.sound.has.beside store adding.is known.has known.stands
      known.sound.has.slot known.sound.has.stands (omega (arith, adding.room))

  -- the address is one of the store
  of_store : IsOfCell there.found.cell (store_place old header store)
  of_store = record {
    from = omega (arith, there.found.stands);
    below = omega
        (arith, there.found.stands, there.found.size, there.capacity, adding.room);
  }

  -- it is that of the slot behind those of the fields
  numbered : IsNumbered (heap_of old) adding.known.cell (words_of_cell (heap_of old) adding.known.cell)
      (length plain.fields)
      (store_place old header store)
  numbered =
      let known = adding.known in
      IsNumbered.beside known.sound.has.store (behind_cap old.paths header.shape) there.found.cell there.found.words
      known.sound.has.slot
      there.found.refers there.found.of_kind (omega (arith, known.count, known.cap, adding.behind))
      (omega (arith, there.found.stands)) of_store

  -- the words that are put are one word, the header, and those of a box
  pub over : PutsOver old adding.adds.mid new (added_path old.paths header.shape name value) adding.known.cell
      adding.adds.next
      (store_place old header store) (store_word old value) (content_need (store_content value))
      (with_shape (slice_set (boxed_words old adding.adds.mid value) (store_place old header store)
      (store_word old value))
      object header adding.adds.next)
  over =
      let known = adding.known in
      let adds = adding.adds in
      let whole = known.shows.shows.whole in
      let words = heap_words adds.mid.seat in
      over_last adds.next (store_place old header store) (store_word old value) (content_need (store_content value))
      object
      (boxed_words old adds.mid value) known.can.tied adds.room adds.path adds.words
      (length-with_content words (store_content value) (next_at old))
      (λ a not_new. with_content_stays words (store_content value) (next_at old) a not_new) known.stands known.headed
      (λ same. beside_not_header (store_place old header store) whole known.has known.shown.of_kind
      there.found.refers.has
      (inl there.found.of_kind) of_store (sym same))
      (cell_below_layouts whole known.has (first_of_cell known.has))
      (cell_below_layouts whole there.found.refers.has of_store)

  -- the words that are reserved
  run : IsUnusedRun (heap_of old) (next_at old) (content_need (store_content value))
  run =
      next_run old (content_need (store_content value)) adding.known.can.tied adding.known.shows.shows.whole.rows
      adding.adds.room

  -- no word of the object or of its store is one of them
  apart_from_object : (at : ℕ) → IsOfCell adding.known.cell at
      → IsBeside (next_at old) (next_at old + content_need (store_content value)) at
  apart_from_object at of_cell =
      let known = adding.known in
      run_beside at run (object_is_no_filler known.cell.layout.kind (plain_is_object known.shown.of_kind)) known.has
      of_cell

  apart_from_store : IsBeside (next_at old) (next_at old + content_need (store_content value))
      (store_place old header store)
  apart_from_store = numbered_beside run adding.known.has adding.known.shown.of_kind numbered

  -- a word of a box that is made stands in the new heap
  run_word : (b : ℕ) → next_at old ≤ b → b < next_at old + content_need (store_content value)
      → slice_get (heap_words new.seat) b ≡ slice_get (boxed_words old adding.adds.mid value) b
  run_word b from below =
      let known = adding.known in
      let adds = adding.adds in
      ap (λ all. slice_get all b) adds.words.heap
      ∙ last_stays (boxed_words old adds.mid value) (store_place old header store) (store_word old value) object header
      adds.next b
      (λ same. apart_from_object known.cell.at (first_of_cell known.has) (omega (arith, from, same, known.stands))
      (omega (arith, below, same, known.stands)))
      (λ same. apart_from_store (omega (arith, from, same)) (omega (arith, below, same)))

  -- the box stands there
  box_stands : BoxStands (heap_of new) (store_content value) (next_at old)
  box_stands =
      let adds = adding.adds in
      let space : new.seat.space ≡ old.seat.space = over_space over in
      let count = adds.path.sized.words ∙ ap (λ (s : Space). marks_start s) adds.path.beside.space in
      let marks = next_before_marks old (content_need (store_content value)) adding.known.can.tied adds.room in
      put_box (heap_of new) (heap_words adds.mid.seat) (store_content value) (next_at old) (omega (arith, count, marks))
      (subst (λ (s : Space). AreOfRegion s (next_at old) (next_at old + content_need (store_content value))) (sym space)
      run.region) run_word

  -- it fills the words that are reserved
  row : IsRow new.seat.space (heap_words new.seat) (next_at old)
      (next_at old + content_need (store_content value)) (made_boxes (store_content value) (next_at old))
  row = made_row (heap_of new) (store_content value) (next_at old) (over_sized over) box_stands

  -- so the field is added
  one : OneAdding (heap_of old) (heap_of new) adding.known.cell adding.adds.next (store_place old header store)
      (store_word old value) (made_boxes (store_content value) (next_at old)) plain.fields (new_field name what)
  one =
      let known = adding.known in
      one_adding (made_boxes (store_content value) (next_at old)) known over row numbered
      (omega (
        arith,
        known.count,
        known.cap,
        adding.behind,
        adding.room,
        length-slots known.has known.shown.of_kind known.sound.has,
        adding.is.slots known.cell (words_of_cell (heap_of old) known.cell) known.sound.has.beside
            known.sound.has.store known.has known.stands known.sound.has.slot known.sound.has.stands,
      ))

  -- the box stands in the new heap
  made_has : (cell : Cell) → Contains (made_boxes (store_content value) (next_at old)) cell
      → HasCell (heap_of new) cell (words_of_cell (heap_of new) cell)
  made_has cell there =
      let came = reshaped new.paths adding.known.cell adding.adds.next ∷ one.others in
      one.adds.puts.cells.comes cell
      (Contains-append_right came (made_boxes (store_content value) (next_at old)) cell there)

  -- the words of the box, the slot and the header were touched
  touches : TouchesWith old new adding.known.cell (made_boxes (store_content value) (next_at old))
      (touched_one (field_touch (nat_lt (length plain.fields) adding.known.cell.layout.cap)
      (Some (record { name = name; rep = rep_of what }))) (store_place old header store))
  touches =
      let known = adding.known in
      let place : ℕ = store_place old header store in
      let slot : ℕ = length plain.fields in
      let from : known.cell.layout.cap ≤ slot = omega (arith, known.count, known.cap, adding.behind) in
      let test : nat_lt slot known.cell.layout.cap ≡ false = grind (arith, nat_tests) in
      let made = made_boxes (store_content value) (next_at old) in
      let all : TouchesObject old new object
      (touched_then (content_touch (store_content value) (next_at old)) (touched_one Touch.Stored place)) =
      path_touches (content_need (store_content value)) adding.adds.path known.shows.bounded adding.adds.touches in
      let one : TouchesWith old new known.cell made (touched_one Touch.Stored place) =
      touches_box Touch.Stored (store_content value) (over_run over) row (record {
        touches = subst (λ a. TouchesObject old new a
            (touched_then (content_touch (store_content value) (next_at old)) (touched_one Touch.Stored place)))
            (sym known.stands) all;
        surely = adding.adds.surely;
      }) apart_from_object apart_from_store in
      subst (λ o. TouchesWith old new known.cell made
      (touched_one (field_touch o (Some (record { name = name; rep = rep_of what }))) place)) (sym test) one

  -- and the graph is shown in which the object has the field
  pub store_shown : ShowsRefilled new graph plain (with_field plain.fields name what)
  store_shown =
      let known = adding.known in
      let count : ℕ = length graph.objects in
      let slot : ℕ = length plain.fields in
      let word : ℕ = store_word old value in
      let holds_all = store_content value in
      let box : ℕ = next_at old in
      let places = written_places_stay plain_owns known.shows.shows.whole one.writes in
      let holds = new_value_held false value what known.held.shows in
      let from : known.cell.layout.cap ≤ slot = omega (arith, known.count, known.cap, adding.behind) in
      let test : nat_lt slot known.cell.layout.cap ≡ false = grind (arith, nat_tests) in
      let refers = λ (v : ℤ) (boxed : holds_all ≡ content.Boxed v).
      refers_to_made holds_all box v boxed (boxed_integer count v holds known.fits boxed) box_stands
      (made_has (box_cell box) (made_box holds_all box v boxed)) in
      let shows : ShowsField (heap_of new) false word (rep_of what) what =
      content_shows count box holds places known.fits refers in
      added_shows (content_need holds_all) known over.room over.adds over.puts row one.writes
      (one_adds one.adds (subst (λ o. ShowsField (heap_of new) o word (rep_of what) what) (sym test) shows)
      (λ tagged. content_comes (HasTagged known.cell one.adds.sound.slots) (made_boxes holds_all box) slot slot box
      holds places (λ is_own wide. false≢true is_own) (λ v boxed. is_made_box box (made_box holds_all box v boxed)))
      (made_boxed holds_all box)
      (λ other there. made_sound count box other holds known.fits box_stands (made_has other there) there))
      (one_remembered one.adds touches) adding.adds.stores

  -- each property store has as many slots as before
  pub store_keeps : ChangesObjectUsing old new (content_need (store_content value)) adding.known.cell.at
      (capacity_at (heap_of old) adding.known.cell.at)
  store_keeps = added_keeps one.adds row (made_boxed (store_content value) (next_at old))
