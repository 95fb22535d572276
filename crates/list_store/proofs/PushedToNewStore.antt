-- A value that comes behind the elements of a list, to a store that is made for it, is shown as its last element.
use Rattle.std.proofs.Common.{◌≡◌, ◌≢◌, ℕ, ◌+◌, ◌≤◌, ◌<◌, ◌⊎◌, inl, inr, List, [], ◌∷◌, ◌++◌, length, drop, Some}
use Rattle.std.proofs.Common.{slice_get}
use Rattle.std.proofs.Common.{false, refl, sym, ◌∙◌, ap, subst, arith, length-append, length-drop}
use Rattle.tagged_word.specs.Cells.{store_head, store_slot, is_object_kind}
use Rattle.tagged_word.specs.declared.layout.Kind.TheVariants as kind
use Rattle.tagged_word.proofs.Members.{first_in}
use Rattle.page_space.specs.Sizes.{AreWithin}
use Rattle.page_space.proofs.Starts.{marks_start_is}
use Rattle.object_graph.specs.Graphs.{Graph, ListObject}
use Rattle.object_graph.specs.Meaning.{list_most, relist}
use Rattle.heap_model.specs.Types.{Value, Cell, Held}
use Rattle.write_barrier.specs.Seats.{heap_words}
use Rattle.heap_model.specs.Heaps.{HasCell, words_of_cell}
use Rattle.heap_model.specs.Kinds.{HasWord, count_offset}
use Rattle.heap_model.specs.Needs.{grown_list}
use Rattle.heap_model.specs.Showing.{ShowsValue}
use Rattle.heap_model.specs.Slots.{reference_word, HoldsStore, hole_word}
use Rattle.heap_model.proofs.BoundHeaps.{none_in}
use Rattle.heap_model.proofs.CellOutcomes.{object_is_no_filler}
use Rattle.heap_model.proofs.CellWords.{words_by_kind}
use Rattle.write_barrier.specs.MutatorState.{Mutator, heap_of, MainShows}
use Rattle.object_cells.specs.SureCells.{RemembersSurely}
use Rattle.object_cells.proofs.SureCells.{stores_keep_cells}
use Rattle.object_cells.specs.Capacities.{ChangesObjectUsing}
use Rattle.object_cells.specs.Contents.{next_at}
use Rattle.object_cells.specs.FilledRuns.{FillsRun}
use Rattle.object_cells.specs.OwnSlots.{ComesFrom}
use Rattle.object_cells.specs.Made.{store_content, content_need, content_word}
use Rattle.object_cells.specs.declared.stores.Store.{Store}
use Rattle.object_cells.proofs.CopiedSlots.{NewSlotIs, new_slot_is}
use Rattle.object_cells.proofs.FilledRuns.{FillsOwn, makes_store, own_row, own_run, filled_named}
use Rattle.object_cells.proofs.HeldNeeds.{new_value_held}
use Rattle.object_cells.proofs.ListChanging.{Changing, list_word}
use Rattle.object_cells.proofs.MadeBoxes.{made_boxes}
use Rattle.object_cells.proofs.NewElements.{pushed_elements_are_new}
use Rattle.object_cells.proofs.NewStores.{store_cell, store_is_long}
use Rattle.object_cells.proofs.OneElement.{PutsElement, element_refills, pushed_differs}
use Rattle.object_cells.proofs.OwnCapacities.{object_grows}
use Rattle.object_cells.proofs.OwnerWrites.{list_owns}
use Rattle.object_cells.proofs.RefilledLists.{written_elements_show}
use Rattle.object_cells.proofs.SlotsNow.{word_at_offset}
use Rattle.object_cells.proofs.StoreRuns.{CopiesSlots, fills_run, own_put, copies_slots}
use Rattle.object_cells.proofs.StoreWords.{MakesStore}
use Rattle.object_cells.proofs.TakenRuns.{takes_run}
use Rattle.object_cells.proofs.TakenValues as taken
use Rattle.object_cells.proofs.TakenValues.{TakesValue, filled_takes}
use Rattle.object_cells.proofs.UnusedWords.{marks_fit, next_run}
use Rattle.list_store.specs.Pushes.{CanChange, PushesToNewStore}

module _ {old new : Mutator} {graph : Graph} {at count : ℕ} {list : ListObject} {value : Held} {what : Value}
    {store : Store} (known : Changing old graph at list value what) (can : CanChange old at count store)
    (is : count ≡ length list.elements) (least : length list.elements < list_most) (full : count ≡ store.capacity)
    (pushes : PushesToNewStore old new at count value store) where
  -- the list's cell, and the store that is made, with more slots than the list has elements
  abbrev pub cell : Cell
  cell = known.shown.cell

  abbrev pub capacity : ℕ
  capacity = grown_list count

  abbrev pub other : Cell
  other = store_cell (next_at old) capacity

  pub more : count < capacity
  more = omega (arith, is, least)

  -- the address of the box, how many words are taken, and the word of the slot
  abbrev pub box : ℕ
  box = next_at old + (store_head + capacity)

  abbrev pub need : ℕ
  need = store_head + capacity + content_need (store_content value)

  abbrev word : ℕ
  word = content_word (store_content value) box

  -- the list's cell is no filler
  pub list_no_filler : cell.layout.kind ≢ kind.Filler
  list_no_filler =
      object_is_no_filler cell.layout.kind (ap is_object_kind known.shown.shows.of_kind ∙ list_owns.object)

  -- the store is made of words that were not used
  makes : MakesStore (heap_words old.seat) at (at + count_offset) store capacity (next_at old) (store_content value)
  makes =
      makes_store at (at + count_offset) (next_run old _ known.shows.tied known.shows.shows.whole.rows pushes.room)
      known.shows.shows.whole known.shown.has known.shows.shows.whole.sized.words can.is list_no_filler
      (omega (arith, full, more))
      (list_word 1 known.shown (omega arith)) (list_word 2 known.shown (omega arith)) (λ same. omega (arith, same))

  -- they are filled with it, and a box
  pub filled : FillsOwn kind.List kind.Store old new cell other at (at + count_offset) (store_content value)
  filled = record {
    tied = known.shows.tied;
    whole = known.shows.shows.whole;
    has = known.shown.has;
    of_kind = known.shown.shows.of_kind;
    of_object = list_owns.object;
    stands = known.shown.stands;
    room = pushes.room;
    at = refl;
    long = store_is_long (next_at old) capacity (omega arith);
    beside = pushes.words.beside;
    paths = pushes.words.paths;
    young = pushes.words.young;
    fills = subst (λ all. FillsRun (heap_words old.seat) all at (at + count_offset) other (store_content value))
        (sym pushes.words.heap) (fills_run makes (count + 1) count full);
    of_slot = list_word 1 known.shown (omega arith);
    of_own = list_word 2 known.shown (omega arith);
    not_header = λ same. omega (arith, same);
  }

  -- so the list takes the value
  pub takes : TakesValue kind.List kind.Store (heap_of old) (heap_of new) cell cell [] (other ∷ [])
      (store_content value) box what (reference_word (next_at old))
  takes =
      filled_takes (length graph.objects) list_owns refl filled known.fits (new_value_held false value what
      known.held.shows)

  -- the store stands in the new heap
  store_has : HasCell (heap_of new) other (words_of_cell (heap_of new) other)
  store_has = taken.made_has takes other (first_in other (made_boxes (store_content value) box))

  -- its slots
  abbrev now : List ℕ
  now = drop store_head (words_of_cell (heap_of new) other)

  -- each holds what it held, the word, or nothing
  slot_is : (k x : ℕ) → HasWord now k x → NewSlotIs known.shown.shows.slots store.capacity word k x
  slot_is =
      new_slot_is known.shows.shows.whole can.is known.shown.has known.shown.stands known.shown.shows.slot
      known.shown.shows.has store_has
      (λ a below. refl)
      (subst (λ all. CopiesSlots (heap_words old.seat) all store capacity (next_at old) word) (sym pushes.words.heap)
      (copies_slots makes (count + 1) count full))

  -- that of the element holds the word
  put_is : (x : ℕ) → HasWord now (length list.elements) x → word ≡ x
  put_is x holds = elim (slot_is (length list.elements) x holds) [
    | NewSlotIs.kept below there ↦ absurd (omega (arith, below, is, full))
    | NewSlotIs.put at_it same ↦ sym same
    | NewSlotIs.more from hole ↦ absurd (omega (arith, from, is, full))
  ]

  -- each other one what it held, or nothing
  keeps : (k x : ℕ) → k ≢ length list.elements → HasWord now k x
      → HasWord known.shown.shows.slots k x ⊎ ((length list.elements ≤ k) × (x ≡ hole_word))
  keeps k x apart holds = elim (slot_is k x holds) [
    | NewSlotIs.kept below there ↦ inl there
    | NewSlotIs.put at_it same ↦ absurd (apart (at_it ∙ sym full ∙ is))
    | NewSlotIs.more from hole ↦ inr (omega (arith, from, is, full), hole)
  ]

  -- the list's length is one more
  count_now : HasWord (words_of_cell (heap_of new) cell) count_offset (length (list.elements ++ what ∷ []))
  count_now =
      let size = list_word 2 known.shown (omega arith) in
      let one_more : count + 1 ≡ length (list.elements ++ what ∷ []) =
      omega (arith, is, length-append list.elements (what ∷ [])) in
      word_at_offset count_offset (taken.came_has takes) (omega (arith, size.below, known.shown.stands))
      ∙ ap (λ n. slice_get (heap_words new.seat) (n + count_offset)) known.shown.stands
      ∙ ap (λ all. slice_get all (at + count_offset)) pushes.words.heap ∙ own_put makes (count + 1) count full
      ∙ ap (λ n. Some n) one_more

  -- its slot for the store refers to the one that was made
  store_slot_now : HasWord (words_of_cell (heap_of new) cell) store_slot (reference_word (next_at old))
  store_slot_now =
      let size = list_word 1 known.shown (omega arith) in
      taken.slot_is takes (omega (arith, size.below, known.shown.stands)) (filled_named filled)

  -- so an element is pushed
  puts_element : PutsElement (heap_of old) (heap_of new) cell [] (other ∷ made_boxes (store_content value) box)
      list.elements (list.elements ++ what ∷ []) (length list.elements) what
  puts_element =
      let one_more = length-append list.elements (what ∷ []) in
      record {
        whole = known.shows.shows.whole;
        shown = known.shown.shows;
        writes = takes.writes;
        differs = pushed_differs list.elements what;
        now = now;
        are = record {
          store = reference_word (next_at old);
          slot = store_slot_now;
          stands = HoldsStore.store (reference_word (next_at old)) other (words_of_cell (heap_of new) other)
              (record { refers = refl; has = store_has }) refl;
        };
        counted = count_now;
        few = omega (arith, one_more, least);
        enough = omega (
          arith,
          one_more,
          is,
          more,
          length-drop store_head (words_of_cell (heap_of new) other),
          words_by_kind kind.Store store_has refl,
        );
        keeps = keeps;
        no_box = λ k x not_one holds one among is_box same. absurd (none_in one among);
        comes = λ x holds.
            let slot : ℕ = length list.elements in
            subst (ComesFrom (heap_of new) (HasWord known.shown.shows.slots)
            (other ∷ made_boxes (store_content value) box) slot slot slot) (put_is x holds)
            (taken.value_comes takes (HasWord known.shown.shows.slots) slot slot);
        shows = λ x holds. subst (λ w. ShowsValue (heap_of new) w what) (put_is x holds) (taken.value_shows takes);
        store_comes = inr (other, first_in other (made_boxes (store_content value) box), refl, refl);
        belong = takes.belong;
        kinds = taken.made_kinds takes;
        stores = taken.stores_told takes;
        boxes = taken.boxes_told takes;
      }

  -- and the graph is shown in which it is the last
  pub to_new_store_shown : RemembersSurely old new (cell ∷ []) (cell ∷ [])
      (other ∷ made_boxes (store_content value) box)
      → MainShows new (relist graph list (list.elements ++ what ∷ []))
  to_new_store_shown remembered =
      written_elements_show old new graph list cell [] (other ∷ made_boxes (store_content value) box)
      (list.elements ++ what ∷ []) known.shows known.is.object known.is.reached known.shown.carries known.shown.shows
      (pushed_elements_are_new graph list what known.shows.is_graph known.is.object known.is.reached least known.fits
      known.held.reached)
      (takes_run need pushes.words.beside pushes.room pushes.words.young (own_row filled).row) pushes.words.paths
      takes.writes (element_refills puts_element) remembered.remembers
      (stores_keep_cells list_owns known.shows takes.writes remembered pushes.stores)

  -- the list has as many slots as the store that was made, and each other object as many as before
  pub to_new_store_becomes : AreWithin old.seat.space.sizes old.seat.space.variables
      → ChangesObjectUsing old new need cell.at capacity
  to_new_store_becomes sizes =
      object_grows (taken.taken_beside takes store_slot_now) (own_row filled).row other
      (first_in other (made_boxes (store_content value) box)) refl
      (omega (arith, (own_run filled).within, marks_fit old.seat.space sizes, marks_start_is old.seat.space))
      (filled_named filled)
