-- A value that comes to a slot that the store of a list has is shown as the element of this number.
use Rattle.std.specs.Prelude.{slice_set}
use Rattle.std.proofs.Common.{◌≡◌, ◌≢◌, ℕ, ◌+◌, ◌≤◌, ◌<◌, inl, List, [], ◌∷◌, length, slice_get, sym, ◌∙◌, ap, subst}
use Rattle.std.proofs.Common.{arith, length-set, drop, Some, false, length-drop}
use Rattle.std.proofs.lemmas.Option.{same_Some}
use Rattle.tagged_word.specs.declared.layout.Kind.TheVariants as kind
use Rattle.tagged_word.specs.Cells.{store_head, store_slot}
use Rattle.tagged_word.proofs.Members.{first_in, one_in}
use Rattle.page_space.proofs.Starts.{marks_start_is}
use Rattle.nursery.specs.Young.{HasRoom}
use Rattle.object_graph.specs.Graphs.{Graph, ListObject}
use Rattle.object_graph.specs.Meaning.{relist}
use Rattle.object_graph.proofs.Lists.{slice_get-set_other, slice_get-set_same}
use Rattle.cell_layout.specs.Cells.{IsRow}
use Rattle.write_barrier.specs.Seats.{heap_words}
use Rattle.heap_model.specs.Types.{Value, Cell, Held}
use Rattle.heap_model.specs.Heaps.{HasCell, words_of_cell}
use Rattle.heap_model.specs.Kinds.{count_offset, HasWord, IsSoundOf}
use Rattle.heap_model.specs.Needs.{capacity_at}
use Rattle.heap_model.specs.Showing.{ShowsValue}
use Rattle.heap_model.specs.Slots.{HoldsStore}
use Rattle.heap_model.proofs.CellsApart.{IsOfCell}
use Rattle.heap_model.proofs.CellWords.{words_by_kind}
use Rattle.write_barrier.specs.MutatorState.{Mutator, heap_of, MainShows, reserved}
use Rattle.write_barrier.specs.Storing.{StoresOn}
use Rattle.object_cells.specs.SureCells.{RemembersSurely}
use Rattle.object_cells.proofs.SureCells.{stores_keep_cells}
use Rattle.object_cells.specs.Contents.{next_at}
use Rattle.object_cells.specs.Made.{IsStoreAt, PutsWords, with_content, content_need, content_word}
use Rattle.object_cells.specs.Made.{store_content}
use Rattle.object_cells.specs.declared.stores.Store.{Store}
use Rattle.object_cells.specs.Capacities.{ChangesObjectUsing}
use Rattle.object_cells.specs.OwnSlots.{ComesFrom}
use Rattle.object_cells.proofs.MadeBoxes.{made_boxes, made_row, length-with_content, with_content_stays}
use Rattle.object_cells.proofs.OwnPlaces.{has_own_words}
use Rattle.object_cells.proofs.StoresRead.{StoredAt}
use Rattle.object_cells.proofs.ListChanging.{Changing, changing_store, list_word, Elements, slot_stands, slot_few}
use Rattle.object_cells.proofs.ListChanging.{store_is_no_box}
use Rattle.object_cells.proofs.HeldNeeds.{new_value_held}
use Rattle.object_cells.proofs.OneElement.{PutsElement, element_refills}
use Rattle.object_cells.proofs.OwnCells.{cell_below_layouts, list_size}
use Rattle.object_cells.proofs.RefilledLists.{written_elements_show}
use Rattle.object_cells.proofs.SlotsNow.{word_at_offset}
use Rattle.object_cells.proofs.OwnerWrites.{list_owns}
use Rattle.object_cells.proofs.TakenRuns.{takes_run}
use Rattle.object_cells.proofs.TakenValues as taken
use Rattle.object_cells.proofs.TakenValues.{TakesValue}
use Rattle.object_cells.proofs.OwnCapacities.{object_keeps}
use Rattle.object_cells.proofs.CellsRead.{word_stands}
use Rattle.object_cells.proofs.OwnContents as beside
use Rattle.object_cells.proofs.OwnContents.{PutsBeside, not_made, apart}
use Rattle.list_store.specs.Pushes.{with_count, with_element}

module _ {old new : Mutator} {graph : Graph} {at slot count : ℕ} {list : ListObject} {value : Held} {what : Value}
    {store : Store} (known : Changing old graph at list value what) (becomes : Elements graph list what slot count)
    (is_store : IsStoreAt (heap_of old) at store) (below : slot < store.capacity) (enough : count ≤ store.capacity)
    (room : HasRoom old.young (content_need (store_content value)))
    (puts : let put = with_element (heap_words old.seat) (store.at + (store_head + slot)) value (next_at old) in
    PutsWords (reserved old (content_need (store_content value))) new (with_count put at count)) where
  -- the list's cell
  abbrev pub cell : Cell
  cell = known.shown.cell

  -- the store's
  pub there : StoredAt (heap_of old) known.shown.shows.store known.shown.shows.slots store
  there = changing_store slot known is_store below

  abbrev pub other : Cell
  other = there.found.cell

  -- it stands there with its words
  pub other_has : HasCell (heap_of old) other (words_of_cell (heap_of old) other)
  other_has = has_own_words there.found.refers.has

  -- the address of the slot, its word, and the words before and after the two were put
  abbrev pub place : ℕ
  place = store.at + (store_head + slot)

  abbrev word : ℕ
  word = content_word (store_content value) (next_at old)

  abbrev pub need : ℕ
  need = content_need (store_content value)

  abbrev boxed : List ℕ
  boxed = with_content (heap_words old.seat) (store_content value) (next_at old)

  abbrev put : List ℕ
  put = slice_set boxed place word

  -- the slot is one of the store
  pub of_store : IsOfCell other place
  of_store = record {
    from = omega (arith, there.found.stands);
    below = omega (arith, there.found.stands, there.found.size, there.capacity, below);
  }

  -- a word that is neither of the two is as it was once the box was made
  word_stays : (a : ℕ) → a ≢ at + count_offset → a ≢ place
      → slice_get (with_count put at count) a ≡ slice_get boxed a
  word_stays a not_count not_place =
      slice_get-set_other put (at + count_offset) a count not_count ∙ slice_get-set_other boxed place a word not_place

  -- so words of the list's cell and of its store were put
  pub putting : PutsBeside kind.List kind.Store old new cell other known.shown.shows.store (store_content value)
      (with_count put at count)
  putting =
      let store_is = there.found in
      let size = list_size known.shown.has known.shown.shows.of_kind in
      record {
        owns = list_owns;
        tied = known.shows.tied;
        whole = known.shows.shows.whole;
        has = known.shown.has;
        of_kind = known.shown.shows.of_kind;
        counts = size;
        other_has = other_has;
        other_long = omega (arith, store_is.size);
        is = record {
          of_kind = store_is.of_kind;
          no_number = (subst (λ k. IsSoundOf k (heap_of old) other store_is.words) store_is.of_kind
              (known.shows.shows.whole.sound other store_is.words store_is.refers.has)).no_number;
          refers = store_is.refers.refers;
        };
        slot = known.shown.shows.slot;
        room = room;
        puts = puts;
        long = length-set put (at + count_offset) count ∙ length-set boxed place word
            ∙ length-with_content (heap_words old.seat) (store_content value) (next_at old);
        beside = λ a not_count not_slot. word_stays a (λ same. not_count (omega (arith, same, known.shown.stands)))
            (λ same. not_slot (omega (arith, same, store_is.stands)) (omega (arith, same, of_store.below)));
      }

  -- the length is no word of the store
  not_count : (a : ℕ) → IsOfCell other a → a ≢ at + count_offset
  not_count a of_other same =
      apart putting (at + count_offset) a (list_word 2 known.shown (omega arith)) of_other (sym same)

  -- and the list takes the value
  pub takes : TakesValue kind.List kind.Store (heap_of old) (heap_of new) cell cell (other ∷ []) []
      (store_content value) (next_at old) what known.shown.shows.store
  takes =
      beside.takes putting (length graph.objects) known.fits (new_value_held false value what known.held.shows)

  -- the box is the row of the words that were taken
  pub row : IsRow new.seat.space (heap_words new.seat) (next_at old) (next_at old + need)
      (made_boxes (store_content value) (next_at old))
  row = made_row (heap_of new) (store_content value) (next_at old) takes.writes.sized takes.stands

  -- its store stands in the new heap
  store_has : HasCell (heap_of new) other (words_of_cell (heap_of new) other)
  store_has = taken.others_have takes other (first_in other [])

  -- the slots of the store
  abbrev now : List ℕ
  now = drop store_head (words_of_cell (heap_of new) other)

  -- each but the one that was put holds what it held
  keeps : (k x : ℕ) → k ≢ slot → HasWord now k x → HasWord known.shown.shows.slots k x
  keeps k x not_one holds =
      let inside = slot_few k x store_has there.found.of_kind holds in
      let a : ℕ = other.at + (store_head + k) in
      let of_other : IsOfCell other a =
      record { from = omega arith; below = omega (arith, inside, there.found.size) } in
      ap (λ all. slice_get all k) there.found.are ∙ slot_stands k there.found.refers.has there.found.of_kind inside
      ∙ sym (ap (λ all. slice_get all a) puts.heap
      ∙ word_stays a (not_count a of_other) (λ same. not_one (omega (arith, same, there.found.stands)))
      ∙ with_content_stays (heap_words old.seat) (store_content value) (next_at old) a
      (not_made putting a (beside.other_no_filler putting) other_has of_other))
      ∙ sym (slot_stands k store_has there.found.of_kind inside) ∙ holds

  -- that holds the word
  holds_word : (x : ℕ) → HasWord now slot x → word ≡ x
  holds_word x holds =
      let inside = slot_few slot x store_has there.found.of_kind holds in
      let at_place : other.at + (store_head + slot) ≡ place = omega (arith, there.found.stands) in
      let within : place < length boxed =
      omega (
        arith,
        length-with_content (heap_words old.seat) (store_content value) (next_at old),
        known.shows.shows.whole.sized.words,
        is_store.within,
        below,
      ) in
      same_Some word x (sym (slice_get-set_same boxed place word within)
      ∙ sym (slice_get-set_other put (at + count_offset) place count (not_count place of_store))
      ∙ sym (ap (λ all. slice_get all place) puts.heap)
      ∙ ap (slice_get (heap_words new.seat)) (sym at_place)
      ∙ sym (slot_stands slot store_has there.found.of_kind inside) ∙ holds)

  -- the list's length is that of the elements
  count_now : HasWord (words_of_cell (heap_of new) cell) count_offset (length becomes.after)
  count_now =
      let size = list_word 2 known.shown (omega arith) in
      let within : at + count_offset < length put =
      omega (
        arith,
        length-set boxed place word,
        length-with_content (heap_words old.seat) (store_content value) (next_at old),
        known.shows.shows.whole.sized.words,
        marks_start_is old.seat.space,
        cell_below_layouts known.shows.shows.whole known.shown.has size,
      ) in
      word_at_offset count_offset (taken.came_has takes) (omega (arith, size.below, known.shown.stands))
      ∙ ap (λ n. slice_get (heap_words new.seat) (n + count_offset)) known.shown.stands
      ∙ ap (λ all. slice_get all (at + count_offset)) puts.heap
      ∙ slice_get-set_same put (at + count_offset) count within ∙ ap (λ n. Some n) (sym becomes.long)

  -- its slot for the store holds what it held
  store_slot_now : HasWord (words_of_cell (heap_of new) cell) store_slot known.shown.shows.store
  store_slot_now =
      let shown = known.shown.shows in
      taken.slot_is takes (omega (arith, list_size known.shown.has shown.of_kind))
      (beside.slot_stays putting ∙ word_stands store_slot shown.store known.shown.has shown.slot)

  -- so an element is pushed
  puts_element : PutsElement (heap_of old) (heap_of new) cell (other ∷ [])
      (made_boxes (store_content value) (next_at old)) list.elements becomes.after slot what
  puts_element =
      let shown = known.shown.shows in
      record {
        whole = known.shows.shows.whole;
        shown = shown;
        writes = takes.writes;
        differs = becomes.differs;
        now = now;
        are = record {
          store = shown.store;
          slot = store_slot_now;
          stands = HoldsStore.store shown.store other (words_of_cell (heap_of new) other)
              (record { refers = there.found.refers.refers; has = store_has }) there.found.of_kind;
        };
        counted = count_now;
        few = omega (arith, becomes.long, becomes.few);
        enough = omega (
          arith,
          becomes.long,
          enough,
          there.capacity,
          length-drop store_head (words_of_cell (heap_of new) other),
          words_by_kind kind.Store store_has there.found.of_kind,
        );
        keeps = λ k x not_one holds. inl (keeps k x not_one holds);
        no_box = λ k x not_one holds one among is_box same. store_is_no_box
            (ap (λ (c : Cell). c.layout.kind) (sym (one_in other one among)) ∙ there.found.of_kind) is_box;
        comes = λ x holds. subst
            (ComesFrom (heap_of new) (HasWord shown.slots) (made_boxes (store_content value) (next_at old)) slot slot
            slot) (holds_word x holds) (taken.value_comes takes (HasWord shown.slots) slot slot);
        shows = λ x holds. subst (λ w. ShowsValue (heap_of new) w what) (holds_word x holds) (taken.value_shows takes);
        store_comes = inl shown.slot;
        belong = takes.belong;
        kinds = taken.made_kinds takes;
        stores = taken.stores_told takes;
        boxes = taken.boxes_told takes;
      }

  -- and the graph is shown in which it is the last
  pub slot_shown : RemembersSurely old new (cell ∷ other ∷ []) (cell ∷ other ∷ [])
      (made_boxes (store_content value) (next_at old)) → StoresOn old new
      → MainShows new (relist graph list becomes.after)
  slot_shown remembered stores =
      written_elements_show old new graph list cell (other ∷ []) (made_boxes (store_content value) (next_at old))
      becomes.after known.shows known.is.object known.is.reached known.shown.carries known.shown.shows becomes.are_new
      (takes_run need puts.beside room puts.young row) puts.paths takes.writes (element_refills puts_element)
      remembered.remembers (stores_keep_cells list_owns known.shows takes.writes remembered stores)

  -- each store has as many slots as before
  pub slot_keeps : ChangesObjectUsing old new need cell.at (capacity_at (heap_of old) cell.at)
  slot_keeps = object_keeps (taken.taken_beside takes store_slot_now) row (beside.slot_stays putting)
