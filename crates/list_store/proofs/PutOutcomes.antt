-- What comes of a put: the heap shows the graph in which the value is in the place of the element.
use Rattle.std.proofs.Common.{◌≡◌, ℕ, ◌+◌, ◌≤◌, ◌<◌, ◌^◌, length, Some}
use Rattle.std.proofs.Common.{not, ◌&&◌, false, slice_get, get_or, set, length-set, unwrap_or}
use Rattle.std.proofs.Common.{refl, sym, ◌∙◌, ap, subst, arith}
use Rattle.std.specs.Prelude.{slice_set}
use Rattle.tagged_word.specs.declared.layout.Kind.TheVariants as kind
use Rattle.tagged_word.specs.Cells.{store_head, is_object_kind}
use Rattle.page_space.specs.Sizes.{AreWithin}
use Rattle.heap_model.specs.Types.{Value, Cell, Held}
use Rattle.object_graph.specs.Graphs.{Graph, ListObject}
use Rattle.object_graph.specs.Meaning.{list_most}
use Rattle.object_graph.proofs.Lists.{slice_get-set_other}
use Rattle.nursery.specs.Young.{HasRoom}
use Rattle.write_barrier.specs.Seats.{heap_words}
use Rattle.heap_model.specs.Kinds.{count_offset}
use Rattle.heap_model.specs.Needs.{capacity_at, word_at, box_need, is_box_word}
use Rattle.heap_model.proofs.CellOutcomes.{object_is_no_filler}
use Rattle.heap_model.proofs.CellsApart.{IsOfCell, cells_apart}
use Rattle.heap_model.proofs.CellWords.{words_by_kind, words_are_size}
use Rattle.write_barrier.specs.MutatorState.{Mutator, heap_of, reserved}
use Rattle.write_barrier.specs.Recording.{Touches, touched_one, touched_then}
use Rattle.heap_model.specs.Remembered.{Touch}
use Rattle.heap_model.specs.Slots.{IsSlotWord}
use Rattle.object_cells.specs.declared.stores.Store.{Store}
use Rattle.object_cells.specs.Capacities.{ChangesObjectUsing}
use Rattle.page_space.specs.Extents.{marks_start}
use Rattle.object_cells.specs.declared.content.SlotWrite.{SlotWrite}
use Rattle.object_cells.specs.declared.content.SlotWrite.TheVariants as filling
use Rattle.object_cells.specs.Contents.{AllocatesBox, next_at, box_in, filling_at, filling_of, filling_need, FillsSlot}
use Rattle.object_cells.specs.Made.{IsStoreAt, PutsWords, with_content, content_need, content_word, slot_touch}
use Rattle.object_cells.specs.Made.{content_touch, store_content, is_wide_held}
use Rattle.object_cells.specs.declared.content.SlotContent.{SlotContent}
use Rattle.object_cells.specs.declared.content.SlotContent.TheVariants as content
use Rattle.object_cells.specs.Uses.{UsesMore}
use Rattle.object_cells.proofs.CellsRead.{word_stands}
use Rattle.object_cells.proofs.HeldNeeds.{wide_is, new_value_held}
use Rattle.object_cells.proofs.MadeBoxes.{with_content_stays}
use Rattle.object_cells.proofs.NewElements.{put_elements_are_new}
use Rattle.object_cells.proofs.OneElement.{set_differs}
use Rattle.object_cells.proofs.SlotBoxes.{box_of_word}
use Rattle.object_cells.proofs.StoresRead.{stored_at}
use Rattle.object_cells.proofs.UnusedWords.{next_apart}
use Rattle.heap_model.specs.Rooms.{on_found, is_wide, put_need}
use Rattle.heap_model.proofs.ShownBoxes.{value_boxed}
use Rattle.object_graph.specs.declared.value.Value.TheVariants.{Undefined}
use Rattle.std.proofs.lemmas.Option.{slice_get-get_or}
use Rattle.object_cells.proofs.FilledSlots.{FilledBy, held_before, held_put, no_raw, set_there}
use Rattle.object_cells.proofs.FilledTouches.{fills_slot_touch}
use Rattle.object_cells.proofs.NothingUsed.{room_for_none}
use Rattle.list_store.specs.ListChanges.{HasPut}
use Rattle.list_store.specs.Pushes.{with_count, with_element}
use Rattle.list_store.proofs.BoxedElements.{box_shown, box_keeps, box_put_on, put_it}
use Rattle.list_store.proofs.PutsInCycle.{put_on, put_surely}
use Rattle.object_cells.proofs.OwnerWrites.{list_owns}
use Rattle.object_cells.proofs.OwnIntegers.{same_young}
use Rattle.object_cells.proofs.ElementsRead.{SlotRead, slot_read}
use Rattle.object_cells.proofs.ListChanging.{Changing, Elements, list_is_no_store}
use Rattle.list_store.proofs.TouchedSlots.{put_remembers}
use Rattle.list_store.proofs.WrittenSlots.{slot_shown, slot_keeps}

-- one element in the place of another
abbrev pub put_elements : {old : Mutator} {graph : Graph} {at : ℕ} {list : ListObject} {value : Held} {what : Value}
    (place : ℕ) → Changing old graph at list value what → place < length list.elements
    → length list.elements ≤ list_most
    → Elements graph list what place (length list.elements)
put_elements {graph = graph} {list = list} {what = what} place known there few = record {
  after = set list.elements place what;
  differs = set_differs list.elements place what there;
  long = length-set list.elements place what;
  few = few;
  are_new = put_elements_are_new graph list place what known.shows.is_graph known.is.object known.is.reached known.fits
      known.held.reached;
}

-- what is no raw word is put as a slot's
stored_content : (holds : SlotContent) → ((w : ℕ) → holds ≡ content.Raw w → ⊥) → slot_touch holds ≡ Touch.Stored
stored_content (content.Tagged word) not_raw = refl
stored_content (content.Raw word) not_raw = absurd (not_raw word refl)
stored_content (content.Boxed v) not_raw = refl

-- the address of the slot
abbrev pub place_at : Store → ℕ → ℕ
place_at store place = store.at + (store_head + place)

module _ {old : Mutator} {graph : Graph} {at : ℕ} {list : ListObject} {value : Held} {what : Value}
    (store : Store) (place : ℕ) (known : Changing old graph at list value what)
    (is_store : IsStoreAt (heap_of old) at store)
    (below : place < store.capacity) where
  -- the word of the slot
  pub slot : SlotRead (heap_of old) known.shown.shows.slots store.at place (get_or known.shown.shows.slots place 0)
  slot =
      let shown = known.shown in
      slot_read at shown.shows.store place shown.shows.slots store known.shows.shows.whole is_store shown.has
      shown.stands
      shown.shows.slot shown.shows.has below

  pub word_is : word_at (heap_of old) (place_at store place) ≡ get_or known.shown.shows.slots place 0
  word_is = ap (λ found. unwrap_or found 0) slot.stands

  -- so many words it takes: those of a box, where the value is wide and the element is not
  pub need_to_put : AreWithin old.seat.space.sizes old.seat.space.variables → place < length list.elements
      → filling_need (filling_of (box_in (heap_of old) (word_at (heap_of old) (place_at store place))) (next_at old)
      (store_content value)) ≡ put_need list what place
  need_to_put sizes there =
      let heap = heap_of old in
      let element : Value = get_or list.elements place Undefined in
      let stands : slice_get list.elements place ≡ Some element =
      slice_get-get_or list.elements place Undefined there in
      let word : ℕ = get_or known.shown.shows.slots place 0 in
      let boxed = value_boxed word element sizes known.shows.shows.whole.sized
      (known.shown.shows.each place element word stands slot.holds) in
      held_put heap (word_at heap (place_at store place)) (next_at old) value
      ∙ ap (λ w. box_need (is_wide_held value && not (is_box_word heap w))) word_is
      ∙ ap (λ box. box_need (is_wide_held value && not box)) boxed
      ∙ ap (λ wide. box_need (wide && not (is_wide element))) (wide_is value what known.held.shows)
      ∙ ap (λ found. on_found found (λ before. box_need (is_wide what && not (is_wide before)))) (sym stands)

  -- the length stays
  pub count_stays : HasRoom old.young (content_need (store_content value))
      → slice_get (slice_set (with_content (heap_words old.seat) (store_content value) (next_at old))
      (place_at store place) (content_word (store_content value) (next_at old))) (at + count_offset)
      ≡ Some (length list.elements)
  count_stays room =
      let shown = known.shown in
      let found = (stored_at at shown.shows.store shown.shows.slots store is_store shown.has shown.stands
      shown.shows.slot
      shown.shows.has (omega (arith, below))) in
      let rows = known.shows.shows.whole.rows in
      let size : shown.cell.size ≡ 3 =
      sym (words_are_size shown.has) ∙ words_by_kind kind.List shown.has shown.shows.of_kind in
      let of_list : IsOfCell shown.cell (at + count_offset) =
      record { from = omega (arith, shown.stands); below = omega (arith, shown.stands, size) } in
      let of_store : IsOfCell found.found.cell (place_at store place) = record {
        from = omega (arith, found.found.stands);
        below = omega (arith, found.found.stands, found.found.size, found.capacity, below);
      } in
      slice_get-set_other (with_content (heap_words old.seat) (store_content value) (next_at old))
      (place_at store place)
      (at + count_offset) (content_word (store_content value) (next_at old))
      (λ same.
      let cells = cells_apart (place_at store place) rows shown.has found.found.refers.has
      (subst (IsOfCell shown.cell) same of_list) of_store in
      list_is_no_store shown.shows.of_kind (ap (λ (c : Cell). c.layout.kind) cells ∙ found.found.of_kind))
      ∙ with_content_stays (heap_words old.seat) (store_content value) (next_at old) (at + count_offset)
      (λ from high. next_apart (content_need (store_content value)) (at + count_offset) known.shows.tied rows room
      (object_is_no_filler shown.cell.layout.kind (ap is_object_kind shown.shows.of_kind ∙ list_owns.object)) shown.has
      of_list from high)
      ∙ ap (λ n. slice_get (heap_words old.seat) (n + count_offset)) (sym shown.stands)
      ∙ word_stands count_offset (length list.elements) shown.has shown.shows.counted

  -- so it is put again
  counted_words : {new : Mutator} → HasRoom old.young (content_need (store_content value))
      → PutsWords (reserved old (content_need (store_content value))) new
      (with_element (heap_words old.seat) (place_at store place) value (next_at old))
      → PutsWords (reserved old (content_need (store_content value))) new
      (with_count (with_element (heap_words old.seat) (place_at store place) value (next_at old)) at
      (length list.elements))
  counted_words room words = record {
    beside = words.beside;
    paths = words.paths;
    young = words.young;
    heap = words.heap
        ∙ sym (set_there (with_element (heap_words old.seat) (place_at store place) value (next_at old))
        (at + count_offset) (length list.elements) (count_stays room));
  }

  -- of pages only a box is touched that is made, and the slot
  element_touch : {new : Mutator} → FillsSlot old new (place_at store place) (store_content value)
      → filling_need (filling_at old (place_at store place) (store_content value)) ≡ content_need (store_content value)
      → Touches old new (touched_then (content_touch (store_content value) (next_at old))
      (touched_one Touch.Stored (place_at store place)))
  element_touch {new} fills needs =
      let heap = heap_of old in
      subst (λ how. Touches old new (touched_then (content_touch (store_content value) (next_at old))
      (touched_one how (place_at store place))))
      (stored_content (store_content value) (λ w. no_raw w (new_value_held false value what known.held.shows)))
      (fills_slot_touch fills known.shows.tied known.shows.shows.whole
      (omega (arith, is_store.within, below))
      (held_before heap (word_at heap (place_at store place)) (store_content value)
      (subst (IsSlotWord heap) (sym word_is) slot.is)) needs)

-- there are as many words where those of a box are used
used_counted : (old between : Mutator) (fill : SlotWrite) → AllocatesBox old between fill
    → length (heap_words old.seat) ≡ marks_start old.seat.space
    → length (heap_words between.seat) ≡ marks_start between.seat.space
used_counted old between (filling.Tagged word) same counted =
    subst (λ (main : Mutator). length (heap_words main.seat) ≡ marks_start main.seat.space) (sym same) counted
used_counted old between (filling.Raw word) same counted =
    subst (λ (main : Mutator). length (heap_words main.seat) ≡ marks_start main.seat.space) (sym same) counted
used_counted old between (filling.NewBox box v) more counted =
    subst (λ (main : Mutator). length (heap_words main.seat) ≡ marks_start main.seat.space) (sym more.1) counted
used_counted old between (filling.OldBox box v) same counted =
    subst (λ (main : Mutator). length (heap_words main.seat) ≡ marks_start main.seat.space) (sym same) counted

-- so the element is the value
pub has_put : {old new : Mutator} {graph : Graph} {at : ℕ} {list : ListObject} {value : Held} {what : Value}
    (store : Store)
    (place : ℕ) → Changing old graph at list value what → IsStoreAt (heap_of old) at store → place < store.capacity
    → place < length list.elements → length list.elements ≤ list_most → length list.elements ≤ store.capacity
    → AreWithin old.seat.space.sizes old.seat.space.variables → marks_start old.seat.space < 2 ^ 32
    → FillsSlot old new (place_at store place) (store_content value)
    → FilledBy old new (place_at store place) (word_at (heap_of old) (place_at store place)) (store_content value)
    → HasPut old new graph at list place what
has_put {old} {new} {at = at} {list} {value} {what} store place known is_store below there few enough sizes fit fills
    (FilledBy.slot room words needs) =
    let heap = heap_of old in
    let need = sym needs ∙ need_to_put store place known is_store below sizes there in
    let puts = counted_words store place known is_store below room words in
    let becomes = put_elements place known there few in
    let counted = used_counted old fills.between (filling_at old (place_at store place) (store_content value))
    fills.allocates known.shows.shows.whole.sized.words in
    record {
      room = subst (HasRoom old.young) need room;
      uses = subst (UsesMore old new) need (record {
        beside = words.beside;
        young = words.young;
        free = (element_touch store place known is_store below fills needs).free;
      });
      changes = subst (λ n. ChangesObjectUsing old new n at (capacity_at heap at)) need
          (subst (λ a. ChangesObjectUsing old new (content_need (store_content value)) a (capacity_at heap a))
          known.shown.stands (slot_keeps known becomes is_store below enough room puts));
      shows = slot_shown known becomes is_store below enough room puts
          (put_remembers known becomes is_store below enough room puts
          (element_touch store place known is_store below fills needs)
          (put_surely store place known is_store below fit fills needs counted))
          (put_on store place known is_store below fit fills);
      store = store;
      is_store = is_store;
      held = value;
      holds = known.held.shows;
      puts = fills;
    }
has_put {old} {new} {at = at} {list} {value} {what} store place known is_store below there few enough sizes fit fills
    (FilledBy.of_box box v boxed found same) =
    let heap = heap_of old in
    let w : ℕ = get_or known.shown.shows.slots place 0 in
    let read = slot store place known is_store below in
    let here = word_is store place known is_store below in
    let box_of = box_of_word w box known.shows.shows.whole.sized read.is (ap (box_in heap) (sym here) ∙ found) in
    let none : filling_need (filling_of (box_in heap (word_at heap (place_at store place))) (next_at old)
    (store_content value)) ≡ 0 =
    ap (λ o. filling_need (filling_of o (next_at old) (store_content value))) found
    ∙ ap (λ holds. filling_need (filling_of (Some box) (next_at old) holds)) boxed in
    let need = sym none ∙ need_to_put store place known is_store below sizes there in
    let becomes = put_elements place known there few in
    record {
      room = subst (HasRoom old.young) need (room_for_none old known.shows.tied known.shows.shows.whole);
      uses = subst (UsesMore old new) need (record {
        beside = fills.beside;
        young = same_young (put_it w known becomes is_store enough refl read.holds box_of boxed same);
        free = ap (λ (main : Mutator). main.free) same;
      });
      changes = subst (λ n. ChangesObjectUsing old new n at (capacity_at heap at)) need
          (subst (λ a. ChangesObjectUsing old new 0 a (capacity_at heap a)) known.shown.stands
          (box_keeps w known becomes is_store enough refl read.holds box_of boxed same));
      shows = box_shown w known becomes is_store enough refl read.holds box_of boxed same
          (box_put_on v known.shows box_of same);
      store = store;
      is_store = is_store;
      held = value;
      holds = known.held.shows;
      puts = fills;
    }
