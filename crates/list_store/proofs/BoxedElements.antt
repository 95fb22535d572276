-- The integer of a wide element is put into the box to which its slot refers.
use Rattle.std.specs.Prelude.{ℤ}
use Rattle.std.proofs.Common.{◌≡◌, ℕ, ◌+◌, ◌≤◌, inl, List, [], ◌∷◌, length, Some, false, sym, ◌∙◌, ap, subst, arith}
use Rattle.std.proofs.lemmas.Option.{same_Some}
use Rattle.tagged_word.specs.declared.layout.Kind.TheVariants as kind
use Rattle.page_space.specs.Extents.{layouts_start}
use Rattle.object_graph.specs.Graphs.{Graph, ListObject}
use Rattle.object_graph.specs.Meaning.{relist}
use Rattle.object_graph.specs.Values.{rep_of}
use Rattle.object_graph.specs.declared.value.Rep.TheVariants as rep
use Rattle.heap_model.specs.Types.{Value, Cell, Held}
use Rattle.heap_model.specs.Heaps.{Heap, HasCell, words_of_cell}
use Rattle.heap_model.specs.Kinds.{HasWord, count_offset}
use Rattle.heap_model.specs.Needs.{box_words, capacity_at}
use Rattle.tagged_word.specs.Cells.{is_object_kind}
use Rattle.heap_model.specs.Slots.{raw_word, RefersToBox}
use Rattle.write_barrier.specs.MutatorState.{Mutator, heap_of, MainShows, with_word}
use Rattle.heap_model.proofs.CellWords.{words_by_kind, words_are_size}
use Rattle.write_barrier.specs.Storing.{MayChange, StoresOn}
use Rattle.write_barrier.proofs.SlotStores.{word_stores_on}
use Rattle.write_barrier.proofs.StoresOn.{cell_may_change}
use Rattle.object_cells.proofs.CellsRead.{cell_before_layouts}
use Rattle.object_cells.proofs.ChangedPlaces.{box_may_put}
use Rattle.object_cells.specs.Capacities.{ChangesObjectUsing}
use Rattle.object_cells.specs.Made.{IsStoreAt, store_content}
use Rattle.object_cells.specs.OwnSlots.{ComesFrom, Refills}
use Rattle.object_cells.specs.declared.content.SlotContent.TheVariants as content
use Rattle.object_cells.specs.declared.stores.Store.{Store}
use Rattle.object_cells.proofs.ContentValues.{box_shows}
use Rattle.object_cells.proofs.HeldContents.{HoldsValue}
use Rattle.object_cells.proofs.HeldNeeds.{new_value_held}
use Rattle.object_cells.proofs.IntegerTouches.{integer_remembers_surely}
use Rattle.object_cells.proofs.ListSlots.{element_of_number}
use Rattle.object_cells.proofs.MadeBoxes.{boxed_integer}
use Rattle.object_cells.proofs.NumberedSlots.{SlotOfNumber}
use Rattle.object_cells.proofs.NothingUsed.{room_for_none}
use Rattle.object_cells.proofs.OneElement.{PutsElement, element_refills}
use Rattle.object_cells.proofs.OwnIntegers as integer
use Rattle.object_cells.proofs.OwnIntegers.{PutsInteger}
use Rattle.object_cells.proofs.OwnPlaces.{slot_names_box, no_other_slot_names}
use Rattle.object_cells.proofs.OwnerWrites.{list_owns}
use Rattle.object_cells.proofs.RefilledLists.{written_elements_show}
use Rattle.object_cells.proofs.SlotBoxes.{IsBoxOf}
use Rattle.object_cells.proofs.SureCells.{stores_keep_cells}
use Rattle.object_cells.proofs.TakenRuns.{takes_none}
use Rattle.object_cells.proofs.ListChanging.{Changing, Elements}

module _ {old new : Mutator} {graph : Graph} {at slot count : ℕ} {list : ListObject} {value : Held} {what : Value}
    {store : Store} (w : ℕ) {box : ℕ} {v : ℤ} (known : Changing old graph at list value what)
    (becomes : Elements graph list what slot count) (is_store : IsStoreAt (heap_of old) at store)
    (enough : count ≤ store.capacity) (counted : length list.elements ≡ count)
    (holds_box : HasWord known.shown.shows.slots slot w) (box_of : IsBoxOf (heap_of old) w box)
    (boxed : store_content value ≡ content.Boxed v) (puts_it : new ≡ with_word old (box + 1) (raw_word v)) where
  -- the list's cell
  abbrev cell : Cell
  cell = known.shown.cell

  -- the slot of a number before
  pub slot_before : (k x : ℕ) → HasWord known.shown.shows.slots k x
      → SlotOfNumber (heap_of old) cell (words_of_cell (heap_of old) cell) k x
  slot_before k x holds =
      element_of_number k x known.shown.has known.shown.shows.of_kind
      (record { store = known.shown.shows.store; slot = known.shown.shows.slot; stands = known.shown.shows.has }) holds

  -- how the value is held
  abbrev holds_all : HoldsValue (heap_of old) false rep.Small (rep_of what) what (store_content value)
  holds_all = new_value_held false value what known.held.shows

  -- the integer is put into a box of the list
  abbrev pub put_it : PutsInteger kind.List kind.Store old new cell w box v
  put_it =
      let object = ap is_object_kind known.shown.shows.of_kind in
      let slot_is = slot_before slot w holds_box in
      record {
        owns = list_owns;
        tied = known.shows.tied;
        whole = known.shows.shows.whole;
        has = known.shown.has;
        of_kind = known.shown.shows.of_kind;
        box_of = box_of;
        named = (slot_is.at, slot_names_box slot w known.shown.has object slot_is box_of.refers box_of.box);
        fits = boxed_integer (length graph.objects) v holds_all known.fits boxed;
        puts_it = puts_it;
      }

  -- so its slots hold what they held
  abbrev refills : Refills kind.Store (heap_of old) (heap_of new) cell cell (box_of.cell ∷ []) []
      (HasWord known.shown.shows.slots) (HasWord known.shown.shows.slots)
  refills = integer.refills put_it (HasWord known.shown.shows.slots) slot known.shown.shows.store known.shown.shows.slot

  -- and an element is put
  puts_element : PutsElement (heap_of old) (heap_of new) cell (box_of.cell ∷ []) [] list.elements becomes.after slot
      what
  puts_element =
      let shown = known.shown.shows in
      record {
        whole = known.shows.shows.whole;
        shown = shown;
        writes = integer.writes put_it;
        differs = becomes.differs;
        now = shown.slots;
        are = record {
          store = shown.store;
          slot = refills.has_store;
          stands = integer.store_stays put_it shown.has;
        };
        counted = integer.word_now put_it count_offset (length becomes.after)
            (shown.counted ∙ ap (λ n. Some n) (counted ∙ sym becomes.long));
        few = omega (arith, becomes.long, becomes.few);
        enough = omega (
          arith,
          becomes.long,
          enough,
          is_store.slots cell (words_of_cell (heap_of old) cell) shown.slots shown.store known.shown.has
              known.shown.stands shown.slot shown.has,
        );
        keeps = λ k x not_one holds. inl holds;
        no_box = λ k x apart holds. no_other_slot_names slot w k x known.shows.shows.whole known.shown.has
            (ap is_object_kind shown.of_kind) (slot_before slot w holds_box) box_of.refers box_of.box apart
            (slot_before k x holds);
        comes = λ x holds. ComesFrom.moved holds;
        shows = λ x holds. box_shows x v holds_all boxed (subst (λ n. RefersToBox (heap_of new) n v)
            (same_Some w x (sym holds_box ∙ holds)) (integer.refers_to_box put_it));
        store_comes = refills.store_comes;
        belong = refills.belong;
        kinds = refills.kinds;
        stores = refills.stores;
        boxes = refills.boxes;
      }

  -- and the graph is shown in which it is there
  pub box_shown : StoresOn old new → MainShows new (relist graph list becomes.after)
  box_shown stores =
      written_elements_show old new graph list cell (box_of.cell ∷ []) [] becomes.after known.shows known.is.object
      known.is.reached known.shown.carries known.shown.shows becomes.are_new
      (takes_none (integer.rest_stays put_it) (room_for_none old known.shows.tied known.shows.shows.whole)
      (integer.same_young put_it)) (ap (λ (m : Mutator). m.paths) puts_it) (integer.writes put_it)
      (element_refills puts_element) (integer_remembers_surely put_it).remembers
      (stores_keep_cells list_owns known.shows (integer.writes put_it) (integer_remembers_surely put_it) stores)

  -- each store has as many slots as before
  pub box_keeps : ChangesObjectUsing old new 0 cell.at (capacity_at (heap_of old) cell.at)
  box_keeps = integer.capacity_stays put_it known.shown.shows.slot

-- a box has two words
box_size : {heap : Heap} {cell : Cell} {words : List ℕ} → HasCell heap cell words → cell.layout.kind ≡ kind.Boxed
    → cell.size ≡ 2
box_size has is = sym (words_are_size has) ∙ words_by_kind kind.Boxed has is

-- in an open cycle a box of a heap that is shown may be changed
pub box_may_change : {main : Mutator} {graph : Graph} {word box : ℕ} → MainShows main graph
    → IsBoxOf (heap_of main) word box → MayChange main box 2 kind.Boxed
box_may_change {main} shows box_of =
    let has = box_of.refers.has in
    subst (λ n. MayChange main n 2 kind.Boxed) box_of.stands
    (subst (λ n. MayChange main box_of.cell.at n kind.Boxed) (box_size has box_of.box)
    (subst (MayChange main box_of.cell.at box_of.cell.size) box_of.box (cell_may_change shows has)))

-- it ends before the layout words
pub box_in_cells : {main : Mutator} {graph : Graph} {word box : ℕ} → MainShows main graph
    → IsBoxOf (heap_of main) word box → box + box_words ≤ layouts_start main.seat.space
box_in_cells shows box_of =
    let has = box_of.refers.has in
    omega (arith, cell_before_layouts shows.shows.whole has, box_size has box_of.box, box_of.stands)

-- so its integer may be put
pub box_put_on : {old new : Mutator} {graph : Graph} {word box : ℕ} (v : ℤ) → MainShows old graph
    → IsBoxOf (heap_of old) word box → new ≡ with_word old (box + 1) (raw_word v) → StoresOn old new
box_put_on {old} {box = box} v shows box_of is =
    subst (StoresOn old) (sym is)
    (word_stores_on (box + 1) (raw_word v) (omega (arith, box_in_cells shows box_of))
    (box_may_put box (raw_word v) (box_may_change shows box_of)))
