-- An element is put in an open cycle of marking: what is asked of its slot, and that words are stored surely.
use Rattle.std.proofs.Common.{◌≡◌, ℕ, ◌+◌, ◌<◌, ◌≤◌, ◌^◌, Option, Some, None, length, get_or, unwrap_or, refl, sym}
use Rattle.std.proofs.Common.{◌∙◌, ap, subst}
use Rattle.std.proofs.Common.{false, arith}
use Rattle.tagged_word.specs.declared.layout.Kind.TheVariants as kind
use Rattle.tagged_word.specs.Cells.{store_head}
use Rattle.nursery.specs.Young.{HasRoom}
use Rattle.page_space.specs.Extents.{Space, layouts_start, marks_start}
use Rattle.object_graph.specs.Graphs.{Graph, ListObject}
use Rattle.heap_model.specs.Types.{Value, Held}
use Rattle.heap_model.specs.Needs.{box_words, word_at}
use Rattle.heap_model.specs.Remembered.{Touch}
use Rattle.heap_model.specs.Slots.{IsSlotWord, raw_word, reference_word}
use Rattle.mark_world.specs.declared.event.Event.{Event}
use Rattle.mark_world.specs.declared.event.Event.TheVariants as event
use Rattle.write_barrier.specs.Marking.{MayPut}
use Rattle.write_barrier.specs.MutatorState.{Mutator, heap_of, reserved}
use Rattle.write_barrier.specs.Recording.{touched_again, touched_one, touched_then}
use Rattle.write_barrier.specs.Seats.{heap_words}
use Rattle.write_barrier.specs.Storing.{IsMadeYoung, MayChange, MayHold, StoresOn}
use Rattle.write_barrier.specs.SureStores.{StoresSurely}
use Rattle.write_barrier.proofs.StoresOn.{next_is_young, stores_on_again}
use Rattle.object_cells.specs.declared.content.SlotContent.{SlotContent}
use Rattle.object_cells.specs.declared.content.SlotContent.TheVariants as content
use Rattle.object_cells.specs.declared.stores.Store.{Store}
use Rattle.object_cells.specs.CycleChanges.{MayFillSlot}
use Rattle.object_cells.specs.declared.content.SlotWrite.{SlotWrite}
use Rattle.object_cells.specs.declared.content.SlotWrite.TheVariants as filling
use Rattle.object_cells.specs.Contents.{AllocatesBox, FillsSlot, IsBeforeLayouts, box_in, filled_touch, filling_at}
use Rattle.object_cells.specs.Contents.{filling_need, filling_of, next_at, held_rep}
use Rattle.object_cells.specs.Made.{IsStoreAt, content_need, content_touch, store_content}
use Rattle.object_cells.proofs.CalmCells.{MayHoldContent, held_may_hold}
use Rattle.object_cells.proofs.ChangedPlaces.{MayChangeAt}
use Rattle.object_cells.proofs.ElementsRead.{slot_read}
use Rattle.object_cells.proofs.FilledSlots.{no_raw}
use Rattle.object_cells.proofs.FillsOn.{CanFill, allocates_on, can_fill_used, fill_on, filled_surely}
use Rattle.object_cells.proofs.HeldNeeds.{new_value_held}
use Rattle.object_cells.proofs.HoldableWords.{young_may_hold}
use Rattle.object_cells.proofs.ListChanging.{Changing}
use Rattle.object_cells.proofs.ListsInCycle.{list_store_may_change, store_in_cells}
use Rattle.object_cells.proofs.NothingUsed.{room_for_none}
use Rattle.object_cells.proofs.SlotBoxes.{IsBoxOf, box_of_word}
use Rattle.object_cells.proofs.UnusedWords.{next_before_marks, run_before_layouts}
use Rattle.list_store.proofs.PushSteps.{no_head}
use Rattle.list_store.proofs.BoxedElements.{box_may_change, box_in_cells}

-- how a slot comes to hold this may be done
can_put_of : {main : Mutator} (at : ℕ) (holds : SlotContent) (found : Option ℕ) → MayChangeAt main at
    → MayHoldContent main holds → ((w : ℕ) → holds ≡ content.Raw w → ⊥) → IsMadeYoung main (next_at main)
    → MayHold main (reference_word (next_at main)) → ((box : ℕ) → found ≡ Some box → MayChange main box 2 kind.Boxed)
    → CanFill main at (filling_of found (next_at main) holds)
can_put_of at (content.Tagged word) found may held not_raw young made box = (may, held)
can_put_of at (content.Raw word) found may held not_raw young made box = absurd (not_raw word refl)
can_put_of at (content.Boxed v) None may held not_raw young made box = (may, young, made)
can_put_of at (content.Boxed v) (Some one) may held not_raw young made box = box one refl

-- a box that is made or written ends before the layout words
put_in_cells : (main between : Mutator) (holds : SlotContent) (found : Option ℕ)
    → (HasRoom main.young box_words → next_at main + box_words ≤ layouts_start main.seat.space)
    → ((box : ℕ) → found ≡ Some box → box + box_words ≤ layouts_start main.seat.space)
    → AllocatesBox main between (filling_of found (next_at main) holds)
    → IsBeforeLayouts main.seat.space (filling_of found (next_at main) holds)
put_in_cells main between (content.Tagged word) found next box allocates = tt
put_in_cells main between (content.Raw word) found next box allocates = tt
put_in_cells main between (content.Boxed v) None next box allocates = next allocates.0
put_in_cells main between (content.Boxed v) (Some one) next box allocates = box one refl

-- a step that may be made may be made once words were used
used_may : (main : Mutator) (more at : ℕ) (of : Event) → MayPut main at of → MayPut (reserved main more) at of
used_may main more at of may page mark =
    let one = may page mark in
    record { layouts = one.layouts; may = one.may }

-- and so may a slot be filled
pub may_fill_used : (old between : Mutator) (at : ℕ) (fill : SlotWrite) → AllocatesBox old between fill
    → MayFillSlot old at fill → MayFillSlot between at fill
may_fill_used old between at (filling.Tagged word) same may =
    subst (λ (main : Mutator). MayPut main at (event.StoreSlot at word.0)) (sym same) may
may_fill_used old between at (filling.Raw word) same may =
    subst (λ (main : Mutator). MayPut main at (event.StoreOwned at word)) (sym same) may
may_fill_used old between at (filling.NewBox box v) more may =
    subst (λ (main : Mutator). MayFillSlot main at (filling.NewBox box v)) (sym more.1)
    (may.0, used_may old box_words at (event.StoreSlot at (reference_word box)) may.1)
may_fill_used old between at (filling.OldBox box v) same may =
    subst (λ (main : Mutator). MayPut main (box + 1) (event.StoreOwned (box + 1) (raw_word v))) (sym same) may

-- what is stored after words that are kept is stored
again_kept : (how : Touch) → touched_again Touch.Kept how ≡ how
again_kept Touch.Kept = refl
again_kept Touch.Stored = refl
again_kept Touch.Wiped = refl

-- the slot is stored where it is filled, but where a box stands
filled_stored : (holds : SlotContent) (found : Option ℕ) (next place one : ℕ) → ((w : ℕ) → holds ≡ content.Raw w → ⊥)
    → filling_need (filling_of found next holds) ≡ content_need holds
    → touched_then (content_touch holds next) (touched_one Touch.Stored place) one ≡ Touch.Stored
    → filled_touch (filling_of found next holds) place one ≡ Touch.Stored
filled_stored (content.Tagged word) found next place one not_raw need stored =
    sym (again_kept (touched_one Touch.Stored place one)) ∙ stored
filled_stored (content.Raw word) found next place one not_raw need stored = absurd (not_raw word refl)
filled_stored (content.Boxed v) None next place one not_raw need stored = stored
filled_stored (content.Boxed v) (Some box) next place one not_raw need stored = absurd (omega (arith, need))

module _ {old : Mutator} {graph : Graph} {at : ℕ} {list : ListObject} {value : Held} {what : Value}
    (store : Store) (place : ℕ) (known : Changing old graph at list value what)
    (is_store : IsStoreAt (heap_of old) at store) (below : place < store.capacity)
    (fit : marks_start old.seat.space < 2 ^ 32) where
  -- the address of the slot
  abbrev slot : ℕ
  slot = store.at + (store_head + place)

  -- its word may be changed
  may_at : MayChangeAt old slot
  may_at = record {
    start = store.at;
    size = store_head + store.capacity;
    kind = kind.Store;
    offset = store_head + place;
    may = list_store_may_change store known.shows known.shown is_store (omega (arith, below));
    below = omega (arith, below);
    no_head = no_head place;
    stands = refl;
  }

  -- what is held is no raw word
  not_raw : (w : ℕ) → store_content value ≡ content.Raw w → ⊥
  not_raw w = no_raw w (new_value_held false value what known.held.shows)

  -- a box that is made has an address
  next_fits : next_at old < 2 ^ 32
  next_fits =
      let room = room_for_none old known.shows.tied known.shows.shows.whole in
      omega (arith, next_before_marks old 0 known.shows.tied room, fit)

  -- the box to which the slot refers, if it refers to one
  box_there : (box : ℕ) → box_in (heap_of old) (word_at (heap_of old) slot) ≡ Some box
      → IsBoxOf (heap_of old) (word_at (heap_of old) slot) box
  box_there box found =
      let shown = known.shown in
      let read = slot_read at shown.shows.store place shown.shows.slots store known.shows.shows.whole is_store
      shown.has shown.stands shown.shows.slot shown.shows.has below in
      let same : word_at (heap_of old) slot ≡ get_or shown.shows.slots place 0 =
      ap (λ one. unwrap_or one 0) read.stands in
      box_of_word (word_at (heap_of old) slot) box known.shows.shows.whole.sized
      (subst (IsSlotWord (heap_of old)) (sym same) read.is) found

  -- so the slot may be filled
  pub can_put : CanFill old slot (filling_at old slot (store_content value))
  can_put =
      let young = next_is_young known.shows in
      can_put_of slot (store_content value) (box_in (heap_of old) (word_at (heap_of old) slot)) may_at
      (held_may_hold false (held_rep value) value fit known.shows known.held) not_raw young
      (young_may_hold (next_at old) next_fits young)
      (λ box found. box_may_change known.shows (box_there box found))

  module _ {new : Mutator} (fills : FillsSlot old new slot (store_content value)) where
    -- a box is before the layout words
    in_cells : IsBeforeLayouts old.seat.space (filling_at old slot (store_content value))
    in_cells =
        put_in_cells old fills.between (store_content value) (box_in (heap_of old) (word_at (heap_of old) slot))
        (λ room. run_before_layouts old box_words (next_at old) old.seat.space known.shows.tied room refl refl)
        (λ box found. box_in_cells known.shows (box_there box found)) fills.allocates

    -- the words that it needs are used first
    used : StoresOn old fills.between
    used = allocates_on (filling_at old slot (store_content value)) fills.allocates

    -- in the same regions
    in_cells_then : IsBeforeLayouts fills.between.seat.space (filling_at old slot (store_content value))
    in_cells_then =
        subst (λ (s : Space). IsBeforeLayouts s (filling_at old slot (store_content value))) (sym used.space) in_cells

    -- and then the slot is filled
    pub put_on : StoresOn old new
    put_on =
        let fill = filling_at old slot (store_content value) in
        let can = can_fill_used old fills.between slot fill fills.allocates can_put in
        let before = store_in_cells at store known.shows.shows.whole is_store (omega (arith, below)) in
        subst (StoresOn old) (sym fills.fills)
        (stores_on_again used (fill_on slot fill can (omega (arith, before, below, ap layouts_start used.space))
        in_cells_then))

    -- surely, where a box stands or not
    pub put_surely : filling_need (filling_at old slot (store_content value)) ≡ content_need (store_content value)
        → length (heap_words fills.between.seat) ≡ marks_start fills.between.seat.space
        → StoresSurely new (touched_then (content_touch (store_content value) (next_at old))
        (touched_one Touch.Stored slot))
    put_surely need counted =
        let fill = filling_at old slot (store_content value) in
        let within : slot < marks_start fills.between.seat.space =
        omega (arith, is_store.within, below, ap marks_start used.space) in
        let sure = subst (λ (main : Mutator). StoresSurely main (filled_touch fill slot)) (sym fills.fills)
        (filled_surely fills.between slot fill counted within in_cells_then) in
        record {
          sure = λ mark one page bound stored. sure.sure mark one page bound
              (filled_stored (store_content value) (box_in (heap_of old) (word_at (heap_of old) slot)) (next_at old)
              slot one not_raw need stored);
        }
