-- The steps of a push in an open cycle of marking: what each may do, and that words are stored surely.
use Rattle.std.proofs.Common.{◌≡◌, ℕ, ◌+◌, ◌<◌, ◌≤◌, ◌^◌, length, false, inl, refl, sym, ◌∙◌, ap, subst, arith}
use Rattle.std.proofs.lemmas.Bool.Decides.{nat_tests}
use Rattle.tagged_word.specs.declared.layout.Kind.TheVariants as kind
use Rattle.tagged_word.specs.Cells.{store_head, store_slot}
use Rattle.nursery.specs.Young.{HasRoom}
use Rattle.heap_model.specs.Kinds.{count_offset}
use Rattle.page_space.specs.Extents.{layouts_start, marks_start}
use Rattle.cycle_state.specs.Claims.{is_head_in}
use Rattle.mark_world.specs.declared.event.Event.TheVariants as event
use Rattle.object_graph.specs.Graphs.{Graph, ListObject}
use Rattle.heap_model.specs.Needs.{box_words}
use Rattle.heap_model.specs.Remembered.{Touch}
use Rattle.heap_model.specs.Slots.{reference_word}
use Rattle.heap_model.specs.Types.{Held, Value}
use Rattle.write_barrier.specs.Marking.{MayPut}
use Rattle.write_barrier.specs.MutatorState.{IsTied, MainShows, Mutator, reserved, with_slot, with_word}
use Rattle.write_barrier.specs.Recording.{Touches, touched, touched_one, touched_then, touched_again}
use Rattle.write_barrier.specs.Seats.{heap_words}
use Rattle.write_barrier.specs.Storing.{IsMadeYoung, MayChange, MayHold, StoresOn}
use Rattle.write_barrier.specs.SureStores.{StoresSurely}
use Rattle.write_barrier.proofs.MayPuts.{may_put_slot}
use Rattle.write_barrier.proofs.Recording.{slot_touch, word_touch}
use Rattle.write_barrier.proofs.SlotStores.{reserved_stores_on, slot_stores_on, word_stores_on}
use Rattle.write_barrier.proofs.StoresOn.{made_young_stays, may_change_stays, may_hold_stays, next_is_young}
use Rattle.write_barrier.proofs.StoresOn.{stores_on_again}
use Rattle.write_barrier.proofs.SureStores.{kept_surely, range_wiped_surely, slot_surely, surely_then, wiped_surely}
use Rattle.write_barrier.proofs.TouchedRanges.{touched_outside}
use Rattle.object_cells.specs.Contents.{held_rep, next_at}
use Rattle.object_cells.specs.HeldValues.{IsValueHeld}
use Rattle.object_cells.specs.ListObjects.{IsListAt}
use Rattle.object_cells.specs.Made.{content_need, content_touch, content_word, store_content, store_touch}
use Rattle.object_cells.specs.declared.content.SlotContent.{SlotContent}
use Rattle.object_cells.specs.declared.content.SlotContent.TheVariants as content
use Rattle.object_cells.specs.declared.stores.Store.{Store}
use Rattle.object_cells.proofs.CalmCells.{MayHoldContent, held_may_hold}
use Rattle.object_cells.proofs.FilledSlots.{no_raw}
use Rattle.object_cells.proofs.HeldNeeds.{new_value_held}
use Rattle.object_cells.proofs.HoldableWords.{young_may_hold}
use Rattle.object_cells.proofs.ListCells.{list_shown}
use Rattle.object_cells.proofs.ListsInCycle.{count_may_put, link_may_put, list_may_change, list_store_may_change}
use Rattle.object_cells.proofs.ListsInCycle.{store_in_cells}
use Rattle.object_cells.proofs.UnusedWords.{next_before_marks, run_before_layouts}
use Rattle.list_store.specs.Pushes.{CanChange, MayPush}

-- a slot may hold what is no raw word, where a box is made young
holds_content : {main : Mutator} (holds : SlotContent) (box : ℕ) → ((w : ℕ) → holds ≡ content.Raw w → ⊥)
    → MayHoldContent main holds → (0 < content_need holds → (box < 2 ^ 32) × IsMadeYoung main box)
    → MayHold main (content_word holds box)
holds_content (content.Tagged word) box not_raw held made = held
holds_content (content.Raw word) box not_raw held made = absurd (not_raw word refl)
holds_content (content.Boxed v) box not_raw held made =
    let young = made (omega arith) in
    young_may_hold box young.0 young.1

-- a list that is shown may be pushed to
pub may_push : {main : Mutator} {graph : Graph} {at : ℕ} {list : ListObject} {value : Held} {what : Value}
    → MainShows main graph → IsListAt main graph at list → IsValueHeld main graph value what
    → marks_start main.seat.space < 2 ^ 32 → MayPush main at value
may_push {value = value} {what} shows is held fit =
    let shown = list_shown shows is in
    record {
      of_list = list_may_change shows shown;
      of_store = λ store is_store some. list_store_may_change store shows shown is_store some;
      young = next_is_young shows;
      holds = λ box made. holds_content (store_content value) box
          (λ w. no_raw w (new_value_held false value what held.shows))
          (held_may_hold false (held_rep value) value fit shows held) made;
    }

-- a slot of a store is none of its head
pub no_head : (k : ℕ) → is_head_in kind.Store (store_head + k) ≡ false
no_head k = grind (arith, nat_tests)

-- so a word that it may hold is put in it
pub element_may_put : {main : Mutator} (at capacity k word : ℕ) → MayChange main at (store_head + capacity) kind.Store
    → k < capacity → MayHold main word
    → MayPut main (at + (store_head + k)) (event.StoreSlot (at + (store_head + k)) word)
element_may_put at capacity k word may below holds =
    may_put_slot (store_head + k) word may (omega (arith, below)) (no_head k) holds

-- where a cell is made young, a word of it is put
pub young_may_put : {main : Mutator} (start at word : ℕ) → IsMadeYoung main start → start ≤ at
    → MayPut main at (event.StoreSlot at word)
young_may_put start at word young from below mark = absurd (omega (arith, young mark, from, below))

-- making a box puts no slot's word
pub content_surely : (main : Mutator) (holds : SlotContent) (box : ℕ) → StoresSurely main (content_touch holds box)
content_surely main (content.Tagged word) box = kept_surely main
content_surely main (content.Raw word) box = kept_surely main
content_surely main (content.Boxed v) box = range_wiped_surely main box (box + box_words)

-- what lies before two ranges that follow one another is kept
before_both : (first next : ℕ → Touch) (at : ℕ) → first at ≡ Touch.Kept → next at ≡ Touch.Kept
    → touched_then first next at ≡ Touch.Stored → ⊥
before_both first next at one two stored =
    let kept : touched_again (first at) (next at) ≡ Touch.Kept =
    ap (λ how. touched_again (first at) how) two ∙ one in
    let same : Touch.Kept ≡ Touch.Stored = sym kept ∙ stored in
    cc

-- a store that is made is young where a cycle is open
pub made_surely : {main : Mutator} (capacity at : ℕ) → IsMadeYoung main at → StoresSurely main (store_touch capacity at)
made_surely {main} capacity at young = record {
  sure = λ mark one page bound stored.
      let before : one < at = omega (arith, young mark, page) in
      absurd (before_both (touched Touch.Wiped at (at + store_head))
      (touched Touch.Stored (at + store_head) (at + (store_head + capacity))) one
      (touched_outside Touch.Wiped at (at + store_head) one (inl before))
      (touched_outside Touch.Stored (at + store_head) (at + (store_head + capacity)) one
      (inl (omega (arith, before)))) stored);
}

-- words were stored surely, and then one was put as a slot's
pub then_put_surely : {mid new : Mutator} {first : ℕ → Touch} (at word : ℕ) → StoresSurely mid first
    → length (heap_words mid.seat) ≡ marks_start mid.seat.space → at < marks_start mid.seat.space
    → StoresOn mid new → new ≡ with_slot mid at word
    → StoresSurely new (touched_then first (touched_one Touch.Stored at))
then_put_surely {mid} at word before counted within on is =
    surely_then before
    (subst (λ (main : Mutator). Touches mid main (touched_one Touch.Stored at)) (sym is)
    (slot_touch mid at word counted within)) on
    (subst (λ (main : Mutator). StoresSurely main (touched_one Touch.Stored at)) (sym is)
    (slot_surely mid at word (omega (arith, counted, within))))

-- and one as no slot's
pub then_wiped_surely : {mid new : Mutator} {first : ℕ → Touch} (at word : ℕ) → StoresSurely mid first
    → at < marks_start mid.seat.space → StoresOn mid new → new ≡ with_word mid at word
    → StoresSurely new (touched_then first (touched_one Touch.Wiped at))
then_wiped_surely {mid} at word before within on is =
    surely_then before
    (subst (λ (main : Mutator). Touches mid main (touched_one Touch.Wiped at)) (sym is) (word_touch mid at word within))
    on
    (subst (λ (main : Mutator). StoresSurely main (touched_one Touch.Wiped at)) (sym is)
    (wiped_surely (with_word mid at word) at))

-- that words are used stores nothing
pub used_on : (old : Mutator) {run : Mutator} (need : ℕ) → run ≡ reserved old need → StoresOn old run
used_on old need is = subst (StoresOn old) (sym is) (reserved_stores_on old need)

-- nor does that a store and a box are made in them, of a cell of a page
pub made_on : (old : Mutator) {run begun boxed : Mutator} (need : ℕ) → run ≡ reserved old need → StoresOn run begun
    → StoresOn begun boxed → StoresOn old boxed
made_on old need is begins boxes = stores_on_again (stores_on_again (used_on old need is) begins) boxes

-- where the run is young, so is an address in it later
pub young_then : {old main : Mutator} (at : ℕ) → next_at old ≤ at → IsMadeYoung old (next_at old) → StoresOn old main
    → IsMadeYoung main at
young_then at from young on = made_young_stays on (λ mark. omega (arith, from, young mark))

-- a slot may hold the word once a box is made
pub word_may_hold : {old boxed : Mutator} {list word : ℕ} {value : Held} {holds : SlotContent} (need box : ℕ)
    → MayPush old list value → IsTied old → HasRoom old.young need → holds ≡ store_content value
    → word ≡ content_word holds box → need ≡ content_need holds → (0 < need → box ≡ next_at old)
    → marks_start old.seat.space < 2 ^ 32 → StoresOn old boxed → MayHold boxed word
word_may_hold {old} {value = value} {holds} need box may tied room is word_is needs at fit on =
    may_hold_stays on
    (subst (MayHold old) (sym (word_is ∙ ap (λ one. content_word one box) is))
    (may.holds box (λ some.
    let same : box ≡ next_at old = at (omega (arith, some, needs, ap content_need is)) in (
      omega (arith, same, next_before_marks old need tied room, fit),
      subst (IsMadeYoung old) (sym same) may.young,
    ))))

-- the element is put in its slot of the store that stands
pub stored_on : {old boxed put : Mutator} {list count word : ℕ} {value : Held} (store : Store)
    → CanChange old list count store → MayPush old list value → count < store.capacity → StoresOn old boxed
    → MayHold boxed word → put ≡ with_slot boxed (store.at + (store_head + count)) word → StoresOn boxed put
stored_on {boxed = boxed} {list = list} {count} {word} store can may below on holds is =
    let before = store_in_cells list store can.ready.whole can.is (omega (arith, below)) in
    subst (StoresOn boxed) (sym is)
    (slot_stores_on (store.at + (store_head + count)) word
    (omega (arith, before, below, ap layouts_start on.space))
    (element_may_put store.at store.capacity count word
    (may_change_stays on (may.of_store store can.is (omega (arith, below)))) below holds))

-- and in that of the store that was made
pub element_on : {old boxed put : Mutator} (at k word need : ℕ) → IsTied old → HasRoom old.young need → at ≡ next_at old
    → IsMadeYoung old (next_at old) → StoresOn old boxed → store_head + k < need
    → put ≡ with_slot boxed (at + (store_head + k)) word → StoresOn boxed put
element_on {old} {boxed} at k word need tied room same young on below is =
    let before = run_before_layouts old need at boxed.seat.space tied room same on.space in
    subst (StoresOn boxed) (sym is)
    (slot_stores_on (at + (store_head + k)) word (omega (arith, before, below))
    (young_may_put at (at + (store_head + k)) word (young_then at (omega (arith, same)) young on) (omega arith)))

-- a reference to that may be held
pub link_holds : {old put : Mutator} (at need : ℕ) → IsTied old → HasRoom old.young need → at ≡ next_at old
    → IsMadeYoung old (next_at old) → marks_start old.seat.space < 2 ^ 32 → StoresOn old put
    → MayHold put (reference_word at)
link_holds {old} at need tied room same young fit on =
    young_may_hold at (omega (arith, next_before_marks old need tied room, same, fit))
    (young_then at (omega (arith, same)) young on)

-- the list comes to refer to it
pub linked_on : {old put linked : Mutator} {value : Held} (list word : ℕ) → MayPush old list value
    → list + 3 ≤ layouts_start old.seat.space → StoresOn old put → MayHold put word
    → linked ≡ with_slot put (list + store_slot) word → StoresOn put linked
linked_on {put = put} list word may before on holds is =
    subst (StoresOn put) (sym is)
    (slot_stores_on (list + store_slot) word (omega (arith, before, ap layouts_start on.space))
    (link_may_put list word (may_change_stays on may.of_list) holds))

-- and its length is put
pub counted_on : {old put counted : Mutator} {value : Held} (list count : ℕ) → MayPush old list value
    → list + 3 ≤ layouts_start old.seat.space → StoresOn old put → counted ≡ with_word put (list + count_offset) count
    → StoresOn put counted
counted_on {put = put} list count may before on is =
    subst (StoresOn put) (sym is)
    (word_stores_on (list + count_offset) count (omega (arith, before, ap layouts_start on.space))
    (count_may_put list count (may_change_stays on may.of_list)))
