-- A slot is filled where a cycle of marking is open.
use Rattle.std.specs.Prelude.{ℤ}
use Rattle.std.proofs.Common.{◌≡◌, ℕ, ◌+◌, ◌<◌, ◌≤◌, Bool, true, false, length, if◌then◌else◌}
use Rattle.std.proofs.Common.{refl, sym, subst, arith}
use Rattle.tagged_word.specs.declared.layout.Kind.TheVariants as kind
use Rattle.tagged_word.specs.Headers.{header_bits}
use Rattle.page_space.specs.Extents.{layouts_start, marks_start}
use Rattle.page_space.proofs.Starts.{marks_start_is}
use Rattle.mark_world.specs.declared.event.Event.{Event}
use Rattle.mark_world.specs.declared.event.Event.TheVariants as event
use Rattle.heap_model.specs.Needs.{box_words}
use Rattle.heap_model.specs.Remembered.{Touch}
use Rattle.heap_model.specs.Slots.{raw_word, reference_word}
use Rattle.write_barrier.specs.Marking.{MayPut}
use Rattle.write_barrier.specs.MutatorState.{Mutator, with_word}
use Rattle.write_barrier.specs.Recording.{touched, touched_again, touched_one}
use Rattle.write_barrier.specs.Seats.{heap_words}
use Rattle.write_barrier.specs.Storing.{IsMadeYoung, MayChange, MayHold, StoresOn}
use Rattle.write_barrier.specs.SureStores.{StoresSurely}
use Rattle.write_barrier.proofs.SlotStores.{slot_stores_on, word_stores_on, reserved_stores_on}
use Rattle.write_barrier.proofs.StoresOn.{made_young_stays, may_hold_stays, stores_on_again, stores_on_itself}
use Rattle.write_barrier.proofs.SureStores.{slot_surely, wiped_surely}
use Rattle.object_cells.specs.Contents.{AllocatesBox, IsBeforeLayouts, filled, filled_touch, with_box}
use Rattle.object_cells.specs.CycleChanges.{MayFillSlot}
use Rattle.object_cells.specs.Formats.{box_header}
use Rattle.object_cells.specs.declared.content.SlotWrite.{SlotWrite}
use Rattle.object_cells.specs.declared.content.SlotWrite.TheVariants as filling
use Rattle.object_cells.proofs.ChangedPlaces.{MayChangeAt, box_may_put, change_at_stays, slot_may_put}
use Rattle.object_cells.proofs.FilledTouches.{box_counted}

-- What is asked of the filling of a slot at an address: a word behind the head of a cell that may be changed comes to
-- hold one that may be held, a raw word may be stored, and so may the integer of a box; one that is made is young.
abbrev pub CanFill : Mutator → ℕ → SlotWrite → Type 0
CanFill main at (filling.Tagged word) = MayChangeAt main at × MayHold main word.0
CanFill main at (filling.Raw word) = MayPut main at (event.StoreOwned at word)
CanFill main at (filling.NewBox box v) =
    MayChangeAt main at × IsMadeYoung main box × MayHold main (reference_word box)
CanFill main at (filling.OldBox box v) = MayChange main box 2 kind.Boxed

-- so the slot may be filled
pub may_fill : (main : Mutator) (at : ℕ) (fill : SlotWrite) → CanFill main at fill → MayFillSlot main at fill
may_fill main at (filling.Tagged word) can = slot_may_put word.0 can.0 can.1
may_fill main at (filling.Raw word) can = can
may_fill main at (filling.NewBox box v) can = (can.1, slot_may_put (reference_word box) can.0 can.2)
may_fill main at (filling.OldBox box v) can = box_may_put box (raw_word v) can

-- that the words of a box were used stores nothing
pub allocates_on : {old between : Mutator} (fill : SlotWrite) → AllocatesBox old between fill → StoresOn old between
allocates_on {old} (filling.Tagged word) same = subst (StoresOn old) (sym same) (stores_on_itself old)
allocates_on {old} (filling.Raw word) same = subst (StoresOn old) (sym same) (stores_on_itself old)
allocates_on {old} (filling.NewBox box v) more =
    subst (StoresOn old) (sym more.1) (reserved_stores_on old box_words)
allocates_on {old} (filling.OldBox box v) same = subst (StoresOn old) (sym same) (stores_on_itself old)

-- the slot can be filled then as before
pub can_fill_used : (old between : Mutator) (at : ℕ) (fill : SlotWrite) → AllocatesBox old between fill
    → CanFill old at fill → CanFill between at fill
can_fill_used old between at (filling.Tagged word) same can =
    subst (λ (main : Mutator). MayChangeAt main at × MayHold main word.0) (sym same) can
can_fill_used old between at (filling.Raw word) same can =
    subst (λ (main : Mutator). MayPut main at (event.StoreOwned at word)) (sym same) can
can_fill_used old between at (filling.NewBox box v) more can =
    let stores = allocates_on {between = between} (filling.NewBox box v) more in
    (change_at_stays stores can.0, made_young_stays stores can.1, may_hold_stays stores can.2)
can_fill_used old between at (filling.OldBox box v) same can =
    subst (λ (main : Mutator). MayChange main box 2 kind.Boxed) (sym same) can

-- a word that is young where a cycle is open may be put
young_may_put : {main : Mutator} {box : ℕ} (at : ℕ) (of : Event) → IsMadeYoung main box → box ≤ at → MayPut main at of
young_may_put at of young from below mark = absurd (omega (arith, young mark, from, below))

-- the words of a box are stored
box_on : {main : Mutator} (box : ℕ) (v : ℤ) → IsMadeYoung main box → box + box_words ≤ layouts_start main.seat.space
    → StoresOn main (with_box main box v)
box_on {main} box v young within =
    let head : ℕ = header_bits box_header in
    let first = word_stores_on {main = main} box head (omega (arith, within))
    (young_may_put box (event.StoreOwned box head) young (omega arith)) in
    stores_on_again first
    (word_stores_on {main = with_word main box head} (box + 1) (raw_word v) (omega (arith, within))
    (young_may_put (box + 1) (event.StoreOwned (box + 1) (raw_word v)) (made_young_stays first young) (omega arith)))

-- and where a slot is filled, words are stored
pub fill_on : {main : Mutator} (at : ℕ) (fill : SlotWrite) → CanFill main at fill → at < layouts_start main.seat.space
    → IsBeforeLayouts main.seat.space fill → StoresOn main (filled main at fill)
fill_on at (filling.Tagged word) can below room = slot_stores_on at word.0 below (slot_may_put word.0 can.0 can.1)
fill_on at (filling.Raw word) can below room = word_stores_on at word below can
fill_on {main} at (filling.NewBox box v) can below room =
    let first = box_on box v can.1 room in
    stores_on_again first (slot_stores_on {main = with_box main box v} at (reference_word box) below
    (slot_may_put (reference_word box) (change_at_stays first can.0) (may_hold_stays first can.2)))
fill_on at (filling.OldBox box v) can below room =
    word_stores_on (box + 1) (raw_word v) (omega (arith, room)) (box_may_put box (raw_word v) can)

-- what was wiped or kept, and is stored then, is stored last
pub stored_last : (first next : Touch) → (first ≡ Touch.Stored → ⊥) → touched_again first next ≡ Touch.Stored
    → next ≡ Touch.Stored
stored_last first Touch.Kept apart stored = absurd (apart stored)
stored_last first Touch.Stored apart stored = refl
stored_last first Touch.Wiped apart stored = stored

-- a range that is wiped is not stored
pub wiped_if : (test : Bool) → (if test then Touch.Wiped else Touch.Kept) ≡ Touch.Stored → ⊥
wiped_if true same = cc
wiped_if false same = cc

-- so what is put as a slot's word is put surely
pub filled_surely : (main : Mutator) (at : ℕ) (fill : SlotWrite)
    → length (heap_words main.seat) ≡ marks_start main.seat.space → at < marks_start main.seat.space
    → IsBeforeLayouts main.seat.space fill → StoresSurely (filled main at fill) (filled_touch fill at)
filled_surely main at (filling.Tagged word) counted below room =
    slot_surely main at word.0 (omega (arith, counted, below))
filled_surely main at (filling.Raw word) counted below room = wiped_surely (with_word main at word) at
filled_surely main at (filling.NewBox box v) counted below room =
    let made : Mutator = with_box main box v in
    let many = box_counted main box v (omega (arith, room, marks_start_is main.seat.space)) counted in
    let put = slot_surely made at (reference_word box) (omega (arith, many, below)) in
    record {
      sure = λ mark one page bound stored.
          put.sure mark one page bound (stored_last (touched Touch.Wiped box (box + box_words) one)
          (touched_one Touch.Stored at one) (wiped_if _) stored);
    }
filled_surely main at (filling.OldBox box v) counted below room =
    wiped_surely (with_word main (box + 1) (raw_word v)) (box + 1)
