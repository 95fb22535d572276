-- How records are touched where a slot is filled.
use Rattle.std.proofs.Common.{◌≡◌, ℕ, ◌+◌, ◌<◌, ◌≤◌, Option, Some, None, length, refl, sym, ◌∙◌, ap, subst, arith}
use Rattle.std.proofs.Common.{length-set}
use Rattle.std.specs.Prelude.{ℤ, slice_set}
use Rattle.tagged_word.specs.Headers.{header_bits}
use Rattle.page_space.specs.Extents.{layouts_start, marks_start}
use Rattle.write_barrier.specs.Seats.{Seat, heap_words}
use Rattle.heap_model.specs.Remembered.{Touch}
use Rattle.heap_model.specs.Needs.{box_words, word_at}
use Rattle.heap_model.specs.Slots.{raw_word, reference_word, IsSlotWord}
use Rattle.heap_model.specs.Wholeness.{Whole}
use Rattle.write_barrier.specs.MutatorState.{Mutator, heap_of, reserved, with_word, IsTied}
use Rattle.write_barrier.specs.Recording.{Touches, untouched, touched, touched_one, touched_then}
use Rattle.write_barrier.proofs.Recording.{then_touch, touch_alike, word_touch, slot_touch}
use Rattle.object_cells.specs.declared.content.SlotContent.{SlotContent}
use Rattle.object_cells.specs.declared.content.SlotContent.TheVariants as content
use Rattle.object_cells.specs.declared.content.SlotWrite.{SlotWrite}
use Rattle.object_cells.specs.declared.content.SlotWrite.TheVariants as filling
use Rattle.object_cells.specs.Contents.{next_at, filling_of, filling_at, filled, filled_touch, box_in, with_box}
use Rattle.object_cells.specs.Contents.{filling_need, AllocatesBox, FillsSlot, HoldsSlotWord, IsBeforeLayouts}
use Rattle.object_cells.specs.Formats.{box_header}
use Rattle.object_cells.specs.Made.{content_need, content_touch, slot_touch as touch_of}
use Rattle.object_cells.proofs.RestOfWords.{allocates_seat, layouts_before_marks}
use Rattle.object_cells.proofs.SlotBoxes.{box_of_word}
use Rattle.object_cells.proofs.SlotTargets.{target_before_layouts}
use Rattle.object_cells.proofs.TouchedCells.{then_next}
use Rattle.object_cells.proofs.UnusedWords.{next_before_layouts}
use Rattle.object_cells.proofs.WipedRanges.{two_wiped}

-- both words of a box that is made are wiped
pub box_touch : (main : Mutator) (at : ℕ) (v : ℤ) → at + box_words ≤ marks_start main.seat.space
    → Touches main (with_box main at v) (touched Touch.Wiped at (at + box_words))
box_touch main at v within =
    let headed : Mutator = with_word main at (header_bits box_header) in
    two_wiped {one = headed} at (header_bits box_header) (raw_word v) refl refl (omega (arith, within))

-- there are as many words with it
pub box_counted : (main : Mutator) (at : ℕ) (v : ℤ) → at + box_words ≤ marks_start main.seat.space
    → length (heap_words main.seat) ≡ marks_start main.seat.space
    → length (heap_words (with_box main at v).seat) ≡ marks_start main.seat.space
box_counted main at v within counted =
    let headed : Mutator = with_word main at (header_bits box_header) in
    let words = heap_words main.seat in
    length-set (slice_set words at (header_bits box_header)) (at + 1) (raw_word v)
    ∙ length-set words at (header_bits box_header) ∙ counted

-- so are addresses touched where a slot is filled
pub filled_touches : (main : Mutator) (at : ℕ) (filling : SlotWrite)
    → length (heap_words main.seat) ≡ marks_start main.seat.space → at < marks_start main.seat.space
    → IsBeforeLayouts main.seat.space filling → Touches main (filled main at filling) (filled_touch filling at)
filled_touches main at (filling.Tagged word) counted below room = slot_touch main at word.0 counted below
filled_touches main at (filling.Raw word) counted below room = word_touch main at word below
filled_touches main at (filling.NewBox box v) counted below room =
    let before : box + box_words ≤ marks_start main.seat.space =
    omega (arith, room, layouts_before_marks main.seat.space) in
    then_touch (box_touch main box v before)
    (slot_touch (with_box main box v) at (reference_word box) (box_counted main box v before counted) below)
filled_touches main at (filling.OldBox box v) counted below room =
    word_touch main (box + 1) (raw_word v) (omega (arith, room, layouts_before_marks main.seat.space))

-- that words were reserved touches nothing
pub reserved_touch : {old new : Mutator} {touch : ℕ → Touch} (n : ℕ) → Touches (reserved old n) new touch
    → Touches old new touch
reserved_touch n touches = record { free = touches.free; bound = touches.bound; records = touches.records }

-- nor does it that the words of a box were
pub allocates_touch : {old between new : Mutator} {touch : ℕ → Touch} (filling : SlotWrite)
    → AllocatesBox old between filling → Touches between new touch → Touches old new touch
allocates_touch {new = new} {touch} (filling.Tagged word) same touches =
    subst (λ (main : Mutator). Touches main new touch) same touches
allocates_touch {new = new} {touch} (filling.Raw word) same touches =
    subst (λ (main : Mutator). Touches main new touch) same touches
allocates_touch {new = new} {touch} (filling.NewBox at v) more touches =
    reserved_touch box_words (subst (λ (main : Mutator). Touches main new touch) more.1 touches)
allocates_touch {new = new} {touch} (filling.OldBox at v) same touches =
    subst (λ (main : Mutator). Touches main new touch) same touches

-- the box to which a slot's word refers has two words before the layout words
old_before_layouts : (main : Mutator) (word box : ℕ) → Whole (heap_of main) → IsSlotWord (heap_of main) word
    → box_in (heap_of main) word ≡ Some box → box + box_words ≤ layouts_start main.seat.space
old_before_layouts main word box whole slot is =
    let one = box_of_word word box whole.sized slot is in
    target_before_layouts word box whole slot (one.refers.refers ∙ ap reference_word one.stands)

-- so does the box of what a slot comes to hold, an old one or a new one
pub fills_before_layouts : (old between : Mutator) (word : ℕ) (holds : SlotContent) (found : Option ℕ) → IsTied old
    → Whole (heap_of old) → HoldsSlotWord (heap_of old) word holds → box_in (heap_of old) word ≡ found
    → AllocatesBox old between (filling_of found (next_at old) holds)
    → IsBeforeLayouts old.seat.space (filling_of found (next_at old) holds)
fills_before_layouts old between word (content.Tagged one) found tied whole slot is allocates = tt
fills_before_layouts old between word (content.Raw one) found tied whole slot is allocates = tt
fills_before_layouts old between word (content.Boxed v) None tied whole slot is allocates =
    next_before_layouts old box_words tied allocates.0
fills_before_layouts old between word (content.Boxed v) (Some box) tied whole slot is allocates =
    old_before_layouts old word box whole slot is

-- a slot is filled once the words of its box are used
fills_between : (old between : Mutator) (at : ℕ) (filling : SlotWrite) → AllocatesBox old between filling
    → Whole (heap_of old) → at < marks_start old.seat.space → IsBeforeLayouts old.seat.space filling
    → Touches between (filled between at filling) (filled_touch filling at)
fills_between old between at filling allocates whole below room =
    let same : between.seat ≡ old.seat = allocates_seat old between filling allocates in
    filled_touches between at filling
    (subst (λ (seat : Seat). length (heap_words seat) ≡ marks_start seat.space) (sym same) whole.sized.words)
    (subst (λ (seat : Seat). at < marks_start seat.space) (sym same) below)
    (subst (λ (seat : Seat). IsBeforeLayouts seat.space filling) (sym same) room)

-- so they are where a slot came to hold something
pub fills_touch : {old new : Mutator} {at : ℕ} {holds : SlotContent} → FillsSlot old new at holds → IsTied old
    → Whole (heap_of old) → at < marks_start old.seat.space
    → HoldsSlotWord (heap_of old) (word_at (heap_of old) at) holds
    → Touches old new (filled_touch (filling_at old at holds) at)
fills_touch {old} {new} {at} {holds} fills tied whole below slot =
    let write : SlotWrite = filling_at old at holds in
    let word : ℕ = word_at (heap_of old) at in
    let room = fills_before_layouts old fills.between word holds (box_in (heap_of old) word) tied whole slot refl
    fills.allocates in
    allocates_touch write fills.allocates
    (subst (λ (main : Mutator). Touches fills.between main (filled_touch write at)) (sym fills.fills)
    (fills_between old fills.between at write fills.allocates whole below room))

-- Where no box was written, the words of the one that is made were touched, and then the slot.
made_touch : (old : Mutator) (at : ℕ) (holds : SlotContent) (found : Option ℕ) (a : ℕ)
    → filling_need (filling_of found (next_at old) holds) ≡ content_need holds
    → filled_touch (filling_of found (next_at old) holds) at a
    ≡ touched_then (content_touch holds (next_at old)) (touched_one (touch_of holds) at) a
made_touch old at (content.Tagged word) found a need = sym (then_next untouched (touched_one Touch.Stored at) a refl)
made_touch old at (content.Raw word) found a need = sym (then_next untouched (touched_one Touch.Wiped at) a refl)
made_touch old at (content.Boxed v) None a need = refl
made_touch old at (content.Boxed v) (Some box) a need = absurd (omega (arith, need))

-- so it is where a slot came to hold something, but in a box that stood there
pub fills_slot_touch : {old new : Mutator} {at : ℕ} {holds : SlotContent} → FillsSlot old new at holds → IsTied old
    → Whole (heap_of old) → at < marks_start old.seat.space
    → HoldsSlotWord (heap_of old) (word_at (heap_of old) at) holds
    → filling_need (filling_at old at holds) ≡ content_need holds
    → Touches old new (touched_then (content_touch holds (next_at old)) (touched_one (touch_of holds) at))
fills_slot_touch {old} {at = at} {holds} fills tied whole below slot need =
    touch_alike (λ a of_page. made_touch old at holds (box_in (heap_of old) (word_at (heap_of old) at)) a need)
    (fills_touch fills tied whole below slot)
