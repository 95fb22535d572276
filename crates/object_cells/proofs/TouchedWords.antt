-- Addresses that were touched, and then that of a word that is put.
use Rattle.std.proofs.Common.{◌≡◌, ℕ, ◌<◌, ◌≤◌, ◌⊎◌, inl, inr, length, refl, sym}
use Rattle.std.proofs.Common.{◌∙◌, ap, subst, arith}
use Rattle.page_space.specs.Extents.{Space, marks_start}
use Rattle.write_barrier.specs.Seats.{Seat, heap_words, RestStays}
use Rattle.heap_model.specs.Remembered.{Touch}
use Rattle.write_barrier.specs.MutatorState.{Mutator, reserved, with_word, with_slot}
use Rattle.write_barrier.specs.Recording.{Touches, touched, touched_again, touched_one, touched_then}
use Rattle.write_barrier.proofs.Recording.{then_touch, word_touch, slot_touch}
use Rattle.object_cells.specs.declared.content.SlotContent.{SlotContent}
use Rattle.object_cells.specs.declared.content.SlotContent.TheVariants as content
use Rattle.object_cells.specs.Contents.{next_at}
use Rattle.object_cells.specs.Made.{content_need, content_touch}
use Rattle.object_cells.proofs.FilledTouches.{reserved_touch}
use Rattle.object_cells.proofs.TouchedCells.{touched_cases}

-- where the rest stays, there is still a word for each address before the marks
pub rest_counted : {old new : Seat} → RestStays old new → length (heap_words old) ≡ marks_start old.space
    → length (heap_words new) ≡ marks_start new.space
rest_counted rest counted = rest.count ∙ counted ∙ sym (ap (λ (space : Space). marks_start space) rest.space)

-- where addresses were touched, and then a word was put that is no slot's, that was wiped
pub then_wiped : {old mid new : Mutator} {touch : ℕ → Touch} (at word : ℕ) → Touches old mid touch
    → new ≡ with_word mid at word → at < marks_start mid.seat.space
    → Touches old new (touched_then touch (touched_one Touch.Wiped at))
then_wiped {mid = mid} at word first same below =
    then_touch first (subst (λ (main : Mutator). Touches mid main (touched_one Touch.Wiped at)) (sym same)
    (word_touch mid at word below))

-- and where a slot's was, that was stored
pub then_stored : {old mid new : Mutator} {touch : ℕ → Touch} (at word : ℕ) → Touches old mid touch
    → new ≡ with_slot mid at word → length (heap_words mid.seat) ≡ marks_start mid.seat.space
    → at < marks_start mid.seat.space → Touches old new (touched_then touch (touched_one Touch.Stored at))
then_stored {mid = mid} at word first same counted below =
    then_touch first (subst (λ (main : Mutator). Touches mid main (touched_one Touch.Stored at)) (sym same)
    (slot_touch mid at word counted below))

-- an address was touched so last, or it is as it was left before
pub last_touch : (first : ℕ → Touch) (how : Touch) (from to at : ℕ)
    → ((from ≤ at) × (at < to) × (touched_then first (touched how from to) at ≡ touched_again (first at) how))
    ⊎ (((at < from) ⊎ (to ≤ at)) × (touched_then first (touched how from to) at ≡ first at))
last_touch first how from to at = elim (touched_cases how from to at) [
  | inl inside ↦ inl (inside.0, inside.1, ap (touched_again (first at)) inside.2)
  | inr beside ↦ inr (beside.0, ap (touched_again (first at)) beside.1)
]

-- what a slot comes to hold touches the same words, wherever it needs no box
pub content_touch_at : (holds : SlotContent) (at next : ℕ) → (0 < content_need holds → at ≡ next)
    → content_touch holds at ≡ content_touch holds next
content_touch_at (content.Tagged word) at next same = refl
content_touch_at (content.Raw word) at next same = refl
content_touch_at (content.Boxed v) at next same = ap (content_touch (content.Boxed v)) (same (omega arith))

-- so in words that were reserved it touches those where the next cell is made
pub content_reserved : {old between new : Mutator} (holds : SlotContent) (at need : ℕ) → between ≡ reserved old need
    → (0 < content_need holds → at ≡ next_at old) → Touches between new (content_touch holds at)
    → Touches old new (content_touch holds (next_at old))
content_reserved {old} {new = new} holds at need is stands touches =
    subst (Touches old new) (content_touch_at holds at (next_at old) stands)
    (reserved_touch need (subst (λ (main : Mutator). Touches main new (content_touch holds at)) is touches))
