-- Which words are written where a slot is filled: those of the slot and of a box that is made, or the integer of the
-- box that stands there.
use Rattle.std.proofs.Common.{◌≡◌, ℕ, ◌+◌, ◌<◌, List, Option, Some, None, Bool, true, false, not, ◌&&◌, ℤ}
use Rattle.std.proofs.Common.{slice_get, set, refl, sym, ◌∙◌, ap}
use Rattle.std.specs.Prelude.{slice_set}
use Rattle.std.proofs.lemmas.Bool.{false≢true}
use Rattle.std.proofs.lemmas.List.{set-get_or}
use Rattle.std.proofs.lemmas.Option.{get_or_from_slice_get}
use Rattle.tagged_word.specs.Words.{small}
use Rattle.heap_model.specs.Types.{Value, Rep, Held}
use Rattle.object_graph.specs.declared.value.Rep.TheVariants as rep
use Rattle.page_space.specs.Extents.{marks_start}
use Rattle.nursery.specs.Young.{Young, HasRoom}
use Rattle.handle_roots.specs.declared.held.Held.TheVariants as held
use Rattle.write_barrier.specs.Seats.{heap_words, RestStays}
use Rattle.heap_model.specs.Heaps.{Heap}
use Rattle.heap_model.specs.Slots.{raw_word, reference_word, IsSlotWord}
use Rattle.heap_model.specs.Needs.{box_need, box_words, is_box_word, word_at}
use Rattle.write_barrier.specs.MutatorState.{Mutator, heap_of, reserved, with_word, with_slot, IsTied}
use Rattle.object_cells.specs.declared.content.SlotContent.{SlotContent}
use Rattle.object_cells.specs.declared.content.SlotContent.TheVariants as content
use Rattle.object_cells.specs.Contents.{next_at, filling_of, filled, AllocatesBox, box_in, filling_need, with_box}
use Rattle.object_cells.specs.Contents.{FillsSlot, HoldsSlotWord}
use Rattle.object_cells.specs.Made.{PutsWords, with_content, content_need, content_word, store_content, is_wide_held}
use Rattle.object_cells.proofs.HeldContents.{HoldsValue}
use Rattle.object_cells.proofs.SlotBoxes.{boxed_need}
use Rattle.object_cells.proofs.TakenRuns.{bumped_none}

-- a list with one put that stood there is the same
pub set_there : {A : Type 0} (xs : List A) (i : ℕ) (x : A) → slice_get xs i ≡ Some x → slice_set xs i x ≡ xs
set_there xs i x there =
    ap (λ y. set xs i y) (sym (get_or_from_slice_get xs i x x there)) ∙ set-get_or xs i x

-- How a slot came to hold what is held: the words of the slot and of a box that is made, or the integer of a box.
pub data FilledBy (old new : Mutator) (at word : ℕ) (holds : SlotContent) : Type 0 where
  slot : HasRoom old.young (content_need holds)
      → PutsWords (reserved old (content_need holds)) new
      (slice_set (with_content (heap_words old.seat) holds (next_at old)) at (content_word holds (next_at old)))
      → filling_need (filling_of (box_in (heap_of old) word) (next_at old) holds) ≡ content_need holds
      → FilledBy old new at word holds
  of_box : (box : ℕ) (v : ℤ) → holds ≡ content.Boxed v → box_in (heap_of old) word ≡ Some box
      → new ≡ with_word old (box + 1) (raw_word v) → FilledBy old new at word holds

-- where nothing is reserved, nothing has changed
pub reserved_none : (old : Mutator) → old ≡ reserved old 0
reserved_none old = ap (λ (y : Young). record old { young = y }) (sym (bumped_none old.young))

-- so it is by what it holds, and by the box that stood there
filled_by : (old between new : Mutator) (at word : ℕ) (holds : SlotContent) (found : Option ℕ) → IsTied old
    → at < marks_start old.seat.space → HasRoom old.young 0 → box_in (heap_of old) word ≡ found
    → ((w : ℕ) → holds ≡ content.Raw w → ⊥)
    → AllocatesBox old between (filling_of found (next_at old) holds)
    → new ≡ filled between at (filling_of found (next_at old) holds) → RestStays old.seat new.seat
    → FilledBy old new at word holds
filled_by old between new at word (content.Raw w) found tied within room is not_raw allocates fills beside =
    absurd (not_raw w refl)
filled_by old between new at word (content.Tagged one) found tied within room is not_raw allocates fills beside =
    let same : new ≡ with_slot old at one.0 = fills ∙ ap (λ (m : Mutator). with_slot m at one.0) allocates in
    FilledBy.slot room (record {
      beside = beside;
      paths = ap (λ (m : Mutator). m.paths) same;
      young = ap (λ (m : Mutator). m.young) (same ∙ ap (λ (m : Mutator). with_slot m at one.0) (reserved_none old));
      heap = ap (λ (m : Mutator). heap_words m.seat) same;
    }) refl
filled_by old between new at word (content.Boxed v) (Some box) tied within room is not_raw allocates fills beside =
    FilledBy.of_box box v refl is (fills ∙ ap (λ (m : Mutator). with_word m (box + 1) (raw_word v)) allocates)
filled_by old between new at word (content.Boxed v) None tied within room is not_raw allocates fills beside =
    let more : Mutator = reserved old box_words in
    let next : ℕ = next_at old in
    let same : new ≡ with_slot (with_box more next v) at (reference_word next) =
    fills ∙ ap (λ (m : Mutator). with_slot (with_box m next v) at (reference_word next)) allocates.1 in
    FilledBy.slot allocates.0 (record {
      beside = beside;
      paths = ap (λ (m : Mutator). m.paths) same;
      young = ap (λ (m : Mutator). m.young) same;
      heap = ap (λ (m : Mutator). heap_words m.seat) same;
    }) (ap (λ found. filling_need (filling_of found next (content.Boxed v))) is)

-- and so it is where it was filled
pub slot_filled : {old new : Mutator} {at : ℕ} {holds : SlotContent} → FillsSlot old new at holds → IsTied old
    → at < marks_start old.seat.space → HasRoom old.young 0 → ((w : ℕ) → holds ≡ content.Raw w → ⊥)
    → FilledBy old new at (word_at (heap_of old) at) holds
slot_filled {old} {new} {at} {holds} fills tied within room not_raw =
    let word : ℕ = word_at (heap_of old) at in
    filled_by old fills.between new at word holds (box_in (heap_of old) word) tied within room refl not_raw
    fills.allocates fills.fills fills.beside

-- how many words it takes that a slot comes to hold an integer
integer_put : (heap : Heap) (word next : ℕ) (v : ℤ) (is_small : Bool) → small v ≡ is_small
    → filling_need (filling_of (box_in heap word) next (store_content (held.Int v)))
    ≡ box_need (not (small v) && not (is_box_word heap word))
integer_put heap word next v true is = rw is (rw is refl)
integer_put heap word next v false is = rw is (boxed_need heap word next v)

-- and how many any value
pub held_put : (heap : Heap) (word next : ℕ) (value : Held)
    → filling_need (filling_of (box_in heap word) next (store_content value))
    ≡ box_need (is_wide_held value && not (is_box_word heap word))
held_put heap word next held.Unbound = refl
held_put heap word next held.Undefined = refl
held_put heap word next (held.Int v) = integer_put heap word next v (small v) refl
held_put heap word next (held.Ref at) = refl

-- a slot that holds a slot word may come to hold anything
pub held_before : (heap : Heap) (word : ℕ) (holds : SlotContent) → IsSlotWord heap word → HoldsSlotWord heap word holds
held_before heap word (content.Tagged other) is = tt
held_before heap word (content.Raw other) is = tt
held_before heap word (content.Boxed v) is = is

-- no slot of a store or of a table is raw
pub no_raw : {heap : Heap} {one : Rep} {what : Value} {holds : SlotContent} (word : ℕ)
    → HoldsValue heap false rep.Small one what holds → holds ≡ content.Raw word → ⊥
no_raw word (HoldsValue.small_integer one v is apart) raw = cc
no_raw word (HoldsValue.raw v own apart) raw = false≢true own
no_raw word (HoldsValue.wide_box v beside apart small_stays) raw = cc
no_raw word (HoldsValue.tagged_box v wide was) raw = cc
no_raw word HoldsValue.undefined raw = cc
no_raw word (HoldsValue.object at number place) raw = cc
