-- The mutator stays sure of the targets of words that it put as slots' words.
use Rattle.std.proofs.Common.{◌≡◌, ℕ, ◌+◌, ◌<◌, ◌⊎◌, inl, inr, List, Contains, Some, None, IfSome}
use Rattle.std.proofs.Common.{Option, length, slice_get, slice_index, unwrap_or, refl, sym, ◌∙◌, ap, subst, arith}
use Rattle.std.proofs.lemmas.Bool.{cases_eq, cases_lt}
use Rattle.std.proofs.lemmas.List.{get_or-take}
use Rattle.std.proofs.lemmas.List.Elements.{All-contains}
use Rattle.std.proofs.lemmas.Option.{get_or_from_slice_get, unwrap_or-slice_get}
use Rattle.page_space.specs.Extents.{eden_start}
use Rattle.object_graph.proofs.Lists.{slice_get-set_same}
use Rattle.core_parts.specs.Boards.{joined_by}
use Rattle.core_parts.proofs.Joining.{joined_in}
use Rattle.mark_world.specs.Pages.{OfTarget, target}
use Rattle.mark_world.specs.Cycles.{Cycle}
use Rattle.mark_world.specs.Soundness.{AreIn}
use Rattle.mark_barrier.specs.CycleSteps.{sure_of_target}
use Rattle.cycle_state.specs.Cycles.{words_of_pages}
use Rattle.heap_table.specs.Phases.{Mark}
use Rattle.heap_model.specs.Remembered.{Touch, IsRecordedBy}
use Rattle.remembered_set.specs.Recorded.{Recorded}
use Rattle.write_barrier.specs.Seats.{heap_words}
use Rattle.write_barrier.specs.MutatorState.{Mutator, heap_of, judged, with_slot}
use Rattle.write_barrier.specs.Recording.{Touches, touched, touched_one, touched_again, touched_then, untouched}
use Rattle.write_barrier.specs.Storing.{StoresOn, IsSureAt}
use Rattle.write_barrier.specs.SureStores.{StoresSurely}
use Rattle.write_barrier.proofs.JudgedSlots.{judges_one, judged_behind}
use Rattle.write_barrier.proofs.SlotCycles.{cycle_inside, open_mark}
use Rattle.write_barrier.proofs.TouchedRanges.{touched_inside, touched_outside, touched_other}

-- the list that something joined has it
joined_by_in : (list : List ℕ) (to : Option ℕ) → IfSome to (Contains (joined_by list to))
joined_by_in list None = tt
joined_by_in list (Some at) = joined_in list at

-- what holds of a target holds if another thing follows from it
pub target_so : {P Q : ℕ → Type 0} (to : Option ℕ) → ((at : ℕ) → P at → Q at) → IfSome to P → IfSome to Q
target_so None follows holds = tt
target_so (Some at) follows holds = follows at holds

-- a word of a page is the one that stands there
pub page_word : (main : Mutator) (at word : ℕ) → at < eden_start main.seat.space
    → slice_get (heap_words main.seat) at ≡ Some word → slice_index (words_of_pages (heap_of main)) at ≡ word
page_word main at word below is =
    get_or-take (eden_start main.seat.space) (heap_words main.seat) at 0 below
    ∙ get_or_from_slice_get (heap_words main.seat) at word 0 is

-- the same where two heaps have the same word there
pub same_page_word : (old new : Mutator) (at : ℕ) → new.seat.space ≡ old.seat.space → at < eden_start old.seat.space
    → slice_get (heap_words new.seat) at ≡ slice_get (heap_words old.seat) at
    → slice_index (words_of_pages (heap_of new)) at ≡ slice_index (words_of_pages (heap_of old)) at
same_page_word old new at space below same =
    let bound : eden_start new.seat.space ≡ eden_start old.seat.space = ap eden_start space in
    get_or-take (eden_start new.seat.space) (heap_words new.seat) at 0 (omega (arith, below, bound))
    ∙ sym (unwrap_or-slice_get (heap_words new.seat) at 0) ∙ ap (λ (word : Option ℕ). unwrap_or word 0) same
    ∙ unwrap_or-slice_get (heap_words old.seat) at 0
    ∙ sym (get_or-take (eden_start old.seat.space) (heap_words old.seat) at 0 below)

-- the mutator is sure of the target of a word that it stored in a slot
pub slot_is_sure : (main : Mutator) (at word : ℕ) → at < length (heap_words main.seat) → main.seat.phase ≡ Mark
    → at < eden_start main.seat.space → at < main.recorded.bound → IsSureAt (with_slot main at word) at
slot_is_sure main at word within mark below bound =
    let eden : ℕ = eden_start main.seat.space in
    let next : Cycle = sure_of_target eden main.cycle word in
    let cycle : (with_slot main at word).cycle ≡ next =
    cycle_inside main at next bound ∙ open_mark main.seat.phase main.cycle next mark in
    let here = page_word (with_slot main at word) at word below
    (slice_get-set_same (heap_words main.seat) at word within) in
    subst (λ (found : ℕ). OfTarget eden found (Contains (with_slot main at word).cycle.sure)) (sym here)
    (subst (λ (one : Cycle). OfTarget eden word (Contains one.sure)) (sym cycle)
    (joined_by_in main.cycle.sure (target eden word)))

-- what is kept was not stored, nor what was wiped
kept_is_not_stored : Touch.Kept ≡ Touch.Stored → ⊥
kept_is_not_stored is = cc

wiped_is_not_stored : Touch.Wiped ≡ Touch.Stored → ⊥
wiped_is_not_stored is = cc

-- the words of a range that was wiped are none of slots
pub range_wiped_surely : (main : Mutator) (from to : ℕ) → StoresSurely main (touched Touch.Wiped from to)
range_wiped_surely main from to = record {
  sure = λ mark one below bound stored. elim (cases_lt one from) [
    | inl before ↦ absurd (kept_is_not_stored (sym (touched_outside Touch.Wiped from to one (inl before)) ∙ stored))
    | inr begins ↦ elim (cases_lt one to) [
      | inl ends ↦
          absurd (wiped_is_not_stored (sym (touched_inside Touch.Wiped from to one begins ends) ∙ stored))
      | inr past ↦ absurd (kept_is_not_stored (sym (touched_outside Touch.Wiped from to one (inr past)) ∙ stored))
    ]
  ];
}

-- the bound of pages stays where a word is judged
judged_bound : (recorded : Recorded) (at word : ℕ) → (judged recorded at word).bound ≡ recorded.bound
judged_bound recorded at word = elim (cases_lt at recorded.bound) [
  | inl below ↦ (judges_one recorded at word below).bound
  | inr behind ↦ ap (λ (one : Recorded). one.bound) (judged_behind recorded at word behind)
]

-- a store into a slot is a sure one
pub slot_surely : (main : Mutator) (at word : ℕ) → at < length (heap_words main.seat)
    → StoresSurely (with_slot main at word) (touched_one Touch.Stored at)
slot_surely main at word within = record {
  sure = λ mark one below bound stored. elim (cases_eq one at) [
    | inl same ↦ subst (IsSureAt (with_slot main at word)) (sym same)
        (slot_is_sure main at word within mark (subst (λ n. n < eden_start main.seat.space) same below)
        (omega (arith, same, bound, judged_bound main.recorded at word)))
    | inr apart ↦ absurd (kept_is_not_stored (sym (touched_other Touch.Stored at one apart) ∙ stored))
  ];
}

-- so is one that puts no slot's word
pub wiped_surely : (main : Mutator) (at : ℕ) → StoresSurely main (touched_one Touch.Wiped at)
wiped_surely main at = range_wiped_surely main at (at + 1)

-- and what puts none
pub kept_surely : (main : Mutator) → StoresSurely main untouched
kept_surely main = record { sure = λ mark one below bound stored. absurd (kept_is_not_stored stored) }

-- a slot that is stored last, or that is stored and then kept
again_stored : (first next : Touch) → touched_again first next ≡ Touch.Stored
    → (next ≡ Touch.Stored) ⊎ ((next ≡ Touch.Kept) × (first ≡ Touch.Stored))
again_stored first Touch.Kept is = inr (refl, is)
again_stored first Touch.Stored is = inl refl
again_stored first Touch.Wiped is = absurd (wiped_is_not_stored is)

-- the mutator is sure of what it was sure of, where the word stays
pub sure_stays : (mid new : Mutator) (at : ℕ) → new.seat.space ≡ mid.seat.space → at < eden_start mid.seat.space
    → AreIn new.cycle.sure mid.cycle.sure
    → slice_get (heap_words new.seat) at ≡ slice_get (heap_words mid.seat) at → IsSureAt mid at → IsSureAt new at
sure_stays mid new at space below sure same was =
    let word : ℕ = slice_index (words_of_pages (heap_of mid)) at in
    subst (λ (bound : ℕ). OfTarget bound (slice_index (words_of_pages (heap_of new)) at) (Contains new.cycle.sure))
    (sym (ap eden_start space))
    (subst (λ (found : ℕ). OfTarget (eden_start mid.seat.space) found (Contains new.cycle.sure))
    (sym (same_page_word mid new at space below same))
    (target_so (target (eden_start mid.seat.space) word)
    (λ to there. All-contains (Contains new.cycle.sure) mid.cycle.sure to sure there) was))

-- sure stores after sure stores
pub surely_then : {mid new : Mutator} {first next : ℕ → Touch} → StoresSurely mid first → Touches mid new next
    → StoresOn mid new → StoresSurely new next → StoresSurely new (touched_then first next)
surely_then {mid} {new} {first} {next} before touches stores after = record {
  sure = λ mark at below bound stored. elim (again_stored (first at) (next at) stored) [
    | inl last ↦ after.sure mark at below bound last
    | inr kept ↦
        let below_mid : at < eden_start mid.seat.space = omega (arith, below, ap eden_start stores.space) in
        let bound_mid : at < mid.recorded.bound = omega (arith, bound, touches.bound) in
        let by = subst (IsRecordedBy mid.recorded.bound (heap_words mid.seat) (heap_words new.seat)
        mid.recorded.slots new.recorded.slots at) kept.0 (touches.records.each at bound_mid) in
        sure_stays mid new at stores.space below_mid stores.sure by.0
        (before.sure (sym stores.phase ∙ mark) at below_mid bound_mid kept.1)
  ];
}

-- sure stores are so under touches that say the same of pages
pub surely_alike : {new : Mutator} {touch other : ℕ → Touch}
    → ((at : ℕ) → at < new.recorded.bound → touch at ≡ other at) → StoresSurely new touch → StoresSurely new other
surely_alike alike before = record {
  sure = λ mark at below bound stored. before.sure mark at below bound (alike at bound ∙ stored);
}
