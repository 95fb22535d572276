-- Which touches are no store of a slot's word, and what stays put surely once a header is put.
use Rattle.std.proofs.Common.{◌≡◌, ℕ, ◌+◌, ◌<◌, ◌≤◌, inl, inr, List, slice_get, sym}
use Rattle.std.proofs.Common.{◌∙◌, ap, subst, arith}
use Rattle.std.proofs.lemmas.Bool.{cases_eq}
use Rattle.std.proofs.lemmas.List.Elements.{All-contains_itself}
use Rattle.page_space.specs.Extents.{eden_start}
use Rattle.mark_world.specs.Soundness.{AreIn}
use Rattle.object_graph.proofs.Lists.{slice_get-set_other}
use Rattle.heap_model.specs.Needs.{box_words}
use Rattle.heap_model.specs.Remembered.{Touch}
use Rattle.write_barrier.specs.MutatorState.{Mutator, with_word}
use Rattle.write_barrier.specs.Recording.{touched, touched_then}
use Rattle.write_barrier.specs.Seats.{heap_words}
use Rattle.write_barrier.specs.SureStores.{StoresSurely}
use Rattle.write_barrier.proofs.JudgedSlots.{wiped_bound}
use Rattle.write_barrier.proofs.SureStores.{kept_surely, range_wiped_surely, sure_stays}
use Rattle.object_cells.specs.declared.content.SlotContent.{SlotContent}
use Rattle.object_cells.specs.declared.content.SlotContent.TheVariants as content
use Rattle.object_cells.specs.Made.{content_touch}
use Rattle.object_cells.proofs.TouchedCells.{then_cases, touched_cases}

-- what is kept was not stored, nor what was wiped
pub kept_never : Touch.Kept ≡ Touch.Stored → ⊥
kept_never is = cc

pub wiped_never : Touch.Wiped ≡ Touch.Stored → ⊥
wiped_never is = cc

-- making a box puts no slot's word
pub content_surely : (main : Mutator) (holds : SlotContent) (at : ℕ) → StoresSurely main (content_touch holds at)
content_surely main (content.Tagged word) at = kept_surely main
content_surely main (content.Raw word) at = kept_surely main
content_surely main (content.Boxed v) at = range_wiped_surely main at (at + box_words)

-- no word of it is stored
pub content_never : (holds : SlotContent) (from at : ℕ) → content_touch holds from at ≡ Touch.Stored → ⊥
content_never (content.Tagged word) from at is = cc
content_never (content.Raw word) from at is = cc
content_never (content.Boxed v) from at is = elim (touched_cases Touch.Wiped from (from + box_words) at) [
  | inl inside ↦ wiped_never (sym inside.2 ∙ is)
  | inr out ↦ kept_never (sym out.1 ∙ is)
]

-- where neither touch stores a word, both do not
pub then_never : (first next : ℕ → Touch) (at : ℕ) → (first at ≡ Touch.Stored → ⊥) → (next at ≡ Touch.Stored → ⊥)
    → touched_then first next at ≡ Touch.Stored → ⊥
then_never first next at no_first no_next is = elim (then_cases first next at) [
  | inl later ↦ no_next (sym later ∙ is)
  | inr earlier ↦ no_first (sym earlier.1 ∙ is)
]

-- an address beside a range is not stored
pub range_never : (how : Touch) (from to at : ℕ) → (from ≤ at → at < to → ⊥)
    → touched how from to at ≡ Touch.Stored → ⊥
range_never how from to at out is = elim (touched_cases how from to at) [
  | inl inside ↦ out inside.0 inside.1
  | inr beside ↦ kept_never (sym beside.1 ∙ is)
]

-- what was put surely stays so where another word is put that is no slot's
pub surely_headed : {mid new : Mutator} {touch : ℕ → Touch} (at word : ℕ) → new ≡ with_word mid at word
    → (touch at ≡ Touch.Stored → ⊥) → StoresSurely mid touch → StoresSurely new touch
surely_headed {mid} {new} {touch} at word is never surely = record {
  sure = λ mark one below bound stored. elim (cases_eq one at) [
    | inl same ↦ absurd (never (ap touch (sym same) ∙ stored))
    | inr apart ↦
        let space = ap (λ (main : Mutator). main.seat.space) is in
        let bounds = ap (λ (main : Mutator). main.recorded.bound) is ∙ wiped_bound mid.recorded at (at + 1) in
        let below_mid : one < eden_start mid.seat.space = omega (arith, below, ap eden_start space) in
        let grows = subst (λ (list : List ℕ). AreIn list mid.cycle.sure)
        (ap (λ (main : Mutator). main.cycle.sure) (sym is)) (All-contains_itself mid.cycle.sure) in
        sure_stays mid new one space below_mid grows
        (ap (λ (main : Mutator). slice_get (heap_words main.seat) one) is
        ∙ slice_get-set_other (heap_words mid.seat) at one word apart)
        (surely.sure (sym (ap (λ (main : Mutator). main.seat.phase) is) ∙ mark) one below_mid
        (omega (arith, bound, bounds)) stored)
  ];
}
