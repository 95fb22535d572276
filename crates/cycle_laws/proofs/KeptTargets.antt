-- Targets of words, and which of them are born.
use Rattle.std.proofs.Common.{◌≡◌, ℕ, inl, inr, Contains, Some, nat_lt, ◌∙◌, ap, arith}
use Rattle.std.proofs.lemmas.Option.{option_and_then_some}
use Rattle.tagged_word.specs.Readings.{given, reference_in}
use Rattle.tagged_word.proofs.Readings.{given_is, reference_from}
use Rattle.page_space.specs.Extents.{eden_start}
use Rattle.heap_model.specs.Slots.{reference_word}
use Rattle.mark_world.specs.Pages.{target}
use Rattle.mark_laws.proofs.OwnSpots.{target_old}
use Rattle.mark_laws.proofs.Slots.{some_from}
use Rattle.cycle_laws.specs.Steps.{KeptMayBeBlackened, KeptTargetsAreBorn}
use Rattle.cycle_laws.proofs.Kept.{kept_cases}

-- a target is what the word refers to
pub target_refers : (old word at : ℕ) → target old word ≡ Some at → word ≡ reference_word at
target_refers old word at e =
    option_and_then_some (λ (a : ℕ). given (nat_lt a old) a) (reference_in word) at e (λ a is f.
    let same = (given_is (nat_lt a old) a at f).1 in
    (reference_from word a is).1 ∙ ap reference_word same)

-- a kept cell of a page is born
pub kept_may_be_blackened : KeptMayBeBlackened
kept_may_be_blackened heap cycle at kept of_page = elim (kept_cases heap cycle.born at kept) [
  | inl young ↦ absurd (omega (arith, young, of_page))
  | inr counts ↦ counts
]

-- so a target that is kept is
pub kept_targets_are_born : KeptTargetsAreBorn
kept_targets_are_born heap cycle word kept =
    some_from (Contains cycle.born) (target (eden_start heap.space) word) (λ at refers.
    kept_may_be_blackened heap cycle at (kept at (target_refers (eden_start heap.space) word at refers))
    (target_old (eden_start heap.space) word at refers))
