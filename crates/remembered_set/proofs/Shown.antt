-- What flags show, as they change.
use Rattle.std.proofs.Common.{◌≡◌, ℕ, ◌<◌, ◌≤◌, ◌⊎◌, ◌↔◌, Bool, true, false, List, [], ◌∷◌, length, get_or, set}
use Rattle.std.proofs.Common.{replicate, Contains, Option, Some, None, MatchOption, refl, arith, inl, inr, sym}
use Rattle.std.proofs.Common.{◌∙◌}
use Rattle.std.proofs.lemmas.Bool.{cases_lt, cases_eq}
use Rattle.std.proofs.lemmas.List.{get_or_past, get_or-replicate, length-replicate, get_or-set_same, get_or-set_other}
use Rattle.std.proofs.lemmas.List.Elements.{Contains-get_or}
use Rattle.remembered_set.specs.Model.{slots_of, shown}
use Rattle.remembered_set.specs.Flags.{AreClear, IsFirstSet, ClearsBetween}
use Rattle.remembered_set.specs.Recorded.{IsBetween, HasNoneBetween, IsLeastBetween}
use Rattle.remembered_set.proofs.Slots.{flag_of_slot, slot_of_flag}

-- a list is empty where no element stands in it
is_empty : (xs : List ℕ) → ((x : ℕ) → Contains xs x → ⊥) → xs ≡ []
is_empty [] none = refl
is_empty (x ∷ xs) none = absurd (none x (Contains-get_or (x ∷ xs) 0 x (omega arith)))

-- each of many clear flags is clear
pub get_or-clear : (n slot : ℕ) → get_or (replicate n false) slot false ≡ false
get_or-clear n slot =
    elim (cases_lt slot n) [
      | inl below ↦ get_or-replicate n slot false false below
      | inr behind ↦ get_or_past (replicate n false) slot false (rw length-replicate behind)
    ]

-- no slot is recorded where all flags are clear
pub slots_of-replicate : (n : ℕ) → slots_of (replicate n false) ≡ []
slots_of-replicate n =
    is_empty (slots_of (replicate n false)) (λ slot there.
    let is_set : get_or (replicate n false) slot false ≡ true = flag_of_slot (replicate n false) slot there in
    let is_clear : get_or (replicate n false) slot false ≡ false = get_or-clear n slot in
    absurd (cc))

-- where a flag is set, its slot is recorded beside those that were
pub has_noted : (flags : List Bool) (slot : ℕ) → slot < length flags → (other : ℕ)
    → Contains (slots_of (set flags slot true)) other ↔ ((other ≡ slot) ⊎ Contains (slots_of flags) other)
has_noted flags slot below other = (
  λ there.
      elim (cases_eq other slot) [
        | inl is ↦ inl is
        | inr is_not ↦ inr (slot_of_flag flags other
            (sym (get_or-set_other flags slot other true false is_not)
            ∙ flag_of_slot (set flags slot true) other there))
      ],
  λ was. slot_of_flag (set flags slot true) other
      (elim (cases_eq other slot) [
        | inl is ↦ rw is (get_or-set_same flags slot true false below)
        | inr is_not ↦ get_or-set_other flags slot other true false is_not
            ∙ elim was [ inl is ↦ absurd (is_not is) | inr there ↦ flag_of_slot flags other there ]
      ]),
)

-- where the flags of a range are clear, none of its slots is recorded
pub none_shown : (flags : List Bool) (from to : ℕ) → AreClear flags from to → HasNoneBetween (shown flags) from to
none_shown flags from to clear = λ slot there between.
    let is_set : get_or flags slot false ≡ true = flag_of_slot flags slot there in
    let is_clear : get_or flags slot false ≡ false = clear slot between in
    absurd (cc)

-- where the flags of a range are cleared, its slots are forgotten
pub has_forgotten : (old new : List Bool) (from to : ℕ) → ClearsBetween old new from to → (other : ℕ)
    → Contains (slots_of new) other ↔ (Contains (slots_of old) other × (¬ IsBetween from to other))
has_forgotten old new from to clears other =
    let outside : Contains (slots_of new) other → ¬ IsBetween from to other =
    none_shown new from to clears.cleared other in (
      λ there. (
        slot_of_flag old other
            (sym (clears.others other (outside there)) ∙ flag_of_slot new other there),
        outside there,
      ),
      λ was. slot_of_flag new other (clears.others other was.1 ∙ flag_of_slot old other was.0),
    )

-- where none of a range is recorded, forgetting it changes nothing
pub has_forgotten_again : (flags : List Bool) (from to : ℕ) → AreClear flags from to → (other : ℕ)
    → Contains (slots_of flags) other ↔ (Contains (slots_of flags) other × (¬ IsBetween from to other))
has_forgotten_again flags from to clear other =
    (λ there. (there, none_shown flags from to clear other there), λ was. was.0)

-- the first flag of a range that is set shows the first of its slots that is recorded
pub least_shown : (flags : List Bool) (from to : ℕ) (found : Option ℕ)
    → MatchOption found (AreClear flags from to) (λ place. IsFirstSet flags from to place)
    → MatchOption found (HasNoneBetween (shown flags) from to) (λ slot. IsLeastBetween (shown flags) from to slot)
least_shown flags from to None clear = none_shown flags from to clear
least_shown flags from to (Some place) first = record {
  stands = slot_of_flag flags place first.is_set;
  between = first.between;
  none_before = none_shown flags from place first.clear_before;
}

-- flags that are clear stay clear in a part of their range
pub clear_part : (flags : List Bool) (from to inner_from inner_to : ℕ) → from ≤ inner_from → inner_to ≤ to
    → AreClear flags from to → AreClear flags inner_from inner_to
clear_part flags from to inner_from inner_to begins ends clear = λ place between.
    let inner_begins = between.begins in
    let inner_ends = between.ends in
    clear place (record { begins = omega arith; ends = omega arith })
