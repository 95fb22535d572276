-- Flags that are cleared one behind another.
use Rattle.std.proofs.Common.{◌≡◌, ℕ, ◌+◌, ◌<◌, ◌≤◌, ◌≢◌, Bool, true, false, List, length, get_or, set, max, arith, inl}
use Rattle.std.proofs.Common.{inr, refl}
use Rattle.std.proofs.Common.{sym, ◌∙◌}
use Rattle.std.proofs.lemmas.Bool.{cases_lt, cases_eq}
use Rattle.std.proofs.lemmas.List.{length-set, get_or-set_same, get_or-set_other}
use Rattle.remembered_set.specs.Flags.{AreClear, ClearsBetween, CountsCleared, set_count}
use Rattle.remembered_set.proofs.Counts.{set_count_raised}

-- flags that are clear already
pub clears_on : (old now : List Bool) (from at to : ℕ) → at ≤ max from to → ClearsBetween old now from at
    → AreClear now at to → ClearsBetween old now from to
clears_on old now from at to within clears clear = record {
  as_many = clears.as_many;
  cleared = λ place between.
      let begins : from ≤ place = between.begins in
      let ends : place < to = between.ends in
      elim (cases_lt place at) [
        | inl before ↦ clears.cleared place (record { begins = begins; ends = before })
        | inr behind ↦ clear place (record { begins = behind; ends = ends })
      ];
  others = λ place outside. clears.others place (λ between.
      let begins : from ≤ place = between.begins in
      let ends : place < at = between.ends in
      outside (record { begins = begins; ends = omega arith }));
}

-- a flag that is cleared
pub clears_more : (old now : List Bool) (from place : ℕ) → place < length now → from ≤ place
    → ClearsBetween old now from place → ClearsBetween old (set now place false) from (place + 1)
clears_more old now from place within behind clears = record {
  as_many = length-set now place false ∙ clears.as_many;
  cleared = λ other between.
      let begins = between.begins in
      let ends = between.ends in
      elim (cases_eq other place) [
        | inl at ↦ rw at (get_or-set_same now place false false within)
        | inr beside ↦ get_or-set_other now place other false false beside
            ∙ clears.cleared other (record { begins = begins; ends = omega arith })
      ];
  others = λ other outside.
      let beside : other ≢ place = λ at. outside (record { begins = omega arith; ends = omega arith }) in
      get_or-set_other now place other false false beside
      ∙ clears.others other (λ between.
      let begins = between.begins in
      let ends = between.ends in
      outside (record { begins = begins; ends = omega arith }));
}

-- a stretch has one fewer flag that is set where one of it is cleared
pub set_count_cleared : (flags : List Bool) (from n place : ℕ) → from ≤ place → place < from + n → place < length flags
    → get_or flags place false ≡ true → set_count (set flags place false) from n + 1 ≡ set_count flags from n
set_count_cleared flags from n place behind within inside is =
    set_count_raised (set flags place false) flags from n place behind within
    (get_or-set_same flags place false false inside) is
    (λ other beside. sym (get_or-set_other flags place other false false beside))

-- one flag is cleared
pub clears_one : (flags : List Bool) (slot : ℕ) → slot < length flags
    → ClearsBetween flags (set flags slot false) slot (slot + 1)
clears_one flags slot inside =
    let none : ClearsBetween flags flags slot slot = record {
      as_many = refl;
      cleared = λ place between.
          let begins = between.begins in
          let ends = between.ends in
          absurd (omega arith);
      others = λ place _. refl;
    } in
    clears_more flags flags slot slot inside (omega arith) none

-- and where it was set, that is one
pub counts_one : (flags : List Bool) (slot : ℕ) → slot < length flags → get_or flags slot false ≡ true
    → CountsCleared flags (set flags slot false) slot (slot + 1) 1
counts_one flags slot inside is = λ start n first last.
    set_count_cleared flags start n slot (omega arith) (omega arith) inside is
