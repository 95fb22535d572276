-- Which addresses are recorded once words are forgotten, and once the word of one slot is judged.
use Rattle.std.proofs.Common.{◌≡◌, ◌≢◌, ℕ, ◌+◌, ◌<◌, ◌≤◌, ◌↔◌, inl, inr, Bool, true, false, Contains}
use Rattle.std.proofs.Common.{Option, Some, None, refl, sym, ◌∙◌, ap, subst, arith}
use Rattle.std.specs.Prelude.{if◌then◌else◌, not}
use Rattle.std.proofs.lemmas.Bool.{cases_lt, lt-ltb, le-ltb, false≢true}
use Rattle.tagged_word.specs.Readings.{reference_in}
use Rattle.remembered_set.specs.Recorded.{Recorded, IsBetween, noted, forgotten}
use Rattle.remembered_set.proofs.Ascending.{with_slot_has, forgotten_has}
use Rattle.write_barrier.specs.MutatorState.{wiped, is_young, judged}

-- from an address of a page on, words are forgotten
wiped_page : (recorded : Recorded) (from to : ℕ) → from < recorded.bound
    → wiped recorded from to ≡ forgotten recorded from to
wiped_page recorded from to below =
    ap (λ (test : Bool). if test then forgotten recorded from to else recorded) (lt-ltb from recorded.bound below)

-- behind all pages, nothing is
pub wiped_behind : (recorded : Recorded) (from to : ℕ) → recorded.bound ≤ from → wiped recorded from to ≡ recorded
wiped_behind recorded from to behind =
    ap (λ (test : Bool). if test then forgotten recorded from to else recorded) (le-ltb from recorded.bound behind)

-- the bound stays when words are forgotten
pub wiped_bound : (recorded : Recorded) (from to : ℕ) → (wiped recorded from to).bound ≡ recorded.bound
wiped_bound recorded from to =
    elim (cases_lt from recorded.bound) [
      | inl below ↦ ap (λ (one : Recorded). one.bound) (wiped_page recorded from to below)
      | inr behind ↦ ap (λ (one : Recorded). one.bound) (wiped_behind recorded from to behind)
    ]

-- what is recorded once words are forgotten was recorded
pub wiped_was : (recorded : Recorded) (from to other : ℕ) → Contains (wiped recorded from to).slots other
    → Contains recorded.slots other
wiped_was recorded from to other there =
    let Has : Recorded → Type 0 = λ one. Contains one.slots other in
    elim (cases_lt from recorded.bound) [
      | inl below ↦ ((forgotten_has recorded from to other).0
          (subst Has (wiped_page recorded from to below) there)).0
      | inr behind ↦ subst Has (wiped_behind recorded from to behind) there
    ]

-- no word of a page that was forgotten is recorded
pub wiped_none : (recorded : Recorded) (from to other : ℕ) → other < recorded.bound → IsBetween from to other
    → Contains (wiped recorded from to).slots other → ⊥
wiped_none recorded from to other of_page between there =
    let begins : from ≤ other = between.begins in
    let below : from < recorded.bound = omega (arith, begins, of_page) in
    ((forgotten_has recorded from to other).0
    (subst (λ (one : Recorded). Contains one.slots other) (wiped_page recorded from to below) there)).1 between

-- the others are recorded as they were
pub wiped_others : (recorded : Recorded) (from to other : ℕ) → ¬ IsBetween from to other
    → Contains recorded.slots other → Contains (wiped recorded from to).slots other
wiped_others recorded from to other outside stood =
    let Has : Recorded → Type 0 = λ one. Contains one.slots other in
    elim (cases_lt from recorded.bound) [
      | inl below ↦ subst Has (sym (wiped_page recorded from to below))
          ((forgotten_has recorded from to other).1 (stood, outside))
      | inr behind ↦ subst Has (sym (wiped_behind recorded from to behind)) stood
    ]

-- a reference is young exactly where it is one to an address from the bound on
pub told_young : (bound : ℕ) (found : Option ℕ) (cell : ℕ) → found ≡ Some cell
    → (is_young bound found ≡ true) ↔ (bound ≤ cell)
told_young bound found cell is =
    subst (λ (one : Option ℕ). (is_young bound one ≡ true) ↔ (bound ≤ cell)) (sym is) (
      λ young. elim (cases_lt cell bound) [
        | inl below ↦ absurd (false≢true (sym (ap not (lt-ltb cell bound below)) ∙ young))
        | inr from ↦ from
      ],
      λ from. ap not (le-ltb cell bound from),
    )

-- where a reference is young there is one
pub young_there : (bound : ℕ) (found : Option ℕ) → is_young bound found ≡ true → (cell : ℕ) × (found ≡ Some cell)
young_there bound (Some cell) young = (cell, refl)
young_there bound None young = absurd (false≢true young)

-- of one address a new record says this, and of all others the same
pub record JudgesOne (old new : Recorded) (at : ℕ) (P : Type 0) : Type 0 where
  pub bound : new.bound ≡ old.bound
  pub here : Contains new.slots at ↔ P
  pub others : (other : ℕ) → other ≢ at → Contains new.slots other ↔ Contains old.slots other

-- the address is noted or forgotten as a test tells
noted_by : (recorded : Recorded) (at : ℕ) (test : Bool)
    → JudgesOne recorded (if test then noted recorded at else forgotten recorded at (at + 1)) at (test ≡ true)
noted_by recorded at true = record {
  bound = refl;
  here = (λ _. refl, λ _. (with_slot_has at recorded.slots at).1 (inl refl));
  others = λ other apart. (
    λ there. elim ((with_slot_has at recorded.slots other).0 there) [
      | inl is ↦ absurd (apart is)
      | inr stood ↦ stood
    ],
    λ stood. (with_slot_has at recorded.slots other).1 (inr stood),
  );
}
noted_by recorded at false = record {
  bound = refl;
  here = (
    λ there. absurd (((forgotten_has recorded at (at + 1) at).0 there).1
        (record { begins = omega arith; ends = omega arith })),
    λ never. absurd (false≢true never),
  );
  others = λ other apart. (
    λ there. ((forgotten_has recorded at (at + 1) other).0 there).0,
    λ stood. (forgotten_has recorded at (at + 1) other).1 (
      stood,
      λ between.
          let begins : at ≤ other = between.begins in
          let ends : other < at + 1 = between.ends in
          apart (omega (arith, begins, ends)),
    ),
  );
}

-- the address of a page is recorded exactly where its word refers to a young cell
pub judges_one : (recorded : Recorded) (at word : ℕ) → at < recorded.bound
    → JudgesOne recorded (judged recorded at word) at (is_young recorded.bound (reference_in word) ≡ true)
judges_one recorded at word below =
    let young : Bool = is_young recorded.bound (reference_in word) in
    let chosen : Recorded = if young then noted recorded at else forgotten recorded at (at + 1) in
    let is : judged recorded at word ≡ chosen =
    ap (λ (test : Bool). if test then chosen else recorded) (lt-ltb at recorded.bound below) in
    subst (λ (one : Recorded). JudgesOne recorded one at (young ≡ true)) (sym is) (noted_by recorded at young)

-- behind all pages, nothing is judged
pub judged_behind : (recorded : Recorded) (at word : ℕ) → recorded.bound ≤ at → judged recorded at word ≡ recorded
judged_behind recorded at word behind =
    let young : Bool = is_young recorded.bound (reference_in word) in
    let chosen : Recorded = if young then noted recorded at else forgotten recorded at (at + 1) in
    ap (λ (test : Bool). if test then chosen else recorded) (le-ltb at recorded.bound behind)
