-- Ascending numbers are known by which of them there are: so what is noted and forgotten is one list.
use Rattle.std.proofs.Common.{◌≡◌, ℕ, suc, ◌<◌, ◌≤◌, ◌↔◌, ◌⊎◌, inl, inr, Bool, true, false}
use Rattle.std.proofs.Common.{not, List, [], ◌∷◌, Contains, refl, sym, ◌∙◌, ap, subst, arith, filter}
use Rattle.std.proofs.lemmas.Bool.{cases_lt, cases_eq}
use Rattle.std.proofs.lemmas.Bool.Decides.{nat_tests}
use Rattle.std.proofs.lemmas.List.Elements.{All-contains, All-contains_itself, All-weaker}
use Rattle.std.proofs.lemmas.List.Kept.{AllPairs-cons, AllPairs-filter}
use Rattle.tagged_word.proofs.Members.{first_in, rest_in, in_cases, in_filter, filter_from, filter_true}
use Rattle.remembered_set.specs.Recorded.{Recorded, IsRecorded, IsAscending, IsBetween, with_slot, noted, is_between}
use Rattle.remembered_set.specs.Recorded.{forgotten}

-- the first is below those behind it
first_below : (first : ℕ) (more : List ℕ) → IsAscending (first ∷ more) → (x : ℕ) → Contains more x → first < x
first_below first more ascend x there =
    All-contains (λ y. first < y) more x (λ i d inside. ascend 0 (suc i) d (omega arith) (omega arith)) there

-- those behind it ascend
rest_ascends : (first : ℕ) (more : List ℕ) → IsAscending (first ∷ more) → IsAscending more
rest_ascends first more ascend = λ i j d before inside. ascend (suc i) (suc j) d (omega arith) (omega arith)

-- what is below all of those stands in front of them in order
ascends_behind : (first : ℕ) (more : List ℕ) → ((x : ℕ) → Contains more x → first < x) → IsAscending more
    → IsAscending (first ∷ more)
ascends_behind first more below ascend =
    AllPairs-cons (λ x y. x < y) first more
    (All-weaker (Contains more) (λ y. first < y) below more (All-contains_itself more)) ascend

-- of two ascending lists with the same numbers the first numbers are the same
first_same : (x y : ℕ) (xs ys : List ℕ) → IsAscending (x ∷ xs) → IsAscending (y ∷ ys)
    → Contains (y ∷ ys) x → Contains (x ∷ xs) y → x ≡ y
first_same x y xs ys ascend ascend_too there there_too =
    elim (in_cases y ys x there) [
      | inl same ↦ sym same
      | inr later ↦ elim (in_cases x xs y there_too) [
        | inl same ↦ same
        | inr later_too ↦
            let above : y < x = first_below y ys ascend_too x later in
            let below : x < y = first_below x xs ascend y later_too in
            absurd (omega arith)
      ]
    ]

-- the rest of a list has what stands behind the first of another one
rest_has : (x : ℕ) (xs ys : List ℕ) → IsAscending (x ∷ xs)
    → ((z : ℕ) → Contains (x ∷ xs) z → Contains (x ∷ ys) z) → (z : ℕ) → Contains xs z → Contains ys z
rest_has x xs ys ascend has z there =
    elim (in_cases x ys z (has z (rest_in x xs z there))) [
      | inl same ↦ let above : x < z = first_below x xs ascend z there in absurd (omega arith)
      | inr later ↦ later
    ]

-- ascending lists that have the same numbers are one
pub same_numbers : (xs ys : List ℕ) → IsAscending xs → IsAscending ys → ((z : ℕ) → Contains xs z ↔ Contains ys z)
    → xs ≡ ys
same_numbers [] [] ascend ascend_too same = refl
same_numbers [] (y ∷ ys) ascend ascend_too same =
    let there = (same y).1 (first_in y ys) in absurd (omega (arith, there.1))
same_numbers (x ∷ xs) [] ascend ascend_too same =
    let there = (same x).0 (first_in x xs) in absurd (omega (arith, there.1))
same_numbers (x ∷ xs) (y ∷ ys) ascend ascend_too same =
    let first : x ≡ y =
    first_same x y xs ys ascend ascend_too ((same x).0 (first_in x xs)) ((same y).1 (first_in y ys)) in
    let there : (z : ℕ) → Contains (x ∷ xs) z → Contains (x ∷ ys) z =
    λ z in_one. subst (λ (one : ℕ). Contains (one ∷ ys) z) (sym first) ((same z).0 in_one) in
    let back : (z : ℕ) → Contains (x ∷ ys) z → Contains (x ∷ xs) z =
    λ z in_one. (same z).1 (subst (λ (one : ℕ). Contains (one ∷ ys) z) first in_one) in
    let ascend_here : IsAscending (x ∷ ys) =
    subst (λ (one : ℕ). IsAscending (one ∷ ys)) (sym first) ascend_too in
    let rest : xs ≡ ys = same_numbers xs ys (rest_ascends x xs ascend) (rest_ascends x ys ascend_here)
    (λ z. (rest_has x xs ys ascend there z, rest_has x ys xs ascend_here back z)) in
    ap (λ (one : ℕ). one ∷ xs) first ∙ ap (λ (more : List ℕ). y ∷ more) rest

-- what comes of a slot and the first of others, as their order tells
data Placing (slot first : ℕ) (more placed : List ℕ) : Type 0 where
  front : slot < first → placed ≡ slot ∷ first ∷ more → Placing slot first more placed
  same : slot ≡ first → placed ≡ first ∷ more → Placing slot first more placed
  behind : first < slot → placed ≡ first ∷ with_slot slot more → Placing slot first more placed

-- which of these it is
placing : (slot first : ℕ) (more : List ℕ) → Placing slot first more (with_slot slot (first ∷ more))
placing slot first more =
    elim (cases_lt slot first) [
      | inl below ↦ Placing.front below (grind (arith, nat_tests, below))
      | inr not_below ↦ elim (cases_eq slot first) [
        | inl is ↦ Placing.same is (grind (arith, nat_tests, is, not_below))
        | inr is_not ↦ Placing.behind (omega arith) (grind (arith, nat_tests, is_not, not_below))
      ]
    ]

-- a number is one of a list or another, said of lists that are one
has_along : (xs ys : List ℕ) (P : ℕ → Type 0) (other : ℕ) → xs ≡ ys → Contains ys other ↔ P other
    → Contains xs other ↔ P other
has_along xs ys P other is has = subst (λ (all : List ℕ). Contains all other ↔ P other) (sym is) has

-- a slot and others have one more where it stands in front of them, is the first of them, or stands behind that
placed_has : (slot first : ℕ) (more placed : List ℕ) (other : ℕ) → Placing slot first more placed
    → Contains (with_slot slot more) other ↔ ((other ≡ slot) ⊎ Contains more other)
    → Contains placed other ↔ ((other ≡ slot) ⊎ Contains (first ∷ more) other)
placed_has slot first more placed other (Placing.front below is) rest =
    has_along placed (slot ∷ first ∷ more) (λ one. (one ≡ slot) ⊎ Contains (first ∷ more) one) other is (
      λ there. elim (in_cases slot (first ∷ more) other there) [ inl at ↦ inl (sym at) | inr later ↦ inr later ],
      λ was. elim was [
        | inl at ↦ subst (λ one. Contains (slot ∷ first ∷ more) one) (sym at) (first_in slot (first ∷ more))
        | inr there ↦ rest_in slot (first ∷ more) other there
      ],
    )
placed_has slot first more placed other (Placing.same at is) rest =
    has_along placed (first ∷ more) (λ one. (one ≡ slot) ⊎ Contains (first ∷ more) one) other is (
      λ there. inr there,
      λ was. elim was [
        | inl is_slot ↦ subst (λ one. Contains (first ∷ more) one) (sym (is_slot ∙ at)) (first_in first more)
        | inr there ↦ there
      ],
    )
placed_has slot first more placed other (Placing.behind above is) rest =
    has_along placed (first ∷ with_slot slot more) (λ one. (one ≡ slot) ⊎ Contains (first ∷ more) one) other is (
      λ there. elim (in_cases first (with_slot slot more) other there) [
        | inl at ↦ inr (subst (λ one. Contains (first ∷ more) one) at (first_in first more))
        | inr later ↦ elim (rest.0 later) [
          | inl is_slot ↦ inl is_slot
          | inr stood ↦ inr (rest_in first more other stood)
        ]
      ],
      λ was. elim was [
        | inl is_slot ↦ rest_in first (with_slot slot more) other (rest.1 (inl is_slot))
        | inr there ↦ elim (in_cases first more other there) [
          | inl at ↦ subst (λ one. Contains (first ∷ with_slot slot more) one) at (first_in first (with_slot slot more))
          | inr stood ↦ rest_in first (with_slot slot more) other (rest.1 (inr stood))
        ]
      ],
    )

-- the slot stands at its place, beside those that did
pub with_slot_has : (slot : ℕ) (slots : List ℕ) (other : ℕ)
    → Contains (with_slot slot slots) other ↔ ((other ≡ slot) ⊎ Contains slots other)
with_slot_has slot [] other = (
  λ there. elim (in_cases slot [] other there) [ inl is ↦ inl (sym is) | inr none ↦ inr none ],
  λ was. elim was [
    | inl is ↦ subst (λ (one : ℕ). Contains (slot ∷ []) one) (sym is) (first_in slot [])
    | inr none ↦ absurd (omega (arith, none.1))
  ],
)
with_slot_has slot (first ∷ more) other =
    placed_has slot first more (with_slot slot (first ∷ more)) other (placing slot first more)
    (with_slot_has slot more other)

-- a slot and others ascend where it has its place
placed_ascends : (slot first : ℕ) (more placed : List ℕ) → Placing slot first more placed
    → IsAscending (first ∷ more) → IsAscending (with_slot slot more) → IsAscending placed
placed_ascends slot first more placed (Placing.front below is) ascend rest =
    subst IsAscending (sym is) (ascends_behind slot (first ∷ more)
    (λ x there. elim (in_cases first more x there) [
      | inl at ↦ subst (λ (one : ℕ). slot < one) at below
      | inr later ↦ let above : first < x = first_below first more ascend x later in omega arith
    ]) ascend)
placed_ascends slot first more placed (Placing.same at is) ascend rest = subst IsAscending (sym is) ascend
placed_ascends slot first more placed (Placing.behind above is) ascend rest =
    subst IsAscending (sym is) (ascends_behind first (with_slot slot more)
    (λ x there. elim ((with_slot_has slot more x).0 there) [
      | inl is_slot ↦ subst (λ (one : ℕ). first < one) (sym is_slot) above
      | inr later ↦ first_below first more ascend x later
    ]) rest)

-- those that ascend still do with the slot at its place
with_slot_ascends : (slot : ℕ) (slots : List ℕ) → IsAscending slots → IsAscending (with_slot slot slots)
with_slot_ascends slot [] ascend = λ i j d before inside. absurd (omega arith)
with_slot_ascends slot (first ∷ more) ascend =
    placed_ascends slot first more (with_slot slot (first ∷ more)) (placing slot first more) ascend
    (with_slot_ascends slot more (rest_ascends first more ascend))

-- a recorded set is known by its bound and its slots
same_recorded : (one other : Recorded) → one.bound ≡ other.bound → one.slots ≡ other.slots → one ≡ other
same_recorded one other bound slots =
    ap (λ (n : ℕ). let made : Recorded = record { bound = n; slots = one.slots } in made) bound
    ∙ ap (λ (all : List ℕ). let made : Recorded = record { bound = other.bound; slots = all } in made) slots

-- where the slot is recorded beside those that were, the set is the one with it
pub is_noted : (old new : Recorded) (slot : ℕ) → IsRecorded old → IsRecorded new → new.bound ≡ old.bound
    → ((other : ℕ) → Contains new.slots other ↔ ((other ≡ slot) ⊎ Contains old.slots other)) → new ≡ noted old slot
is_noted old new slot was is bound has =
    same_recorded new (noted old slot) bound
    (same_numbers new.slots (with_slot slot old.slots) is.ascending (with_slot_ascends slot old.slots was.ascending)
    (λ other. (
      λ there. (with_slot_has slot old.slots other).1 ((has other).0 there),
      λ there. (has other).1 ((with_slot_has slot old.slots other).0 there),
    )))

-- an address outside the range passes the test
outside_passes : (from to slot : ℕ) → ¬ IsBetween from to slot → not (is_between from to slot) ≡ true
outside_passes from to slot outside =
    elim (cases_lt slot from) [
      | inl below ↦ grind (arith, nat_tests, below)
      | inr from_on ↦ elim (cases_lt slot to) [
        | inl within ↦ absurd (outside (record { begins = from_on; ends = within }))
        | inr past ↦ grind (arith, nat_tests, past)
      ]
    ]

-- and what passes is outside
passes_outside : (from to slot : ℕ) → not (is_between from to slot) ≡ true → ¬ IsBetween from to slot
passes_outside from to slot passes between =
    let begins : from ≤ slot = between.begins in
    let ends : slot < to = between.ends in
    let inside : not (is_between from to slot) ≡ false = grind (arith, nat_tests, begins, ends) in
    absurd (cc)

-- once a range is forgotten, what was recorded still is, outside the range
pub forgotten_has : (recorded : Recorded) (from to other : ℕ)
    → Contains (forgotten recorded from to).slots other
    ↔ (Contains recorded.slots other × (¬ IsBetween from to other))
forgotten_has recorded from to other =
    let test : ℕ → Bool = λ slot. not (is_between from to slot) in (
      λ there. (
        filter_from test recorded.slots other there,
        passes_outside from to other (filter_true test recorded.slots other there),
      ),
      λ stood. in_filter test recorded.slots other (outside_passes from to other stood.1) stood.0,
    )

-- where the slots of the range are not recorded and the others are those that were, the set is the one without them
pub is_forgotten : (old new : Recorded) (from to : ℕ) → IsRecorded old → IsRecorded new → new.bound ≡ old.bound
    → ((other : ℕ) → Contains new.slots other ↔ (Contains old.slots other × (¬ IsBetween from to other)))
    → new ≡ forgotten old from to
is_forgotten old new from to was is bound has =
    let test : ℕ → Bool = λ slot. not (is_between from to slot) in
    same_recorded new (forgotten old from to) bound
    (same_numbers new.slots (filter test old.slots) is.ascending
    (AllPairs-filter (λ x y. x < y) test old.slots was.ascending)
    (λ other. (
      λ there. (forgotten_has old from to other).1 ((has other).0 there),
      λ there. (has other).1 ((forgotten_has old from to other).0 there),
    )))
