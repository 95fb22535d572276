-- Probing a weak table, and counting what it holds.
use Rattle.std.proofs.Common.{◌≡◌, ◌≢◌, ℕ, ◌+◌, ◌%◌, ◌≤◌, ◌<◌, inl, inr, true, false, not, List}
use Rattle.std.proofs.Common.{length, take, Some, slice_get, refl, sym, ◌∙◌, ap, arith}
use Rattle.std.proofs.lemmas.Bool.{cases_lt}
use Rattle.std.proofs.lemmas.Bool.Decides.{nat_tests}
use Rattle.std.proofs.lemmas.List.Sums.{count_by_more_yes, count_by_more_no}
use Rattle.std.proofs.lemmas.Option.{slice_get_within, get_or_from_slice_get}
use Rattle.heap_model.specs.Slots.{hole_word}
use Rattle.heap_model.specs.Kinds.{Pair, free_pair, is_free_pair, IsProbed}
use Rattle.image_walk.specs.TablePairs.{filled_pairs}

-- after so many steps from its home on, probing for the number comes to another place, and the pair there is not free
pub record PassesPair (pairs : List Pair) (number at steps : ℕ) : Type 0 where
  pub elsewhere : (number + steps) % length pairs ≢ at
  pub filled : (pair : Pair) → slice_get pairs ((number + steps) % length pairs) ≡ Some pair → pair ≢ free_pair

-- a pair of two holes is free
pub two_holes : (pair : Pair) → pair.key ≡ hole_word → pair.value ≡ hole_word → pair ≡ free_pair
two_holes pair key value =
    let keyed : pair ≡ record { key = hole_word; value = pair.value } =
    ap (λ k. record { key = k; value = pair.value }) key in
    let valued : record { key = hole_word; value = pair.value } ≡ free_pair =
    ap (λ v. record { key = hole_word; value = v }) value in
    keyed ∙ valued

-- a pair that is tested to be free is
pub free_from : (pair : Pair) → is_free_pair pair ≡ true → pair ≡ free_pair
free_from pair is =
    let key : pair.key ≡ hole_word = grind (arith, nat_tests) in
    let value : pair.value ≡ hole_word = grind (arith, nat_tests) in
    two_holes pair key value

-- a free pair more is no entry more
pub count_free : (pairs : List Pair) (at : ℕ) (pair : Pair) → slice_get pairs at ≡ Some pair
    → is_free_pair pair ≡ true
    → filled_pairs (take (at + 1) pairs) ≡ filled_pairs (take at pairs)
count_free pairs at pair there is =
    count_by_more_no (λ one. not (is_free_pair one)) pairs at pair (slice_get_within pairs at pair there)
    (ap (λ one. not (is_free_pair one)) (get_or_from_slice_get pairs at pair pair there) ∙ ap not is)

-- any other is one
pub count_entry : (pairs : List Pair) (at : ℕ) (pair : Pair) → slice_get pairs at ≡ Some pair
    → is_free_pair pair ≡ false
    → filled_pairs (take (at + 1) pairs) ≡ filled_pairs (take at pairs) + 1
count_entry pairs at pair there is =
    count_by_more_yes (λ one. not (is_free_pair one)) pairs at pair (slice_get_within pairs at pair there)
    (ap (λ one. not (is_free_pair one)) (get_or_from_slice_get pairs at pair pair there) ∙ ap not is)

-- where probing comes to the place, all before passed, it is found there
pub probed_at : (pairs : List Pair) (number at steps : ℕ) → steps < length pairs → (number + steps) % length pairs ≡ at
    → ((before : ℕ) → before < steps → PassesPair pairs number at before) → IsProbed pairs number at
probed_at pairs number at steps within comes passes = record {
  steps = steps;
  within = within;
  comes = sym comes;
  filled = λ before early free. (passes before early).filled free_pair free refl;
}

-- where a free pair stands before, it is not
pub not_probed_behind : (pairs : List Pair) (number at steps : ℕ) → ((number + steps) % length pairs ≡ at → ⊥)
    → slice_get pairs ((number + steps) % length pairs) ≡ Some free_pair
    → ((before : ℕ) → before < steps → PassesPair pairs number at before) → IsProbed pairs number at → ⊥
not_probed_behind pairs number at steps elsewhere free passes probed = elim (cases_lt probed.steps steps) [
  | inl early ↦ (passes probed.steps early).elsewhere (sym probed.comes)
  | inr late ↦ elim (cases_lt steps probed.steps) [
    | inl before ↦ probed.filled steps before free
    | inr past ↦
        let same : steps ≡ probed.steps = omega arith in
        elsewhere (ap (λ n. (number + n) % length pairs) same ∙ sym probed.comes)
  ]
]

-- where all places were passed, it is not
pub not_probed : (pairs : List Pair) (number at steps : ℕ) → length pairs ≤ steps
    → ((before : ℕ) → before < steps → PassesPair pairs number at before) → IsProbed pairs number at → ⊥
not_probed pairs number at steps all passes probed =
    (passes probed.steps (omega (arith, probed.within))).elsewhere (sym probed.comes)
