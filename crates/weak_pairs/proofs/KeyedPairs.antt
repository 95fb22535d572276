-- Pairs that hold nothing or have a key.
use Rattle.std.proofs.Common.{◌≡◌, ◌≢◌, ℕ, ◌⊎◌, inl, inr, Bool, true, false, List}
use Rattle.std.proofs.Common.{Some, None, slice_get, refl, sym, ◌∙◌, ap, ◌==◌}
use Rattle.std.proofs.lemmas.Bool.{false≢true}
use Rattle.std.proofs.lemmas.Option.{none-some}
use Rattle.tagged_word.specs.Readings.{reference_in}
use Rattle.heap_model.specs.Slots.{hole_word}
use Rattle.heap_model.specs.Kinds.{Pair, free_pair, is_free_pair}
use Rattle.weak_pairs.specs.Pairs.{IsFilledAt}
use Rattle.weak_pairs.proofs.FreePairs.{both_holes}

-- each pair that holds something has a key
abbrev pub HaveKeys : List Pair → Type 0
HaveKeys pairs =
    (place : ℕ) (pair : Pair) → IsFilledAt pairs place pair → (at : ℕ) × (reference_in pair.key ≡ Some at)

-- a pair holds nothing or something, by its test
free_by_test : (test : Bool) (pair : Pair) → is_free_pair pair ≡ test → (pair ≡ free_pair) ⊎ (pair ≢ free_pair)
free_by_test true pair is = inl (both_holes (pair.key == hole_word) (pair.value == hole_word) pair refl refl is)
free_by_test false pair is = inr (λ free. false≢true (sym is ∙ ap is_free_pair free))

-- each pair holds nothing or something
pub free_or_filled : (pair : Pair) → (pair ≡ free_pair) ⊎ (pair ≢ free_pair)
free_or_filled pair = free_by_test (is_free_pair pair) pair refl

-- a pair without a key holds nothing
pub free_without : (pairs : List Pair) (place : ℕ) (pair : Pair) → HaveKeys pairs → slice_get pairs place ≡ Some pair
    → reference_in pair.key ≡ None → pair ≡ free_pair
free_without pairs place pair keys there none = elim (free_or_filled pair) [
  | inl free ↦ free
  | inr filled ↦
      let key = keys place pair (record { stands = there; filled = filled }) in
      absurd (none-some key.0 (sym none ∙ key.1))
]
