-- The pairs of a weak table, moved: which are free, where probing finds a filled one, and how many are filled.
use Rattle.std.proofs.Common.{◌≡◌, ℕ, suc, ◌%◌, ◌+◌, ◌⊎◌, inl, inr, Bool, List, [], ◌∷◌, length, get_or, Option, Some}
use Rattle.std.proofs.Common.{slice_get, not, refl, sym, ◌∙◌, ap, subst, arith, count_by, ◌==◌, ◌≢◌, ◌&&◌, cond}
use Rattle.std.proofs.lemmas.Bool.{cases_eq}
use Rattle.std.proofs.lemmas.Bool.Decides.{nat_tests}
use Rattle.std.proofs.lemmas.Option.{slice_get_within, slice_get-get_or}
use Rattle.std.proofs.lemmas.List.Sums.{sum_by-cons}
use Rattle.heap_model.specs.Heaps.{Heap}
use Rattle.heap_model.specs.Slots.{hole_word}
use Rattle.heap_model.specs.Kinds.{Pair, free_pair, is_free_pair, IsProbed, IsFoundPair}
use Rattle.heap_moves.specs.Moved.{IsMovedWord, IsMoved}
use Rattle.heap_moves.proofs.MovedCells.{refers_moved}
use Rattle.heap_moves.proofs.MovedTargets.{ArePairsMoved}
use Rattle.heap_moves.proofs.MovedValues.{hole_stays, hole_before, value_moved}

-- a pair stands at a place of a list that is as long as one with a pair there
pub other_pair : (pairs others : List Pair) (k : ℕ) (now : Pair) → length others ≡ length pairs
    → slice_get others k ≡ Some now → (pair : Pair) × (slice_get pairs k ≡ Some pair)
other_pair pairs others k now long there =
    let within = slice_get_within others k now there in
    (get_or pairs k free_pair, slice_get-get_or pairs k free_pair (omega (arith, long, within)))

-- a pair of two holes is the free one
holes_are_free : (pair : Pair) → pair.key ≡ hole_word → pair.value ≡ hole_word → pair ≡ free_pair
holes_are_free pair key value = λ i. record { key = key i; value = value i }

-- a free pair is as it was
pub free_stays : {to : ℕ → Option ℕ} (pair now : Pair)
    → IsMovedWord to pair.key now.key × IsMovedWord to pair.value now.value → pair ≡ free_pair → now ≡ free_pair
free_stays pair now both free =
    holes_are_free now (hole_stays both.0 (ap (λ (one : Pair). one.key) free))
    (hole_stays both.1 (ap (λ (one : Pair). one.value) free))

-- and was one
pub free_before : {to : ℕ → Option ℕ} (pair now : Pair)
    → IsMovedWord to pair.key now.key × IsMovedWord to pair.value now.value → now ≡ free_pair → pair ≡ free_pair
free_before pair now both free =
    holes_are_free pair (hole_before both.0 (ap (λ (one : Pair). one.key) free))
    (hole_before both.1 (ap (λ (one : Pair). one.value) free))

-- probing comes to the same place
probed_moved : {to : ℕ → Option ℕ} (pairs others : List Pair) (number at : ℕ) → ArePairsMoved to pairs others
    → IsProbed pairs number at → IsProbed others number at
probed_moved pairs others number at are probed =
    let long : length others ≡ length pairs = are.long in
    record {
      steps = probed.steps;
      within = rw long probed.within;
      comes = rw long probed.comes;
      filled = λ before sooner there.
          let place : ℕ = (number + before) % length pairs in
          let there_it : slice_get others place ≡ Some free_pair =
          subst (λ n. slice_get others ((number + before) % n) ≡ Some free_pair) long there in
          let was = other_pair pairs others place free_pair long there_it in
          let both = are.each place was.0 free_pair was.1 there_it in
          probed.filled before sooner (was.1 ∙ ap (λ pair. Some pair) (free_before was.0 free_pair both refl));
    }

-- a pair is found by the same key
pub found_moved : {old new : Heap} {to : ℕ → Option ℕ} (moved : IsMoved old new to) (pairs others : List Pair)
    (at : ℕ) (pair now : Pair) → ArePairsMoved to pairs others → slice_get pairs at ≡ Some pair
    → slice_get others at ≡ Some now → (pair ≡ free_pair) ⊎ IsFoundPair old pairs at pair
    → (now ≡ free_pair) ⊎ IsFoundPair new others at now
found_moved moved pairs others at pair now are there there_too (inl free) =
    inl (free_stays pair now (are.each at pair now there there_too) free)
found_moved moved pairs others at pair now are there there_too (inr found) =
    let both = are.each at pair now there there_too in
    inr record {
      number = found.number;
      filled = record {
        key = refers_moved moved both.0 found.filled.key;
        value = value_moved moved both.1 found.filled.value;
      };
      probed = probed_moved pairs others found.number at are found.probed;
    }

-- a word is a hole as before
hole_alike : {to : ℕ → Option ℕ} (word now : ℕ) → IsMovedWord to word now → (now == hole_word) ≡ (word == hole_word)
hole_alike word now is_moved =
    elim (cases_eq word hole_word) [
      | inl is ↦ ap (λ n. n == hole_word) (hole_stays is_moved is ∙ sym is)
      | inr is_not ↦
          let still_not : now ≢ hole_word = λ is. is_not (hole_before is_moved is) in
          grind (arith, nat_tests, is_not, still_not)
    ]

-- a pair is free as before
free_alike : {to : ℕ → Option ℕ} (pair now : Pair)
    → IsMovedWord to pair.key now.key × IsMovedWord to pair.value now.value → is_free_pair now ≡ is_free_pair pair
free_alike pair now both =
    ap (λ test. test && (now.value == hole_word)) (hole_alike pair.key now.key both.0)
    ∙ ap (λ test. (pair.key == hole_word) && test) (hole_alike pair.value now.value both.1)

-- as many of two lists pass a test that passes alike place by place
count_alike : (test : Pair → Bool) (pairs others : List Pair) → length others ≡ length pairs
    → ((k : ℕ) (pair now : Pair) → slice_get pairs k ≡ Some pair → slice_get others k ≡ Some now → test now ≡ test pair)
    → count_by test others ≡ count_by test pairs
count_alike test [] [] long alike = refl
count_alike test [] (now ∷ others) long alike = absurd (omega arith)
count_alike test (pair ∷ pairs) [] long alike = absurd (omega arith)
count_alike test (pair ∷ pairs) (now ∷ others) long alike =
    let rest = count_alike test pairs others (omega arith) (λ k one other. alike (suc k) one other) in
    sum_by-cons (λ one. cond (test one) 1 0) now others
    ∙ ap (λ passes. cond passes 1 0 + count_by test others) (alike 0 pair now refl refl)
    ∙ ap (λ n. cond (test pair) 1 0 + n) rest
    ∙ sym (sum_by-cons (λ one. cond (test one) 1 0) pair pairs)

-- as many pairs are filled
pub count_moved : {to : ℕ → Option ℕ} (pairs others : List Pair) → ArePairsMoved to pairs others
    → count_by (λ pair. not (is_free_pair pair)) others ≡ count_by (λ pair. not (is_free_pair pair)) pairs
count_moved pairs others are =
    count_alike (λ pair. not (is_free_pair pair)) pairs others are.long
    (λ k pair now there there_too. ap not (free_alike pair now (are.each k pair now there there_too)))
