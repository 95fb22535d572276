-- Words in which a stretch was put, word by word.
use Rattle.std.proofs.Common.{◌≡◌, ℕ, ◌+◌, ◌-◌, ◌<◌, ◌≤◌, List, [], ◌∷◌, ◌++◌, set, suc}
use Rattle.std.proofs.Common.{sym, ap, append_assoc, length, take, drop, slice_get, ◌∙◌}
use Rattle.std.proofs.Common.{arith, rules, length-append, length-drop, length-set, drop-set-lt}
use Rattle.std.specs.Prelude.{slice_range}
use Rattle.std.proofs.lemmas.List.{length-take-le, places, same_lists, set_split, take_more_set}
use Rattle.heap_model.proofs.CellWords.{slice_get-drop, slice_get-append_left, slice_get-append_right, slice_get-take}
use Rattle.write_barrier.specs.Values.{with_range}

-- the words up to the end of the stretch
abbrev front : List ℕ → ℕ → List ℕ → List ℕ
front words at others = take at words ++ others

-- there are as many as places
length-front : (words others : List ℕ) (at : ℕ) → at + length others ≤ length words
    → length (front words at others) ≡ at + length others
length-front words others at within =
    omega (arith, length-append (take at words) others, length-take-le at words (omega arith))

-- there are as many words as before
pub length-with_range : (words others : List ℕ) (at : ℕ) → at + length others ≤ length words
    → length (with_range words at others) ≡ length words
length-with_range words others at within =
    let back : List ℕ = drop (at + length others) words in
    omega (
      arith,
      length-append (front words at others) back,
      length-front words others at within,
      length-drop (at + length others) words,
    )

-- those before the stretch stay
pub with_range_before : (words others : List ℕ) (at k : ℕ) → at + length others ≤ length words → k < at
    → slice_get (with_range words at others) k ≡ slice_get words k
with_range_before words others at k within below =
    slice_get-append_left (front words at others) (drop (at + length others) words) k
    (omega (arith, length-front words others at within))
    ∙ slice_get-append_left (take at words) others k (omega (arith, length-take-le at words (omega arith)))
    ∙ slice_get-take at words k below

-- the stretch stands from the address on
pub with_range_inside : (words others : List ℕ) (at k : ℕ) → at + length others ≤ length words → k < length others
    → slice_get (with_range words at others) (at + k) ≡ slice_get others k
with_range_inside words others at k within below =
    slice_get-append_left (front words at others) (drop (at + length others) words) (at + k)
    (omega (arith, length-front words others at within))
    ∙ slice_get-append_right (take at words) others k (at + k) (omega (arith, length-take-le at words (omega arith)))

-- those behind it stay
pub with_range_behind : (words others : List ℕ) (at k : ℕ) → at + length others ≤ length words
    → at + length others ≤ k
    → slice_get (with_range words at others) k ≡ slice_get words k
with_range_behind words others at k within from =
    slice_get-append_right (front words at others) (drop (at + length others) words) (k - (at + length others)) k
    (omega (arith, length-front words others at within))
    ∙ slice_get-drop (at + length others) words (k - (at + length others)) k (omega arith)

-- and the stretch is that of its addresses
pub slice_range-with_range : (words others : List ℕ) (at size : ℕ) → at + length others ≤ length words
    → length others ≡ size → slice_range (with_range words at others) at (at + size) ≡ others
slice_range-with_range words others at size within long =
    same_lists _ _ (search (rules, places)) (λ k d h. grind (arith, places))

-- three words that were put in a row are a stretch
pub three_in_a_row : (words : List ℕ) (at first second third : ℕ) → at + 3 ≤ length words
    → set (set (set words at first) (at + 1) second) (at + 2) third
    ≡ with_range words at (first ∷ second ∷ third ∷ [])
three_in_a_row words at first second third within =
    let one = set words at first in
    let two = set one (at + 1) second in
    let start = take at words in
    let behind = drop (at + 3) words in
    let place : at + 2 ≡ (at + 1) + 1 = omega arith in
    let next : suc (at + 2) ≡ at + 3 = omega arith in
    let long : length two ≡ length words = length-set one (at + 1) second ∙ length-set words at first in
    let first_two : take (at + 2) two ≡ (start ++ (first ∷ [])) ++ (second ∷ []) =
    ap (λ n. take n two) place ∙ take_more_set one (at + 1) second (omega (arith, length-set words at first))
    ∙ ap (λ all. all ++ (second ∷ [])) (take_more_set words at first (omega arith)) in
    let back : drop (suc (at + 2)) two ≡ behind =
    ap (λ n. drop n two) next ∙ drop-set-lt (at + 3) one (at + 1) second (omega arith)
    ∙ drop-set-lt (at + 3) words at first (omega arith) in
    set_split two (at + 2) third (omega (arith, long))
    ∙ ap (λ all. all ++ (third ∷ drop (suc (at + 2)) two)) first_two
    ∙ ap (λ all. ((start ++ (first ∷ [])) ++ (second ∷ [])) ++ (third ∷ all)) back
    ∙ ap (λ all. all ++ (third ∷ behind)) (append_assoc start (first ∷ []) (second ∷ []))
    ∙ append_assoc start (first ∷ second ∷ []) (third ∷ behind)
    ∙ sym (append_assoc start (first ∷ second ∷ third ∷ []) behind)
