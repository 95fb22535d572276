-- Which pair is the last that waits for a key, when one comes and when the last is taken off.
use Rattle.std.proofs.Common.{◌≡◌, ℕ, suc, ◌+◌, ◌≤◌, ◌⊎◌, inl, inr, List, [], ◌∷◌, ◌++◌, length}
use Rattle.std.proofs.Common.{Some, slice_get, sym, ◌∙◌, ap, subst, arith}
use Rattle.std.proofs.lemmas.Bool.{cases_lt}
use Rattle.std.proofs.lemmas.Option.{same_Some, slice_get_within}
use Rattle.std.proofs.lemmas.List.{length-map, length-append, map-append}
use Rattle.heap_model.proofs.CellWords.{slice_get-append_left, slice_get-append_right}
use Rattle.ephemeron_mark.specs.declared.waiting.WaitingPair.{WaitingPair}
use Rattle.ephemeron_mark.specs.Pairs.{IsLastOf}
use Rattle.ephemeron_mark.specs.Model.{keys_of}

-- the last of a list stands behind the others
pub last_there : {A : Type 0} (xs : List A) (x : A) → slice_get (xs ++ x ∷ []) (length xs) ≡ Some x
last_there xs x = slice_get-append_right xs (x ∷ []) 0 (length xs) (omega arith)

-- an element of a list with one more is an earlier one, or the last
pub which_of : {A : Type 0} (xs : List A) (x y : A) (place : ℕ) → slice_get (xs ++ x ∷ []) place ≡ Some y
    → (slice_get xs place ≡ Some y) ⊎ ((place ≡ length xs) × (x ≡ y))
which_of xs x y place there =
    elim (cases_lt place (length xs)) [
      | inl before ↦ inl (sym (slice_get-append_left xs (x ∷ []) place before) ∙ there)
      | inr behind ↦
          let within = slice_get_within (xs ++ x ∷ []) place y there in
          let is : place ≡ length xs = omega (arith, behind, within, length-append xs (x ∷ [])) in
          inr (is, same_Some x y (sym (last_there xs x) ∙ ap (slice_get (xs ++ x ∷ [])) (sym is) ∙ there))
    ]

-- a key that comes is the last of its own
pub last_itself : (keys : List ℕ) (key : ℕ) → IsLastOf (keys ++ key ∷ []) (length keys + 1) key (length keys + 1)
last_itself keys key = record {
  within = omega arith;
  found = λ place same.
      let is : length keys ≡ place = omega (arith, same) in
      subst (λ (one : ℕ). slice_get (keys ++ key ∷ []) one ≡ Some key) is (last_there keys key);
  behind = λ place below there. below;
}

-- another key has the last that it had
pub last_stays : (keys : List ℕ) (come key last : ℕ) → (come ≡ key → ⊥) → IsLastOf keys (length keys) key last
    → IsLastOf (keys ++ come ∷ []) (length keys + 1) key last
last_stays keys come key last other is = record {
  within = omega (arith, is.within);
  found = λ place same.
      let there = is.found place same in
      slice_get-append_left keys (come ∷ []) place (slice_get_within keys place key there) ∙ there;
  behind = λ place below there. elim (which_of keys come key place there) [
    | inl before ↦ is.behind place (slice_get_within keys place key before) before
    | inr last_one ↦ absurd (other last_one.1)
  ];
}

-- what is the last of the first so many keys, is so where more come
pub last_of_more : (keys more : List ℕ) (count key last : ℕ) → count ≤ length keys → IsLastOf keys count key last
    → IsLastOf (keys ++ more) count key last
last_of_more keys more count key last within is = record {
  within = is.within;
  found = λ place same.
      let there = is.found place same in
      slice_get-append_left keys more place (slice_get_within keys place key there) ∙ there;
  behind = λ place below there.
      is.behind place below (sym (slice_get-append_left keys more place (omega (arith, below, within))) ∙ there);
}

-- and the other way round
pub last_of_fewer : (keys more : List ℕ) (count key last : ℕ) → count ≤ length keys
    → IsLastOf (keys ++ more) count key last → IsLastOf keys count key last
last_of_fewer keys more count key last within is = record {
  within = is.within;
  found = λ place same.
      let few = is.within in
      sym (slice_get-append_left keys more place (omega (arith, few, same, within))) ∙ is.found place same;
  behind = λ place below there.
      is.behind place below
      (slice_get-append_left keys more place (slice_get_within keys place key there) ∙ there);
}

-- another key has the last that it had before one came
pub last_before : (keys : List ℕ) (come key last : ℕ) → (come ≡ key → ⊥)
    → IsLastOf (keys ++ come ∷ []) (length keys + 1) key last → IsLastOf keys (length keys) key last
last_before keys come key last other is =
    let within : last ≤ length keys =
    elim (cases_lt (length keys) last) [
      | inl past ↦
          let same : last ≡ suc (length keys) = omega (arith, past, is.within) in
          absurd (other (same_Some come key (sym (last_there keys come) ∙ is.found (length keys) same)))
      | inr few ↦ few
    ] in
    record {
      within = within;
      found = λ place same.
          sym (slice_get-append_left keys (come ∷ []) place (omega (arith, same, within))) ∙ is.found place same;
      behind = λ place below there.
          is.behind place (omega (arith, below))
          (slice_get-append_left keys (come ∷ []) place below ∙ there);
    }

-- there are as many keys as pairs
pub as_many_keys : (pairs : List WaitingPair) → length (keys_of pairs) ≡ length pairs
as_many_keys pairs = length-map pairs (λ pair. pair.key)

-- the keys with those of one pair more
pub keys_with : (pairs : List WaitingPair) (pair : WaitingPair)
    → keys_of (pairs ++ pair ∷ []) ≡ keys_of pairs ++ pair.key ∷ []
keys_with pairs pair = map-append (λ (one : WaitingPair). one.key) pairs (pair ∷ [])
