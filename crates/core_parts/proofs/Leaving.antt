-- What leaving a list comes to.
use Rattle.std.proofs.Common.{ℕ, ◌≡◌, ◌≢◌, ◌==◌, inl, inr, Bool, true, false, not, cond, List, [], ◌∷◌}
use Rattle.std.proofs.Common.{refl, sym, ap, subst, ◌∙◌, eq-eqb, eqb-true}
use Rattle.std.specs.List.{Contains}
use Rattle.std.proofs.lemmas.Bool.{not-true, not_from_false}
use Rattle.std.proofs.lemmas.List.Kept.{AllPairs-filter}
use Rattle.tagged_word.proofs.Members.{first_in, rest_in, filter_from, filter_true, in_filter}
use Rattle.core_parts.specs.Lists.{left, HasNoRepeats}
use Rattle.core_parts.proofs.Joining.{decided}

-- whether an address is another one
abbrev other_than : ℕ → ℕ → Bool
other_than a x = not (x == a)

-- another one passes the test
others_pass : (a x : ℕ) → x ≢ a → other_than a x ≡ true
others_pass a x other =
    elim (decided (x == a)) [ inl t ↦ absurd (other (eqb-true _ _ t)) | inr f ↦ not_from_false _ f ]

-- what leaves is not in the list
pub left_out : (list : List ℕ) (a : ℕ) → Contains (left list a) a → ⊥
left_out list a c =
    let f = not-true _ (filter_true (other_than a) list a c) in
    let t : (a == a) ≡ true = eq-eqb a a refl in
    let both : true ≡ false = sym t ∙ f in cc

-- others stay
pub left_keeps : (list : List ℕ) (a x : ℕ) → x ≢ a → Contains list x → Contains (left list a) x
left_keeps list a x other c = in_filter (other_than a) list x (others_pass a x other) c

-- what is in the list then was in it before
pub left_from : (list : List ℕ) (a x : ℕ) → Contains (left list a) x → Contains list x
left_from list a x c = filter_from (other_than a) list x c

-- leaving a list that it is not in changes nothing
pub left_none : (list : List ℕ) (a : ℕ) → (Contains list a → ⊥) → left list a ≡ list
left_none [] a out = refl
left_none (x ∷ xs) a out =
    let other : x ≢ a = λ e. out (subst (λ y. Contains (x ∷ xs) y) e (first_in x xs)) in
    ap (λ b. cond b (x ∷ left xs a) (left xs a)) (others_pass a x other)
    ∙ ap (λ ys. x ∷ ys) (left_none xs a (λ c. out (rest_in x xs a c)))

-- leaving makes no repeats
pub left_no_repeats : (list : List ℕ) (a : ℕ) → HasNoRepeats list → HasNoRepeats (left list a)
left_no_repeats list a once = AllPairs-filter (λ x y. x ≢ y) (other_than a) list once
