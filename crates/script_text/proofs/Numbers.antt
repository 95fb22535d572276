-- Names and their numbers.
use Rattle.std.proofs.Common.{◌≡◌, ◌≢◌, ◌⊎◌, inl, inr, ℕ, zero, suc, ◌<◌, Bool, true, false, cond, List}
use Rattle.std.proofs.Common.{[], ◌∷◌, ◌++◌, length, Option, Some, None, is_some, option_map, unwrap_or, slice_get}
use Rattle.std.proofs.Common.{slice_index_or, Decides, bytes_eq, fold, refl, sym, ap, ◌∙◌, subst, arith}
use Rattle.std.specs.List.{Contains}
use Rattle.std.proofs.lemmas.Bool.{false≢true}
use Rattle.std.proofs.lemmas.List.Elements.{Contains-append_left, Contains-push}
use Rattle.std.proofs.lemmas.Slice.Eq.{bytes_eq-Decides}
use Rattle.script_text.specs.Names.{position_of_name, number_of_name, with_name, first_uses}

-- a test passes or fails
pub true_or_false : (b : Bool) → (b ≡ true) ⊎ (b ≡ false)
true_or_false true = inl refl
true_or_false false = inr refl

-- a test that decides a fact tells which holds
told : (P : Type 0) (b : Bool) → Decides b P → ((b ≡ true) × P) ⊎ ((b ≡ false) × (P → ⊥))
told P true h = inl (refl, h.0 refl)
told P false h = inr (refl, λ p. false≢true (h.1 p))

-- what the test of two names tells
pub bytes_tell : (xs ys : List ℕ) → ((bytes_eq xs ys ≡ true) × (xs ≡ ys)) ⊎ ((bytes_eq xs ys ≡ false) × (xs ≢ ys))
bytes_tell xs ys = told (xs ≡ ys) (bytes_eq xs ys) (bytes_eq-Decides xs ys)

-- the first name has the first place
pub position_of_name-here : (first : List ℕ) (names : List (List ℕ)) (name : List ℕ) → bytes_eq first name ≡ true
    → position_of_name (first ∷ names) name ≡ Some 0
position_of_name-here first names name e = ap (λ b. cond b (Some 0) (option_map suc (position_of_name names name))) e

-- another name has its place among the others
pub position_of_name-later : (first : List ℕ) (names : List (List ℕ)) (name : List ℕ) → bytes_eq first name ≡ false
    → position_of_name (first ∷ names) name ≡ option_map suc (position_of_name names name)
position_of_name-later first names name e = ap (λ b. cond b (Some 0) (option_map suc (position_of_name names name))) e

-- a name that is in a list has a place there, and the place has the name
pub record IsFound (names : List (List ℕ)) (name : List ℕ) : Type 0 where
  pub at : ℕ
  pub place : position_of_name names name ≡ Some at
  pub within : at < length names
  pub back : slice_get names at ≡ Some name

-- another name than the first stands behind it
later_at : (first : List ℕ) (names : List (List ℕ)) (name : List ℕ) → first ≢ name → (k : ℕ)
    → k < length (first ∷ names) → slice_index_or (first ∷ names) k name ≡ name → Contains names name
later_at first names name ne zero lt e = absurd (ne e)
later_at first names name ne (suc k) lt e = (k, omega arith, e)

-- a name that is not the first of a list is in the rest
Contains-later : (first : List ℕ) (names : List (List ℕ)) (name : List ℕ) → first ≢ name
    → Contains (first ∷ names) name → Contains names name
Contains-later first names name ne h = later_at first names name ne h.0 h.1 h.2

-- a name of a list is found there
pub found : (names : List (List ℕ)) (name : List ℕ) → Contains names name → IsFound names name
found [] name h = absurd (omega (arith, h.1))
found (first ∷ names) name h =
    elim (bytes_tell first name) [
      | inl e ↦
          record {
            at = 0;
            place = position_of_name-here first names name e.0;
            within = omega arith;
            back = ap Some e.1;
          }
      | inr e ↦
          let later = found names name (Contains-later first names name e.1 h) in
          record {
            at = suc later.at;
            place = position_of_name-later first names name e.0 ∙ ap (option_map suc) later.place;
            within = omega (arith, later.within);
            back = later.back;
          }
    ]

-- a name's number is below the count of the names
pub number_of_name-lt : (names : List (List ℕ)) (name : List ℕ) → Contains names name
    → number_of_name names name < length names
number_of_name-lt names name h =
    let here = found names name h in
    let e : number_of_name names name ≡ here.at = ap (λ place. unwrap_or place 0) here.place in
    omega (arith, here.within)

-- a place further on is a place
is_some-suc : (place : Option ℕ) → is_some (option_map suc place) ≡ is_some place
is_some-suc None = refl
is_some-suc (Some at) = refl

-- the first name is in the list
pub Contains-head : (first : List ℕ) (names : List (List ℕ)) (name : List ℕ) → first ≡ name
    → Contains (first ∷ names) name
Contains-head first names name e = (0, omega arith, e)

-- so are the others
pub Contains-tail : (first : List ℕ) (names : List (List ℕ)) (name : List ℕ) → Contains names name
    → Contains (first ∷ names) name
Contains-tail first names name h = (suc h.0, omega (arith, h.1), h.2)

-- a name that has a place is in the list
Contains-from_place : (names : List (List ℕ)) (name : List ℕ) → is_some (position_of_name names name) ≡ true
    → Contains names name
Contains-from_place [] name h = absurd (false≢true h)
Contains-from_place (first ∷ names) name h =
    elim (bytes_tell first name) [
      | inl e ↦ Contains-head first names name e.1
      | inr e ↦
          Contains-tail first names name (Contains-from_place names name
          (sym (is_some-suc (position_of_name names name))
          ∙ sym (ap is_some (position_of_name-later first names name e.0)) ∙ h))
    ]

-- a name that is not in the list goes to its end
pub record IsNew (names : List (List ℕ)) (new : List ℕ) : Type 0 where
  pub absent : Contains names new → ⊥
  pub none : position_of_name names new ≡ None
  pub ends : with_name names new ≡ names ++ new ∷ []

-- a name that is in the list leaves it as it is
pub record IsKnown (names : List (List ℕ)) (new : List ℕ) : Type 0 where
  pub present : Contains names new
  pub same : with_name names new ≡ names

-- what is no place is none
none_placed : (place : Option ℕ) → is_some place ≡ false → place ≡ None
none_placed None h = refl
none_placed (Some at) h = absurd (false≢true (sym h))

-- a name is in the list, or goes to its end
pub known_or_new : (names : List (List ℕ)) (new : List ℕ) → IsKnown names new ⊎ IsNew names new
known_or_new names new =
    elim (true_or_false (is_some (position_of_name names new))) [
      | inl e ↦ inl (record {
        present = Contains-from_place names new e;
        same = ap (λ b. cond b names (names ++ new ∷ [])) e;
      })
      | inr e ↦
          inr (record {
            absent = λ h. false≢true (sym e ∙ ap is_some (found names new h).place);
            none = none_placed
                (position_of_name names new) e;
            ends = ap (λ b. cond b names (names ++ new ∷ [])) e;
          })
    ]

-- a name stays in the list
pub Contains-with_name : (names : List (List ℕ)) (new name : List ℕ) → Contains names name
    → Contains (with_name names new) name
Contains-with_name names new name h =
    elim (known_or_new names new) [
      | inl e ↦ rw e.same h
      | inr e ↦ rw e.ends (Contains-append_left names (new ∷ []) name h)
    ]

-- the new name is in the list
Contains-new : (names : List (List ℕ)) (new : List ℕ) → Contains (with_name names new) new
Contains-new names new =
    elim (known_or_new names new) [
      | inl e ↦ rw e.same e.present
      | inr e ↦ rw e.ends (Contains-push names new)
    ]

-- each named is in the list after it, and so is what was there
pub Contains-fold : (uses names : List (List ℕ)) (name : List ℕ) → Contains names name ⊎ Contains uses name
    → Contains (fold with_name names uses) name
Contains-fold [] names name h = elim h [ inl h ↦ h | inr h ↦ absurd (omega (arith, h.1)) ]
Contains-fold (named ∷ uses) names name h =
    elim h [
      | inl h ↦ Contains-fold uses (with_name names named) name (inl (Contains-with_name names named name h))
      | inr h ↦ elim (bytes_tell named name) [
        | inl e ↦
            Contains-fold uses (with_name names named) name
            (inl (subst (Contains (with_name names named)) e.1 (Contains-new names named)))
        | inr e ↦ Contains-fold uses (with_name names named) name (inr (Contains-later named uses name e.1 h))
      ]
    ]

-- each named is among the first uses
pub Contains-first_uses : (uses : List (List ℕ)) (name : List ℕ) → Contains uses name → Contains (first_uses uses) name
Contains-first_uses uses name h = Contains-fold uses [] name (inr h)
