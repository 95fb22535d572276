-- A name that goes to the end of a list has the next number.
use Rattle.std.proofs.Common.{◌≡◌, inl, inr, ℕ, suc, Bool, true, false, cond, List, [], ◌∷◌, ◌++◌, length}
use Rattle.std.proofs.Common.{Option, Some, None, option_map, unwrap_or, bytes_eq, map, Bor, refl, sym, ap, ◌∙◌}
use Rattle.std.proofs.lemmas.List.{length-map, map-append}
use Rattle.script_text.specs.Names.{position_of_name, number_of_name}
use Rattle.script_text.proofs.Numbers.{bytes_tell, position_of_name-here, position_of_name-later}

-- a place further on is none only where there is none
option_map-none : (place : Option ℕ) → option_map suc place ≡ None → place ≡ None
option_map-none None h = refl
option_map-none (Some at) h = cc

-- a place is not none
some_none : {at : ℕ} → Some at ≡ None → ⊥
some_none e = cc

-- a place further on, by cases
one_more : (b : Bool) (at : ℕ) (place : Option ℕ)
    → option_map suc (cond b (Some at) place) ≡ cond b (Some (suc at)) (option_map suc place)
one_more true at place = refl
one_more false at place = refl

-- a name that goes to the end has the next number, and the others keep theirs
pub position_of_name-push : (names : List (List ℕ)) (new name : List ℕ) → position_of_name names new ≡ None
    → position_of_name (names ++ new ∷ []) name ≡ cond (bytes_eq new name) (Some (length names))
    (position_of_name names name)
position_of_name-push [] new name h = refl
position_of_name-push (first ∷ names) new name h =
    elim (bytes_tell first name) [
      | inl e ↦ elim (bytes_tell new name) [
        | inl same ↦
            absurd (some_none (sym (position_of_name-here first names new (ap (bytes_eq first) same.1 ∙ e.0)) ∙ h))
        | inr other ↦
            position_of_name-here first (names ++ new ∷ []) name e.0
            ∙ sym (ap (λ b. cond b (Some (length (first ∷ names))) (position_of_name (first ∷ names) name)) other.0
            ∙ position_of_name-here first names name e.0)
      ]
      | inr e ↦ elim (bytes_tell first new) [
        | inl same ↦ absurd (some_none (sym (position_of_name-here first names new same.0) ∙ h))
        | inr other ↦
            let absent : position_of_name names new ≡ None =
            option_map-none (position_of_name names new) (sym (position_of_name-later first names new other.0) ∙ h) in
            position_of_name-later first (names ++ new ∷ []) name e.0
            ∙ ap (option_map suc) (position_of_name-push names new name absent)
            ∙ one_more (bytes_eq new name) (length names) (position_of_name names name)
            ∙ ap (cond (bytes_eq new name) (Some (length (first ∷ names))))
            (sym (position_of_name-later first names name e.0))
      ]
    ]

-- what a table finds after a name goes to the end, where `was` is what it found before
pub position_of_name-pushed :
    (items pushed : List (Bor (List ℕ))) (new : Bor (List ℕ)) (at : ℕ) (was : Option ℕ) (name : List ℕ)
    → position_of_name (map (λ item. item.now) items) new.now ≡ None → pushed ≡ items ++ new ∷ [] → at ≡ length items
    → was ≡ position_of_name (map (λ item. item.now) items) name
    → cond (bytes_eq new.now name) (Some at) was ≡ position_of_name (map (λ item. item.now) pushed) name
position_of_name-pushed items pushed new at was name absent ends last h =
    let names = map (λ (item : Bor (List ℕ)). item.now) items in
    let count : at ≡ length names = last ∙ sym (length-map items (λ item. item.now)) in
    let joined : map (λ item. item.now) pushed ≡ names ++ new.now ∷ [] =
    ap (map (λ item. item.now)) ends ∙ map-append (λ item. item.now) items (new ∷ []) in
    ap (cond (bytes_eq new.now name) (Some at)) h
    ∙ ap (λ n. cond (bytes_eq new.now name) (Some n) (position_of_name names name)) count
    ∙ sym (position_of_name-push names new.now name absent) ∙ ap (λ all. position_of_name all name) (sym joined)

-- a name that goes to the end has the next number
pub number_of_name-pushed : (items pushed : List (Bor (List ℕ))) (new : Bor (List ℕ)) (at : ℕ)
    → position_of_name (map (λ item. item.now) items) new.now ≡ None
    → pushed ≡ items ++ new ∷ [] → at ≡ length items → at ≡ number_of_name (map (λ item. item.now) pushed) new.now
number_of_name-pushed items pushed new at absent ends last =
    let names = map (λ (item : Bor (List ℕ)). item.now) items in
    let joined : map (λ item. item.now) pushed ≡ names ++ new.now ∷ [] =
    ap (map (λ item. item.now)) ends ∙ map-append (λ item. item.now) items (new ∷ []) in
    let count : at ≡ length names = last ∙ sym (length-map items (λ item. item.now)) in
    elim (bytes_tell new.now new.now) [
      | inl same ↦
          count
          ∙ sym (ap (λ place. unwrap_or place 0) (position_of_name-push names new.now new.now absent
          ∙ ap (λ b. cond b (Some (length names)) (position_of_name names new.now)) same.0))
          ∙ ap (λ all. number_of_name all new.now) (sym joined)
      | inr other ↦ absurd (other.1 refl)
    ]
