-- The cells of one list join another.
use Rattle.std.proofs.Common.{◌≡◌, ◌<◌, ◌⊎◌, ◌↔◌, inl, inr, ℕ, suc, ◌+◌, List, [], ◌∷◌, ◌++◌, Contains, Some, length}
use Rattle.std.proofs.Common.{take}
use Rattle.std.proofs.Common.{slice_get, sym, ap, subst, ◌∙◌, arith}
use Rattle.std.proofs.Math.Seq.{take-length, take-suc}
use Rattle.std.proofs.lemmas.List.Elements.{All-contains, Contains-append_cases, Contains-append_left}
use Rattle.std.proofs.lemmas.List.Elements.{Contains-append_right}
use Rattle.std.proofs.lemmas.Option.{get_or_from_slice_get, slice_get_within}
use Rattle.tagged_word.proofs.Members.{first_in, one_in}
use Rattle.cell_list.specs.Listing.{IsListing, Listing}

-- the cell at a place of a list
at_place : (list : List ℕ) (place at : ℕ) → slice_get list place ≡ Some at → Contains list at
at_place list place at is = (place, slice_get_within list place at is, get_or_from_slice_get list place at at is)

-- is below its bound
pub below : (listing : Listing) (at place : ℕ) → IsListing listing → slice_get listing.addresses place ≡ Some at
    → at < listing.bound
below listing at place own is =
    All-contains (λ (one : ℕ). one < listing.bound) listing.addresses at own.below (at_place listing.addresses place at
    is)

-- at first none has joined
pub none_joined : (to from : List ℕ) (at : ℕ) → Contains to at ↔ (Contains to at ⊎ Contains (take 0 from) at)
none_joined to from at = (
  (λ on. inl on),
  (λ either. elim either [ inl on ↦ on | inr (k, l, e) ↦ absurd (omega (arith, l)) ]),
)

-- and then one more at each place
pub joins_more : (start to now from : List ℕ) (place cell : ℕ) → slice_get from place ≡ Some cell
    → ((at : ℕ) → Contains to at ↔ (Contains start at ⊎ Contains (take place from) at))
    → ((at : ℕ) → Contains now at ↔ (Contains to at ⊎ (at ≡ cell)))
    → (at : ℕ) → Contains now at ↔ (Contains start at ⊎ Contains (take (place + 1) from) at)
joins_more start to now from place cell is before adds at =
    let more : suc place ≡ place + 1 = omega arith in
    let next : take (place + 1) from ≡ take place from ++ cell ∷ [] =
    ap (λ (n : ℕ). take n from) (sym more)
    ∙ (take-suc from place 0 (slice_get_within from place cell is)
    ∙ ap (λ (x : ℕ). take place from ++ x ∷ []) (get_or_from_slice_get from place cell 0 is)) in (
      (λ on. elim ((adds at).0 on) [
        | inl was ↦ elim ((before at).0 was) [
          | inl first ↦ inl first
          | inr joined ↦ inr (subst (λ (xs : List ℕ). Contains xs at) (sym next)
              (Contains-append_left (take place from) (cell ∷ []) at joined))
        ]
        | inr new ↦ inr (subst (λ (xs : List ℕ). Contains xs at) (sym next)
            (Contains-append_right (take place from) (cell ∷ []) at (subst (Contains (cell ∷ [])) (sym new) (first_in
            cell []))))
      ]),
      (λ either. (adds at).1 (elim either [
        | inl first ↦ inl ((before at).1 (inl first))
        | inr joined ↦ elim (Contains-append_cases (take place from) (cell ∷ []) at
            (subst (λ (xs : List ℕ). Contains xs at) next joined)) [
              | inl earlier ↦ inl ((before at).1 (inr earlier))
              | inr last ↦ inr (sym (one_in cell at last))
            ]
      ])),
    )

-- at the end all have
pub all_joined : (start to from : List ℕ) (end : ℕ) → end ≡ length from
    → ((at : ℕ) → Contains to at ↔ (Contains start at ⊎ Contains (take end from) at)) → (at : ℕ)
    → Contains to at ↔ (Contains start at ⊎ Contains from at)
all_joined start to from end is joined at =
    subst (λ (xs : List ℕ). Contains to at ↔ (Contains start at ⊎ Contains xs at))
    (ap (λ (n : ℕ). take n from) is ∙ take-length from) (joined at)
