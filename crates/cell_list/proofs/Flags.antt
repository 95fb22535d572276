-- The flags of addresses tell which are listed, when one is pushed and when the last is popped.
use Rattle.std.proofs.Common.{◌≡◌, ◌≢◌, ℕ, ◌<◌, ◌≤◌, ◌↔◌, ◌⊎◌, Bool, true, false, List, [], ◌∷◌, ◌++◌, length}
use Rattle.std.proofs.Common.{get_or, set, inl, inr, sym, ◌∙◌, subst, arith, IsTrue}
use Rattle.std.specs.List.{AllPairs, Contains}
use Rattle.std.proofs.lemmas.Bool.{cases_eq, cases_lt, false≢true, eqb-true}
use Rattle.std.proofs.lemmas.Bool.Decides.{Decides-eqb}
use Rattle.std.proofs.lemmas.List.{get_or-set_same, get_or-set_other, get_or_default, get_or_past, length-append}
use Rattle.std.proofs.lemmas.List.{get_or_append_left}
use Rattle.std.proofs.Math.Seq.{get_or-append_seam}
use Rattle.std.proofs.lemmas.List.Elements.{All-contains, All-push, Contains-append_left, Contains-append_right}
use Rattle.std.proofs.lemmas.List.Elements.{Contains-append_cases}
use Rattle.std.proofs.lemmas.List.Quantifiers.{all_pairs_push}
use Rattle.std.proofs.lemmas.Map.Steps.{length-le_from_distinct_below}
use Rattle.std.proofs.lemmas.Map.Made.{IsDistinct-from_AllPairs}
use Rattle.std.proofs.lemmas.Map.Views.{Contains-from_any}
use Rattle.tagged_word.proofs.Members.{first_in, one_in}
use Rattle.cell_list.specs.Listing.{Listing, IsListing, pushed}

-- the flag of each address tells whether it is listed
abbrev pub Tell : List Bool → List ℕ → Type 0
Tell flags addresses = (at : ℕ) → IsTrue (get_or flags at false) ↔ Contains addresses at

-- the last of a list is in it
pub last_in : (addresses : List ℕ) (at : ℕ) → Contains (addresses ++ at ∷ []) at
last_in addresses at = Contains-append_right addresses (at ∷ []) at (first_in at [])

-- what is in a list with one more is the last, or in the list
in_pushed : (addresses : List ℕ) (at other : ℕ) → Contains (addresses ++ at ∷ []) other
    → (at ≡ other) ⊎ Contains addresses other
in_pushed addresses at other there =
    elim (Contains-append_cases addresses (at ∷ []) other there) [
      | inl before ↦ inr before
      | inr last ↦ inl (one_in at other last)
    ]

-- with one address more the flags tell as before, and so does its own
pub tell_pushed : (flags new : List Bool) (addresses : List ℕ) (at : ℕ) → get_or new at false ≡ true
    → ((other : ℕ) → other ≢ at → get_or new other false ≡ get_or flags other false) → Tell flags addresses
    → Tell new (addresses ++ at ∷ [])
tell_pushed flags new addresses at own others tell other =
    elim (cases_eq other at) [
      | inl same ↦ (
        λ _. subst (Contains (addresses ++ at ∷ [])) (sym same) (last_in addresses at),
        λ _. rw same own,
      )
      | inr differs ↦
          let stays = others other differs in (
            λ is_set. Contains-append_left addresses (at ∷ []) other ((tell other).0 (sym stays ∙ is_set)),
            λ there. elim (in_pushed addresses at other there) [
              | inl same ↦ absurd (differs (sym same))
              | inr before ↦ stays ∙ (tell other).1 before
            ],
          )
    ]

-- an address that is listed has a flag
pub listed_has_flag : (flags : List Bool) (addresses : List ℕ) (at : ℕ) → Tell flags addresses
    → Contains addresses at → at < length flags
listed_has_flag flags addresses at tell there =
    elim (cases_lt at (length flags)) [
      | inl within ↦ within
      | inr past ↦ absurd (false≢true (sym (get_or_past flags at false past) ∙ (tell at).1 there))
    ]

-- the last of a list without repeats is not in the rest
pub once_last : (at : ℕ) (addresses : List ℕ) → AllPairs (λ one other. one ≢ other) (addresses ++ at ∷ [])
    → Contains addresses at → ⊥
once_last at addresses once there =
    let all = addresses ++ at ∷ [] in
    let before : get_or all there.0 at ≡ at = get_or_append_left addresses (at ∷ []) at there.0 there.1 ∙ there.2 in
    let last : get_or all (length addresses) at ≡ at = get_or-append_seam addresses at [] at in
    once there.0 (length addresses) at there.1 (omega (arith, length-append addresses (at ∷ [])))
    (before ∙ sym last)

-- without the last address the flags tell as before, where its own is cleared
pub tell_popped : (flags : List Bool) (addresses : List ℕ) (at : ℕ) → at < length flags
    → AllPairs (λ one other. one ≢ other) (addresses ++ at ∷ []) → Tell flags (addresses ++ at ∷ [])
    → Tell (set flags at false) addresses
tell_popped flags addresses at below once tell other =
    elim (cases_eq other at) [
      | inl same ↦ (
        λ is_set. absurd (false≢true (sym (rw same (get_or-set_same flags at false false below)) ∙ is_set)),
        λ there. absurd (once_last at addresses once (subst (Contains addresses) same there)),
      )
      | inr differs ↦
          let stays = get_or-set_other flags at other false false differs in (
            λ is_set. elim (in_pushed addresses at other ((tell other).0 (sym stays ∙ is_set))) [
              | inl same ↦ absurd (differs (sym same))
              | inr before ↦ before
            ],
            λ there. stays ∙ (tell other).1 (Contains-append_left addresses (at ∷ []) other there),
          )
    ]

-- with an address that is below the bound and not listed so far it is still a listing
pub is_pushed : (listing : Listing) (at : ℕ) → IsListing listing → at < listing.bound
    → (Contains listing.addresses at → ⊥) → IsListing (pushed listing at)
is_pushed listing at is below new = record {
  once = all_pairs_push (λ one other. one ≢ other) listing.addresses at is.once
      (λ k d within same. new (k, within, get_or_default listing.addresses k at d within ∙ same));
  below = All-push (λ one. one < listing.bound) listing.addresses at is.below below;
}

-- without the last address it is still a listing, and that was below the bound
pub is_popped : (listing : Listing) (at : ℕ) → IsListing (pushed listing at)
    → IsListing listing × (at < listing.bound)
is_popped listing at is =
    let rest = listing.addresses in
    let more = length-append rest (at ∷ []) in
    let stays = λ (k d : ℕ) (within : k < length rest). get_or_append_left rest (at ∷ []) d k within in (
      record {
        once = λ i j d less within same.
            is.once i j d less (omega (arith, more, within))
            (stays i d (omega (arith, less, within)) ∙ same ∙ sym (stays j d within));
        below = λ k d within.
            subst (λ one. one < listing.bound) (stays k d within) (is.below k d (omega (arith, more, within)));
      },
      subst (λ one. one < listing.bound) (get_or-append_seam rest at [] 0)
          (is.below (length rest) 0 (omega (arith, more))),
    )

-- no more addresses are listed than there are below the bound
pub listed_are_few : (listing : Listing) → IsListing listing → length listing.addresses ≤ listing.bound
listed_are_few listing is =
    length-le_from_distinct_below listing.addresses listing.bound
    (IsDistinct-from_AllPairs Decides-eqb listing.addresses is.once)
    (λ at found. All-contains (λ one. one < listing.bound) listing.addresses at is.below
    (Contains-from_any eqb-true at listing.addresses found))

-- so with one more there is still room for each below the bound
pub pushed_are_few : (listing : Listing) (at : ℕ) → IsListing (pushed listing at)
    → length listing.addresses < listing.bound
pushed_are_few listing at is =
    omega (arith, listed_are_few (pushed listing at) is, length-append listing.addresses (at ∷ []))
