-- Where two addresses of a list were exchanged, the same ones are listed, each once if each was.
use Rattle.std.proofs.Common.{◌≡◌, ◌≢◌, ℕ, ◌<◌, ◌↔◌, inl, inr, List, length, get_or}
use Rattle.std.proofs.Common.{sym, ◌∙◌, ap, subst, arith}
use Rattle.std.specs.List.{All, AllPairs, Contains}
use Rattle.std.proofs.lemmas.Bool.{cases_eq, cases_lt}
use Rattle.cell_list.specs.Listing.{IsListing}

-- the addresses at two places were exchanged
pub record AreExchanged (before after : List ℕ) (one other : ℕ) : Type 0 where
  pub count : length after ≡ length before
  pub one_there : one < length before
  pub other_there : other < length before
  pub first : (d : ℕ) → get_or after one d ≡ get_or before other d
  pub second : (d : ℕ) → get_or after other d ≡ get_or before one d
  pub beside : (k d : ℕ) → k ≢ one → k ≢ other → get_or after k d ≡ get_or before k d

-- the place at which the address stood that stands at this one
data StoodAt (one other k : ℕ) : ℕ → Type 0 where
  first : k ≡ one → StoodAt one other k other
  second : k ≡ other → StoodAt one other k one
  beside : k ≢ one → k ≢ other → StoodAt one other k k

-- an exchange of the two again leads back
exchanged_back : (before after : List ℕ) (one other : ℕ) → AreExchanged before after one other
    → AreExchanged after before one other
exchanged_back before after one other are = record {
  count = sym are.count;
  one_there = omega (arith, are.one_there, are.count);
  other_there = omega (arith, are.other_there, are.count);
  first = λ d. sym (are.second d);
  second = λ d. sym (are.first d);
  beside = λ k d no_one no_other. sym (are.beside k d no_one no_other);
}

-- each address stood somewhere
stood_at : (before after : List ℕ) (one other k d : ℕ) → AreExchanged before after one other
    → (was : ℕ) × StoodAt one other k was × (get_or after k d ≡ get_or before was d)
stood_at before after one other k d are = elim (cases_eq k one) [
  | inl same ↦ (other, StoodAt.first same, ap (λ n. get_or after n d) same ∙ are.first d)
  | inr no_one ↦ elim (cases_eq k other) [
    | inl same ↦ (one, StoodAt.second same, ap (λ n. get_or after n d) same ∙ are.second d)
    | inr no_other ↦ (k, StoodAt.beside no_one no_other, are.beside k d no_one no_other)
  ]
]

-- in the list
stood_within : (long one other k was : ℕ) → StoodAt one other k was → one < long → other < long → k < long → was < long
stood_within long one other k was (StoodAt.first same) one_there other_there there = other_there
stood_within long one other k was (StoodAt.second same) one_there other_there there = one_there
stood_within long one other k was (StoodAt.beside no_one no_other) one_there other_there there = there

-- and two stood at two places
stood_apart : (one other j k was had : ℕ) → StoodAt one other j was → StoodAt one other k had → j ≢ k → was ≢ had
stood_apart one other j k was had (StoodAt.first e) (StoodAt.first f) differ same = differ (e ∙ sym f)
stood_apart one other j k was had (StoodAt.first e) (StoodAt.second f) differ same = differ (e ∙ sym same ∙ sym f)
stood_apart one other j k was had (StoodAt.first e) (StoodAt.beside p q) differ same = q (sym same)
stood_apart one other j k was had (StoodAt.second e) (StoodAt.first f) differ same = differ (e ∙ sym same ∙ sym f)
stood_apart one other j k was had (StoodAt.second e) (StoodAt.second f) differ same = differ (e ∙ sym f)
stood_apart one other j k was had (StoodAt.second e) (StoodAt.beside p q) differ same = p (sym same)
stood_apart one other j k was had (StoodAt.beside p q) (StoodAt.first f) differ same = q same
stood_apart one other j k was had (StoodAt.beside p q) (StoodAt.second f) differ same = p same
stood_apart one other j k was had (StoodAt.beside p q) (StoodAt.beside r s) differ same = differ same

-- what is listed after the exchange was before
listed_before : (before after : List ℕ) (one other at : ℕ) → AreExchanged before after one other → Contains after at
    → Contains before at
listed_before before after one other at are there =
    let from = stood_at before after one other there.0 at are in (
      from.0,
      stood_within (length before) one other there.0 from.0 from.1 are.one_there are.other_there
          (omega (arith, there.1, are.count)),
      sym from.2 ∙ there.2,
    )

-- the same addresses are listed
pub same_listed : (before after : List ℕ) (one other at : ℕ) → AreExchanged before after one other
    → Contains after at ↔ Contains before at
same_listed before after one other at are = (
  listed_before before after one other at are,
  listed_before after before one other at (exchanged_back before after one other are),
)

-- each once, if each was
once_exchanged : (before after : List ℕ) (one other : ℕ) → AreExchanged before after one other
    → AllPairs (λ x y. x ≢ y) before → AllPairs (λ x y. x ≢ y) after
once_exchanged before after one other are once j k d less within same =
    let from = stood_at before after one other j d are in
    let to = stood_at before after one other k d are in
    let long : ℕ = length before in
    let low : from.0 < long = stood_within long one other j from.0 from.1 are.one_there are.other_there
    (omega (arith, less, within, are.count)) in
    let high : to.0 < long = stood_within long one other k to.0 to.1 are.one_there are.other_there
    (omega (arith, within, are.count)) in
    let differ : from.0 ≢ to.0 =
    stood_apart one other j k from.0 to.0 from.1 to.1 (λ e. omega (arith, less, e)) in
    let equal : get_or before from.0 d ≡ get_or before to.0 d = sym from.2 ∙ same ∙ to.2 in
    elim (cases_lt from.0 to.0) [
      | inl earlier ↦ once from.0 to.0 d earlier high equal
      | inr later ↦ once to.0 from.0 d (omega (arith, later, differ)) low (sym equal)
    ]

-- and each below the bound, if each was
below_exchanged : (before after : List ℕ) (one other bound : ℕ) → AreExchanged before after one other
    → All (λ x. x < bound) before → All (λ x. x < bound) after
below_exchanged before after one other bound are below k d within =
    let from = stood_at before after one other k d are in
    subst (λ x. x < bound) (sym from.2) (below from.0 d
    (stood_within (length before) one other k from.0 from.1 are.one_there are.other_there
    (omega (arith, within, are.count))))

-- so it is a listing still
pub listing_exchanged : (before after : List ℕ) (one other bound : ℕ) → AreExchanged before after one other
    → IsListing (record { bound = bound; addresses = before }) → IsListing (record { bound = bound; addresses = after })
listing_exchanged before after one other bound are is = record {
  once = once_exchanged before after one other are is.once;
  below = below_exchanged before after one other bound are is.below;
}
