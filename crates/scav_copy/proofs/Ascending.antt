-- Homes in ascending order of their cells, when one more joins.
use Rattle.std.proofs.Common.{ℕ, suc, ◌<◌, ◌≤◌, ◌≡◌, ◌≢◌, ◌⊎◌, inl, inr, Bool, true, false}
use Rattle.std.proofs.Common.{List, [], ◌∷◌, length, nat_lt}
use Rattle.std.proofs.Common.{get_or, if◌then◌else◌, arith, refl, sym, ap, subst, ◌∙◌}
use Rattle.std.specs.List.{All, AllPairs, Contains}
use Rattle.std.proofs.lemmas.Bool.{cases_lt}
use Rattle.std.proofs.lemmas.Bool.Decides.{nat_tests}
use Rattle.std.proofs.lemmas.Option.{slice_get-get_or}
use Rattle.tagged_word.proofs.Cells.{some_same}
use Rattle.std.proofs.lemmas.List.Elements.{All-nil, All-cons, All-head, All-tail, All-weaker}
use Rattle.std.proofs.lemmas.List.Kept.{AllPairs-cons}
use Rattle.tagged_word.proofs.Members.{first_in, rest_in, in_cases}
use Rattle.scav_copy.specs.declared.places.Home.{Home}
use Rattle.scav_copy.specs.Copies.{with_home, HasNoHome}

-- the cells of the homes ascend
abbrev pub Ascends : List Home → Type 0
Ascends homes = AllPairs (λ one other. one.from < other.from) homes

-- either the new one stands first, or it joins the rest
abbrev pub joins : Bool → Home → List Home → Home → List Home
joins first home homes new = if first then new ∷ (home ∷ homes) else home ∷ with_home homes new

-- a fact of the homes with one more, from where it stands
pub by_place : (P : List Home → Type 0) (home : Home) (homes : List Home) (new : Home)
    → (new.from < home.from → P (new ∷ (home ∷ homes))) → (home.from ≤ new.from → P (home ∷ with_home homes new))
    → P (with_home (home ∷ homes) new)
by_place P home homes new first later =
    let from : (b : Bool) → nat_lt new.from home.from ≡ b → P (joins b home homes new) =
    λ b. elim b as (λ b. nat_lt new.from home.from ≡ b → P (joins b home homes new)) [
      | true ↦ λ e. first (grind (arith, nat_tests))
      | false ↦ λ e. later (grind (arith, nat_tests))
    ] in
    from (nat_lt new.from home.from) refl

-- the new home is among them
pub new_in : (homes : List Home) (new : Home) → Contains (with_home homes new) new
new_in [] new = first_in new []
new_in (home ∷ homes) new =
    by_place (λ all. Contains all new) home homes new (λ less. first_in new (home ∷ homes))
    (λ more. rest_in home (with_home homes new) new (new_in homes new))

-- an old one of two lists is one of the longer
old_joins : (home : Home) (homes all : List Home) (one : Home) → (Contains homes one → Contains all one)
    → (home ≡ one) ⊎ Contains homes one → Contains (home ∷ all) one
old_joins home homes all one more (inl e) = subst (Contains (home ∷ all)) e (first_in home all)
old_joins home homes all one more (inr there) = rest_in home all one (more there)

-- the old ones are
pub old_in : (homes : List Home) (new one : Home) → Contains homes one → Contains (with_home homes new) one
old_in [] new one there = rest_in new [] one there
old_in (home ∷ homes) new one there =
    by_place (λ all. Contains all one) home homes new (λ less. rest_in new (home ∷ homes) one there)
    (λ more. old_joins home homes (with_home homes new) one (old_in homes new one) (in_cases home homes one there))

-- one of the rest is the new one or one of the longer list
later_is : (home : Home) (homes : List Home) (new one : Home) → (new ≡ one) ⊎ Contains homes one
    → (new ≡ one) ⊎ Contains (home ∷ homes) one
later_is home homes new one (inl e) = inl e
later_is home homes new one (inr there) = inr (rest_in home homes one there)

-- the first is an old one, and the rest by the rest
first_is : (home : Home) (homes all : List Home) (new one : Home)
    → (Contains all one → (new ≡ one) ⊎ Contains homes one) → (home ≡ one) ⊎ Contains all one
    → (new ≡ one) ⊎ Contains (home ∷ homes) one
first_is home homes all new one rest (inl e) = inr (subst (Contains (home ∷ homes)) e (first_in home homes))
first_is home homes all new one rest (inr there) = later_is home homes new one (rest there)

-- and no others
pub joined_is : (homes : List Home) (new one : Home) → Contains (with_home homes new) one
    → (new ≡ one) ⊎ Contains homes one
joined_is [] new one there = in_cases new [] one there
joined_is (home ∷ homes) new one there =
    by_place (λ all. Contains all one → (new ≡ one) ⊎ Contains (home ∷ homes) one) home homes new
    (λ less. in_cases new (home ∷ homes) one)
    (λ more inside. first_is home homes (with_home homes new) new one (joined_is homes new one)
    (in_cases home (with_home homes new) one inside)) there

-- the first is below all later ones
below_rest : (home : Home) (homes : List Home) → Ascends (home ∷ homes) → All (λ one. home.from < one.from) homes
below_rest home homes ascend k d less = ascend 0 (suc k) d (omega arith) (omega arith)

-- the later ones ascend
rest_ascends : (home : Home) (homes : List Home) → Ascends (home ∷ homes) → Ascends homes
rest_ascends home homes ascend i j d less within = ascend (suc i) (suc j) d (omega arith) (omega arith)

-- what is below a home is below all later ones
below_all : (new home : Home) (homes : List Home) → new.from < home.from → Ascends (home ∷ homes)
    → All (λ one. new.from < one.from) (home ∷ homes)
below_all new home homes less ascend =
    All-cons (λ (one : Home). new.from < one.from) home homes less
    (All-weaker (λ (one : Home). home.from < one.from) (λ (one : Home). new.from < one.from)
    (λ one more. omega arith) homes (below_rest home homes ascend))

-- what is below the new one and all others is below all together
below_joined : (first : ℕ) (homes : List Home) (new : Home) → first < new.from → All (λ one. first < one.from) homes
    → All (λ one. first < one.from) (with_home homes new)
below_joined first [] new less below =
    All-cons (λ (one : Home). first < one.from) new [] less (All-nil (λ (one : Home). first < one.from))
below_joined first (home ∷ homes) new less below =
    let P : Home → Type 0 = λ one. first < one.from in
    by_place (All P) home homes new (λ before. All-cons P new (home ∷ homes) less below)
    (λ behind. All-cons P home (with_home homes new) (All-head P home homes below)
    (below_joined first homes new less (All-tail P home homes below)))

-- homes still ascend when a cell without one gets it
pub joined_ascends : (homes : List Home) (new : Home) → Ascends homes → HasNoHome homes new.from
    → Ascends (with_home homes new)
joined_ascends [] new ascend none =
    AllPairs-cons (λ (one other : Home). one.from < other.from) new []
    (All-nil (λ (one : Home). new.from < one.from)) ascend
joined_ascends (home ∷ homes) new ascend none =
    let R : Home → Home → Type 0 = λ one other. one.from < other.from in
    let other : home.from ≢ new.from = none home (first_in home homes) in
    by_place Ascends home homes new
    (λ less. AllPairs-cons R new (home ∷ homes) (below_all new home homes less ascend) ascend)
    (λ more. AllPairs-cons R home (with_home homes new)
    (below_joined home.from homes new (omega arith) (below_rest home homes ascend))
    (joined_ascends homes new (rest_ascends home homes ascend) (λ one there. none one (rest_in home homes one there))))

-- an element that is there is the same whatever is asked for where there is none
same_element : (homes : List Home) (k : ℕ) (one other : Home) → k < length homes
    → get_or homes k one ≡ get_or homes k other
same_element homes k one other within =
    some_same (slice_get-get_or homes k one within) (slice_get-get_or homes k other within)

-- a home at a place before another is of an earlier cell
before_below : (homes : List Home) (i j : ℕ) (one other : Home) → Ascends homes → i < j → j < length homes
    → get_or homes i one ≡ one → get_or homes j other ≡ other → one.from < other.from
before_below homes i j one other ascend less within e f =
    let below : (get_or homes i one).from < (get_or homes j one).from = ascend i j one less within in
    let first : (get_or homes i one).from ≡ one.from = ap (λ (home : Home). home.from) e in
    let second : (get_or homes j one).from ≡ other.from =
    ap (λ (home : Home). home.from) (same_element homes j one other within ∙ f) in
    omega (arith, below, first, second)

-- a cell has one home
pub one_home : (homes : List Home) (one other : Home) → Ascends homes → Contains homes one → Contains homes other
    → one.from ≡ other.from → one ≡ other
one_home homes one other ascend (i, l, e) (j, m, f) same =
    elim (cases_lt i j) [
      | inl before ↦
          let below : one.from < other.from = before_below homes i j one other ascend before m e f in
          absurd (omega (arith, below, same))
      | inr more ↦ elim (cases_lt j i) [
        | inl behind ↦
            let below : other.from < one.from = before_below homes j i other one ascend behind l f e in
            absurd (omega (arith, below, same))
        | inr both ↦
            let equal : i ≡ j = omega (arith, more, both) in
            sym e ∙ ap (λ (k : ℕ). get_or homes k one) equal ∙ same_element homes j one other m ∙ f
      ]
    ]
