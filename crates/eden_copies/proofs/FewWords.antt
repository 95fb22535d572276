-- Cells that share no word have no more words together than there are where they lie.
use Rattle.std.proofs.Common.{◌≡◌, ℕ, ◌+◌, ◌≤◌, inl, inr, List, [], ◌∷◌, subst, refl, arith}
use Rattle.std.specs.List.{Contains}
use Rattle.std.proofs.lemmas.Bool.{cases_lt}
use Rattle.std.proofs.lemmas.List.Sums.{sum_by-cons}
use Rattle.tagged_word.proofs.Members.{first_in, rest_in}
use Rattle.shared_table.specs.Owned.{Own}
use Rattle.scav_copy.specs.declared.places.Home.{Home}
use Rattle.scav_copy.specs.Places.{IsOfCell}
use Rattle.scav_copy.specs.Copies.{with_home}
use Rattle.scav_copy.proofs.Ascending.{by_place, joined_is}
use Rattle.eden_copies.specs.Eden.{ground, size_in}
use Rattle.eden_copies.specs.PutBack.{in_order}
use Rattle.eden_copies.proofs.Tiles.{words_of}

-- the cells of two copies share no word
abbrev pub AreOfApart : Own → Home → Home → Type 0
AreOfApart own one other = (at : ℕ) → IsOfCell (ground own) one.from at → IsOfCell (ground own) other.from at → ⊥

-- nor do those of any two of these
abbrev pub AreAllApart : Own → List Home → Type 0
AreAllApart own [] = Unit {0}
AreAllApart own (home ∷ homes) =
    ((other : Home) → Contains homes other → AreOfApart own home other) × AreAllApart own homes

-- the cell of the copy has a word at least, and lies between two addresses
pub record LiesBetween (own : Own) (low high : ℕ) (home : Home) : Type 0 where
  pub some : 1 ≤ size_in own home.from
  pub from : low ≤ home.from
  pub ends : home.from + size_in own home.from ≤ high

-- from an address on up to another the cells of the copies stand in order, each behind the one before
abbrev Ascend : Own → ℕ → List Home → ℕ → Type 0
Ascend own low [] high = low ≤ high
Ascend own low (home ∷ homes) high = (low ≤ home.from) × Ascend own (home.from + size_in own home.from) homes high

-- of two cells that share no word, the one that begins first ends before the other
ends_before : (own : Own) (one other : Home) → AreOfApart own one other → 1 ≤ size_in own other.from
    → one.from ≤ other.from → one.from + size_in own one.from ≤ other.from
ends_before own one other apart some first =
    elim (cases_lt other.from (one.from + size_in own one.from)) [
      | inl less ↦
          absurd (apart other.from (record { from = first; below = less })
          (record { from = omega arith; below = omega (arith, some) }))
      | inr more ↦ more
    ]

-- one more stands among them at its place
ascend_more : (own : Own) (low high : ℕ) (homes : List Home) (new : Home) → Ascend own low homes high
    → LiesBetween own low high new
    → ((home : Home) → Contains homes home → (1 ≤ size_in own home.from) × AreOfApart own home new)
    → Ascend own low (with_home homes new) high
ascend_more own low high [] new ascend lies apart = (lies.from, lies.ends)
ascend_more own low high (home ∷ homes) new ascend lies apart =
    let this = apart home (first_in home homes) in
    by_place (λ all. Ascend own low all high) home homes new
    (λ first. (
      lies.from,
      (ends_before own new home (λ at here there. this.1 at there here) this.0 (omega (arith, first)), ascend.1),
    ))
    (λ later. (
      ascend.0,
      ascend_more own (home.from + size_in own home.from) high homes new ascend.1
          (record { some = lies.some; from = ends_before own home new this.1 lies.some later; ends = lies.ends })
          (λ one there. apart one (rest_in home homes one there)),
    ))

-- they have no more words than there are between the two addresses
ascend_few : (own : Own) (low high : ℕ) (homes : List Home) → Ascend own low homes high
    → low + words_of own homes ≤ high
ascend_few own low high [] ascend = omega (arith, ascend)
ascend_few own low high (home ∷ homes) ascend =
    let rest : (home.from + size_in own home.from) + words_of own homes ≤ high =
    ascend_few own (home.from + size_in own home.from) high homes ascend.1 in
    let all : words_of own (home ∷ homes) ≡ size_in own home.from + words_of own homes =
    sum_by-cons (λ (one : Home). size_in own one.from) home homes in
    omega (arith, rest, all, ascend.0)

-- the copies in ascending order of their cells are the same
pub ordered_in : (homes : List Home) (one : Home) → Contains (in_order homes) one → Contains homes one
ordered_in [] one has = has
ordered_in (home ∷ homes) one has =
    elim (joined_is (in_order homes) home one has) [
      | inl is ↦ subst (Contains (home ∷ homes)) is (first_in home homes)
      | inr there ↦ rest_in home homes one (ordered_in homes one there)
    ]

-- with one more there are as many words more
joined_words : (own : Own) (homes : List Home) (new : Home)
    → words_of own (with_home homes new) ≡ size_in own new.from + words_of own homes
joined_words own [] new = sum_by-cons (λ (one : Home). size_in own one.from) new []
joined_words own (home ∷ homes) new =
    let size : Home → ℕ = λ one. size_in own one.from in
    let parts : words_of own (home ∷ homes) ≡ size home + words_of own homes = sum_by-cons size home homes in
    by_place (λ all. words_of own all ≡ size new + words_of own (home ∷ homes)) home homes new
    (λ first. sum_by-cons size new (home ∷ homes))
    (λ later. let whole : words_of own (home ∷ with_home homes new) ≡ size home + words_of own (with_home homes new) =
    sum_by-cons size home (with_home homes new) in
    omega (arith, whole, joined_words own homes new, parts))

-- in order they have as many words
ordered_words : (own : Own) (homes : List Home) → words_of own (in_order homes) ≡ words_of own homes
ordered_words own [] = refl
ordered_words own (home ∷ homes) =
    let whole : words_of own (home ∷ homes) ≡ size_in own home.from + words_of own homes =
    sum_by-cons (λ (one : Home). size_in own one.from) home homes in
    omega (arith, joined_words own (in_order homes) home, ordered_words own homes, whole)

-- copies whose cells share no word stand in order
ordered_ascend : (own : Own) (low high : ℕ) (homes : List Home) → low ≤ high → AreAllApart own homes
    → ((home : Home) → Contains homes home → LiesBetween own low high home) → Ascend own low (in_order homes) high
ordered_ascend own low high [] fits apart lie = fits
ordered_ascend own low high (home ∷ homes) fits apart lie =
    ascend_more own low high (in_order homes) home
    (ordered_ascend own low high homes fits apart.1 (λ one there. lie one (rest_in home homes one there)))
    (lie home (first_in home homes))
    (λ one has. let there = ordered_in homes one has in
    ((lie one (rest_in home homes one there)).some, λ at here also. apart.0 one there at also here))

-- so they have no more words than there are where they lie
pub few_words : (own : Own) (low high : ℕ) (homes : List Home) → low ≤ high → AreAllApart own homes
    → ((home : Home) → Contains homes home → LiesBetween own low high home) → low + words_of own homes ≤ high
few_words own low high homes fits apart lie =
    let few : low + words_of own (in_order homes) ≤ high =
    ascend_few own low high (in_order homes) (ordered_ascend own low high homes fits apart lie) in
    omega (arith, few, ordered_words own homes)
