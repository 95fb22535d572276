-- Copies that stand one behind another.
use Rattle.std.proofs.Common.{◌≡◌, ◌≢◌, ◌∙◌, ℕ, zero, suc, ◌+◌, ◌<◌, ◌≤◌, inl, inr}
use Rattle.std.proofs.Common.{List, [], ◌∷◌, ◌++◌, length, get_or, take, sym, ap, subst, arith}
use Rattle.std.specs.List.{Contains, sum_by}
use Rattle.std.proofs.lemmas.List.Elements.{Contains-push_cases}
use Rattle.std.proofs.lemmas.List.Sums.{sum_by-cons}
use Rattle.tagged_word.proofs.Members.{first_in, rest_in, in_cases}
use Rattle.shared_table.specs.Owned.{Own}
use Rattle.scav_copy.specs.declared.places.Home.{Home}
use Rattle.scav_copy.proofs.Spots.{none_in}
use Rattle.eden_copies.specs.Eden.{size_in}
use Rattle.eden_copies.specs.Copied.{AreTiled, AreOfOneEach}

-- how many words the copies have together
abbrev pub words_of : Own → List Home → ℕ
words_of own homes = sum_by (λ home. size_in own home.from) homes

-- they fill what is between the two addresses
pub tiles_fill : (own : Own) (at end : ℕ) (homes : List Home) → AreTiled own at homes end
    → at + words_of own homes ≡ end
tiles_fill own at end [] tiled = omega (arith, tiled)
tiles_fill own at end (home ∷ homes) tiled =
    let rest : (at + size_in own home.from) + words_of own homes ≡ end =
    tiles_fill own (at + size_in own home.from) end homes tiled.1 in
    let all : words_of own (home ∷ homes) ≡ size_in own home.from + words_of own homes =
    sum_by-cons (λ (one : Home). size_in own one.from) home homes in
    omega (arith, rest, all)

-- each lies between them
pub tile_within : (own : Own) (at end : ℕ) (homes : List Home) (home : Home) → AreTiled own at homes end
    → Contains homes home → (at ≤ home.to) × (home.to + size_in own home.from ≤ end)
tile_within own at end [] home tiled has = absurd (none_in home has)
tile_within own at end (first ∷ homes) home tiled has =
    let next : ℕ = at + size_in own first.from in
    let fills : next + words_of own homes ≡ end = tiles_fill own next end homes tiled.1 in
    elim (in_cases first homes home has) [
      | inl same ↦
          subst (λ (one : Home). (at ≤ one.to) × (one.to + size_in own one.from ≤ end)) same
          (omega (arith, tiled.0), omega (arith, tiled.0, fills))
      | inr rest ↦
          let inside = tile_within own next end homes home tiled.1 rest in (omega (arith, inside.0), inside.1)
    ]

-- one that begins where they end may join them
pub tiles_more : (own : Own) (at end : ℕ) (homes : List Home) (new : Home) → AreTiled own at homes end → new.to ≡ end
    → AreTiled own at (homes ++ new ∷ []) (end + size_in own new.from)
tiles_more own at end [] new tiled starts = (starts ∙ sym tiled, ap (λ (n : ℕ). n + size_in own new.from) tiled)
tiles_more own at end (home ∷ homes) new tiled starts =
    (tiled.0, tiles_more own (at + size_in own home.from) end homes new tiled.1 starts)

-- where each has a word at least, there are no more of them than words
pub tiles_few : (own : Own) (at end : ℕ) (homes : List Home) → AreTiled own at homes end
    → ((home : Home) → Contains homes home → 1 ≤ size_in own home.from) → at + length homes ≤ end
tiles_few own at end [] tiled some = omega (arith, tiled)
tiles_few own at end (home ∷ homes) tiled some =
    let rest : (at + size_in own home.from) + length homes ≤ end =
    tiles_few own (at + size_in own home.from) end homes tiled.1
    (λ one has. some one (rest_in home homes one has)) in
    omega (arith, rest, some home (first_in home homes))

-- an address is of one copy, and at one offset there
pub one_tile : (own : Own) (at end : ℕ) (homes : List Home) (one other : Home) (first second : ℕ)
    → AreTiled own at homes end → Contains homes one → Contains homes other → first < size_in own one.from
    → second < size_in own other.from → one.to + first ≡ other.to + second → one ≡ other
one_tile own at end [] one other first second tiled has also low high same = absurd (none_in one has)
one_tile own at end (home ∷ homes) one other first second tiled has also low high same =
    let next : ℕ = at + size_in own home.from in
    let behind : (here there : Home) (near far : ℕ) → home ≡ here → Contains homes there → near < size_in own here.from
    → here.to + near ≡ there.to + far → ⊥ =
    λ here there near far is rest below e.
    let inside = tile_within own next end homes there tiled.1 rest in
    let to : home.to ≡ here.to = ap (λ (h : Home). h.to) is in
    let size : size_in own home.from ≡ size_in own here.from = ap (λ (h : Home). size_in own h.from) is in
    omega (arith, inside.0, to, size, below, e, tiled.0) in
    elim (in_cases home homes one has) [
      | inl is ↦
          elim (in_cases home homes other also) [
            | inl too ↦ sym is ∙ too
            | inr rest ↦ absurd (behind one other first second is rest low same)
          ]
      | inr there ↦
          elim (in_cases home homes other also) [
            | inl too ↦ absurd (behind other one second first too there high (sym same))
            | inr rest ↦ one_tile own next end homes one other first second tiled.1 there rest low high same
          ]
    ]

-- each begins behind the words of those before it
pub tile_at : (own : Own) (at end : ℕ) (homes : List Home) (n : ℕ) (d : Home) → AreTiled own at homes end
    → n < length homes → (get_or homes n d).to ≡ at + words_of own (take n homes)
tile_at own at end [] n d tiled inside = absurd (omega (arith, inside))
tile_at own at end (home ∷ homes) zero d tiled inside = omega (arith, tiled.0)
tile_at own at end (home ∷ homes) (suc n) d tiled inside =
    let rest : (get_or homes n d).to ≡ (at + size_in own home.from) + words_of own (take n homes) =
    tile_at own (at + size_in own home.from) end homes n d tiled.1 (omega (arith, inside)) in
    let all : words_of own (home ∷ take n homes) ≡ size_in own home.from + words_of own (take n homes) =
    sum_by-cons (λ (one : Home). size_in own one.from) home (take n homes) in
    omega (arith, rest, all)

-- a copy of another cell may join them
pub one_each_more : (homes : List Home) (new : Home) → AreOfOneEach homes
    → ((other : Home) → Contains homes other → other.from ≢ new.from) → AreOfOneEach (homes ++ new ∷ [])
one_each_more [] new one apart = ((λ other has. absurd (none_in other has)), tt)
one_each_more (home ∷ homes) new one apart = (
  (λ other has.
      elim (Contains-push_cases homes new other has) [
        | inl there ↦ one.0 other there
        | inr is ↦ λ same. apart home (first_in home homes) (sym same ∙ sym (ap (λ (h : Home). h.from) is))
      ]),
  one_each_more homes new one.1 (λ other there. apart other (rest_in home homes other there)),
)
