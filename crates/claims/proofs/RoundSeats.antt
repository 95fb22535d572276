-- The seats of a round.
use Rattle.std.proofs.Common.{◌≡◌, ℕ, zero, suc, ◌+◌, cond, List, [], ◌∷◌, ◌++◌, set, refl, sym, ap, subst, ◌∙◌, arith}
use Rattle.std.specs.List.{count_by, flat_map}
use Rattle.std.proofs.lemmas.List.Sums.{sum_by-cons}
use mathlib.Core.Option.{some, some-injective, some-ne-none}
use lib.ListN.{get_elem?}
use Rattle.claims.specs.declared.view.Claim.{Claim}
use Rattle.claims.specs.declared.view.View.{View}
use Rattle.claims.specs.declared.view.View.TheVariants.{Owning, Lent, Gone}
use Rattle.claims.specs.Keeping.{is_out, IsOfRound, AreOfRound}

-- one if the view is that of a seat that is out, else none
abbrev pub one_out : View → ℕ
one_out view = cond (is_out view) 1 0

-- how many seats are out, by the first one
pub out_first : (view : View) (rest : List View) → count_by is_out (view ∷ rest) ≡ one_out view + count_by is_out rest
out_first view rest = sum_by-cons one_out view rest

-- how many seats are out once a view was put
pub out_set : (views : List View) (j : ℕ) (v w : View) → get_elem? views j ≡ some v
    → count_by is_out (set views j w) + one_out v ≡ count_by is_out views + one_out w
out_set [] j v w at = absurd (some-ne-none v (sym at))
out_set (view ∷ rest) zero v w at =
    let same : one_out view ≡ one_out v = ap one_out (some-injective view v at) in
    omega (arith, same, out_first w rest, out_first view rest)
out_set (view ∷ rest) (suc j) v w at =
    omega (arith, out_set rest j v w at, out_first view (set rest j w), out_first view rest)

module _ (round : ℕ) (start : List ℕ) where
  -- each seat is of the round
  pub seat_at : (views : List View) (j : ℕ) (v : View) → AreOfRound round start views → get_elem? views j ≡ some v
      → IsOfRound round start v
  seat_at [] j v are at = absurd (some-ne-none v (sym at))
  seat_at (view ∷ rest) zero v are at =
      subst (λ (one : View). IsOfRound round start one) (some-injective view v at) are.0
  seat_at (view ∷ rest) (suc j) v are at = seat_at rest j v are.1 at

  -- and where the view of one is put, that is of the round too
  pub seats_set : (views : List View) (j : ℕ) (w : View) → AreOfRound round start views → IsOfRound round start w
      → AreOfRound round start (set views j w)
  seats_set [] j w are is = tt
  seats_set (view ∷ rest) zero w are is = (is, are.1)
  seats_set (view ∷ rest) (suc j) w are is = (are.0, seats_set rest j w are.1 is)

  -- one seat more
  pub seats_more : (views : List View) (w : View) → AreOfRound round start views → IsOfRound round start w
      → AreOfRound round start (views ++ w ∷ [])
  seats_more [] w are is = (is, tt)
  seats_more (view ∷ rest) w are is = (are.0, seats_more rest w are.1 is)

  -- with no seat out they have nothing
  pub none_have : (has : View → List Claim) → has Gone ≡ [] → (views : List View) → AreOfRound round start views
      → count_by is_out views ≡ 0 → flat_map has views ≡ []
  none_have has nothing [] are none_out = refl
  none_have has nothing (Owning owner ∷ rest) are none_out = absurd are.0
  none_have has nothing (Lent seat ∷ rest) are none_out = absurd (omega (arith, none_out, out_first (Lent seat) rest))
  none_have has nothing (Gone ∷ rest) are none_out =
      let none : count_by is_out rest ≡ 0 = omega (arith, none_out, out_first Gone rest) in
      ap (λ (l : List Claim). l ++ flat_map has rest) nothing ∙ none_have has nothing rest are.1 none

  -- and are of each round
  pub of_each_round : (later : ℕ) (words : List ℕ) (views : List View) → AreOfRound round start views
      → count_by is_out views ≡ 0 → AreOfRound later words views
  of_each_round later words [] are none_out = tt
  of_each_round later words (Owning owner ∷ rest) are none_out = absurd are.0
  of_each_round later words (Lent seat ∷ rest) are none_out =
      absurd (omega (arith, none_out, out_first (Lent seat) rest))
  of_each_round later words (Gone ∷ rest) are none_out =
      (tt, of_each_round later words rest are.1 (omega (arith, none_out, out_first Gone rest)))
