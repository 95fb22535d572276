-- What the pairs of a table are while those of another one come to it, one after the other.
use Rattle.std.proofs.Common.{◌≡◌, ◌≢◌, ℕ, zero, suc, ◌+◌, ◌<◌, inl, inr, List, [], ◌∷◌, length}
use Rattle.std.proofs.Common.{drop, Some, slice_get, refl, sym, ◌∙◌, ap, subst, arith, cond, not, ◌==◌}
use Rattle.std.specs.Prelude.{slice_set}
use Rattle.std.proofs.lemmas.Bool.{cases_eq, cases_lt, eq-eqb, ne_eqb}
use Rattle.std.proofs.lemmas.List.Sums.{sum_by-cons}
use Rattle.std.proofs.lemmas.Option.{none-some, same_Some, slice_get_within}
use Rattle.object_graph.proofs.Lists.{slice_get-set_same}
use Rattle.heap_model.specs.Kinds.{Pair, free_pair, is_free_pair}
use Rattle.weak_pairs.specs.Rehashing.{AreRehashed}
use Rattle.weak_pairs.specs.Pairs.{HoldNothing, IsFilledAt}
use Rattle.weak_pairs.proofs.CountedPairs.{count_filled, count_put, one_if, filled_counts}
use Rattle.weak_pairs.proofs.PairsPut.{at_place}
use Rattle.weak_pairs.proofs.FilledPairs.{origin_by, filled_elsewhere, free_not_filled, still_filled}

-- the pairs behind a place are one fewer than those from it on
count_from : (pairs : List Pair) (at : ℕ) (pair : Pair) → slice_get pairs at ≡ Some pair
    → count_filled (drop at pairs) ≡ one_if (not (is_free_pair pair)) + count_filled (drop (suc at) pairs)
count_from [] at pair there = absurd (none-some pair there)
count_from (first ∷ pairs) zero pair there =
    sum_by-cons (λ (one : Pair). cond (not (is_free_pair one)) 1 0) first pairs
    ∙ ap (λ (one : Pair). one_if (not (is_free_pair one)) + count_filled pairs) (same_Some first pair there)
count_from (first ∷ pairs) (suc at) pair there = count_from pairs at pair there

-- the filled pairs from a place on are that at the place, if it is filled, and those behind it
count_behind : (pairs : List Pair) (at : ℕ) (pair : Pair) → slice_get pairs at ≡ Some pair
    → count_filled (drop at pairs) ≡ one_if (not (is_free_pair pair)) + count_filled (drop (at + 1) pairs)
count_behind pairs at pair there =
    let next : suc at ≡ at + 1 = omega arith in
    count_from pairs at pair there ∙ ap (λ n. one_if (not (is_free_pair pair)) + count_filled (drop n pairs)) next

-- no pair is counted where none holds something
pub none_counted : (pairs : List Pair) → HoldNothing pairs → count_filled pairs ≡ 0
none_counted [] nothing = refl
none_counted (first ∷ pairs) nothing =
    let none = ap (λ (one : Pair). one_if (not (is_free_pair one))) (nothing 0 first refl) in
    omega (
      arith,
      sum_by-cons (λ (one : Pair). cond (not (is_free_pair one)) 1 0) first pairs,
      none,
      none_counted pairs (λ at pair there. nothing (suc at) pair there),
    )

-- the first table comes to a second one that holds nothing, beginning with none of its pairs
pub rehashed_begins : (before after : List Pair) → HoldNothing after → AreRehashed before after 0
rehashed_begins before after nothing = record {
  origin = λ at. at;
  from = λ at pair filled. absurd (filled.filled (nothing at pair filled.stands));
  apart = λ at other pair another one two same. same;
  kept = λ at pair filled below. absurd (omega (arith, below));
  few = omega (arith, none_counted after nothing);
  counted = omega (arith, none_counted after nothing);
}

module _ {before after : List Pair} {at : ℕ} (moved : AreRehashed before after at) (pair : Pair)
    (there : slice_get before at ≡ Some pair) where
  -- a pair that holds nothing is passed
  pub rehashed_passes : pair ≡ free_pair → AreRehashed before after (at + 1)
  rehashed_passes free = record {
    origin = moved.origin;
    from = λ one found filled. let was = moved.from one found filled in (was.0, omega (arith, was.1));
    apart = moved.apart;
    kept = λ one found filled below. elim (cases_lt one at) [
      | inl before_it ↦ moved.kept one found filled before_it
      | inr from ↦
          let same : one ≡ at = omega (arith, from, below) in
          absurd (free_not_filled before at found (there ∙ ap (λ p. Some p) free)
          (subst (λ n. IsFilledAt before n found) same filled))
    ];
    few = omega (arith, moved.few);
    counted =
        let none = ap (λ (p : Pair). one_if (not (is_free_pair p))) free in
        omega (arith, moved.counted, count_behind before at pair there, none);
  }

  module _ (place : ℕ) (free : slice_get after place ≡ Some free_pair) (filled : pair ≢ free_pair) where
    -- the pairs after, with a pair that holds something at a free place
    abbrev put : List Pair
    put = slice_set after place pair

    -- the place from which each comes then
    abbrev origin : ℕ → ℕ
    origin one = origin_by (one == place) at (moved.origin one)

    origin_here : (one : ℕ) → one ≡ place → origin one ≡ at
    origin_here one same = ap (λ test. origin_by test at (moved.origin one)) (eq-eqb one place same)

    origin_other : (one : ℕ) → one ≢ place → origin one ≡ moved.origin one
    origin_other one other = ap (λ test. origin_by test at (moved.origin one)) (ne_eqb one place other)

    -- what is filled then is that, or was filled before
    data Filled (one : ℕ) (found : Pair) : Type 0 where
      here : one ≡ place → pair ≡ found → Filled one found
      elsewhere : one ≢ place → IsFilledAt after one found → Filled one found

    filled_by : (one : ℕ) (found : Pair) → IsFilledAt put one found → Filled one found
    filled_by one found now = elim (cases_eq one place) [
      | inl same ↦ Filled.here same (at_place after place pair found (ap (slice_get put) (sym same) ∙ now.stands))
      | inr other ↦ Filled.elsewhere other (filled_elsewhere after place one pair found other now)
    ]

    pair_filled : IsFilledAt before at pair
    pair_filled = record { stands = there; filled = filled }

    comes_from : (one : ℕ) (found : Pair) → Filled one found
        → IsFilledAt before (origin one) found × (origin one < at + 1)
    comes_from one found (Filled.here same is) =
        let from = origin_here one same in (
          subst (λ n. IsFilledAt before n found) (sym from) (subst (IsFilledAt before at) is pair_filled),
          omega (arith, from),
        )
    comes_from one found (Filled.elsewhere other now) =
        let was = moved.from one found now in
        let from = origin_other one other in
        (subst (λ n. IsFilledAt before n found) (sym from) was.0, omega (arith, from, was.1))

    -- no two come from one
    stay_apart : (one other : ℕ) (found another : Pair) → Filled one found → Filled other another
        → origin one ≡ origin other
        → one ≡ other
    stay_apart one other found another (Filled.here same is) (Filled.here same_too is_too) from = same ∙ sym same_too
    stay_apart one other found another (Filled.here same is) (Filled.elsewhere apart now) from =
        let was = moved.from other another now in
        absurd (omega (arith, was.1, from, origin_here one same, origin_other other apart))
    stay_apart one other found another (Filled.elsewhere apart now) (Filled.here same is) from =
        let was = moved.from one found now in
        absurd (omega (arith, was.1, from, origin_here other same, origin_other one apart))
    stay_apart one other found another (Filled.elsewhere apart now) (Filled.elsewhere apart_too too) from =
        moved.apart one other found another now too (sym (origin_other one apart) ∙ from ∙ origin_other other apart_too)

    place_within : place < length after
    place_within = slice_get_within after place free_pair free

    -- each that was to come stands there
    stays_there : (one : ℕ) (found : Pair) → IsFilledAt before one found → one < at + 1
        → (now : ℕ) × IsFilledAt put now found × (origin now ≡ one)
    stays_there one found was below = elim (cases_lt one at) [
      | inl before_it ↦
          let kept = moved.kept one found was before_it in
          let apart : kept.0 ≢ place = λ same.
          free_not_filled after place found free (subst (λ n. IsFilledAt after n found) same kept.1) in
          (kept.0, still_filled after place kept.0 pair found apart kept.1, origin_other kept.0 apart ∙ kept.2)
      | inr from ↦
          let same : one ≡ at = omega (arith, from, below) in
          let is : pair ≡ found = same_Some pair found (sym there ∙ ap (slice_get before) (sym same) ∙ was.stands) in (
            place,
            record {
              stands = slice_get-set_same after place pair place_within ∙ ap (λ p. Some p) is;
              filled = was.filled;
            },
            origin_here place refl ∙ sym same,
          )
    ]

    pub rehashed_puts : AreRehashed before put (at + 1)
    rehashed_puts =
        let more = count_put after place pair free filled in
        record {
          origin = origin;
          from = λ one found now. comes_from one found (filled_by one found now);
          apart = λ one other found another now too. stay_apart one other found another (filled_by one found now)
              (filled_by other another too);
          kept = stays_there;
          few = omega (arith, moved.few, more);
          counted = omega (
            arith,
            moved.counted,
            more,
            count_behind before at pair there,
            ap one_if (filled_counts pair filled),
          );
        }
