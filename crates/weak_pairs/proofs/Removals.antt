-- What is left of the pairs of a table while one is removed.
use Rattle.std.proofs.Common.{◌≡◌, ◌≢◌, ℕ, ◌<◌, inl, inr, List, length, Some, slice_get, refl, sym}
use Rattle.std.proofs.Common.{◌∙◌, ap, subst, arith, length-set, ◌==◌}
use Rattle.std.specs.Prelude.{slice_set}
use Rattle.std.proofs.lemmas.Bool.{cases_eq, eq-eqb, ne_eqb}
use Rattle.std.proofs.lemmas.Option.{slice_get_within}
use Rattle.object_graph.proofs.Lists.{slice_get-set_same, slice_get-set_other}
use Rattle.heap_model.specs.Kinds.{Pair, free_pair}
use Rattle.weak_pairs.specs.Pairs.{IsFilledAt}
use Rattle.weak_pairs.specs.Removals.{IsRemoved}
use Rattle.weak_pairs.proofs.PairsPut.{at_place}
use Rattle.weak_pairs.proofs.CountedPairs.{count_freed, count_put}
use Rattle.weak_pairs.proofs.FilledPairs.{origin_by, free_not_filled, filled_apart, filled_elsewhere}
use Rattle.weak_pairs.proofs.FilledPairs.{still_filled, same_filled}

-- the pair is removed where it alone was made free
pub removed_begins : (before : List Pair) (place : ℕ) → IsRemoved before (slice_set before place free_pair) place
removed_begins before place = record {
  long = length-set before place free_pair;
  origin = λ at. at;
  from = λ at pair filled.
      let apart = filled_apart before place at pair filled in
      (filled_elsewhere before place at free_pair pair apart filled, apart);
  apart = λ at other pair another one two same. same;
  kept = λ at pair filled apart. (at, still_filled before place at free_pair pair apart filled, refl);
  counted = λ pair filled. count_freed before place pair filled.stands filled.filled;
}

-- each pair comes from its own place where nothing has moved
pub begins_origin : (before : List Pair) (place at : ℕ) → (removed_begins before place).origin at ≡ at
unfolding removed_begins
begins_origin before place at = refl

module _ {before after : List Pair} {place : ℕ} (removed : IsRemoved before after place) (hole next : ℕ) (pair : Pair)
    (free : slice_get after hole ≡ Some free_pair) (there : slice_get after next ≡ Some pair)
    (filled : pair ≢ free_pair)
    (apart : hole ≢ next) where
  -- the pair moves from the next place to the hole
  abbrev pub moved : List Pair
  moved = slice_set (slice_set after hole pair) next free_pair

  -- the place from which each comes then
  abbrev origin : ℕ → ℕ
  origin at = origin_by (at == hole) (removed.origin next) (removed.origin at)

  origin_here : (at : ℕ) → at ≡ hole → origin at ≡ removed.origin next
  origin_here at same = ap (λ test. origin_by test (removed.origin next) (removed.origin at)) (eq-eqb at hole same)

  origin_other : (at : ℕ) → at ≢ hole → origin at ≡ removed.origin at
  origin_other at other = ap (λ test. origin_by test (removed.origin next) (removed.origin at)) (ne_eqb at hole other)

  -- the pair stood there
  next_filled : IsFilledAt after next pair
  next_filled = record { stands = there; filled = filled }

  hole_within : hole < length after
  hole_within = slice_get_within after hole free_pair free

  -- the pair stands in the hole
  moved_filled : IsFilledAt moved hole pair
  moved_filled =
      still_filled (slice_set after hole pair) next hole free_pair pair apart
      (record { stands = slice_get-set_same after hole pair hole_within; filled = filled })

  -- what is filled then is that, or was filled before
  data Filled (at : ℕ) (found : Pair) : Type 0 where
    here : at ≡ hole → pair ≡ found → Filled at found
    elsewhere : at ≢ hole → at ≢ next → IsFilledAt after at found → Filled at found

  filled_by : (at : ℕ) (found : Pair) → IsFilledAt moved at found → Filled at found
  filled_by at found now =
      let not_next = filled_apart (slice_set after hole pair) next at found now in
      let first = filled_elsewhere (slice_set after hole pair) next at free_pair found not_next now in
      elim (cases_eq at hole) [
        | inl same ↦
            Filled.here same (at_place after hole pair found
            (ap (slice_get (slice_set after hole pair)) (sym same) ∙ first.stands))
        | inr other ↦ Filled.elsewhere other not_next (filled_elsewhere after hole at pair found other first)
      ]

  -- each comes from a place where it stood before, and not from that of the pair that is removed
  comes_from : (at : ℕ) (found : Pair) → Filled at found
      → IsFilledAt before (origin at) found × (origin at ≢ place)
  comes_from at found (Filled.here same is) =
      let was = removed.from next pair next_filled in
      let from = origin_here at same in (
        subst (λ n. IsFilledAt before n found) (sym from) (subst (IsFilledAt before (removed.origin next)) is was.0),
        λ bad. was.1 (sym from ∙ bad),
      )
  comes_from at found (Filled.elsewhere other not_next now) =
      let was = removed.from at found now in
      let from = origin_other at other in
      (subst (λ n. IsFilledAt before n found) (sym from) was.0, λ bad. was.1 (sym from ∙ bad))

  -- no two come from one place
  stay_apart : (at other : ℕ) (found another : Pair) → Filled at found → Filled other another → origin at ≡ origin other
      → at ≡ other
  stay_apart at other found another (Filled.here same is) (Filled.here same_too is_too) from = same ∙ sym same_too
  stay_apart at other found another (Filled.here same is) (Filled.elsewhere not_hole not_next now) from =
      absurd (not_next (sym (removed.apart next other pair another next_filled now
      (sym (origin_here at same) ∙ from ∙ origin_other other not_hole))))
  stay_apart at other found another (Filled.elsewhere not_hole not_next now) (Filled.here same is) from =
      absurd (not_next (removed.apart at next found pair now next_filled
      (sym (origin_other at not_hole) ∙ from ∙ origin_here other same)))
  stay_apart at other found another (Filled.elsewhere not_hole not_next now)
      (Filled.elsewhere not_hole_too not_next_too too) from =
      removed.apart at other found another now too
      (sym (origin_other at not_hole) ∙ from ∙ origin_other other not_hole_too)

  -- each that stood elsewhere stands somewhere
  stays_there : (at : ℕ) (found : Pair) → IsFilledAt before at found → at ≢ place
      → (now : ℕ) × IsFilledAt moved now found × (origin now ≡ at)
  stays_there at found was other =
      let kept = removed.kept at found was other in
      elim (cases_eq kept.0 next) [
        | inl same ↦ (
          hole,
          subst (IsFilledAt moved hole)
              (same_filled after next kept.0 pair found (sym same) next_filled kept.1) moved_filled,
          origin_here hole refl ∙ ap removed.origin (sym same) ∙ kept.2,
        )
        | inr not_next ↦
            let not_hole : kept.0 ≢ hole = λ same.
            free_not_filled after hole found free (subst (λ n. IsFilledAt after n found) same kept.1) in (
              kept.0,
              still_filled (slice_set after hole pair) next kept.0 free_pair found not_next
                  (still_filled after hole kept.0 pair found not_hole kept.1),
              origin_other kept.0 not_hole ∙ kept.2,
            )
      ]

  -- the pair at the place is still removed after the move
  pub removed_moves : IsRemoved before moved place
  removed_moves = record {
    long = length-set (slice_set after hole pair) next free_pair ∙ length-set after hole pair ∙ removed.long;
    origin = origin;
    from = λ at found now. comes_from at found (filled_by at found now);
    apart = λ at other found another one two. stay_apart at other found another (filled_by at found one)
        (filled_by other another two);
    kept = stays_there;
    counted = λ found was. omega (
      arith,
      removed.counted found was,
      count_put after hole pair free filled,
      count_freed (slice_set after hole pair) next pair
          (slice_get-set_other after hole next pair (λ same. apart (sym same)) ∙ there) filled,
    );
  }

  -- the pair in the hole comes from where that at the next place came from
  pub moved_here : removed_moves.origin hole ≡ removed.origin next
  unfolding removed_moves
  moved_here = origin_here hole refl

  pub moved_other : (at : ℕ) → at ≢ hole → removed_moves.origin at ≡ removed.origin at
  unfolding removed_moves
  moved_other at other = origin_other at other
