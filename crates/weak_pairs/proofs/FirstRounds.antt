-- Where a pair is free, removing goes round less than once, and what comes to stand below its place stood below it.
use Rattle.std.proofs.Common.{◌≡◌, ◌≢◌, ℕ, ◌+◌, ◌<◌, inl, inr, List, Some, slice_get, sym, ◌∙◌, ap, arith}
use Rattle.std.specs.Prelude.{slice_set}
use Rattle.std.proofs.lemmas.Bool.{cases_eq, cases_lt}
use Rattle.std.proofs.lemmas.Option.{same_Some}
use Rattle.object_graph.proofs.Lists.{slice_get-set_other}
use Rattle.linear_probing.specs.Tables.{place_after}
use Rattle.linear_probing.proofs.Rounds.{place_after_none, place_after-place_after, same_steps, moves_stay_below}
use Rattle.heap_model.specs.Kinds.{Pair, free_pair}
use Rattle.weak_pairs.specs.Pairs.{IsFilledAt}
use Rattle.weak_pairs.specs.Removals.{IsRemoved}
use Rattle.weak_pairs.proofs.Removals.{removed_begins, begins_origin, removed_moves, moved, moved_here, moved_other}
use Rattle.weak_pairs.proofs.FilledPairs.{filled_apart, filled_elsewhere}

-- A pair that was free stands so many steps behind the place, and the removal has not come there: pairs behind the hole
-- stand where they stood, and what stands below the place stood below it.
pub record IsFirstRound (capacity : ℕ) (before after : List Pair) (place hole passed distance : ℕ)
    (removed : IsRemoved before after place) : Type 0 where
  pub steps : ℕ
  pub few : steps + passed < distance
  pub at_hole : hole ≡ place_after capacity place steps
  pub origin : (k : ℕ) → steps < k → k < capacity
      → removed.origin (place_after capacity place k) ≡ place_after capacity place k
  pub stays : (k : ℕ) → steps < k → k < capacity
      → slice_get after (place_after capacity place k) ≡ slice_get before (place_after capacity place k)
  pub below : (at : ℕ) (pair : Pair) → IsFilledAt after at pair → at < place → removed.origin at < place

-- a pair is free so many steps behind the place
pub record IsFreeAfter (capacity : ℕ) (pairs : List Pair) (place distance : ℕ) : Type 0 where
  pub some : 0 < distance
  pub less : distance < capacity
  pub free : slice_get pairs (place_after capacity place distance) ≡ Some free_pair

-- the first round begins at the place
pub round_begins : (capacity : ℕ) (before : List Pair) (place distance : ℕ) → place < capacity
    → IsFreeAfter capacity before place distance
    → IsFirstRound capacity before (slice_set before place free_pair) place place 0 distance
    (removed_begins before place)
round_begins capacity before place distance within free = record {
  steps = 0;
  few = omega (arith, free.some);
  at_hole = sym (place_after_none capacity place within);
  origin = λ k some less. begins_origin before place (place_after capacity place k);
  stays = λ k some less. slice_get-set_other before place (place_after capacity place k) free_pair (λ same.
      let none : k ≡ 0 = same_steps capacity place k 0 less (omega (arith, within))
      (same ∙ sym (place_after_none capacity place within)) in
      omega (arith, none, some));
  below = λ at pair filled less. omega (arith, less, begins_origin before place at);
}

-- the first round goes on behind a pair that stays, and behind one that moves
module _ {capacity : ℕ} {before after : List Pair} {place hole passed distance : ℕ}
    {removed : IsRemoved before after place} (within : place < capacity) (free : IsFreeAfter capacity before place
    distance)
    (round : IsFirstRound capacity before after place hole passed distance removed) (next : ℕ) (pair : Pair)
    (next_is : next ≡ place_after capacity hole (passed + 1)) (there : slice_get after next ≡ Some pair)
    (filled : pair ≢ free_pair) where
  -- so many steps lead to the next place
  next_steps : next ≡ place_after capacity place (round.steps + (passed + 1))
  next_steps =
      next_is ∙ ap (λ n. place_after capacity n (passed + 1)) round.at_hole
      ∙ place_after-place_after capacity place round.steps (passed + 1)

  -- the next place is before the one that was free
  pub further : round.steps + (passed + 1) < distance
  further = elim (cases_lt (round.steps + (passed + 1)) distance) [
    | inl less ↦ less
    | inr reached ↦
        let few : round.steps + passed < distance = round.few in
        let same : distance ≡ round.steps + (passed + 1) = omega (arith, few, reached) in
        let free_now : slice_get after (place_after capacity place distance) ≡ Some free_pair =
        round.stays distance (omega (arith, few)) free.less ∙ free.free in
        let at : place_after capacity place distance ≡ next =
        ap (place_after capacity place) same ∙ sym next_steps in
        absurd (filled (same_Some pair free_pair (sym there ∙ ap (slice_get after) (sym at) ∙ free_now)))
  ]

  pub round_passes : IsFirstRound capacity before after place hole (passed + 1) distance removed
  round_passes = record {
    steps = round.steps;
    few = omega (arith, further);
    at_hole = round.at_hole;
    origin = round.origin;
    stays = round.stays;
    below = round.below;
  }

  module _ (free_hole : slice_get after hole ≡ Some free_pair) (apart : hole ≢ next) where
    abbrev now : IsRemoved before (moved removed hole next pair free_hole there filled apart) place
    now = removed_moves removed hole next pair free_hole there filled apart

    -- a place further on is neither
    not_hole : (k : ℕ) → round.steps < k → k < capacity → place_after capacity place k ≢ hole
    not_hole k more less same =
        let steps : k ≡ round.steps =
        same_steps capacity place k round.steps less (omega (arith, more, less)) (same ∙ round.at_hole) in
        omega (arith, steps, more)

    not_next : (k : ℕ) → round.steps + (passed + 1) < k → k < capacity → place_after capacity place k ≢ next
    not_next k more less same =
        let steps : k ≡ round.steps + (passed + 1) =
        same_steps capacity place k (round.steps + (passed + 1)) less (omega (arith, more, less)) (same ∙ next_steps) in
        omega (arith, steps, more)

    -- the pair that moves stood at the next place before
    origin_next : removed.origin next ≡ next
    origin_next =
        let less : round.steps + (passed + 1) < capacity = omega (arith, further, free.less) in
        ap removed.origin next_steps ∙ round.origin (round.steps + (passed + 1)) (omega arith) less ∙ sym next_steps

    -- the next place is below the place where the hole is
    next_below : hole < place → next < place
    next_below below =
        let moves = moves_stay_below capacity place round.steps (passed + 1) within (omega arith)
        (omega (arith, further, free.less)) (omega (arith, below, round.at_hole)) in
        omega (arith, moves, next_steps)

    now_below : (at : ℕ) (found : Pair) → IsFilledAt (moved removed hole next pair free_hole there filled apart) at
        found
        → at < place → now.origin at < place
    now_below at found is less = elim (cases_eq at hole) [
      | inl same ↦
          let from : now.origin at ≡ next =
          ap now.origin same ∙ moved_here removed hole next pair free_hole there filled apart ∙ origin_next in
          omega (arith, from, next_below (omega (arith, same, less)))
      | inr other ↦
          let from = moved_other removed hole next pair free_hole there filled apart at other in
          let first = filled_elsewhere (slice_set after hole pair) next at free_pair found
          (filled_apart (slice_set after hole pair) next at found is) is in
          omega (arith, from, round.below at found (filled_elsewhere after hole at pair found other first) less)
    ]

    pub round_moves : IsFirstRound capacity before
        (moved removed hole next pair free_hole there filled apart) place next 0
        distance now
    round_moves = record {
      steps = round.steps + (passed + 1);
      few = omega (arith, further);
      at_hole = next_steps;
      origin = λ k more less.
          moved_other removed hole next pair free_hole there filled apart (place_after capacity place k)
          (not_hole k (omega (arith, more)) less)
          ∙ round.origin k (omega (arith, more)) less;
      stays = λ k more less.
          slice_get-set_other (slice_set after hole pair) next (place_after capacity place k) free_pair
          (not_next k more less)
          ∙ slice_get-set_other after hole (place_after capacity place k) pair (not_hole k (omega (arith, more)) less)
          ∙ round.stays k (omega (arith, more)) less;
      below = now_below;
    }
