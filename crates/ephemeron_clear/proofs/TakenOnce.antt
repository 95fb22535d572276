-- One pair whose key is not marked was taken out of the table of a weak map.
use Rattle.std.proofs.Common.{◌≡◌, ℕ, ◌≤◌, inl, inr, List, [], ◌∷◌, Contains, sym, ◌∙◌}
use Rattle.std.proofs.Common.{ap, subst, arith}
use Rattle.std.specs.Prelude.{IsFalse}
use Rattle.std.proofs.lemmas.Bool.{cases_Bool, cases_eq}
use Rattle.tagged_word.proofs.Members.{first_in}
use Rattle.object_graph.specs.Graphs.{Graph}
use Rattle.object_graph.specs.Reach.{is_marked, reach}
use Rattle.heap_model.specs.Slots.{IsPlace}
use Rattle.heap_model.specs.Kinds.{Pair}
use Rattle.heap_model.specs.Needs.{capacity_at, count_at}
use Rattle.heap_model.specs.Showing.{Shows}
use Rattle.heap_model.specs.Wholeness.{Whole}
use Rattle.write_barrier.specs.MutatorState.{Mutator, heap_of}
use Rattle.weak_pairs.specs.Pairs.{AreWithout, HasPairsAt, IsFilledAt}
use Rattle.weak_pairs.proofs.FilledPairs.{same_filled}
use Rattle.ephemeron_table.specs.Pairs.{RemovesPair}
use Rattle.ephemeron_table.specs.Probes.{IsWeakCellAt}
use Rattle.ephemeron_clear.specs.Marked.{AreLeft, HasLeft, IsKeyMarked}
use Rattle.ephemeron_clear.specs.Clearing.{MarksReached, TakesUnmarked}
use Rattle.ephemeron_table.proofs.TablesRead.{one_map, pair_found, pairs_counted}
use Rattle.ephemeron_clear.proofs.FilledKeys.{some_pairs}
use Rattle.ephemeron_clear.proofs.Takings.{left_themselves}

-- where the pair at a place is removed, and its key is not marked, those with marked keys are left
left_without : {marked : List ℕ} {before after : List Pair} {place : ℕ} (taken : Pair)
    → AreWithout before after place
    → IsFilledAt before place taken → (IsKeyMarked marked taken → ⊥) → AreLeft marked before after
left_without {marked} {before} {place = place} taken without filled unmarked = record {
  long = without.long;
  origin = without.origin;
  from = λ at pair is. (without.from at pair is).0;
  apart = without.apart;
  kept = λ at pair stood key.
      without.kept at pair stood (λ same. unmarked (subst (IsKeyMarked marked)
      (same_filled before at place pair taken same stood filled) key));
}

-- The pair at a place of the weak map at an address was removed. It held something, and its key is not marked.
pub record TakesOne (old new : Mutator) (map place : ℕ) (marked : List ℕ) : Type 0 where
  pub whole : Whole (heap_of old)
  pub pairs : List Pair
  pub has : HasPairsAt (heap_of old) map pairs
  pub pair : Pair
  pub filled : IsFilledAt pairs place pair
  pub unmarked : IsKeyMarked marked pair → ⊥
  pub removes : RemovesPair old new map place pairs

module _ {old new : Mutator} {map place : ℕ} {marked : List ℕ} (one : TakesOne old new map place marked) where
  -- each object keeps its capacity
  same_capacity : (number at : ℕ) → IsPlace (heap_of old) number at
      → capacity_at (heap_of new) at ≡ capacity_at (heap_of old) at
  same_capacity number at is_place = elim (cases_eq at map) [
    | inl same ↦
        ap (capacity_at (heap_of new)) same ∙ one.removes.changes.own ∙ sym (ap (capacity_at (heap_of old)) same)
    | inr apart ↦ one.removes.changes.others number at is_place apart
  ]

  -- those with marked keys are left
  left_of : (other : ℕ) (before : List Pair) → HasPairsAt (heap_of old) other before
      → HasLeft (heap_of new) other marked before
  left_of other before has = elim (cases_eq map other) [
    | inl same ↦
        let here : HasPairsAt (heap_of old) map before =
        subst (λ at. HasPairsAt (heap_of old) at before) (sym same) has in
        let left : AreLeft marked one.pairs one.removes.after =
        left_without one.pair one.removes.without one.filled one.unmarked in
        record {
          after = one.removes.after;
          are = subst (λ at. HasPairsAt (heap_of new) at one.removes.after) same one.removes.are;
          left = subst (λ all. AreLeft marked all one.removes.after) (one_map one.has here) left;
        }
    | inr apart ↦ record {
      after = before;
      are = one.removes.tables.others other before (λ same. apart (sym same)) has;
      left = left_themselves marked before;
    }
  ]

  -- no map counts more entries
  no_more_counted : (other : ℕ) → IsWeakCellAt (heap_of old) other
      → count_at (heap_of new) other ≤ count_at (heap_of old) other
  no_more_counted other there = elim (cases_eq map other) [
    | inl same ↦
        omega (
          arith,
          one.removes.counted,
          ap (count_at (heap_of old)) same,
          ap (count_at (heap_of new)) same,
        )
    | inr apart ↦
        let some = some_pairs one.whole there in
        let now = one.removes.tables.others other some.pairs (λ same. apart (sym same)) some.are in
        omega (arith, pairs_counted one.whole some.are, pairs_counted one.removes.whole now)
  ]

  -- the key of the pair cannot be reached where all is marked that can be
  unreached : (graph : Graph) → MarksReached (heap_of old) marked graph
      → (number at : ℕ) → IsPlace (heap_of old) number at → (Contains marked at → ⊥)
      → IsFalse (is_marked (reach graph) number)
  unreached graph reached number at is_place not_marked = elim (cases_Bool (is_marked (reach graph) number)) [
    | inl is ↦ absurd (not_marked (reached number at is is_place))
    | inr none ↦ none
  ]

  -- so the graph is shown
  shown_still : (graph : Graph) → Shows (heap_of old) graph → MarksReached (heap_of old) marked graph
      → Shows (heap_of new) graph
  shown_still graph shows reached =
      let found = pair_found place one.pair one.whole one.has one.filled in
      let key = found.filled.key in
      one.removes.shows one.pair one.filled graph found.number shows key
      (unreached graph reached found.number key.at key.place
      (λ among. one.unmarked (record { at = key.at; refers = key.refers; among = among })))

  -- and one pair was taken
  pub takes_one : TakesUnmarked old new (map ∷ []) marked
  takes_one =
      let removes = one.removes in
      record {
        whole = removes.whole;
        tied = removes.tied;
        paths = removes.paths;
        cycle = removes.cycle;
        uses = removes.uses;
        bound = removes.bound;
        remembered = removes.remembered;
        cells = removes.cells;
        places = λ number at. (removes.changes.stays number at, removes.changes.none_made number at);
        capacities = same_capacity;
        named = removes.tables.named;
        counts = no_more_counted;
        stay = λ word beside.
            let is = beside map (first_in map []) in
            removes.stay word is.0 is.1;
        left = left_of;
        others = λ other pairs apart has.
            removes.tables.others other pairs
            (λ same. apart (subst (Contains (map ∷ [])) (sym same) (first_in map []))) has;
        shows = shown_still;
      }
