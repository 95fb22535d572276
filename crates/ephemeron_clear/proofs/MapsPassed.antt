-- A list of weak maps is passed, map by map: those before a place are cleared, and so many pairs went.
use Rattle.std.proofs.Common.{◌≡◌, ◌≢◌, ℕ, ◌+◌, ◌≤◌, ◌<◌, inl, inr, List, [], ◌∷◌, length, get_or, Contains, sum_by}
use Rattle.std.proofs.Common.{sym, ◌∙◌, subst, arith}
use Rattle.std.specs.List.{AllPairs}
use Rattle.std.proofs.lemmas.Bool.{cases_lt}
use Rattle.std.proofs.lemmas.List.{get_or_default}
use Rattle.std.proofs.lemmas.List.Elements.{Contains-get_or}
use Rattle.tagged_word.proofs.Members.{first_in, one_in}
use Rattle.heap_model.specs.Kinds.{Pair}
use Rattle.heap_model.specs.Needs.{count_at}
use Rattle.heap_model.specs.Wholeness.{Whole}
use Rattle.write_barrier.specs.MutatorState.{Mutator, heap_of, IsTied}
use Rattle.weak_pairs.specs.Pairs.{HasPairsAt}
use Rattle.ephemeron_table.specs.Probes.{IsWeakCellAt}
use Rattle.ephemeron_table.proofs.TablesRead.{pairs_counted}
use Rattle.ephemeron_clear.specs.Marked.{AreKeysMarked}
use Rattle.ephemeron_clear.specs.Clearing.{AreMaps, Clears, TakesUnmarked}
use Rattle.ephemeron_clear.proofs.FilledKeys.{some_pairs}
use Rattle.ephemeron_clear.proofs.MapCounts.{sum_less}
use Rattle.ephemeron_clear.proofs.TakenTwice.{takes_twice}
use Rattle.ephemeron_clear.proofs.Takings.{map_stays, marked_stay, takes_nothing, takes_of_more}

-- Pairs were taken out of some maps: so many, and those before a place have marked keys alone.
pub record PassesMaps (old now : Mutator) (maps marked : List ℕ) (at gone : ℕ) : Type 0 where
  pub takes : TakesUnmarked old now maps marked
  pub cleared : (k : ℕ) → k < at → (pairs : List Pair) → HasPairsAt (heap_of now) (get_or maps k 0) pairs
      → AreKeysMarked marked pairs
  pub counted : gone + sum_by (count_at (heap_of now)) maps ≡ sum_by (count_at (heap_of old)) maps

-- at first none is passed
pub none_passed : (main : Mutator) (maps marked : List ℕ) → Whole (heap_of main) → IsTied main
    → PassesMaps main main maps marked 0 0
none_passed main maps marked whole tied = record {
  takes = takes_nothing main maps marked whole tied;
  cleared = λ k before. absurd (omega (arith, before));
  counted = omega arith;
}

-- those at two places are two
two_places : (maps : List ℕ) (k at : ℕ) → AllPairs (λ map other. map ≢ other) maps → k < length maps
    → at < length maps → k ≢ at → get_or maps at 0 ≡ get_or maps k 0 → ⊥
two_places maps k at once k_within within apart same = elim (cases_lt k at) [
  | inl before ↦ once k at 0 before within (sym same)
  | inr behind ↦ once at k 0 (omega (arith, behind, apart)) k_within same
]

module _ {old mid new : Mutator} {maps marked : List ℕ} {at gone : ℕ} (whole : Whole (heap_of old))
    (are : AreMaps (heap_of old) maps) (once : AllPairs (λ map other. map ≢ other) maps)
    (passes : PassesMaps old mid maps marked at gone) (within : at < length maps)
    (clears : Clears mid new (get_or maps at 0 ∷ []) marked) where
  -- the one at the place
  abbrev here : ℕ
  here = get_or maps at 0

  -- it is one of them
  is_one : (map : ℕ) → Contains (here ∷ []) map → Contains maps map
  is_one map among = subst (Contains maps) (one_in here map among) (Contains-get_or maps at 0 within)

  -- each of them stands
  there : (k : ℕ) → k < length maps → IsWeakCellAt (heap_of mid) (get_or maps k 0)
  there k inside = map_stays passes.takes (are (get_or maps k 0) (Contains-get_or maps k 0 inside))

  -- so one more is cleared
  cleared_here : (k : ℕ) → k < at + 1 → (pairs : List Pair) → HasPairsAt (heap_of new) (get_or maps k 0) pairs
      → AreKeysMarked marked pairs
  cleared_here k below pairs has = elim (cases_lt k at) [
    | inl before ↦
        marked_stay passes.takes.whole clears.takes (there k (omega (arith, before, within)))
        (passes.cleared k before) pairs has
    | inr behind ↦
        let same : k ≡ at = omega (arith, below, behind) in
        clears.cleared here pairs (first_in here [])
        (subst (λ n. HasPairsAt (heap_of new) (get_or maps n 0) pairs) same has)
  ]

  -- each other counts as many entries as before
  others_count : (k : ℕ) → k < length maps → k ≢ at
      → count_at (heap_of new) (get_or maps k 0) ≡ count_at (heap_of mid) (get_or maps k 0)
  others_count k inside apart =
      let some = some_pairs passes.takes.whole (there k inside) in
      let now = clears.takes.others (get_or maps k 0) some.pairs
      (λ among. two_places maps k at once inside within apart (one_in here (get_or maps k 0) among)) some.are in
      pairs_counted clears.takes.whole now ∙ sym (pairs_counted passes.takes.whole some.are)

  -- and one more is passed
  pub one_passed : (less : ℕ) → less + count_at (heap_of new) here ≡ count_at (heap_of mid) here
      → PassesMaps old new maps marked (at + 1) (gone + less)
  one_passed less counted = record {
    takes = takes_twice whole are passes.takes (takes_of_more maps clears.takes is_one);
    cleared = cleared_here;
    counted = omega (
      arith,
      passes.counted,
      sum_less (count_at (heap_of new)) (count_at (heap_of mid)) maps at less within counted others_count,
    );
  }

-- where all are passed, they are cleared
pub all_passed : {old now : Mutator} {maps marked : List ℕ} {at gone : ℕ} → PassesMaps old now maps marked at gone
    → length maps ≤ at → Clears old now maps marked
all_passed {now = now} {maps} passes all = record {
  takes = passes.takes;
  cleared = λ map pairs among has.
      passes.cleared among.0 (omega (arith, all, among.1)) pairs
      (subst (λ one. HasPairsAt (heap_of now) one pairs) (sym among.2 ∙ get_or_default maps among.0 map 0 among.1) has);
}
