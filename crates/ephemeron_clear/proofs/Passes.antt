-- What passes down the table of a weak map take, and when all its keys are marked.
use Rattle.std.proofs.Common.{◌≡◌, ℕ, ◌≤◌, List, [], ◌∷◌, length, sym, ◌∙◌, ap, subst, arith}
use Rattle.std.proofs.lemmas.Option.{slice_get_within}
use Rattle.tagged_word.proofs.Members.{one_in}
use Rattle.heap_model.specs.Heaps.{Heap}
use Rattle.heap_model.specs.Kinds.{Pair}
use Rattle.heap_model.specs.Wholeness.{Whole}
use Rattle.write_barrier.specs.MutatorState.{Mutator, heap_of}
use Rattle.weak_pairs.specs.Pairs.{HasPairsAt}
use Rattle.ephemeron_table.specs.Pairs.{RemovesPair}
use Rattle.ephemeron_table.specs.Probes.{IsWeakCellAt}
use Rattle.ephemeron_clear.specs.Marked.{AreKeysMarked, AreMarkedBetween, IsUnmarkedAt}
use Rattle.ephemeron_clear.specs.Clearing.{AreMaps, Clears, TakesUnmarked}
use Rattle.ephemeron_table.proofs.TablesRead.{one_map}
use Rattle.ephemeron_clear.proofs.TakenOnce.{TakesOne}

-- what is marked below a place behind the last one is marked
pub marked_all : {marked : List ℕ} {pairs : List Pair} {below : ℕ} → length pairs ≤ below
    → AreMarkedBetween marked pairs 0 below → AreKeysMarked marked pairs
marked_all {pairs = pairs} long all at pair filled =
    let within = slice_get_within pairs at pair filled.stands in
    all at pair filled (omega arith) (omega (arith, within, long))

-- what is left of a map's pairs are as many places as before
pub left_long : {old new : Mutator} {map : ℕ} {maps marked : List ℕ} {before now : List Pair}
    → TakesUnmarked old new maps marked → HasPairsAt (heap_of old) map before → HasPairsAt (heap_of new) map now
    → length now ≡ length before
left_long {map = map} {before = before} takes was has =
    let left = takes.left map before was in
    ap length (one_map has left.are) ∙ left.left.long

-- the pair at a place whose key is not marked was taken out
pub takes_at : {old new : Mutator} {map place : ℕ} {marked : List ℕ} {pairs : List Pair} → Whole (heap_of old)
    → HasPairsAt (heap_of old) map pairs → IsUnmarkedAt marked pairs place → RemovesPair old new map place pairs
    → TakesOne old new map place marked
takes_at {pairs = pairs} whole has is removes = record {
  whole = whole;
  pairs = pairs;
  has = has;
  pair = is.pair;
  filled = is.filled;
  unmarked = is.unmarked;
  removes = removes;
}

-- so a map is cleared if all of its keys are marked
pub one_cleared : {old new : Mutator} {map : ℕ} {marked : List ℕ} → TakesUnmarked old new (map ∷ []) marked
    → ((pairs : List Pair) → HasPairsAt (heap_of new) map pairs → AreKeysMarked marked pairs)
    → Clears old new (map ∷ []) marked
one_cleared {new = new} {map} {marked} takes all = record {
  takes = takes;
  cleared = λ other pairs among has.
      all pairs (subst (λ at. HasPairsAt (heap_of new) at pairs) (sym (one_in map other among)) has);
}

-- each of these is the one
pub are_one : {heap : Heap} {map : ℕ} → IsWeakCellAt heap map → AreMaps heap (map ∷ [])
are_one {heap} {map} there other among = subst (IsWeakCellAt heap) (one_in map other among) there
