-- What taking pairs out of the tables of weak maps leaves of other maps, and where nothing is taken.
use Rattle.std.proofs.Common.{ℕ, List, Contains, refl, sym, ◌∙◌, subst, arith}
use Rattle.write_barrier.specs.Staying.{rest_stays_itself}
use Rattle.heap_model.specs.Heaps.{Heap}
use Rattle.heap_model.specs.Kinds.{Pair}
use Rattle.heap_model.specs.Wholeness.{Whole}
use Rattle.write_barrier.specs.MutatorState.{Mutator, MayStore, heap_of, IsTied}
use Rattle.object_cells.proofs.NothingUsed.{uses_none}
use Rattle.object_cells.proofs.OwnPlaces.{has_own_words}
use Rattle.weak_pairs.specs.Pairs.{HasPairsAt, IsFilledAt}
use Rattle.ephemeron_table.specs.Pairs.{HasSameCells}
use Rattle.ephemeron_table.specs.Probes.{IsWeakCellAt}
use Rattle.ephemeron_clear.specs.Marked.{AreKeysMarked, AreLeft}
use Rattle.ephemeron_clear.specs.Clearing.{TakesUnmarked}
use Rattle.ephemeron_table.proofs.TablesRead.{one_map}
use Rattle.ephemeron_clear.proofs.FilledKeys.{some_pairs}

-- all pairs are left of themselves
pub left_themselves : (marked : List ℕ) (pairs : List Pair) → AreLeft marked pairs pairs
left_themselves marked pairs = record {
  long = refl;
  origin = λ at. at;
  from = λ at pair filled. filled;
  apart = λ at other pair another filled filled_too same. same;
  kept = λ at pair filled key. (at, filled, refl);
}

-- cells stand where they stand
cells_themselves : (heap : Heap) → HasSameCells heap heap
cells_themselves heap = record {
  stays = λ cell words has. has_own_words has;
  stood = λ cell words has. has_own_words has;
}

-- while no cycle is open, none is behind it
pub may_go_on : {old new : Mutator} {maps marked : List ℕ} → TakesUnmarked old new maps marked → MayStore old
    → MayStore new
may_go_on takes idle mark = idle (sym takes.uses.beside.phase ∙ mark)

-- where nothing happens, nothing is taken
pub takes_nothing : (main : Mutator) (maps marked : List ℕ) → Whole (heap_of main) → IsTied main
    → TakesUnmarked main main maps marked
takes_nothing main maps marked whole tied = record {
  whole = whole;
  tied = tied;
  paths = refl;
  cycle = refl;
  uses = uses_none (rest_stays_itself main.seat) refl refl;
  bound = refl;
  remembered = λ bounded were. were;
  cells = cells_themselves (heap_of main);
  places = λ number at. (λ place. place, λ place. place);
  capacities = λ number at place. refl;
  named = λ map pairs has. refl;
  counts = λ map there. omega arith;
  stay = λ word beside. refl;
  left = λ map before has. record { after = before; are = has; left = left_themselves marked before };
  others = λ map pairs apart has. has;
  shows = λ graph shown reached. shown;
}

-- what is taken of some maps is taken of more
pub takes_of_more : {old new : Mutator} {maps marked : List ℕ} (more : List ℕ) → TakesUnmarked old new maps marked
    → ((map : ℕ) → Contains maps map → Contains more map) → TakesUnmarked old new more marked
takes_of_more more takes among = record {
  whole = takes.whole;
  tied = takes.tied;
  paths = takes.paths;
  cycle = takes.cycle;
  uses = takes.uses;
  bound = takes.bound;
  remembered = takes.remembered;
  cells = takes.cells;
  places = takes.places;
  capacities = takes.capacities;
  named = takes.named;
  counts = takes.counts;
  stay = λ word beside. takes.stay word (λ map there. beside map (among map there));
  left = takes.left;
  others = λ map pairs apart has. takes.others map pairs (λ there. apart (among map there)) has;
  shows = takes.shows;
}

-- a weak map stands where it stood
pub map_stays : {old new : Mutator} {maps marked : List ℕ} {map : ℕ} → TakesUnmarked old new maps marked
    → IsWeakCellAt (heap_of old) map → IsWeakCellAt (heap_of new) map
map_stays takes there = record {
  cell = there.cell;
  words = _;
  has = takes.cells.stays there.cell there.words there.has;
  stands = there.stands;
  of_kind = there.of_kind;
}

-- a map whose keys are all marked has no others then
pub marked_stay : {old new : Mutator} {maps marked : List ℕ} {map : ℕ} → Whole (heap_of old)
    → TakesUnmarked old new maps marked
    → IsWeakCellAt (heap_of old) map
    → ((pairs : List Pair) → HasPairsAt (heap_of old) map pairs → AreKeysMarked marked pairs)
    → (pairs : List Pair) → HasPairsAt (heap_of new) map pairs → AreKeysMarked marked pairs
marked_stay {map = map} whole takes there were pairs has at pair filled =
    let some = some_pairs whole there in
    let left = takes.left map some.pairs some.are in
    let stood = subst (λ all. IsFilledAt all at pair) (one_map has left.are) filled in
    were some.pairs some.are (left.left.origin at) pair (left.left.from at pair stood)
