-- Pairs were taken out of the tables of weak maps, and then more.
use Rattle.std.proofs.Common.{ℕ, ◌+◌, ◌*◌, ◌≤◌, ◌<◌, ◌⊎◌, List, refl, sym, ◌∙◌, ap, subst, arith}
use Rattle.page_space.specs.Extents.{Space, eden_start}
use Rattle.tagged_word.specs.Cells.{store_head, is_object_kind}
use Rattle.write_barrier.specs.Staying.{rest_stays_again}
use Rattle.heap_model.specs.Heaps.{Heap, words_of_cell}
use Rattle.heap_model.specs.Slots.{IsPlace}
use Rattle.heap_model.specs.Kinds.{Pair}
use Rattle.heap_model.specs.Wholeness.{Whole}
use Rattle.write_barrier.specs.MutatorState.{Mutator, heap_of}
use Rattle.object_cells.specs.Uses.{UsesMore}
use Rattle.object_cells.proofs.NothingUsed.{uses_none}
use Rattle.object_cells.proofs.TakenRuns.{bumped_none}
use Rattle.weak_pairs.specs.Pairs.{HasPairsAt}
use Rattle.ephemeron_table.specs.Pairs.{HasSameCells}
use Rattle.ephemeron_table.specs.Probes.{IsWeakCellAt}
use Rattle.ephemeron_clear.specs.Marked.{AreLeft, HasLeft}
use Rattle.ephemeron_clear.specs.Clearing.{AreMaps, IsBesideMaps, TakesUnmarked}
use Rattle.ephemeron_clear.proofs.FilledKeys.{some_pairs}

-- what is left of what is left is left
left_twice : {marked : List ℕ} {first mid last : List Pair} → AreLeft marked first mid → AreLeft marked mid last
    → AreLeft marked first last
left_twice a b = record {
  long = b.long ∙ a.long;
  origin = λ at. a.origin (b.origin at);
  from = λ at pair filled. a.from (b.origin at) pair (b.from at pair filled);
  apart = λ at other pair another filled filled_too same.
      b.apart at other pair another filled filled_too
      (a.apart (b.origin at) (b.origin other) pair another (b.from at pair filled) (b.from other another filled_too)
      same);
  kept = λ at pair filled key.
      let once = a.kept at pair filled key in
      let again = b.kept once.0 pair once.1 key in
      (again.0, again.1, ap a.origin again.2 ∙ once.2);
}

-- the place of a weak map
map_place : {heap : Heap} {map : ℕ} (there : IsWeakCellAt heap map) → IsPlace heap there.cell.header.object map
map_place there = record {
  cell = there.cell;
  words = there.words;
  has = there.has;
  stands = there.stands;
  object = ap is_object_kind there.of_kind;
  carries = refl;
}

module _ {first mid last : Mutator} {maps marked : List ℕ} (whole : Whole (heap_of first))
    (are : AreMaps (heap_of first) maps) (a : TakesUnmarked first mid maps marked)
    (b : TakesUnmarked mid last maps marked) where
  -- cells stand where they stood
  cells_twice : HasSameCells (heap_of first) (heap_of last)
  cells_twice = record {
    stays = λ cell words has. b.cells.stays cell _ (a.cells.stays cell words has);
    stood = λ cell words has. a.cells.stood cell _ (b.cells.stood cell words has);
  }

  -- no word more is used
  uses_twice : UsesMore first last 0
  uses_twice =
      uses_none (rest_stays_again first.seat mid.seat last.seat a.uses.beside b.uses.beside)
      (b.uses.young ∙ bumped_none mid.young ∙ a.uses.young ∙ bumped_none first.young) (b.uses.free ∙ a.uses.free)

  -- a word that was none of the maps' is none
  still_beside : (word : ℕ) → IsBesideMaps (heap_of first) maps word → IsBesideMaps (heap_of mid) maps word
  still_beside word beside map among =
      let there = are map among in
      let some = some_pairs whole there in
      let was = beside map among in
      let capacity = a.capacities there.cell.header.object map (map_place there) in (
        was.0,
        λ table refers.
            subst (λ many. (word < table + store_head) ⊎ (table + (store_head + 2 * many) ≤ word)) (sym capacity)
            (was.1 table (sym (a.named map some.pairs some.are) ∙ refers)),
      )

  -- those of the same maps with marked keys are left
  left_still : (map : ℕ) (before : List Pair) → HasPairsAt (heap_of first) map before
      → HasLeft (heap_of last) map marked before
  left_still map before has =
      let once = a.left map before has in
      let again = b.left map once.after once.are in
      record { after = again.after; are = again.are; left = left_twice once.left again.left }

  -- so pairs were taken
  pub takes_twice : TakesUnmarked first last maps marked
  takes_twice = record {
    whole = b.whole;
    tied = b.tied;
    paths = b.paths ∙ a.paths;
    cycle = b.cycle ∙ a.cycle;
    uses = uses_twice;
    bound = b.bound ∙ a.bound;
    remembered = λ bounded were.
        b.remembered (a.bound ∙ bounded ∙ ap (λ (space : Space). eden_start space) (sym a.uses.beside.space))
        (a.remembered bounded were);
    cells = cells_twice;
    places = λ number at. (
      λ place. (b.places number at).0 ((a.places number at).0 place),
      λ place. (a.places number at).1 ((b.places number at).1 place),
    );
    capacities = λ number at place.
        b.capacities number at ((a.places number at).0 place) ∙ a.capacities number at place;
    named = λ map pairs has.
        let once = a.left map pairs has in
        b.named map once.after once.are ∙ a.named map pairs has;
    counts = λ map there.
        omega (
          arith,
          a.counts map there,
          b.counts map (record {
            cell = there.cell;
            words = words_of_cell (heap_of mid) there.cell;
            has = a.cells.stays there.cell there.words there.has;
            stands = there.stands;
            of_kind = there.of_kind;
          }),
        );
    stay = λ word beside. b.stay word (still_beside word beside) ∙ a.stay word beside;
    left = left_still;
    others = λ map pairs apart has. b.others map pairs apart (a.others map pairs apart has);
    shows = λ graph shown reached.
        b.shows graph (a.shows graph shown reached)
        (λ number at marks place. reached number at marks ((a.places number at).1 place));
  }
