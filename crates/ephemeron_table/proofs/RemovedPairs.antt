-- A pair of a weak map was removed.
use Rattle.std.proofs.Common.{◌≡◌, ◌+◌, ◌*◌, ◌≤◌, ◌⊎◌, inl, inr, unwrap_or, ℕ, ◌<◌, List, [], sym, ◌∙◌, ap, subst}
use Rattle.std.proofs.Common.{arith}
use Rattle.heap_model.specs.Slots.{reference_word}
use Rattle.std.proofs.lemmas.Option.{slice_get_within}
use Rattle.page_space.specs.Sizes.{AreWithin}
use Rattle.nursery.specs.Young.{Young}
use Rattle.write_barrier.specs.Seats.{heap_words}
use Rattle.heap_model.specs.Types.{Cell}
use Rattle.heap_model.specs.Heaps.{Heap, words_of_cell}
use Rattle.heap_model.specs.Changes.{CellsChange, IsOwnChange}
use Rattle.heap_model.specs.Wholeness.{Whole}
use Rattle.heap_model.specs.Kinds.{Pair}
use Rattle.tagged_word.specs.Cells.{store_head, store_slot}
use Rattle.heap_model.specs.Needs.{capacity_at, count_at, word_at}
use Rattle.write_barrier.specs.MutatorState.{Mutator, heap_of, IsTied}
use Rattle.write_barrier.proofs.Recording.{remembers_heap}
use Rattle.object_cells.specs.Capacities.{ChangesObjectUsing}
use Rattle.object_cells.specs.Contents.{next_at}
use Rattle.object_cells.proofs.MadeBoxes.{row_of_none}
use Rattle.object_cells.specs.Uses.{TakesRun}
use Rattle.object_cells.proofs.GrantedRests.{left_are_granted}
use Rattle.object_cells.proofs.NothingUsed.{room_for_none, uses_none}
use Rattle.object_cells.proofs.TakenRuns.{bumped_none, takes_none}
use Rattle.object_cells.proofs.CellsRead.{word_stands}
use Rattle.weak_pairs.specs.Pairs.{HasPairsAt, IsFilledAt, AreWithout}
use Rattle.ephemeron_table.proofs.KeptTables.{tables_stay}
use Rattle.ephemeron_table.specs.Pairs.{KeepsTables, RemovesPair}
use Rattle.ephemeron_table.specs.PairLaws.{WrittenPairsAreOwn}
use Rattle.ephemeron_table.specs.Probes.{IsTableAt}
use Rattle.ephemeron_table.specs.Removals.{RemovesAt}
use Rattle.weak_pairs.specs.Tables.{pairs_of, IsOutsidePairs}
use Rattle.weak_pairs.specs.declared.table.Table.{Table}
use Rattle.weak_pairs.proofs.CountedPairs.{count_freed}
use Rattle.ephemeron_table.proofs.KnownTables.{KnownMap, cell, count_is, found, other, within_words}
use Rattle.ephemeron_table.proofs.MapsKept.{ChangesMap, keeps_tables, same_cells}
use Rattle.ephemeron_table.proofs.UnreachedKeys.{stays_shown}
use Rattle.weak_pairs.proofs.PairLists.{pairs_are}
use Rattle.ephemeron_table.proofs.MapTouches.{removed_remembers}
use Rattle.ephemeron_table.proofs.MapsWithout.{refills_weak, slot_stays, map_has, are_after}

-- the map whose pair is to be removed is known
pub known_map : {old : Mutator} {map : ℕ} {pairs : List Pair} (table : Table) → Whole (heap_of old) → IsTied old
    → AreWithin old.seat.space.sizes old.seat.space.variables → HasPairsAt (heap_of old) map pairs
    → IsTableAt (heap_of old) map table → KnownMap old map table
known_map table whole tied sizes has is = record {
  tied = tied;
  whole = whole;
  sizes = sizes;
  there = record {
    cell = has.cell;
    words = has.words;
    has = has.has;
    stands = has.stands;
    of_kind = has.of_kind;
  };
  is = is;
}

-- its pairs are those that are read
pub pairs_known : {old : Mutator} {map : ℕ} {table : Table} {pairs : List Pair} → KnownMap old map table
    → HasPairsAt (heap_of old) map pairs → pairs_of (heap_words old.seat) table ≡ pairs
pairs_known {old} {table = table} {pairs} known has =
    pairs_are (heap_words old.seat) table pairs (within_words known) (known.is.pairs pairs has)

-- so a pair of the map that holds something stands in its table
pub filled_place : {old : Mutator} {map place : ℕ} {table : Table} {pairs : List Pair} {pair : Pair}
    → KnownMap old map table → HasPairsAt (heap_of old) map pairs → IsFilledAt pairs place pair
    → IsFilledAt (pairs_of (heap_words old.seat) table) place pair
filled_place {place = place} {pair = pair} known has filled =
    subst (λ all. IsFilledAt all place pair) (sym (pairs_known known has)) filled

-- the place is one of the table
pub place_below : {heap : Heap} {map place : ℕ} {pairs : List Pair} {pair : Pair} (table : Table)
    → IsTableAt heap map table
    → HasPairsAt heap map pairs → IsFilledAt pairs place pair → place < table.capacity
place_below {place = place} {pairs} {pair} table is has filled =
    omega (arith, slice_get_within pairs place pair filled.stands, (is.pairs pairs has).long)

-- so some pair is counted
pub counts_some : {old : Mutator} {map place : ℕ} {table : Table} {pairs : List Pair} {pair : Pair}
    → KnownMap old map table → HasPairsAt (heap_of old) map pairs → IsFilledAt pairs place pair
    → 0 < count_at (heap_of old) map
counts_some {old} {place = place} {table} {pair = pair} known has filled =
    let is = filled_place known has filled in
    omega (arith, count_is known, count_freed (pairs_of (heap_words old.seat) table) place pair is.stands is.filled)

-- the map refers to the table that was read
refers_there : {old : Mutator} {map : ℕ} {table : Table} {pairs : List Pair} → KnownMap old map table
    → HasPairsAt (heap_of old) map pairs → 0 < table.capacity
    → word_at (heap_of old) (map + store_slot) ≡ reference_word table.at
refers_there {old} {pairs = pairs} known has some =
    ap (λ n. word_at (heap_of old) (n + store_slot)) (sym has.stands)
    ∙ ap (λ found. unwrap_or found 0) (word_stands store_slot has.are.store has.has has.are.slot)
    ∙ known.is.refers pairs has some

-- a word that is none of the map's pairs is none of that table's
beside_pairs : {old : Mutator} {map : ℕ} {table : Table} {pairs : List Pair} → (known : KnownMap old map table)
    → HasPairsAt (heap_of old) map pairs → 0 < table.capacity → (word : ℕ)
    → (word < table.at + store_head) ⊎ (table.at + (store_head + 2 * capacity_at (heap_of old) map) ≤ word)
    → IsOutsidePairs table word
beside_pairs {table = table} known has some word (inl before) = inl before
beside_pairs {table = table} known has some word (inr behind) = inr (omega (arith, behind, known.is.capacity))

-- Where no cell was made, what was granted stays so.
still_tied : {old new : Mutator} {gone came : List Cell} → IsTied old → Whole (heap_of old) → TakesRun old new []
    → CellsChange (heap_of old) (heap_of new) gone came [] → IsOwnChange (heap_of old) (heap_of new) gone came []
    → IsTied new
still_tied tied whole takes change own = record {
  space = ap (λ (y : Young). y.space) takes.young ∙ tied.space ∙ sym takes.space;
  granted = left_are_granted takes whole change own tied;
}

-- so a pair is removed
pub removes_pair : {old new : Mutator} {map place : ℕ} {table : Table} {pairs : List Pair} {pair : Pair}
    → (known : KnownMap old map table) → (before : List Pair) → HasPairsAt (heap_of old) map before
    → HasPairsAt (heap_of old) map pairs → IsFilledAt pairs place pair
    → RemovesAt old new map table place → WrittenPairsAreOwn
    → RemovesPair old new map place before
removes_pair {old} {new} {map} {place} {table} {pairs} {pair} known before has there filled removes are_own =
    let some : 0 < table.capacity = omega (arith, place_below table known.is there filled) in
    let is = filled_place known there filled in
    let refills = refills_weak known some removes pair is in
    let same : pairs_of (heap_words old.seat) table ≡ before = pairs_known known has in
    let stands : (cell known).at ≡ map = known.there.stands in
    let law = are_own (heap_of old) (heap_of new) (cell known) _ [] refills in
    let remembers = removed_remembers known some removes in
    let maps : ChangesMap (heap_of old) (heap_of new) (cell known) (other known some) = record {
      whole = known.whole;
      weak = known.there.of_kind;
      of_table = (found known some).of_kind;
      cells = law.1;
      own = law.2;
      slot = slot_stays known some removes pair is;
    } in
    record {
      whole = law.3;
      tied = still_tied known.tied known.whole (takes_none removes.rest (room_for_none old known.tied known.whole)
          (removes.young ∙ sym (bumped_none old.young))) law.1 law.2;
      uses = uses_none removes.rest removes.young removes.touches.free;
      paths = removes.paths;
      cycle = removes.cycle;
      changes = subst (λ a. ChangesObjectUsing old new 0 a (capacity_at (heap_of old) a)) stands
          (tables_stay refills (row_of_none (heap_of new) (next_at old)) (slot_stays known some removes pair is));
      stay = λ word not_count no_pair. removes.beside word
          (beside_pairs known has some word (no_pair table.at (refers_there known has some))) not_count;
      cells = same_cells maps;
      tables = subst (KeepsTables (heap_of old) (heap_of new)) stands (keeps_tables maps);
      counted = omega (
        arith,
        ap (λ found. unwrap_or found 0) removes.counted,
        counts_some known there filled,
      );
      bound = removes.touches.bound;
      remembered = λ bounded were. remembers_heap old new _ _ [] remembers bounded known.whole law.0 law.1 were;
      after = pairs_of (heap_words new.seat) table;
      are = record {
        cell = cell known;
        words = words_of_cell (heap_of new) (cell known);
        has = map_has known some removes pair is;
        stands = stands;
        of_kind = known.there.of_kind;
        are = are_after known some removes pair is;
      };
      without = subst (λ all. AreWithout all (pairs_of (heap_words new.seat) table) place) same (record {
        long = removes.removed.long;
        origin = removes.removed.origin;
        from = removes.removed.from;
        apart = removes.removed.apart;
        kept = removes.removed.kept;
        below = λ free none. removes.below free none pair is;
      });
      free = (removes.hole, removes.free);
      shows = λ one there_too.
          stays_shown known some removes one (filled_place known has there_too) law.3 law.1 law.2;
    }
