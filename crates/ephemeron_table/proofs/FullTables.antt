-- Where probing passes all pairs of a weak map's table, each holds something, and the table has too few for one more.
use Rattle.std.proofs.Common.{◌≡◌, ◌≢◌, ℕ, suc, ◌+◌, ◌*◌, ◌<◌, ◌≤◌, not, cond, List, [], ◌∷◌, length, Some, slice_get}
use Rattle.std.proofs.Common.{sym, ◌∙◌, ap, refl, arith}
use Rattle.std.proofs.lemmas.List.Sums.{count_by-le-length, sum_by-cons}
use Rattle.std.proofs.lemmas.Option.{same_Some, slice_get_within}
use Rattle.linear_probing.proofs.Findings.{comes_everywhere}
use Rattle.page_space.specs.Sizes.{AreWithin}
use Rattle.heap_model.specs.Types.{Held}
use Rattle.write_barrier.specs.Seats.{heap_words}
use Rattle.heap_model.specs.Slots.{hole_word}
use Rattle.heap_model.specs.Kinds.{Pair, free_pair, is_free_pair}
use Rattle.heap_model.specs.Needs.{count_at}
use Rattle.write_barrier.specs.MutatorState.{Mutator, heap_of}
use Rattle.ephemeron_table.specs.WeakObjects.{IsShownPutting}
use Rattle.ephemeron_table.specs.Probes.{IsTableAt}
use Rattle.weak_pairs.specs.Probes.{PassesBefore}
use Rattle.weak_pairs.specs.Tables.{key_in, pairs_of}
use Rattle.weak_pairs.specs.declared.table.Table.{Table}
use Rattle.weak_pairs.proofs.PairNumbers.{ReadsPair, reads_pair}
use Rattle.weak_pairs.proofs.CountedPairs.{count_filled, filled_counts, one_if}
use Rattle.ephemeron_table.proofs.KnownTables.{KnownMap, shown_known, count_is, pairs_long, within_words}

-- the map to which an entry is to come, and its table
abbrev pub put_known : {old : Mutator} {map key : ℕ} {table : Table} {value : Held} → IsShownPutting old map key value
    → AreWithin old.seat.space.sizes old.seat.space.variables → IsTableAt (heap_of old) map table
    → KnownMap old map table
put_known shown sizes is_table = shown_known shown.shows shown.is sizes is_table

-- where each of some pairs holds something, so many are counted
all_counted : (pairs : List Pair) → ((at : ℕ) (pair : Pair) → slice_get pairs at ≡ Some pair → pair ≢ free_pair)
    → count_filled pairs ≡ length pairs
all_counted [] filled = omega arith
all_counted (first ∷ pairs) filled =
    omega (
      arith,
      ap one_if (filled_counts first (filled 0 first refl)),
      all_counted pairs (λ at pair there. filled (suc at) pair there),
      sum_by-cons (λ (one : Pair). cond (not (is_free_pair one)) 1 0) first pairs,
    )

-- a map counts no more than its table has pairs
pub counted_within : {old : Mutator} {map : ℕ} {table : Table} → KnownMap old map table
    → count_at (heap_of old) map ≤ table.capacity
counted_within {old} {table = table} known =
    let pairs : List Pair = pairs_of (heap_words old.seat) table in
    omega (arith, count_is known, count_by-le-length (λ (pair : Pair). not (is_free_pair pair)) pairs, pairs_long known)

module _ {old : Mutator} {map : ℕ} {table : Table} (known : KnownMap old map table) (number key : ℕ)
    (passes : PassesBefore (heap_of old) table number key table.capacity) where
  -- no word of a key is a hole
  no_hole : (at : ℕ) → at < table.capacity → key_in (heap_of old) table.at at ≢ hole_word
  no_hole at below is =
      let comes = comes_everywhere table.capacity number at below in
      (passes comes.0 comes.1).filled (ap (key_in (heap_of old) table.at) (sym comes.2) ∙ is)

  -- so each pair holds something
  each_filled : (at : ℕ) (pair : Pair) → slice_get (pairs_of (heap_words old.seat) table) at ≡ Some pair
      → pair ≢ free_pair
  each_filled at pair there free =
      let pairs : List Pair = pairs_of (heap_words old.seat) table in
      let below : at < table.capacity = omega (arith, slice_get_within pairs at pair there, pairs_long known) in
      let here : ReadsPair (heap_of old) table at = reads_pair (heap_of old) table at (within_words known) below in
      let same : here.pair ≡ free_pair = same_Some here.pair pair (sym here.there ∙ there) ∙ free in
      no_hole at below (here.key ∙ ap (λ (one : Pair). one.key) same)

  -- the map counts as many as its table has pairs
  pub full_table : count_at (heap_of old) map ≡ table.capacity
  full_table = count_is known ∙ all_counted (pairs_of (heap_words old.seat) table) each_filled ∙ pairs_long known

  -- so twice these with one more are over the pairs
  pub over_nowhere : table.capacity < 2 * (count_at (heap_of old) map + 1)
  over_nowhere = omega (arith, full_table)
