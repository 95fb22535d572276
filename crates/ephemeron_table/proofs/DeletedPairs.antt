-- The pair of a key was removed from a weak map that is shown, or there was none.
use Rattle.std.proofs.Common.{◌≡◌, ℕ, List, None, refl, subst}
use Rattle.page_space.specs.Sizes.{AreWithin}
use Rattle.object_graph.specs.Objects.{entry_value}
use Rattle.object_graph.specs.Graphs.{Graph, WeakObject}
use Rattle.heap_model.specs.Kinds.{Pair}
use Rattle.heap_model.specs.Slots.{reference_word}
use Rattle.write_barrier.specs.MutatorState.{Mutator, heap_of, MainShows}
use Rattle.ephemeron_table.specs.WeakObjects.{IsKeyAt, IsShownKey, IsWeakAt}
use Rattle.ephemeron_table.specs.EntryChanges.{DeletesEntry}
use Rattle.weak_pairs.specs.Pairs.{HasPairsAt, IsPairOf}
use Rattle.ephemeron_table.specs.Pairs.{RemovesPair}
use Rattle.ephemeron_table.specs.PairChanges.{DeletesPair}
use Rattle.ephemeron_table.specs.PairLaws.{WrittenPairsAreOwn}
use Rattle.ephemeron_table.specs.Probes.{IsTableAt}
use Rattle.ephemeron_table.specs.Removals.{RemovesAt}
use Rattle.weak_pairs.specs.declared.table.Table.{Table}
use Rattle.ephemeron_table.proofs.KeysFound.{WeakShown, weak_shown, TellsPair}
use Rattle.ephemeron_table.proofs.DeletedEntries.{deletes_none}
use Rattle.ephemeron_table.proofs.KeysProbed.{LacksEntry}
use Rattle.ephemeron_table.proofs.KnownTables.{KnownMap, shown_known}
use Rattle.ephemeron_table.proofs.PairsByKey.{lacks_pair, one_pair_of, pairs_shown, told_pair}
use Rattle.ephemeron_table.proofs.RemovedPairs.{removes_pair}

-- the pair that was removed was the one with the key
pub deletes_pair : {old new : Mutator} {graph : Graph} {map key : ℕ} {weak : WeakObject} {number place : ℕ}
    {table : Table} {before : List Pair} → (shows : MainShows old graph) → (is : IsWeakAt old graph map weak)
    → IsKeyAt old graph key number
    → AreWithin old.seat.space.sizes old.seat.space.variables → IsTableAt (heap_of old) map table
    → TellsPair old (weak_shown shows is).shows.pairs table place key weak.entries number
    → HasPairsAt (heap_of old) map before → RemovesAt old new map table place → WrittenPairsAreOwn
    → DeletesPair old new map key before
deletes_pair {old} {new} {graph} {map} {key} {weak} {number} {place} {table} {before} shows is is_key sizes is_table
    told
    has removes are_own =
    let shown : WeakShown old graph map weak = weak_shown shows is in
    let known : KnownMap old map table = shown_known shows is sizes is_table in
    let same = pairs_shown known shown has in
    let its : IsPairOf before (reference_word key) place told.pair = told_pair shown is_key same table place told in
    record {
      there = λ at pair theirs.
          let one = one_pair_of shown is_key same told.value told.is_entry place at told.pair pair its theirs in
          subst (λ n. RemovesPair old new map n before) one
          (removes_pair known before has has its.filled removes are_own);
      none = λ lacks. absurd (lacks place told.pair its);
    }

-- where no entry has the key, no pair does
pub deletes_no_pair : {main : Mutator} {graph : Graph} {map key : ℕ} {weak : WeakObject} {number : ℕ} {table : Table}
    {before : List Pair} → (shows : MainShows main graph) → (is : IsWeakAt main graph map weak)
    → IsKeyAt main graph key number → AreWithin main.seat.space.sizes main.seat.space.variables
    → IsTableAt (heap_of main) map table → entry_value weak.entries number ≡ None → HasPairsAt (heap_of main) map before
    → DeletesPair main main map key before
deletes_no_pair {main} {graph} {map} {key} {weak} {table = table} {before} shows is is_key sizes is_table none has =
    let shown : WeakShown main graph map weak = weak_shown shows is in
    let known : KnownMap main map table = shown_known shows is sizes is_table in
    let same : shown.shows.pairs ≡ before = pairs_shown known shown has in
    record {
      there = λ place pair its. absurd (lacks_pair shown is_key same none place pair its);
      none = λ lacks. refl;
    }

-- so nothing is removed from the entries or the pairs
pub deletes_nothing : {main : Mutator} {map key : ℕ} {table : Table} → IsShownKey main map key
    → AreWithin main.seat.space.sizes main.seat.space.variables → IsTableAt (heap_of main) map table
    → LacksEntry main map key
    → ((graph : Graph) (weak : WeakObject) (number : ℕ) → MainShows main graph → IsWeakAt main graph map weak
    → IsKeyAt main graph key number → DeletesEntry main main graph map weak number)
    × ((before : List Pair) → HasPairsAt (heap_of main) map before → DeletesPair main main map key before)
deletes_nothing {main} {map} asked sizes is_table none = (
  λ graph weak number shows is is_key.
      deletes_none main graph map weak number shows is (none graph weak number shows is is_key),
  λ before has.
      deletes_no_pair asked.shows asked.is asked.is_key sizes is_table
      (none asked.graph asked.weak asked.number asked.shows asked.is asked.is_key) has,
)
