-- How the pair of an entry that is put comes to the map's table, or to one that is made in its place.
use Rattle.std.proofs.Common.{◌≡◌, ℕ, ◌+◌, ◌*◌, ◌≤◌, sym, ap, subst, unwrap_or, arith}
use Rattle.object_graph.specs.Graphs.{Graph, WeakObject}
use Rattle.heap_model.specs.Types.{Held}
use Rattle.heap_model.specs.Slots.{reference_word}
use Rattle.heap_model.specs.Needs.{count_at}
use Rattle.write_barrier.specs.MutatorState.{Mutator, heap_of}
use Rattle.object_cells.specs.Made.{store_content}
use Rattle.ephemeron_table.specs.Rehashing.{PutsInNewTable}
use Rattle.ephemeron_table.specs.Probes.{ProbingEnds}
use Rattle.weak_pairs.specs.Tables.{key_in, value_offset}
use Rattle.ephemeron_table.specs.Puttings.{FillsValue, PutsInTable}
use Rattle.ephemeron_table.specs.PutWords.{PutsAt}
use Rattle.ephemeron_table.specs.declared.probing.End.TheVariants as probe_end
use Rattle.weak_pairs.specs.declared.table.Table.{Table}
use Rattle.ephemeron_table.proofs.EntryPairs.{HasEntryPair, key_stands}
use Rattle.ephemeron_table.proofs.FreeKeys.{ComesToFree}
use Rattle.ephemeron_table.proofs.NewKeys.{LacksKey, shown}
use Rattle.ephemeron_table.specs.Rehashing.{CanGrow}
use Rattle.ephemeron_table.proofs.KeysFound.{number_is}
use Rattle.ephemeron_table.proofs.NoPair.{no_key}

module _ {old new : Mutator} {graph : Graph} {map key : ℕ} {weak : WeakObject} {number : ℕ} {table : Table}
    {value : Held} where
  -- where the key is there, its pair's value is filled
  pub puts_to_pair : {place : ℕ} → HasEntryPair old graph map key weak number place table
      → FillsValue old new (table.at + value_offset place) (store_content value) → PutsAt old new map key value
  puts_to_pair {place} has fills =
      let read : key_in (heap_of old) table.at place ≡ reference_word key =
      ap (λ found. unwrap_or found 0) (key_stands has) in
      PutsAt.to_pair table place has.is_table has.below read fills

  -- where it is new and there is room in the table, the pair comes to the place at which probing ends
  pub puts_to_table : {place count : ℕ} → ComesToFree old graph map key weak number place table
      → count_at (heap_of old) map ≡ count → 2 * (count + 1) ≤ table.capacity
      → PutsInTable old new map table place key (count + 1) value → PutsAt old new map key value
  puts_to_table {place} ends counted fits puts =
      let by_number : ProbingEnds (heap_of old) table number (reference_word key) (probe_end.Free place) =
      (ends.comes, ends.free) in
      PutsAt.to_table table place ends.lacks.is_table
      (subst (λ n. ProbingEnds (heap_of old) table n (reference_word key) (probe_end.Free place))
      (sym (number_is ends.lacks.is_key.place)) by_number)
      (omega (arith, counted, fits))
      (subst (λ n. PutsInTable old new map table place key (n + 1) value) (sym counted) puts)

  -- where there is none, it comes to a table that is made
  pub puts_to_new_table : LacksKey old graph map key weak number table
      → CanGrow old map table key (count_at (heap_of old) map)
      → PutsInNewTable old new map table key (count_at (heap_of old) map + 1) value → PutsAt old new map key value
  puts_to_new_table lacks can puts =
      PutsAt.to_new_table table lacks.is_table
      (λ place below. no_key (shown lacks) lacks.is_key lacks.fresh table place lacks.is_table below) can puts
