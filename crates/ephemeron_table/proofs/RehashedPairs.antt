-- The pairs of a table, and the numbers that probing finds, once a rehashed pair was inserted in it.
use Rattle.std.proofs.Common.{◌≡◌, ℕ, ◌+◌, ◌*◌, ◌≤◌, length, Some, sym, ◌∙◌, ap, subst}
use Rattle.std.specs.Prelude.{slice_set, option_map}
use Rattle.tagged_word.specs.Cells.{store_head}
use Rattle.tagged_word.specs.Readings.{reference_in}
use Rattle.linear_probing.specs.Tables.{FindsAll}
use Rattle.write_barrier.specs.Seats.{heap_words}
use Rattle.heap_model.specs.Heaps.{Heap}
use Rattle.heap_model.specs.Slots.{reference_word}
use Rattle.write_barrier.specs.MutatorState.{Mutator, heap_of}
use Rattle.weak_pairs.specs.Tables.{number_at, numbers, pairs_of, made_pair}
use Rattle.ephemeron_table.specs.Puttings.{InsertsRehashed}
use Rattle.weak_pairs.specs.declared.table.Table.{Table}
use Rattle.weak_pairs.proofs.InsertedPairs.{inserted_below, inserted_found}
use Rattle.weak_pairs.proofs.PairsPut.{pairs_now}
use Rattle.weak_pairs.proofs.KeyedPairs.{HaveKeys}

-- the pairs are those with the one that was inserted at the first free place
pub rehashed_pairs : {now new : Mutator} {table : Table} {key value : ℕ}
    → table.at + (store_head + 2 * table.capacity) ≤ length (heap_words now.seat)
    → HaveKeys (pairs_of (heap_words now.seat) table) → (inserts : InsertsRehashed now new table key value)
    → pairs_of (heap_words new.seat) table
    ≡ slice_set (pairs_of (heap_words now.seat) table) inserts.place (made_pair (reference_word key) value)
rehashed_pairs {now} {table = table} {key} {value} within keys inserts =
    ap (λ all. pairs_of all table) inserts.words.heap
    ∙ pairs_now (heap_words now.seat) table inserts.place (made_pair (reference_word key) value) within
    (inserted_below within keys inserts.first)

-- and probing finds all again
pub rehashed_found : {now new : Mutator} {table : Table} {key value : ℕ} (heap : Heap)
    → table.at + (store_head + 2 * table.capacity) ≤ length (heap_words now.seat)
    → HaveKeys (pairs_of (heap_words now.seat) table) → InsertsRehashed now new table key value
    → number_at (heap_of now) key ≡ number_at heap key
    → FindsAll (numbers heap (pairs_of (heap_words now.seat) table)) → reference_in (reference_word key) ≡ Some key
    → FindsAll (numbers heap (pairs_of (heap_words new.seat) table))
rehashed_found {key = key} {value} heap within keys inserts same all refers =
    subst (λ pairs. FindsAll (numbers heap pairs)) (sym (rehashed_pairs within keys inserts))
    (inserted_found within keys inserts.first heap (made_pair (reference_word key) value)
    (ap (option_map (number_at heap)) refers ∙ ap (λ n. Some n) (sym same)) all)
