-- The words of the pair are put one after the other, as slots.
use Rattle.std.proofs.Common.{◌≡◌, ℕ, ◌+◌, ◌*◌, ◌<◌, ◌∙◌, ap, arith}
use Rattle.write_barrier.specs.MutatorState.{Mutator, with_weak}
use Rattle.write_barrier.specs.Storing.{StoresOn}
use Rattle.write_barrier.proofs.StoresOn.{stores_on_again}
use Rattle.ephemeron_table.specs.MapClaims.{MayPutPairs}
use Rattle.weak_pairs.specs.declared.table.Table.{Table}
use Rattle.ephemeron_table.proofs.ClaimedMaps.{pair_may_put, pair_stores_on, pairs_may_still}
use Rattle.ephemeron_table.proofs.PairTouches.{pair_stored}
use Rattle.ephemeron_table.proofs.removing.put_pair.Goals as goal

pub returns-clause-touches : goal.returns-clause-touches
returns-clause-touches c =
    pair_stored c.args.table.at c.args.at c.args.key.0 c.args.value.0 c.addresses_fit.ensures.heap_counted
    (omega (arith, c.requires.within, c.requires.place)) c.store_weak.ensures.weak
    c.store_weak-2.ensures.weak

-- the key of a place is behind the head, and the value behind it
key_inside : (place capacity : ℕ) → place < capacity → 2 + 2 * place < 2 + 2 * capacity
key_inside place capacity below = omega (arith, below)

value_inside : (place capacity : ℕ) → place < capacity → 2 + (2 * place + 1) < 2 + 2 * capacity
value_inside place capacity below = omega (arith, below)

-- so the first word is stored
keyed : {main put : Mutator} {table : Table} (place key : ℕ) → MayPutPairs main table → place < table.capacity
    → put ≡ with_weak main (table.at + (2 + 2 * place)) key → StoresOn main put
keyed {table = table} place key may below same =
    pair_stores_on (2 + 2 * place) key may (omega arith) (key_inside place table.capacity below) same

pub store_weak-requires-clause-may_store : goal.store_weak-requires-clause-may_store
store_weak-requires-clause-may_store c =
    pair_may_put (2 + 2 * c.args.at) c.args.key.0 c.requires.may (omega arith)
    (key_inside c.args.at c.args.table.capacity c.requires.place)

pub store_weak-requires-2-clause-may_store : goal.store_weak-requires-2-clause-may_store
store_weak-requires-2-clause-may_store c =
    let first = keyed c.args.at c.args.key.0 c.requires.may c.requires.place c.store_weak.ensures.weak in
    pair_may_put (2 + (2 * c.args.at + 1)) c.args.value.0 (pairs_may_still first c.requires.may) (omega arith)
    (value_inside c.args.at c.args.table.capacity c.requires.place)

pub returns-clause-stores : goal.returns-clause-stores
returns-clause-stores c =
    let first = keyed c.args.at c.args.key.0 c.requires.may c.requires.place c.store_weak.ensures.weak in
    stores_on_again first
    (pair_stores_on (2 + (2 * c.args.at + 1)) c.args.value.0 (pairs_may_still first c.requires.may) (omega arith)
    (value_inside c.args.at c.args.table.capacity c.requires.place) c.store_weak-2.ensures.weak)

pub returns-clause-cycle : goal.returns-clause-cycle
returns-clause-cycle c =
    ap (λ (main : Mutator). main.cycle) c.store_weak-2.ensures.weak
    ∙ ap (λ (main : Mutator). main.cycle) c.store_weak.ensures.weak
