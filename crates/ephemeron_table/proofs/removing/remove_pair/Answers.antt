-- The hole is free, and the count one less.
use Rattle.std.proofs.Common.{ap, subst, arith}
use Rattle.write_barrier.specs.Seats.{heap_words}
use Rattle.write_barrier.specs.MutatorState.{Mutator}
use Rattle.object_cells.specs.Made.{PutsWords}
use Rattle.weak_pairs.specs.Tables.{made_pair, with_pair}
use Rattle.write_barrier.proofs.StoresOn.{stores_on_again}
use Rattle.ephemeron_table.proofs.ClaimedMaps.{count_may_put, map_may_still, pairs_may_still}
use Rattle.ephemeron_table.proofs.RemovalEnds.{removes_at}
use Rattle.ephemeron_table.proofs.removing.remove_pair.Goals as goal

pub put_pair-requires-clause-may : goal.put_pair-requires-clause-may
put_pair-requires-clause-may c = pairs_may_still c.backward_shift-hole.ensures.changes.stores c.requires.may

pub write_slot-requires-clause-may_store : goal.write_slot-requires-clause-may_store
write_slot-requires-clause-may_store c =
    count_may_put _ (map_may_still (stores_on_again c.backward_shift-hole.ensures.changes.stores
    c.put_pair.ensures.stores) c.requires.counts)

pub returns : goal.returns
returns c =
    let shifted : Mutator = c.backward_shift-hole.new.main in
    let puts = subst (λ pair. PutsWords shifted c.put_pair.new.main
    (with_pair (heap_words shifted.seat) c.args.table.at c.backward_shift-hole.result pair))
    (ap (λ w. made_pair w w) c.odd-free.ensures) c.put_pair.ensures.puts in
    removes_at c.args.map c.args.at c.backward_shift-hole.result c.slot-count.result c.args.table
    (omega (arith, c.requires.within, c.addresses_fit.ensures.heap_counted))
    (omega (arith, c.requires.map, c.addresses_fit.ensures.heap_counted))
    c.requires.map c.requires.beside c.backward_shift-hole.ensures puts c.put_pair.ensures.cycle
    c.put_pair.ensures.touches c.put_pair.ensures.stores
    c.slot-count.ensures.of_heap
    c.write_slot.ensures.written c.write_slot.ensures.heap c.requires.counts
