-- The store is filled before the marks, and then the slots of the other are copied to it.
use Rattle.std.proofs.Common.{◌+◌, ◌∙◌, ap, arith}
use Rattle.word_store.specs.Copies.{copied}
use Rattle.write_barrier.specs.Staying.{rest_stays_again}
use Rattle.object_cells.proofs.StoreTouches.{slots_stored}
use Rattle.object_cells.proofs.StoredRuns.{begun_puts_young}
use Rattle.object_cells.proofs.YoungStores.{young_stores_on}
use Rattle.object_cells.proofs.stores.begin_store.Goals as goal

pub returns-clause-puts : goal.returns-clause-puts
returns-clause-puts c =
    let at = c.args.at in
    let store = c.args.store in
    let first = c.fill_store.ensures.filled in
    let next = c.copy_slots.ensures in
    record {
      beside = rest_stays_again c.args.main.now.seat c.fill_store.new.main.seat c.copy_slots.new.self.seat first.beside
          next.beside;
      paths = next.paths ∙ first.paths;
      young = next.young ∙ first.young;
      heap = next.heap ∙ ap (λ words. copied words (store.at + 2) (at + 2) store.capacity) first.heap;
    }

pub returns-clause-touches : goal.returns-clause-touches
returns-clause-touches c =
    slots_stored c.args.capacity c.args.at c.args.store.capacity (omega (arith, c.requires.more))
    c.fill_store.ensures.touches c.copy_slots.ensures.touches

pub returns-clause-stores : goal.returns-clause-stores
returns-clause-stores c =
    young_stores_on (begun_puts_young c.args.at (c.copy_slots.ensures.cycle ∙ c.fill_store.ensures.cycle)
    (returns-clause-touches c).bound c.requires.young c.addresses_fit.ensures.heap_counted c.args.store c.args.capacity
    (returns-clause-puts c) c.requires.more c.requires.within c.requires.other)
