-- A field comes to the store, which is made anew where it is full.
use Rattle.std.proofs.Common.{arith}
use Rattle.std.proofs.lemmas.Result.{on_ok_weaker}
use Rattle.shape_change.specs.Additions.{AddsField}
use Rattle.object_cells.proofs.PlainFields.{plain_sound}
use Rattle.shape_change.proofs.FullStores.{store_is_full}
use Rattle.shape_change.proofs.add_in_store.store_field.Goals as goal

pub store_of-store-requires-clause-there : goal.store_of-store-requires-clause-there
store_of-store-requires-clause-there c =
    let there = c.requires.can.there in
    let are = (plain_sound c.requires.can.whole there.has there.plain).has in
    record {
      cell = there.cell;
      words = there.words;
      has = there.has;
      stands = there.stands;
      word = are.store;
      slot = are.slot;
      beside = are.beside;
      are = are.stands;
    }

pub add_to_new_store-requires-clause-full : goal.add_to_new_store-requires-clause-full
add_to_new_store-requires-clause-full c =
    store_is_full c.args.main.now c.args.object c.args.header c.args.new.field.name c.args.new.value
    c.store_of-store.result c.requires.can c.store_of-store.ensures (omega arith) (omega arith)

pub returns-then-new-store-clause-ok : goal.returns-then-new-store-clause-ok
returns-then-new-store-clause-ok c =
    on_ok_weaker c.add_to_store.result
    (λ adds. AddsField.to_store c.store_of-store.result (omega arith) c.store_of-store.ensures (omega arith) adds)
    c.add_to_store.ensures.ok

pub returns-else-new-store-clause-ok : goal.returns-else-new-store-clause-ok
returns-else-new-store-clause-ok c =
    let full = store_is_full c.args.main.now c.args.object c.args.header c.args.new.field.name c.args.new.value
    c.store_of-store.result
    c.requires.can c.store_of-store.ensures (omega arith) (omega arith) in
    on_ok_weaker c.add_to_new_store.result
    (λ adds. AddsField.to_new_store c.store_of-store.result (omega arith) c.store_of-store.ensures full adds)
    c.add_to_new_store.ensures.ok
