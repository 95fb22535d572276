-- A value comes to the list's store, or to a new one.
use Rattle.std.proofs.Common.{◌≡◌, sym, ◌∙◌, subst, arith}
use Rattle.std.proofs.lemmas.Result.{on_ok_weaker, IfErr-weaker}
use Rattle.heap_model.specs.Needs.{capacity_at}
use Rattle.write_barrier.specs.MutatorState.{heap_of}
use Rattle.object_cells.specs.Made.{RefusesRoom}
use Rattle.list_store.specs.Pushes.{PushesAt}
use Rattle.object_cells.proofs.ListCells.{list_beside, store_has_room}
use Rattle.list_store.proofs.PushNeeds.{need_to_store, need_to_new_store}
use Rattle.list_store.proofs.pushing.push_value.Goals as goal

pub store_of-store-requires-clause-there : goal.store_of-store-requires-clause-there
store_of-store-requires-clause-there c = list_beside c.requires.ready.whole c.requires.ready.there

pub push_to_new_store-requires-clause-full : goal.push_to_new_store-requires-clause-full
push_to_new_store-requires-clause-full c =
    omega (arith, store_has_room c.store_of-store.result c.requires.ready c.store_of-store.ensures)

pub returns-then-count-store-clause-ok : goal.returns-then-count-store-clause-ok
returns-then-count-store-clause-ok c =
    on_ok_weaker c.push_to_store.result
    (λ pushes. PushesAt.to_store c.store_of-store.result
    (record { ready = c.requires.ready; is = c.store_of-store.ensures }) (omega arith) pushes)
    c.push_to_store.ensures.ok

pub returns-then-count-store-clause-refused : goal.returns-then-count-store-clause-refused
returns-then-count-store-clause-refused c =
    let need = need_to_store (capacity_at (heap_of c.args.main.now) c.args.list) c.args.count c.args.value
    (λ same. omega (arith, same, c.store_of-store.ensures.capacity)) in
    IfErr-weaker c.push_to_store.result _ _
    (λ no_room lacks. subst (λ n. RefusesRoom c.args.main.now c.push_to_store.new.main n no_room) (sym need) lacks)
    c.push_to_store.ensures.refused

pub returns-else-count-store-clause-ok : goal.returns-else-count-store-clause-ok
returns-else-count-store-clause-ok c =
    let full : c.args.count ≡ c.store_of-store.result.capacity =
    omega (arith, store_has_room c.store_of-store.result c.requires.ready c.store_of-store.ensures) in
    on_ok_weaker c.push_to_new_store.result
    (λ pushes. PushesAt.to_new_store c.store_of-store.result
    (record { ready = c.requires.ready; is = c.store_of-store.ensures }) full pushes)
    c.push_to_new_store.ensures.ok

pub returns-else-count-store-clause-refused : goal.returns-else-count-store-clause-refused
returns-else-count-store-clause-refused c =
    let full : c.args.count ≡ c.store_of-store.result.capacity =
    omega (arith, store_has_room c.store_of-store.result c.requires.ready c.store_of-store.ensures) in
    let need = need_to_new_store (capacity_at (heap_of c.args.main.now) c.args.list) c.args.count c.args.value
    (full ∙ sym c.store_of-store.ensures.capacity) in
    IfErr-weaker c.push_to_new_store.result _ _
    (λ no_room lacks. subst (λ n. RefusesRoom c.args.main.now c.push_to_new_store.new.main n no_room) (sym need) lacks)
    c.push_to_new_store.ensures.refused
