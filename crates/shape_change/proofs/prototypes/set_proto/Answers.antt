-- A prototype is set.
use Rattle.std.proofs.Common.{ℕ, ◌∙◌, ap, ◌+◌, sym, subst}
use Rattle.mark_world.specs.declared.event.Event.TheVariants as event
use Rattle.write_barrier.specs.Marking.{MayPut}
use Rattle.tagged_word.specs.Cells.{proto_slot}
use Rattle.write_barrier.specs.MutatorState.{with_slot}
use Rattle.object_cells.proofs.ProtosRead.{proto_within}
use Rattle.shape_change.proofs.ProtosSet.{given_may_put, proto_is_set}
use Rattle.shape_change.proofs.prototypes.set_proto.Goals as goal

pub store-requires-clause-within : goal.store-requires-clause-within
store-requires-clause-within c = proto_within c.requires.may_set.shows c.requires.may_set.is

pub store-requires-clause-may_store : goal.store-requires-clause-may_store
store-requires-clause-may_store c =
    let may = c.requires.may_set in
    let at : ℕ = c.args.object + proto_slot in
    subst (λ word. MayPut c.args.main.now at (event.StoreSlot at word)) (sym c.proto_word.ensures)
    (given_may_put c.args.proto may.proto may.shows c.addresses_fit.ensures.within may.is may.gives)

pub returns : goal.returns
returns c graph plain number shows is gives no_ring =
    proto_is_set c.args.proto number shows is gives no_ring
    (given_may_put c.args.proto number shows c.addresses_fit.ensures.within is gives)
    (c.store.ensures.stored
    ∙ ap (λ word. with_slot c.args.main.now (c.args.object + proto_slot) word) c.proto_word.ensures)
