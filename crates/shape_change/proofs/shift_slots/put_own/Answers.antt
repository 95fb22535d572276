-- The slot of a field is touched as its representation says.
use Rattle.std.proofs.Common.{◌+◌, ap, sym}
use Rattle.tagged_word.specs.Cells.{plain_head}
use Rattle.write_barrier.proofs.SureStores.{wiped_surely}
use Rattle.shape_change.specs.Shifts.{rep_touch}
use Rattle.shape_change.proofs.MayMove.{own_word_may, own_slot_may, own_word_on, own_slot_on}
use Rattle.shape_change.proofs.MayMove.{slot_put_surely}
use Rattle.shape_change.proofs.SlotTouches.{field_put, field_how, how_surely, word_put, slot_put}
use Rattle.shape_change.proofs.shift_slots.put_own.Goals as goal

pub write_slot-requires-clause-may_store : goal.write_slot-requires-clause-may_store
write_slot-requires-clause-may_store c = own_word_may c.args.slot c.args.word c.requires.may c.requires.own

pub store-requires-clause-may_store : goal.store-requires-clause-may_store
store-requires-clause-may_store c =
    own_slot_may c.args.slot c.args.word c.requires.may c.requires.own
    (c.requires.held (field_how c.args.shape c.args.slot c.shapes.ensures c.field.ensures (ap rep_touch c.in-Small.is)))

pub store-requires-in-Tagged-clause-may_store : goal.store-requires-in-Tagged-clause-may_store
store-requires-in-Tagged-clause-may_store c =
    own_slot_may c.args.slot c.args.word c.requires.may c.requires.own
    (c.requires.held (field_how c.args.shape c.args.slot c.shapes.ensures c.field.ensures
    (ap rep_touch c.in-Tagged.is)))

pub returns-in-Wide-clause-stores : goal.returns-in-Wide-clause-stores
returns-in-Wide-clause-stores c =
    own_word_on c.args.slot c.args.word c.write_slot.ensures.written c.requires.may c.requires.own c.requires.laid

pub returns-in-Small-clause-stores : goal.returns-in-Small-clause-stores
returns-in-Small-clause-stores c =
    own_slot_on c.args.slot c.args.word c.store.ensures.stored c.requires.may c.requires.own
    (c.requires.held (field_how c.args.shape c.args.slot c.shapes.ensures c.field.ensures (ap rep_touch c.in-Small.is)))
    c.requires.laid

pub returns-in-Tagged-clause-stores : goal.returns-in-Tagged-clause-stores
returns-in-Tagged-clause-stores c =
    own_slot_on c.args.slot c.args.word c.store-in-Tagged.ensures.stored c.requires.may c.requires.own
    (c.requires.held (field_how c.args.shape c.args.slot c.shapes.ensures c.field.ensures
    (ap rep_touch c.in-Tagged.is)))
    c.requires.laid

pub returns-in-Wide-clause-surely : goal.returns-in-Wide-clause-surely
returns-in-Wide-clause-surely c =
    let at = c.args.object + (plain_head + c.args.slot) in
    how_surely at
    (sym (field_how c.args.shape c.args.slot c.shapes.ensures c.field.ensures (ap rep_touch c.in-Wide.is)))
    (wiped_surely c.write_slot.new.self at)

pub returns-in-Small-clause-surely : goal.returns-in-Small-clause-surely
returns-in-Small-clause-surely c =
    let at = c.args.object + (plain_head + c.args.slot) in
    how_surely at
    (sym (field_how c.args.shape c.args.slot c.shapes.ensures c.field.ensures (ap rep_touch c.in-Small.is)))
    (slot_put_surely c.args.main.now at c.args.word c.store.ensures.stored c.addresses_fit.ensures.heap_counted
    c.requires.laid)

pub returns-in-Tagged-clause-surely : goal.returns-in-Tagged-clause-surely
returns-in-Tagged-clause-surely c =
    let at = c.args.object + (plain_head + c.args.slot) in
    how_surely at
    (sym (field_how c.args.shape c.args.slot c.shapes.ensures c.field.ensures (ap rep_touch c.in-Tagged.is)))
    (slot_put_surely c.args.main.now at c.args.word c.store-in-Tagged.ensures.stored
    c.addresses_fit.ensures.heap_counted
    c.requires.laid)

pub returns-in-Wide-clause-touches : goal.returns-in-Wide-clause-touches
returns-in-Wide-clause-touches c =
    let at = c.args.object + (plain_head + c.args.slot) in
    field_put at c.args.shape c.args.slot c.shapes.ensures c.field.ensures (ap rep_touch c.in-Wide.is)
    (word_put at c.args.word c.write_slot.ensures.written c.requires.within)

pub returns-in-Small-clause-touches : goal.returns-in-Small-clause-touches
returns-in-Small-clause-touches c =
    let at = c.args.object + (plain_head + c.args.slot) in
    field_put at c.args.shape c.args.slot c.shapes.ensures c.field.ensures (ap rep_touch c.in-Small.is)
    (slot_put at c.args.word c.store.ensures.stored c.addresses_fit.ensures.heap_counted
    c.requires.within)

pub returns-in-Tagged-clause-touches : goal.returns-in-Tagged-clause-touches
returns-in-Tagged-clause-touches c =
    let at = c.args.object + (plain_head + c.args.slot) in
    field_put at c.args.shape c.args.slot c.shapes.ensures c.field.ensures (ap rep_touch c.in-Tagged.is)
    (slot_put at c.args.word c.store-in-Tagged.ensures.stored c.addresses_fit.ensures.heap_counted
    c.requires.within)
