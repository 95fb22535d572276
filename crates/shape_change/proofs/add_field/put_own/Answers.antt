-- A slot's word is stored, a raw one is no slot's.
use Rattle.std.proofs.Common.{◌+◌, ◌<◌, length, sym, subst, ap, arith}
use Rattle.write_barrier.specs.Seats.{heap_words}
use Rattle.page_space.proofs.Starts.{marks_start_is}
use Rattle.write_barrier.specs.MutatorState.{Mutator}
use Rattle.write_barrier.specs.Storing.{StoresOn}
use Rattle.write_barrier.specs.SureStores.{StoresSurely}
use Rattle.write_barrier.proofs.SlotStores.{slot_stores_on, word_stores_on}
use Rattle.write_barrier.proofs.SureStores.{slot_surely, wiped_surely}
use Rattle.object_cells.specs.declared.content.SlotContent.{SlotContent}
use Rattle.shape_change.specs.Additions.{MayPutContent}
use Rattle.heap_model.specs.Remembered.{Touch}
use Rattle.write_barrier.specs.Recording.{Touches, touched_one}
use Rattle.object_cells.specs.Made.{slot_touch}
use Rattle.shape_change.proofs.SlotTouches.{word_put, slot_put}
use Rattle.shape_change.proofs.add_field.put_own.Goals as goal

pub store-requires-clause-may_store : goal.store-requires-clause-may_store
store-requires-clause-may_store c =
    subst (λ (h : SlotContent). MayPutContent c.args.main.now (c.args.object + c.args.offset) h) c.in-Tagged.is
    c.requires.may

pub store-requires-clause-within : goal.store-requires-clause-within
store-requires-clause-within c = omega (arith, c.requires.within, marks_start_is c.args.main.now.seat.space)

pub write_slot-requires-clause-may_store : goal.write_slot-requires-clause-may_store
write_slot-requires-clause-may_store c =
    subst (λ (h : SlotContent). MayPutContent c.args.main.now (c.args.object + c.args.offset) h) c.in-Raw.is
    c.requires.may

pub write_slot-requires-clause-within : goal.write_slot-requires-clause-within
write_slot-requires-clause-within c = omega (arith, c.requires.within, marks_start_is c.args.main.now.seat.space)

pub returns-in-Tagged-clause-stores : goal.returns-in-Tagged-clause-stores
returns-in-Tagged-clause-stores c =
    let at = c.args.object + c.args.offset in
    let may = subst (λ (h : SlotContent). MayPutContent c.args.main.now at h) c.in-Tagged.is c.requires.may in
    subst (StoresOn c.args.main.now) (sym c.store.ensures.stored)
    (slot_stores_on at c.in-Tagged.word.0 c.requires.within may)

pub returns-in-Tagged-clause-surely : goal.returns-in-Tagged-clause-surely
returns-in-Tagged-clause-surely c =
    let at = c.args.object + c.args.offset in
    let below : at < length (heap_words c.args.main.now.seat) =
    omega (arith, c.requires.within, marks_start_is c.args.main.now.seat.space, c.addresses_fit.ensures.heap_counted) in
    subst (λ (how : Touch). StoresSurely c.store.new.self (touched_one how at)) (sym (ap slot_touch c.in-Tagged.is))
    (subst (λ (main : Mutator). StoresSurely main (touched_one Touch.Stored at)) (sym c.store.ensures.stored)
    (slot_surely c.args.main.now at c.in-Tagged.word.0 below))

pub returns-in-Raw-clause-stores : goal.returns-in-Raw-clause-stores
returns-in-Raw-clause-stores c =
    let at = c.args.object + c.args.offset in
    let may = subst (λ (h : SlotContent). MayPutContent c.args.main.now at h) c.in-Raw.is c.requires.may in
    subst (StoresOn c.args.main.now) (sym c.write_slot.ensures.written)
    (word_stores_on at c.in-Raw.word c.requires.within may)

pub returns-in-Raw-clause-surely : goal.returns-in-Raw-clause-surely
returns-in-Raw-clause-surely c =
    let at = c.args.object + c.args.offset in
    subst (λ (how : Touch). StoresSurely c.write_slot.new.self (touched_one how at)) (sym (ap slot_touch c.in-Raw.is))
    (wiped_surely c.write_slot.new.self at)

pub returns-in-Tagged-clause-touches : goal.returns-in-Tagged-clause-touches
returns-in-Tagged-clause-touches c =
    let at = c.args.object + c.args.offset in
    subst (λ (how : Touch). Touches c.args.main.now c.store.new.self (touched_one how at))
    (sym (ap slot_touch c.in-Tagged.is))
    (slot_put at c.in-Tagged.word.0 c.store.ensures.stored c.addresses_fit.ensures.heap_counted
    (omega (arith, c.requires.within, marks_start_is c.args.main.now.seat.space)))

pub returns-in-Raw-clause-touches : goal.returns-in-Raw-clause-touches
returns-in-Raw-clause-touches c =
    let at = c.args.object + c.args.offset in
    subst (λ (how : Touch). Touches c.args.main.now c.write_slot.new.self (touched_one how at))
    (sym (ap slot_touch c.in-Raw.is)) (word_put at c.in-Raw.word c.write_slot.ensures.written
    (omega (arith, c.requires.within, marks_start_is c.args.main.now.seat.space)))
