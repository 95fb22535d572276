-- A box that is made is young where a cycle is open, so the pages stay, and the slot may be stored to as before.
use Rattle.std.proofs.Common.{ℕ, ◌+◌, sym, subst, arith, to_z, of_z, w64}
use Rattle.mark_world.specs.declared.event.Event.TheVariants as event
use Rattle.heap_model.specs.Slots.{reference_word}
use Rattle.write_barrier.specs.Marking.{MayPut}
use Rattle.write_barrier.specs.MutatorState.{Mutator}
use Rattle.object_cells.specs.CycleChanges.{MayFillSlot}
use Rattle.object_cells.specs.Contents.{IsBeforeLayouts}
use Rattle.object_cells.proofs.RestOfWords.{layouts_before_marks}
use Rattle.object_cells.proofs.YoungStores.{box_puts_young, may_put_stays}
use Rattle.object_cells.proofs.boxes.fill.Goals as goal

pub store-requires-in-NewBox-clause-may_store : goal.store-requires-in-NewBox-clause-may_store
store-requires-in-NewBox-clause-may_store c =
    let main : Mutator = c.args.main.now in
    let slot : ℕ = c.args.cell + c.args.offset in
    let at : ℕ = c.in-NewBox.at in
    let v = to_z w64 (of_z w64 c.in-NewBox.v) in
    let may = subst (MayFillSlot main slot) c.in-NewBox.is c.requires.may in
    let room = subst (IsBeforeLayouts main.seat.space) c.in-NewBox.is c.requires.room in
    subst (λ word. MayPut c.make_box.new.main slot (event.StoreSlot slot word)) (sym c.reference.ensures)
    (subst (λ (new : Mutator). MayPut new slot (event.StoreSlot slot (reference_word at)))
    (sym c.make_box.ensures.made)
    (may_put_stays (box_puts_young at v may.0 (omega (arith, room))) slot
    (event.StoreSlot slot (reference_word at)) may.1))

pub write_slot-requires-in-OldBox-clause-within : goal.write_slot-requires-in-OldBox-clause-within
write_slot-requires-in-OldBox-clause-within c =
    let room = subst (IsBeforeLayouts c.args.main.now.seat.space) c.in-OldBox.is c.requires.room in
    omega (arith, room, layouts_before_marks c.args.main.now.seat.space)
