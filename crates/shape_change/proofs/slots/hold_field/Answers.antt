-- A variable holds what a field's word stands for, by its representation.
use Rattle.std.proofs.Common.{rules, refl}
use Rattle.std.specs.Int.{w64, cast_signed}
use Rattle.handle_roots.specs.declared.held.Held.TheVariants as held
use Rattle.heap_model.proofs.SlotWords.{field_is_slot}
use Rattle.write_barrier.specs.MutatorState.{heap_of}
use Rattle.write_barrier.specs.Values.{held_of_class}
use Rattle.object_cells.proofs.WordsTold.{raw_field_told, slot_within}
use Rattle.shape_change.proofs.HeldFields.{slot_class, field_by_class}
use Rattle.shape_change.proofs.slots.hold_field.Goals as goal

pub hold_tagged-requires-clause-class : goal.hold_tagged-requires-clause-class
hold_tagged-requires-clause-class c =
    let slot = field_is_slot c.args.rep c.args.word c.requires.field (c.is_raw.ensures.tagged c.if-is_raw.false) in
    let by = slot_class {heap = heap_of c.args.main.now} c.args.word c.addresses_fit.ensures.within
    c.requires.whole.sized slot in
    (by.class, by.is_class, by.bits)

pub hold_tagged-requires-clause-within : goal.hold_tagged-requires-clause-within
hold_tagged-requires-clause-within c = λ at refers.
    slot_within c.args.word at
    (field_is_slot c.args.rep c.args.word c.requires.field (c.is_raw.ensures.tagged c.if-is_raw.false)) refers

pub returns-then-is_raw : goal.returns-then-is_raw
returns-then-is_raw c value shows =
    let raw = c.is_raw.ensures.raw c.if-is_raw.true in
    let value_of = held.Int (cast_signed w64 c.args.word) in
    record {
      held = value_of;
      shows = raw_field_told c.args.word value_of c.args.rep value raw.0 raw.1 refl shows;
      fits = search rules;
      is = c.hold_raw.ensures.held;
      heap = c.hold_raw.ensures.heap;
    }

pub returns-else-is_raw : goal.returns-else-is_raw
returns-else-is_raw c value shows =
    let by = field_by_class c.addresses_fit.ensures.within c.requires.whole.sized
    (c.is_raw.ensures.tagged c.if-is_raw.false) shows in
    record {
      held = held_of_class (heap_of c.args.main.now) by.class;
      shows = by.shows;
      fits = c.hold_tagged.ensures.fits by.class by.is_class by.bits;
      is = c.hold_tagged.ensures.held by.class by.is_class by.bits;
      heap = c.hold_tagged.ensures.heap by.class by.is_class by.bits;
    }
