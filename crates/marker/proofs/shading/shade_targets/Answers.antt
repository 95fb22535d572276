-- Each turn of the loop shades one target more.
use Rattle.std.proofs.Common.{◌∙◌}
use Rattle.mark_laws.specs.Types.{SnapSlot}
use Rattle.marker.specs.Shading.{word_of}
use Rattle.marker.proofs.ShadeAll.{may_later, one_more, shades_on}
use Rattle.marker.proofs.shading.shade_targets.Goals as goal

pub shade_target-requires-clause-may : goal.shade_target-requires-clause-may
shade_target-requires-clause-may c =
    let none : SnapSlot = record { offset = 0; word = 0 } in
    may_later c.args.seat.now c.loop-slot.seat (word_of c.args.slots.now c.loop-slot.slot-index none)
    c.loop-slot.invariant.shades (c.requires.may c.loop-slot.slot-index none c.loop-slot-test.true)

pub loop-slot-preserved : goal.loop-slot-preserved
loop-slot-preserved c =
    let inv = c.loop-slot.invariant in
    record {
      listed = c.shade_target.ensures.listed;
      bound = c.shade_target.ensures.bound ∙ inv.bound;
      shades = shades_on c.args.seat.now c.loop-slot.seat c.shade_target.new.seat inv.shades
          c.shade_target.ensures.shades;
      shaded = one_more c.loop-slot.seat c.shade_target.new.seat c.args.slots.now c.loop-slot.slot-index
          (record { offset = 0; word = 0 }) c.loop-slot-test.true c.shade_target.ensures.shades inv.shaded
          c.shade_target.ensures.shaded;
    }
