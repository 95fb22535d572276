use Rattle.std.proofs.Common.{sym, ◌∙◌}
use Rattle.scav_core.specs.Worlds.{fixed_of}
use Rattle.scav_core.proofs.Tested.{slot_tested}
use Rattle.scav_core.proofs.places.is_copied_slot.Goals as goal

pub returns-in-Some : goal.returns-in-Some
returns-in-Some c =
    slot_tested (fixed_of c.args.world.now) c.args.home c.args.slot c.in-Some.cell c.is_scavenge_slot.result
    c.if-slot-home.false (sym c.cell_before.ensures ∙ c.in-Some.is) c.is_scavenge_slot.ensures
