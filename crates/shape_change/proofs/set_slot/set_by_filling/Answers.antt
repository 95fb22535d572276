-- A slot is filled once the words of its box are used.
use Rattle.std.proofs.Common.{sym, subst, rules}
use Rattle.object_cells.specs.declared.content.SlotWrite.{SlotWrite}
use Rattle.object_cells.specs.CycleChanges.{MayFillSlot}
use Rattle.shape_change.specs.Places.{place_at}
use Rattle.shape_change.proofs.set_slot.set_by_filling.Goals as goal

pub fill-requires-clause-may : goal.fill-requires-clause-may
fill-requires-clause-may c =
    let at = place_at c.args.object c.args.place in
    subst (λ (write : SlotWrite). MayFillSlot c.filling_of.new.main at write) (sym c.in_ok-filling.ensures.filling)
    (c.requires.may c.filling_of.new.main (search rules))
