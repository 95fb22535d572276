-- The slot is filled once the words of a box are used.
use Rattle.std.proofs.Common.{ℕ, ◌+◌, sym, subst}
use Rattle.object_cells.specs.Contents.{filling_at}
use Rattle.object_cells.specs.CycleChanges.{MayFillSlot}
use Rattle.object_cells.specs.declared.content.SlotContent.{SlotContent}
use Rattle.object_cells.specs.declared.content.SlotWrite.{SlotWrite}
use Rattle.list_store.proofs.PutsInCycle.{may_fill_used}
use Rattle.list_store.proofs.putting.fill_slot.Goals as goal

pub fill-requires-clause-may : goal.fill-requires-clause-may
fill-requires-clause-may c =
    let old = c.args.main.now in
    let slot : ℕ = c.args.store + c.args.offset in
    may_fill_used old c.filling_of.new.main slot c.in_ok-filling.filling c.in_ok-filling.ensures.allocates
    (subst (λ (fill : SlotWrite). MayFillSlot old slot fill) (sym c.in_ok-filling.ensures.filling)
    (subst (λ (holds : SlotContent). MayFillSlot old slot (filling_at old slot holds)) (sym c.content_for.ensures)
    c.requires.may))
