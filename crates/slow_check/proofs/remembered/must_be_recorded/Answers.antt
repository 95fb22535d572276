use Rattle.std.proofs.Common.{sym, ◌∙◌}
use Rattle.std.proofs.lemmas.Bool.{false≢true}
use Rattle.heap_model.specs.Images.{image_heap}
use Rattle.slow_check.proofs.RecordedSlots.{slot_is_over, slot_where}
use Rattle.slow_check.proofs.remembered.must_be_recorded.Goals as goal

-- no cell is over the address
pub returns-in_default : goal.returns-in_default
returns-in_default c = (
  λ wrong. absurd (false≢true wrong),
  λ must. absurd (c.in_default.ensures must.0.cell (slot_is_over must.0)),
)

-- the cell over the address has no slot there
pub returns-else-is_scavenge_slot : goal.returns-else-is_scavenge_slot
returns-else-is_scavenge_slot c = (
  λ wrong. absurd (false≢true wrong),
  λ must. absurd (false≢true (sym c.if-is_scavenge_slot.false ∙ c.is_scavenge_slot.ensures.1
      ((slot_where (image_heap c.args.image.now) c.args.at c.in-Some.cell c.requires.rows c.requires.page
      c.in-Some.ensures).1 must.0))),
)

pub returns-then-is_scavenge_slot : goal.returns-then-is_scavenge_slot
returns-then-is_scavenge_slot c =
    let slot = (slot_where (image_heap c.args.image.now) c.args.at c.in-Some.cell c.requires.rows c.requires.page
    c.in-Some.ensures).0 (c.is_scavenge_slot.ensures.0 c.if-is_scavenge_slot.true) in (
      λ young. (slot, c.refers_to_young.ensures.0 young),
      λ must. c.refers_to_young.ensures.1 must.1,
    )
