-- The laws, as they were proved.
use Rattle.object_cells.proofs.RefilledHeaps.{slots_refill, written_fields_show}
use Rattle.object_cells.proofs.laws.laws_of_slots.Goals as goal

pub returns : goal.returns
returns c = record { refill = slots_refill; show = written_fields_show }
