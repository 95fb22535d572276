-- The laws, as they were proved.
use Rattle.object_cells.proofs.NewFields.{written_fields_are_new, rest_of_fields_are_new}
use Rattle.object_cells.proofs.Refills.{refills_show}
use Rattle.object_cells.proofs.laws.laws_of_refills.Goals as goal

pub returns : goal.returns
returns c = record { show = refills_show; written = written_fields_are_new; rest = rest_of_fields_are_new }
