use Rattle.scav_copy.proofs.Moving.{stay_live}
use Rattle.scav_copy.proofs.Redirecting.{as_before, one_origin}
use Rattle.scav_copy.proofs.laws.laws_of_live_slots.Goals as goal

pub returns : goal.returns
returns c = record { as_before = as_before; one_origin = one_origin; stay_live = stay_live }
