-- The laws hold.
use Rattle.eden_copies.proofs.AllTogether.{workers_copy_once}
use Rattle.eden_copies.proofs.PutTogether.{workers_are_copying}
use Rattle.eden_copies.proofs.laws.laws_of_workers.Goals as goal

pub returns : goal.returns
returns c = record { once = workers_copy_once; copying = workers_are_copying }
