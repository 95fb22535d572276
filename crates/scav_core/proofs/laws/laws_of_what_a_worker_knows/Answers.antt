use Rattle.scav_core.proofs.Concluding.{homes_read, todo_reads}
use Rattle.scav_core.proofs.OwnHomes.{offered_may, words_may, cells_may, own_homes_stay, jobs_go_on, whole_has_size}
use Rattle.scav_core.proofs.laws.laws_of_what_a_worker_knows.Goals as goal

pub returns : goal.returns
returns c = record {
  homes = homes_read;
  todo = todo_reads;
  offered = offered_may;
  words = words_may;
  cells = cells_may;
  own = own_homes_stay;
  jobs = jobs_go_on;
  sizes = whole_has_size;
}
