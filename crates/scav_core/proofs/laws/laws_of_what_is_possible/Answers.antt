use Rattle.scav_core.proofs.Enabling.{headers_may, bodies_may, redirects_may, todo_may}
use Rattle.scav_core.proofs.laws.laws_of_what_is_possible.Goals as goal

pub returns : goal.returns
returns c = record { headers = headers_may; bodies = bodies_may; redirects = redirects_may; todo = todo_may }
