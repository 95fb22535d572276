use Rattle.free_runs.specs.Standing.{FitsInNone}
use Rattle.free_runs.proofs.page_among.Given as goal

abbrev pub invariant-loop-page : goal.invariant-loop-page
invariant-loop-page l = FitsInNone l.rows l.n l.from l.page
