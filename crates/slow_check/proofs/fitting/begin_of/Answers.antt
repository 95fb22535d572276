use Rattle.std.proofs.Common.{sym, ◌∙◌}
use Rattle.std.proofs.lemmas.Bool.{false≢true}
use Rattle.slow_check.specs.DeadCells.{BeginsAt}
use Rattle.slow_check.proofs.fitting.begin_of.Goals as goal

pub returns-then-is_dead : goal.returns-then-is_dead
returns-then-is_dead c = BeginsAt.dead (c.is_dead.ensures.0 c.if-is_dead.true)

pub returns-else-is_dead : goal.returns-else-is_dead
returns-else-is_dead c =
    BeginsAt.alive (λ dead. false≢true (sym c.if-is_dead.false ∙ c.is_dead.ensures.1 dead))
