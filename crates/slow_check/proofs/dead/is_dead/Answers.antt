use Rattle.std.proofs.Common.{refl}
use Rattle.heap_model.specs.Images.{image_heap}
use Rattle.slow_check.proofs.NamedCells.{dead_where, dead_under_none}
use Rattle.slow_check.proofs.dead.is_dead.Goals as goal

pub returns-in-Some : goal.returns-in-Some
returns-in-Some c =
    let same = dead_where (image_heap c.args.image.now) c.args.at c.in-Some.cell c.requires.rows c.in-Some.ensures in (
      λ yes. same.0 (c.is_dead_cell.ensures.0 yes),
      λ dead. c.is_dead_cell.ensures.1 (same.1 dead),
    )

pub returns-in-None : goal.returns-in-None
returns-in-None c =
    (λ yes. dead_under_none (image_heap c.args.image.now) c.args.at c.in-None.ensures, λ dead. refl)
