use Rattle.std.proofs.Common.{sym, ◌∙◌}
use Rattle.std.proofs.lemmas.Bool.{false≢true}
use Rattle.heap_model.specs.Images.{image_heap}
use Rattle.live_cells.proofs.DeadWords.{named_is_owned}
use Rattle.slow_check.proofs.NamedCells.{named_where}
use Rattle.slow_check.proofs.dead.is_named.Goals as goal

pub returns-then-is_owned : goal.returns-then-is_owned
returns-then-is_owned c =
    rw c.is_some.ensures
    (named_where (image_heap c.args.image.now) c.args.cell c.naming_slot.result c.requires.stands
    (c.is_owned.ensures.0 c.if-is_owned.true) c.naming_slot.ensures)

-- no other cell is named
pub returns-else-is_owned : goal.returns-else-is_owned
returns-else-is_owned c = (
  λ wrong. absurd (false≢true wrong),
  λ named. absurd (false≢true (sym c.if-is_owned.false
      ∙ c.is_owned.ensures.1 (named_is_owned c.requires.stands named))),
)
