use Rattle.std.proofs.Common.{sym, ◌∙◌}
use Rattle.std.proofs.lemmas.Bool.{false≢true}
use Rattle.heap_model.specs.Images.{image_heap}
use Rattle.live_cells.specs.Exact.{IsNamedByObject}
use Rattle.slow_check.proofs.NamedCells.{unnamed_where}
use Rattle.slow_check.proofs.dead.is_dead_cell.Goals as goal

pub returns-then-is_object : goal.returns-then-is_object
returns-then-is_object c = (
  λ wrong. absurd (false≢true wrong),
  λ dead. absurd (dead.0 (sym c.is_object.ensures ∙ c.if-is_object.true)),
)

pub returns : goal.returns
returns c =
    let same = unnamed_where (IsNamedByObject (image_heap c.args.image.now) c.args.cell.at) c.is_named.result
    c.is_named.ensures in (
      λ yes. (λ object. false≢true (sym c.if-is_object.false ∙ c.is_object.ensures ∙ object), same.0 yes),
      λ dead. same.1 dead.1,
    )
