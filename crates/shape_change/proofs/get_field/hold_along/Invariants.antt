-- No object before has the field, and nothing has changed.
use Rattle.std.proofs.Common.{◌≡◌}
use Rattle.shape_change.proofs.FieldsAlong.{IsSoughtAt}
use Rattle.shape_change.proofs.get_field.hold_along.Given as goal

abbrev pub invariant-loop-turn : goal.invariant-loop-turn
invariant-loop-turn l = record {
  same : l.main ≡ l.fn.main;
  from : IsSoughtAt l.fn.main l.first l.name l.object l._turn;
}
