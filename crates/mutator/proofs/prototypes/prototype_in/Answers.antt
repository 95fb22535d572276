-- `undefined` gives no prototype, and a plain object is one.
use Rattle.std.proofs.Common.{None, ap, inr}
use Rattle.object_graph.specs.Prototypes.{proto_for}
use Rattle.mutator.proofs.GivenProtos.{found_gives, none_gives, none_found}
use Rattle.mutator.proofs.HeldValues.{holds_undefined}
use Rattle.mutator.proofs.prototypes.prototype_in.Goals as goal

pub returns-in-Undefined : goal.returns-in-Undefined
returns-in-Undefined c graph value shows stands = (
  None,
  ap (proto_for graph.objects)
      (holds_undefined c.args.held value (inr c.in-Undefined.is) stands.is.shows),
  tt,
)

pub returns-in_ok-found-in_default : goal.returns-in_ok-found-in_default
returns-in_ok-found-in_default c graph value shows stands =
    found_gives (c.in_ok-found-in_default.ensures graph value shows stands)

pub returns-in_err-found-in_default : goal.returns-in_err-found-in_default
returns-in_err-found-in_default c graph value shows stands =
    let (none, of) = c.in_err-found-in_default.ensures graph value shows stands in
    none_found c.args.main.now graph value c.in_err-found-in_default.field-0.0 c.from_residual.result
    (none_gives graph c.args.held value c.in_default.not-Undefined stands.is.shows none) of c.from_residual.ensures.1
