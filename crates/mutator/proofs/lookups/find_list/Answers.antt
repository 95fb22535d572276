-- The object is a list where its shape is that of lists.
use Rattle.std.proofs.Common.{refl, arith}
use Rattle.object_graph.specs.Graphs.{as_list}
use Rattle.mutator.proofs.FoundKinds.{refers_to_no_object, finds_list, finds_no_list}
use Rattle.mutator.proofs.lookups.find_list.Goals as goal

pub returns-in_default : goal.returns-in_default
returns-in_default c graph value shows stands = (
  refers_to_no_object as_list c.args.main.now graph value c.object.result c.in_default.not-Some
      (c.object.ensures graph value shows stands),
  refl,
)

pub returns-then-found-ne-LIST : goal.returns-then-found-ne-LIST
returns-then-found-ne-LIST c graph value shows stands =
    (finds_no_list (c.in-Some.ensures graph value shows stands) (λ is. omega (arith, is)), refl)

pub returns : goal.returns
returns c graph value shows stands = finds_list (c.in-Some.ensures graph value shows stands) (omega arith)
