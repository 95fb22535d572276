-- The object is a weak map where its shape is that of weak maps.
use Rattle.std.proofs.Common.{refl, arith}
use Rattle.object_graph.specs.Graphs.{as_weak}
use Rattle.mutator.proofs.FoundKinds.{refers_to_no_object, finds_weak, finds_no_weak}
use Rattle.mutator.proofs.lookups.find_weak_map.Goals as goal

pub returns-in_default : goal.returns-in_default
returns-in_default c graph value shows stands = (
  refers_to_no_object as_weak c.args.main.now graph value c.object.result c.in_default.not-Some
      (c.object.ensures graph value shows stands),
  refl,
)

pub returns-then-found-ne-WEAK : goal.returns-then-found-ne-WEAK
returns-then-found-ne-WEAK c graph value shows stands =
    (finds_no_weak (c.in-Some.ensures graph value shows stands) (λ is. omega (arith, is)), refl)

pub returns : goal.returns
returns c graph value shows stands = finds_weak (c.in-Some.ensures graph value shows stands) (omega arith)
