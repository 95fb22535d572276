-- The object is plain where its shape is that of a path.
use Rattle.std.proofs.Common.{refl, arith}
use Rattle.object_graph.specs.Graphs.{as_plain}
use Rattle.mutator.proofs.FoundKinds.{refers_to_no_object, finds_plain, finds_no_plain}
use Rattle.mutator.proofs.lookups.plain.Goals as goal

pub returns-in_default : goal.returns-in_default
returns-in_default c graph value shows stands = (
  refers_to_no_object as_plain c.args.main.now graph value c.object.result c.in_default.not-Some
      (c.object.ensures graph value shows stands),
  refl,
)

pub returns-then-found-lt-PATHS : goal.returns-then-found-lt-PATHS
returns-then-found-lt-PATHS c graph value shows stands =
    (finds_no_plain (c.in-Some.ensures graph value shows stands) (omega arith), refl)

pub returns : goal.returns
returns c graph value shows stands = finds_plain (c.in-Some.ensures graph value shows stands) (omega arith)
