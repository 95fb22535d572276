-- The object at an address that stands for a key.
use Rattle.std.proofs.Common.{subst}
use Rattle.object_cells.specs.HeldValues.{IsReachedValue}
use Rattle.mutator.specs.Reading.{StandsFor}
use Rattle.mutator.proofs.HeldValues.{holds_object}
use Rattle.mutator.proofs.lookups.key.Goals as goal

pub returns-in-Ref : goal.returns-in-Ref
returns-in-Ref c main graph value stands =
    let at = c.in-Ref.at in
    let one = subst (λ h. StandsFor main graph value h) c.in-Ref.is stands in
    let holds = holds_object at value one.is.shows in
    record {
      number = holds.number;
      is = holds.is;
      stands = record { place = holds.place; reached = subst (IsReachedValue graph) holds.is one.is.reached };
    }
