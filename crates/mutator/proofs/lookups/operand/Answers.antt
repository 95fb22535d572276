-- A literal stands for itself.
use Rattle.std.proofs.Common.{ℤ, w64, SFits, rules, sym, ap, subst}
use Rattle.std.proofs.lemmas.Int.{to_z-of_z}
use Rattle.object_graph.specs.declared.value.Value.TheVariants.{Int, Undefined}
use Rattle.object_graph.specs.Graphs.{value_of}
use Rattle.handle_roots.specs.declared.held.Held.TheVariants as held
use Rattle.heap_model.specs.Showing.{ShowsHeld}
use Rattle.mutator.specs.Reading.{StandsFor}
use Rattle.mutator.proofs.lookups.operand.Goals as goal

pub returns-in-Int-clause-found : goal.returns-in-Int-clause-found
returns-in-Int-clause-found c graph shows =
    let v = c.in-Int.v in
    let fits : SFits w64 v = search rules in
    let P : ℤ → Type 0 = λ w. StandsFor c.args.main.now graph (Int v) (held.Int w) in (
      Int v,
      ap (value_of graph) c.in-Int.is,
      subst P (sym (to_z-of_z w64 v fits)) (record {
        is = record { shows = ShowsHeld.integer v; reached = tt };
        fits = fits;
      }),
    )

pub returns-in-Undefined-clause-found : goal.returns-in-Undefined-clause-found
returns-in-Undefined-clause-found c graph shows = (
  Undefined,
  ap (value_of graph) c.in-Undefined.is,
  record { is = record { shows = ShowsHeld.undefined; reached = tt }; fits = tt },
)
