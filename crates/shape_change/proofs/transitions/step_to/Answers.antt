-- Nothing is added where the step is found, and else the path with its layout words.
use Rattle.std.proofs.Common.{refl, subst}
use Rattle.shape_tree.specs.Shapes.{shape_path, stepped}
use Rattle.shape_tree.specs.Growth.{IsStep}
use Rattle.shape_tree.proofs.LedPaths.{leads_there}
use Rattle.write_barrier.proofs.StoresOn.{stores_on_itself}
use Rattle.write_barrier.specs.Staying.{rest_stays_itself}
use Rattle.shape_change.proofs.LaidPaths.{path_added}
use Rattle.shape_change.proofs.transitions.step_to.Goals as goal

pub returns-in-Found : goal.returns-in-Found
returns-in-Found c =
    let paths = c.args.main.now.paths in
    let path = stepped (shape_path paths c.args.shape) c.args.field.name c.args.field.rep in
    record {
      beside = rest_stays_itself c.args.main.now.seat;
      young = refl;
      free = refl;
      recorded = refl;
      leads = leads_there paths path c.in-Found.next c.paths_fit.ensures.good
          (subst (IsStep paths path) c.in-Found.is c.requires.step);
      sized = c.requires.sized;
      stay = λ at below. refl;
      stores = stores_on_itself c.args.main.now;
    }

pub returns-in-Missing : goal.returns-in-Missing
returns-in-Missing c = path_added c.requires.sized c.step_path.ensures
