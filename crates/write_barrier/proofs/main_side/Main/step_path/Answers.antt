-- Layout words change nothing that the mutator keeps.
use Rattle.write_barrier.proofs.AddedPaths.{told_again}
use Rattle.write_barrier.proofs.main_side.Main.step_path.Goals as goal

pub invariant_of-self : goal.invariant_of-self
invariant_of-self c =
    told_again c.self.inside c.put_new_layouts.new.seat c.step-next.new.self c.self.invariant
    c.put_new_layouts.ensures.layouts c.put_new_layouts.ensures.changes
