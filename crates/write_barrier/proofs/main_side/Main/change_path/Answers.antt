-- Layout words change nothing that the mutator keeps.
use Rattle.write_barrier.proofs.AddedPaths.{told_again}
use Rattle.write_barrier.proofs.main_side.Main.change_path.Goals as goal

pub invariant_of-self-2 : goal.invariant_of-self-2
invariant_of-self-2 c =
    told_again c.self.inside c.put_new_layouts.new.seat c.change.new.self c.self.invariant
    c.put_new_layouts.ensures.layouts c.put_new_layouts.ensures.changes
