-- The layout words of the first paths are there, and the others are 0.
use Rattle.write_barrier.proofs.AddedPaths.{first_below}
use Rattle.write_barrier.proofs.paths.put_new_layouts.Goals as goal

pub put_layouts-requires-clause-layouts : goal.put_layouts-requires-clause-layouts
put_layouts-requires-clause-layouts c =
    first_below c.args.seat.now c.args.shapes.now c.args.before c.requires.layouts
