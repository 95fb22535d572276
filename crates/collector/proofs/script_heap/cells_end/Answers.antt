use Rattle.std.proofs.Common.{arith}
use Rattle.page_space.proofs.Starts.{layouts_start_is}
use Rattle.collector.proofs.script_heap.cells_end.Goals as goal

pub overflow_sub-result : goal.overflow_sub-result
overflow_sub-result c =
    omega (arith, c.layout_at.ensures.at, c.variables.ensures, layouts_start_is c.args.regions)

pub returns : goal.returns
returns c = omega (arith, c.layout_at.ensures.at, c.variables.ensures, layouts_start_is c.args.regions)
