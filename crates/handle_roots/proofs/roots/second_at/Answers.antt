use Rattle.std.proofs.Common.{arith}
use Rattle.handle_roots.proofs.RootWords.{root_before_layouts, layouts_start_most}
use Rattle.handle_roots.proofs.roots.second_at.Goals as goal

pub overflow_add-result : goal.overflow_add-result
overflow_add-result c =
    let before = root_before_layouts c.args.regions.now c.args.variable c.requires in
    let most = layouts_start_most c.args.regions.now c.sizes_fit.ensures in
    omega arith

pub returns-clause-within : goal.returns-clause-within
returns-clause-within c =
    let before = root_before_layouts c.args.regions.now c.args.variable c.requires in
    omega arith
