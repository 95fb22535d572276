-- The look-up finds each step, and nothing else.
use Rattle.std.proofs.Common.{sym, ◌∙◌}
use Rattle.shape_tree.proofs.SoughtSteps.{step_shown}
use Rattle.shape_tree.proofs.tree.ShapeTree.child_in_table.Goals as goal

pub returns : goal.returns
returns c =
    step_shown c.self.inside c.args.self.now c.args.shape c.args.field c.copied.result c.self.invariant
    c.self.view_is c.requires (sym (c.copied.ensures ∙ c.get.ensures.value))
