-- The layout of a path's shape is that of its node.
use Rattle.std.proofs.Common.{ap, sym, ◌∙◌, ◌≤◌, subst, arith, rules}
use Rattle.tagged_word.specs.Layouts.{layout_bits, IsLayout}
use Rattle.heap_command.specs.Commands.{cap_most}
use Rattle.shape_tree.specs.Shapes.{IsPathShape, shape_path}
use Rattle.shape_tree.proofs.PathLayouts.{layout_word-path, IsLayout-path}
use Rattle.shape_tree.proofs.tree.ShapeTree.layout.Goals as goal

pub returns-in-None-clause-word : goal.returns-in-None-clause-word
returns-in-None-clause-word c =
    let is : IsPathShape c.args.self.now c.args.shape = search (arith, rules) in
    ap layout_bits c.node.ensures.layout ∙ sym (layout_word-path c.args.self.now c.args.shape is)

pub returns-in-None-clause-is : goal.returns-in-None-clause-is
returns-in-None-clause-is c =
    let path = shape_path c.args.self.now c.args.shape in
    let capped : path.cap ≤ cap_most = omega (arith, c.node.ensures.cap, c.node.ensures.capped) in
    subst IsLayout (sym c.node.ensures.layout) (IsLayout-path path capped)
