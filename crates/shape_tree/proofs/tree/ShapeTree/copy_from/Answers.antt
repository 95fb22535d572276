-- A copy of a tree is one.
use Rattle.std.proofs.Common.{◌≡◌, ◌∙◌, length, ap, arith}
use Rattle.shape_tree.proofs.FirstTrees.{copied_tree}
use Rattle.shape_tree.proofs.tree.ShapeTree.copy_from.Goals as goal

pub invariant_of-self : goal.invariant_of-self
invariant_of-self c =
    let other = c.other.inside in
    let fields : c.copy_items.new.items.items ≡ other.fields.items =
    c.copy_items.ensures.copied ∙ c.deref.ensures.value in
    let nodes : c.copy_items-2.new.items.items ≡ other.nodes.items =
    c.copy_items-2.ensures.copied ∙ c.deref-2.ensures.value in
    let cache : c.copy_items-3.new.items.items ≡ other.cache.items =
    c.copy_items-3.ensures.copied ∙ c.deref-3.ensures.value in
    let alterations : c.copy_items-4.new.items.items ≡ other.alterations.items =
    c.copy_items-4.ensures.copied ∙ c.deref-4.ensures.value in
    let look_ups : c.copy_items-5.new.items.items ≡ other.look_ups.items =
    c.copy_items-5.ensures.copied ∙ c.deref-5.ensures.value in
    let row_count = ap length fields in
    let node_count = ap length nodes in
    let own = c.self.invariant.room in
    let others = c.other.invariant.room in
    copied_tree other
    (record {
      fields = c.copy_items.new.items;
      nodes = c.copy_items-2.new.items;
      steps = c.copy_steps.new.steps;
      cache = c.copy_items-3.new.items;
      alterations = c.copy_items-4.new.items;
      look_ups = c.copy_items-5.new.items;
    })
    c.other.invariant fields nodes c.copy_steps.ensures.copied cache alterations look_ups
    (record {
      fields = omega (arith, own.fields, c.copy_items.ensures.room);
      nodes = omega (arith, own.nodes, c.copy_items-2.ensures.room);
      steps = omega (arith, own.steps, c.copy_steps.ensures.room);
      short = omega (arith, others.short, row_count, node_count);
      few = omega (arith, others.few, node_count, c.copy_steps.ensures.len);
    })
