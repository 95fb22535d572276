-- The first tree is one.
use Rattle.std.proofs.Common.{◌≡◌, ◌∙◌, length, ap, arith}
use Rattle.std.proofs.lemmas.List.FromFn.{length-map-range_with_len}
use Rattle.shape_tree.specs.Nodes.{root_node_of}
use Rattle.shape_tree.proofs.FirstTrees.{first_tree}
use Rattle.shape_tree.proofs.tree.ShapeTree.new.Goals as goal

pub invariant_of-result : goal.invariant_of-result
invariant_of-result c =
    let fields = c.in_ok-fields.ensures in
    let nodes = c.in_ok-nodes.ensures in
    let steps = c.in_ok-steps.ensures in
    let long : length c.in_ok-nodes.nodes.items ≡ 9 =
    ap length nodes.roots ∙ length-map-range_with_len root_node_of 0 9 in
    let no_rows : length c.in_ok-fields.fields.items ≡ 0 = ap length fields.items in
    let no_steps : length c.in_ok-steps.steps.entries ≡ 0 = ap length steps.empty in
    first_tree (record {
      fields = c.in_ok-fields.fields;
      nodes = c.in_ok-nodes.nodes;
      steps = c.in_ok-steps.steps;
      cache = c.in_ok-cache.cache;
      alterations = c.in_ok-alterations.alterations;
      look_ups = c.in_ok-look_ups.look_ups;
    }) fields.items
    nodes.roots steps.empty c.in_ok-cache.ensures c.in_ok-alterations.ensures c.in_ok-look_ups.ensures
    (record {
      fields = omega (arith, fields.exact);
      nodes = omega (arith, nodes.room);
      steps = omega (arith, steps.spare, no_steps);
      short = omega (arith, no_rows);
      few = omega (arith, no_steps);
    })
