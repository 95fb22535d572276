-- One root more.
use Rattle.std.proofs.Common.{arith, ap, sym, ◌∙◌, ◌++◌, ◌∷◌, [], map}
use Rattle.std.specs.List.{range_with_len}
use Rattle.std.proofs.lemmas.List.FromFn.{map-range_with_len_more}
use Rattle.shape_tree.specs.Nodes.{root_node_of}
use Rattle.shape_tree.proofs.tree.root_nodes.Goals as goal

pub loop-cap-preserved : goal.loop-cap-preserved
loop-cap-preserved c =
    let before = c.loop-cap.invariant in
    let pushed = c.push_reserved.ensures in
    record {
      roots = pushed.items ∙ ap (λ nodes. nodes ++ c.root_node.result ∷ []) before.roots
          ∙ ap (λ node. map root_node_of (range_with_len 0 c.loop-cap.cap) ++ node ∷ []) c.root_node.ensures
          ∙ sym (map-range_with_len_more root_node_of 0 c.loop-cap.cap c.loop-cap.cap (omega arith));
      len = omega (arith, pushed.len, before.len);
      room = omega (arith, pushed.capacity, before.room);
    }
