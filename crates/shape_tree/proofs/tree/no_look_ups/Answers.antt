-- A clone of what stands for no look-up is it.
use Rattle.std.proofs.Common.{ap, ◌∙◌}
use Rattle.std.specs.Prelude.{replicate}
use Rattle.shape_tree.specs.Nodes.{look_up_entries}
use Rattle.shape_tree.proofs.tree.no_look_ups.Goals as goal

pub returns : goal.returns
returns c =
    c.in_ok-cache.ensures.items_if_clones_equal (λ y is. is)
    ∙ ap (replicate look_up_entries) c.none-none.ensures
