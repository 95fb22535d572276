-- A clone of what stands for no cached is it.
use Rattle.std.proofs.Common.{ap, ◌∙◌}
use Rattle.std.specs.Prelude.{replicate}
use Rattle.shape_tree.specs.Nodes.{cache_entries}
use Rattle.shape_tree.proofs.tree.empty_cache.Goals as goal

pub returns : goal.returns
returns c =
    c.in_ok-cache.ensures.items_if_clones_equal (λ y is. is)
    ∙ ap (replicate cache_entries) c.empty-empty.ensures
