-- A clone of what stands for no alteration is it.
use Rattle.std.proofs.Common.{ap, ◌∙◌}
use Rattle.std.specs.Prelude.{replicate}
use Rattle.shape_tree.specs.Nodes.{alteration_entries}
use Rattle.shape_tree.proofs.tree.no_alterations.Goals as goal

pub returns : goal.returns
returns c =
    c.in_ok-cache.ensures.items_if_clones_equal (λ y is. is)
    ∙ ap (replicate alteration_entries) c.empty-empty.ensures
