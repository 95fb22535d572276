use Rattle.std.proofs.Common.{[], ◌∙◌}
use Rattle.ideal_parts.proofs.PathLists.{made_more}
use Rattle.ideal_parts.proofs.paths.empty_paths.Goals as goal

pub loop-cap-preserved : goal.loop-cap-preserved
loop-cap-preserved c =
    made_more (λ cap. record { cap = cap; fields = [] }) c.loop-cap.cap c.loop-cap.paths.items c.push.new.self.items
    c.loop-cap.invariant (rw (c.from_vec-fields.ensures ∙ c.new.ensures.items) at c.in_ok-push.ensures.items)
