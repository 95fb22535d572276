use Rattle.std.proofs.Common.{sym, ◌∙◌}
use Rattle.core_parts.proofs.Joining.{in_found, found_in}
use Rattle.mark_core.proofs.lists.has.Goals as goal

pub returns : goal.returns
returns c = (
  λ t. in_found c.args.list.now c.args.at (sym c.is_in.ensures ∙ t),
  λ there. c.is_in.ensures ∙ found_in c.args.list.now c.args.at there,
)
