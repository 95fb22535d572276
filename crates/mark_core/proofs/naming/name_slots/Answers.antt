use Rattle.mark_core.proofs.Passing.{named_short}
use Rattle.mark_core.proofs.naming.name_slots.Goals as goal

pub returns-then-is_in_page-clause-fits : goal.returns-then-is_in_page-clause-fits
returns-then-is_in_page-clause-fits c =
    named_short c.args.start c.args.layout c.args.long c.requires
    (cc (c.known_size.ensures, c.is_in_page.ensures, c.if-is_in_page.true))
