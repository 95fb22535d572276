-- What is given was looked at.
use Rattle.marking_tests.proofs.cases.marks.Goals as goal

pub mark_given-requires-clause-seen : goal.mark_given-requires-clause-seen
mark_given-requires-clause-seen g c = c.give_all.ensures.seen c.if-not-give_all.false
