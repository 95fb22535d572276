use Rattle.object_graph.specs.Marks.{MarksAlso}
use Rattle.ideal_graph.proofs.Holders.{is_linked_by}
use Rattle.ideal_graph.proofs.ideal.reach.mark_round.Given as goal

abbrev pub invariant-loop-holder : goal.invariant-loop-holder
invariant-loop-holder l = MarksAlso l.marks l.next (is_linked_by l.marks l.objects l.holder)
