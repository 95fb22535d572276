use Rattle.std.proofs.Common.{◌≡◌}
use Rattle.ideal_graph.proofs.Holders.{entries_by}
use Rattle.ideal_graph.proofs.ideal.reach.count_entries.Given as goal

abbrev pub invariant-loop-holder : goal.invariant-loop-holder
invariant-loop-holder l = l.count ≡ entries_by l.marks l.objects l.holder
