-- All agree outside of the addresses that are left, and what is known besides stays.
use Rattle.std.proofs.Common.{◌≡◌}
use Rattle.heap_table.specs.Sharing.{AgreesOutside, with_pages}
use Rattle.heap_table.proofs.sharing.share_stretch.Given as goal

abbrev pub invariant-loop-a : goal.invariant-loop-a
invariant-loop-a l = record {
  same : l.side ≡ with_pages l.fn.side l.side.main;
  outside : AgreesOutside l.own l.a l.to l.side.main;
}
