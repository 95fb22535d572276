use Rattle.std.proofs.Common.{◌≡◌, ◌≤◌, vec_len, vec_capacity}
use Rattle.byte_ends.proofs.Consuming.{Consumes}
use Rattle.heap_run.proofs.source_bytes.read_source.Given as goal

abbrev pub invariant-loop-turn : goal.invariant-loop-turn
invariant-loop-turn g l = record {
  turns : l._turn ≤ vec_len l.bytes;
  short : vec_len l.bytes ≤ 1048576;
  room : 1048577 ≤ vec_capacity l.bytes;
  so_far : Consumes (g.S.Source.left l.initial.source) (g.S.Source.left l.source) l.bytes.items;
  steady : g.S.Source.faults l.source ≡ g.S.Source.faults l.initial.source;
}
