-- A pair is free, so probing ends at one.
use Rattle.std.proofs.Common.{sym, ap, ◌∙◌}
use Rattle.write_barrier.specs.MutatorState.{heap_of}
use Rattle.linear_probing.proofs.Findings.{comes_everywhere}
use Rattle.weak_pairs.specs.Tables.{key_in}
use Rattle.ephemeron_table.proofs.growing.insert_rehashed.Goals as goal

pub unreachable-requires : goal.unreachable-requires
unreachable-requires c =
    let free = c.requires.free in
    let way = comes_everywhere c.args.table.capacity c.number_at-number.result free.0 free.1 in
    c.in-None.ensures way.0 way.1
    (ap (key_in (heap_of c.args.main.now) c.args.table.at) (sym way.2) ∙ free.2)
