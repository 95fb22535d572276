-- The passes come one after another, and the compaction to its end.
use Rattle.compactor.specs.Sliding.{IsBegun}
use Rattle.compactor.proofs.FinalState.{is_final}
use Rattle.compactor.proofs.CompactedHeap.{compacted}
use Rattle.compactor.proofs.compacting.compact.Goals as goal

pub pack_pages-requires-clause-begun : goal.pack_pages-requires-clause-begun
pack_pages-requires-clause-begun c = record {
  limits = c.addresses_fit.ensures.within;
  quiet = c.requires.quiet;
  whole = c.requires.whole;
  bounded = c.addresses_fit.ensures.bounded;
  rows = c.requires.rows;
}

pub move_young-requires : goal.move_young-requires
move_young-requires c = record {
  may = (
    c.args.main.now,
    record {
      limits = c.addresses_fit.ensures.within;
      quiet = c.requires.quiet;
      whole = c.requires.whole;
      bounded = c.addresses_fit.ensures.bounded;
      rows = c.requires.rows;
    },
    c.pack_pages.ensures,
  );
}

pub returns-clause-compacted : goal.returns-clause-compacted
returns-clause-compacted c =
    let begun : IsBegun c.args.main.now =
    record {
      limits = c.addresses_fit.ensures.within;
      quiet = c.requires.quiet;
      whole = c.requires.whole;
      bounded = c.addresses_fit.ensures.bounded;
      rows = c.requires.rows;
    } in
    let young = c.move_young.ensures c.args.main.now begun c.pack_pages.ensures in
    compacted (is_final begun c.place_cells-moving.ensures.placed c.pack_pages.ensures young c.move_roots.ensures)
    c.addresses_fit.ensures.fit c.free_runs_fit.ensures
    c.place_cells-moving.ensures.counted
