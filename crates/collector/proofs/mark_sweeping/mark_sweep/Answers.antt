-- The live cells are marked, from no other starts than variables; so just these are kept.
use Rattle.std.proofs.Common.{[]}
use Rattle.heap_model.proofs.BoundHeaps.{none_in}
use Rattle.ephemeron_mark.proofs.LiveAgain.{live_from_roots, live_with_none}
use Rattle.collector.proofs.mark_sweeping.mark_sweep.Goals as goal

pub sweep_marked-requires-clause-marked : goal.sweep_marked-requires-clause-marked
sweep_marked-requires-clause-marked c =
    let found = c.mark_live.ensures in (
      [],
      record {
        tables = λ cell words has there. absurd (none_in cell.at there);
        used = λ cell words has there of_page. absurd (none_in cell.at there);
        live = λ at. (
          λ among. live_with_none at ((found.marked at).0 among),
          λ live. (found.marked at).1 (live_from_roots at live),
        );
        maps = λ at. (
          λ there. let both = (found.maps at).0 there in (live_with_none at both.0, both.1),
          λ both. (found.maps at).1 (live_from_roots at both.0, both.1),
        );
        once = found.maps_once;
      },
    )

pub returns-clause-collected : goal.returns-clause-collected
returns-clause-collected c graph shows = c.sweep_marked.ensures.exact graph shows c.mark_live.ensures.marked
