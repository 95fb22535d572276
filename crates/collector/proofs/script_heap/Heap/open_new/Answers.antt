-- No shared table is asked for. A heap that was just opened has a row of free runs for each page, and each cell can be
-- marked.
use Rattle.std.proofs.Common.{rules, ◌∙◌, false, length, ap, sym}
use Rattle.std.proofs.lemmas.List.FromFn.{length-map-range_with_len}
use Rattle.page_space.specs.Extents.{roots_start}
use Rattle.free_runs.specs.FreeRuns.{whole_row}
use Rattle.ephemeron_mark.specs.Marked.{Marked}
use Rattle.collector.proofs.script_heap.Heap.open_new.Goals as goal

pub open-requires : goal.open-requires
open-requires c = (false, c.requires)

pub returns-clause-opened : goal.returns-clause-opened
returns-clause-opened c =
    let main = c.in_ok-main.main in
    let opened = c.in_ok-main.ensures.opened in (
      record {
        main = opened.0;
        quiet = opened.1.beside.phase;
        rows = ap length opened.1.free ∙ length-map-range_with_len whole_row 0 main.seat.space.sizes.pages;
        listed = search rules;
        marks = ap (λ (marked : Marked). marked.bound) c.in_ok-marking.ensures ∙ c.cells_end.ensures
            ∙ ap roots_start (sym c.in_ok-main.ensures.regions);
      },
      opened.1,
    )
