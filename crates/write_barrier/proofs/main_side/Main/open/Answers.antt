-- The heap that was started is whole and shown.
use Rattle.std.proofs.Common.{◌*◌, ◌∙◌, [], ap}
use Rattle.page_space.specs.Sizes.{page_words}
use Rattle.page_space.specs.declared.sizes.Sizes.{Sizes}
use Rattle.free_runs.specs.FreeRuns.{whole_rows}
use Rattle.remembered_set.specs.Recorded.{Recorded}
use Rattle.write_barrier.proofs.FirstHeaps.{started_shows}
use Rattle.write_barrier.proofs.Opened.{fresh_below, is_laid, is_told}
use Rattle.write_barrier.proofs.main_side.Main.open.Goals as goal

-- nothing is recorded of so many pages
abbrev none_of : Sizes → Recorded
none_of sizes = record { bound = page_words * sizes.pages; slots = [] }

pub put_layouts-requires-clause-layouts : goal.put_layouts-requires-clause-layouts
put_layouts-requires-clause-layouts c =
    fresh_below c.args.regions c.requires.0 c.args.seat c.in_ok-shapes.shapes c.requires.1

pub invariant_of-main : goal.invariant_of-main
invariant_of-main c =
    is_told c.args.regions c.requires.0 c.args.seat _ (record {
      fresh_is = c.requires.1;
      puts = c.put_layouts.ensures.changes;
      both = c.put_layouts.ensures.layouts;
      paths = c.in_ok-shapes.ensures.made;
      young = c.new-nursery.ensures;
      free = c.in_ok-free.ensures ∙ ap (λ (sizes : Sizes). whole_rows sizes.pages) c.sizes-pages.ensures;
      recorded = c.in_ok-remembered.ensures
          ∙ ap none_of c.sizes-pages.ensures;
      listed = c.in_ok-grey.ensures.listed;
      lists = c.in_ok-grey.ensures.room;
      empty = c.in_ok-grey.ensures.empty;
    })

pub start-requires : goal.start-requires
start-requires c =
    is_laid c.args.regions c.requires.0 c.args.seat _ (record {
      fresh_is = c.requires.1;
      puts = c.put_layouts.ensures.changes;
      both = c.put_layouts.ensures.layouts;
      paths = c.in_ok-shapes.ensures.made;
      young = c.new-nursery.ensures;
      free = c.in_ok-free.ensures ∙ ap (λ (sizes : Sizes). whole_rows sizes.pages) c.sizes-pages.ensures;
      recorded = c.in_ok-remembered.ensures
          ∙ ap none_of c.sizes-pages.ensures;
      listed = c.in_ok-grey.ensures.listed;
      lists = c.in_ok-grey.ensures.room;
      empty = c.in_ok-grey.ensures.empty;
    })

pub returns-clause-table : goal.returns-clause-table
returns-clause-table c = c.start.ensures.table ∙ c.put_layouts.ensures.changes.rest.shared

pub returns-clause-opened : goal.returns-clause-opened
returns-clause-opened c = started_shows c.start.new.self c.start.ensures.started
