-- What rows and the free runs of all pages keep in their fields.
use Rattle.std.specs.Prelude.{◌≡◌, ◌≤◌, List, length, vec_capacity}
use Rattle.free_runs.specs.declared.row.Row.TheInside as row_inside
use Rattle.free_runs.specs.declared.FreeRuns.TheInside as all_inside
use Rattle.page_space.specs.declared.run.Run.{Run}
use Rattle.page_space.specs.Sizes.{pages_most}
use Rattle.free_runs.specs.FreeRuns.{AreFree, longest_in, runs_most}

-- the runs of a page
abbrev pub runs_in : row_inside.Inside → List Run
runs_in row = row.runs.items

-- there is room for the most runs, there are no more, and the longest is known
pub record IsRoomy (row : row_inside.Inside) : Type 0 where
  pub room : runs_most ≤ vec_capacity row.runs
  pub few : length row.runs.items ≤ runs_most
  pub longest : row.longest ≡ longest_in row.runs.items

-- the rows of the pages
abbrev pub rows_in : all_inside.Inside → List (List Run)
rows_in all = all.rows.items

-- there are no more pages than there may be, each row is of its page, and the cursor is within the pages
pub record IsValid (all : all_inside.Inside) : Type 0 where
  pub few : length all.rows.items ≤ pages_most
  pub free : AreFree all.rows.items
  pub cursor : all.cursor ≤ length all.rows.items
