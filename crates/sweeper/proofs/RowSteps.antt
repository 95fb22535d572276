-- A sweep along the row of a region: what waits is a part of the row, and each cell is passed by.
use Rattle.std.proofs.Common.{◌≡◌, ℕ, ◌+◌, ◌≤◌, ◌<◌, List}
use Rattle.std.proofs.Common.{ap, subst, arith}
use Rattle.page_space.specs.Extents.{Space, ContainsAddress, eden_start, roots_start, marks_start}
use Rattle.page_space.proofs.Starts.{layouts_start_is, marks_start_is}
use Rattle.cell_layout.proofs.Rows.{row_ascends}
use Rattle.heap_model.specs.Heaps.{Heap}
use Rattle.heap_model.proofs.CellsApart.{ends_within, used_few}
use Rattle.heap_model.proofs.RegionRows.{region_ends}
use Rattle.heap_model.proofs.WordsAlike.{extent_below_roots}
use Rattle.write_barrier.specs.MutatorState.{Mutator, heap_of}
use Rattle.sweeper.specs.Sweeping.{Covers, InRow, IsRoomy, Sweeping, page_of}
use Rattle.sweeper.proofs.FreedParts.{DeadPart, begins_inside}
use Rattle.sweeper.proofs.PageRuns.{IsPageAt, page_at, words_are_roomy}
use Rattle.sweeper.proofs.SweepSteps.{sweep_covers}

module _ {first now : Mutator} {marked : List ℕ} {start end limit from at : ℕ}
    (in_row : InRow first now marked start end limit from at) where
  -- the heap with which the sweep began
  abbrev heap : Heap
  heap = heap_of first

  -- what waits ends where the row does, or before
  pub comes_to : at ≤ in_row.row.end
  comes_to = row_ascends heap.space heap.words at in_row.row.end in_row.rest in_row.to_come

  -- it begins where it ends, or before
  pub waits_to : from ≤ at
  waits_to = row_ascends heap.space heap.words from at in_row.stretch in_row.stood

  -- the region ends there
  pub ends_there : in_row.row.extent.start + in_row.row.extent.words ≡ end
  ends_there = region_ends in_row.begun.limits in_row.stands in_row.is

  -- the row ends in its region
  pub row_within : in_row.row.end ≤ end
  row_within =
      omega (
        arith,
        ends_within heap in_row.row (used_few in_row.begun.whole.rows) in_row.is.among in_row.is.used,
        ends_there,
      )

  -- and the region before the roots
  pub end_below_roots : end ≤ roots_start heap.space
  end_below_roots = omega (arith, extent_below_roots heap.space in_row.row.extent in_row.is.among, ends_there)

  -- the roots begin before the marks
  pub roots_below_marks : roots_start now.seat.space ≤ marks_start now.seat.space
  roots_below_marks = omega (arith, layouts_start_is now.seat.space, marks_start_is now.seat.space)

  -- the roots begin where they did
  pub same_roots : roots_start now.seat.space ≡ roots_start heap.space
  same_roots = ap (λ (space : Space). roots_start space) in_row.sweeping.seat.space

  -- what waits is a part of the row
  abbrev pub waiting_part : from < at → DeadPart heap marked from at
  waiting_part some = record {
    sized = in_row.begun.whole.sized;
    rows = in_row.begun.whole.rows;
    row = in_row.row;
    in_region = in_row.is.among;
    used = in_row.is.used;
    front = in_row.front;
    dead = in_row.stretch;
    back = in_row.rest;
    part = in_row.part;
    stood = in_row.stood;
    ends = comes_to;
    unmarked = in_row.unmarked;
    some = some;
    short = in_row.short;
  }

  -- a region that has an address of a page is that page
  pub its_page : (a : ℕ) → ContainsAddress in_row.row.extent a → page_of a < heap.space.sizes.pages
      → IsPageAt in_row.row.extent a
  its_page a holds below = page_at heap.space in_row.row.extent a in_row.is.among holds below

  -- so in a page it may be a free run more
  pub waiting_is_roomy : from < at → page_of from < now.seat.space.sizes.pages → IsRoomy now from at
  waiting_is_roomy some below =
      let part = waiting_part some in
      let inside = begins_inside in_row.sweeping.swept part in
      let pages : now.seat.space.sizes.pages ≡ heap.space.sizes.pages =
      ap (λ (space : Space). space.sizes.pages) in_row.sweeping.seat.space in
      let of_page = its_page from inside (omega (arith, below, pages)) in
      let before_eden : end ≤ eden_start heap.space =
      omega (arith, ends_there, of_page.start, of_page.words, below, pages) in
      words_are_roomy now start from at in_row.row.extent in_row.sweeping.swept in_row.sweeping.runs
      (record { each = in_row.before before_eden }) (omega (arith, below, pages)) of_page in_row.is.starts some
      (omega (arith, comes_to, row_within, ends_there))

  -- where it became a free cell, the sweep has come to its end
  pub waiting_covered : {new : Mutator} → from < at → Covers now new from at → Sweeping first new marked at
  waiting_covered some covers = sweep_covers in_row.sweeping (waiting_part some) covers

  -- and where nothing waits
  pub none_waits : at ≤ from → Sweeping first now marked at
  none_waits no_more =
      let same : from ≡ at = omega (arith, no_more, waits_to) in
      subst (Sweeping first now marked) same in_row.sweeping
