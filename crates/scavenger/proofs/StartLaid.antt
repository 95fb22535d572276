-- What a scavenge begins with is laid out: no address is named for two things.
use Rattle.std.proofs.Common.{◌≡◌, ℕ, ◌≤◌, ◌<◌, inl, inr, List, length, Contains, IsSome}
use Rattle.std.proofs.Common.{refl, sym, ◌∙◌, ap, subst, arith}
use Rattle.page_space.specs.declared.region.Region.TheVariants.{Segment}
use Rattle.page_space.specs.Extents.{Extent, eden_start, roots_start, marks_start}
use Rattle.page_space.proofs.LawsHold.{kinds_by_number}
use Rattle.page_space.proofs.Limits.{words_count_most}
use Rattle.page_space.proofs.Standing.{stands}
use Rattle.page_space.proofs.Covering.{disjoint}
use Rattle.heap_model.specs.Types.{Cell}
use Rattle.heap_model.specs.Heaps.{Heap, HasCell}
use Rattle.heap_model.specs.Collectable.{IsInHalf}
use Rattle.heap_model.proofs.CellsApart.{IsOfCell, has_is_cell, cell_extent_stands, cells_apart, first_of_cell}
use Rattle.heap_model.proofs.CellsApart.{used_few}
use Rattle.heap_model.proofs.Patches.{row_holds}
use Rattle.heap_model.proofs.RememberedSlots.{page_slot_below}
use Rattle.heap_model.proofs.WordsAlike.{cell_below_roots}
use Rattle.scav_copy.specs.Places.{Fixed, size_of, IsInRange, IsInCells, IsInRooms, IsLaidOut, cell_before}
use Rattle.scavenger.specs.Starts.{Start, IsYoungCell}
use Rattle.scavenger.proofs.StartReadings.{IsLow, low_within, cell_before_is, size_is}
use Rattle.scavenger.proofs.StartRooms.{IsReady, IsInSomeSegment, run_in_page, slot_in_no_run, segment_of, run_is_free}
use Rattle.scavenger.proofs.StartRooms.{room_place, rooms_below, one_of_rooms, slot_place}

-- the address is one of a young cell of the heap that stands at another
record IsOfCellAt (heap : Heap) (first at : ℕ) : Type 0 where
  cell : Cell
  words : List ℕ
  has : HasCell heap cell words
  stands : cell.at ≡ first
  young : eden_start heap.space ≤ cell.at
  of_cell : IsOfCell cell at

module _ {start : Start} {fixed : Fixed} (ready : IsReady start fixed) where
  -- cells end at the greatest address or before
  low : IsLow start.heap.space
  low = low_within start.heap.space ready.limits

  -- as many words as before the marks
  long : length fixed.before ≡ marks_start start.heap.space
  long = ap length ready.begins.before ∙ ready.whole.sized.words

  -- the marks stand behind the roots
  behind_roots : roots_start start.heap.space ≤ marks_start start.heap.space
  behind_roots =
      omega (arith, (kinds_by_number start.heap.space).layouts, (kinds_by_number start.heap.space).marks)

  -- an address of one of the cells is one of a young cell of the heap
  of_cell_at : (first at : ℕ) → Contains fixed.cells first → IsInRange first (size_of fixed first) at
      → IsOfCellAt start.heap first at
  of_cell_at first at among in_range =
      let is : IsYoungCell start.heap first = (ready.begins.cells first).0 among in
      let size : size_of fixed first ≡ is.cell.size =
      ap (size_of fixed) (sym is.stands) ∙ size_is ready.begins low is.cell (has_is_cell is.has) in
      record {
        cell = is.cell;
        words = is.words;
        has = is.has;
        stands = is.stands;
        young = omega (arith, is.stands, is.young);
        of_cell = record {
          from = omega (arith, is.stands, in_range.from);
          below = omega (arith, is.stands, in_range.below, size);
        };
      }

  -- it is in no page
  cells_above : (at : ℕ) → IsInCells fixed at → eden_start start.heap.space ≤ at
  cells_above at in_cells =
      let is = of_cell_at in_cells.0 at in_cells.1 in_cells.2 in
      omega (arith, is.young, is.of_cell.from)

  -- and before the roots
  cells_below : (at : ℕ) → IsInCells fixed at → at < roots_start start.heap.space
  cells_below at in_cells =
      let is = of_cell_at in_cells.0 at in_cells.1 in_cells.2 in
      omega (arith, is.of_cell.below, cell_below_roots (used_few ready.whole.rows) is.has)

  -- no cell stands in a segment
  none_in_segment : (at : ℕ) → IsInCells fixed at → IsInSomeSegment start at → ⊥
  none_in_segment at in_cells in_segment =
      let space = start.heap.space in
      let is = of_cell_at in_cells.0 at in_cells.1 in_cells.2 in
      let row = is.has.row in
      let holds = row_holds ready.whole.rows is.has.in_region is.has.used is.has.in_row is.of_cell in
      let worker : ℕ = in_segment.worker in
      let stands_there = stands space (Segment start.half worker)
      (omega (arith, ready.is_half), omega (arith, in_segment.known)) in
      let same : row.extent ≡ segment_of start worker =
      disjoint space row.extent (segment_of start worker) at (cell_extent_stands space row.extent is.has.in_region)
      stands_there holds in_segment.holds in
      let inside : IsInHalf space start.half is.cell.at = record {
        extent = row.extent;
        among = is.has.in_region;
        worker = worker;
        segment = ap (λ (extent : Extent). extent.region) same;
        holds = row_holds ready.whole.rows is.has.in_region is.has.used is.has.in_row (first_of_cell is.has);
      } in
      ready.collectable.empty is.cell is.words is.has inside

  -- nor in any room
  none_in_room : (at : ℕ) → IsInCells fixed at → IsInRooms fixed at → ⊥
  none_in_room at in_cells in_rooms = elim (room_place ready at in_rooms) [
    | inl in_segment ↦ none_in_segment at in_cells in_segment
    | inr has ↦
        let ends = run_in_page (run_is_free ready has.is) in
        omega (arith, cells_above at in_cells, has.of_run.below, ends)
  ]

  -- two cells that share an address are one
  one_of_cells : (cell other at : ℕ) → Contains fixed.cells cell → Contains fixed.cells other
      → IsInRange cell (size_of fixed cell) at → IsInRange other (size_of fixed other) at → cell ≡ other
  one_of_cells cell other at among among_too inside inside_too =
      let is = of_cell_at cell at among inside in
      let is_too = of_cell_at other at among_too inside_too in
      let same = cells_apart at ready.whole.rows is.has is_too.has is.of_cell is_too.of_cell in
      sym is.stands ∙ ap (λ (one : Cell). one.at) same ∙ is_too.stands

  -- at the address of each of the cells stood one
  each_is : (at : ℕ) → Contains fixed.cells at → IsSome (cell_before fixed at)
  each_is at among =
      let is : IsYoungCell start.heap at = (ready.begins.cells at).0 among in
      let reads = ap (cell_before fixed) (sym is.stands)
      ∙ cell_before_is ready.begins low is.cell (has_is_cell is.has) in
      subst IsSome (sym reads) refl

  -- there is a word at each slot
  slot_there : (at : ℕ) → Contains fixed.slots at → at < length fixed.before
  slot_there at among = elim (slot_place ready at among) [
    | inl root ↦ omega (arith, long, root.1)
    | inr slot ↦
        let below = page_slot_below slot in
        omega (arith, long, below, (kinds_by_number start.heap.space).roots, behind_roots)
  ]

  -- no slot is a word of a cell
  slot_not_in_cell : (at : ℕ) → Contains fixed.slots at → IsInCells fixed at → ⊥
  slot_not_in_cell at among in_cells = elim (slot_place ready at among) [
    | inl root ↦ omega (arith, root.0, cells_below at in_cells)
    | inr slot ↦ let below = page_slot_below slot in omega (arith, below, cells_above at in_cells)
  ]

  -- nor of a room
  slot_not_in_room : (at : ℕ) → Contains fixed.slots at → IsInRooms fixed at → ⊥
  slot_not_in_room at among in_rooms = elim (slot_place ready at among) [
    | inl root ↦ omega (arith, root.0, rooms_below ready at in_rooms)
    | inr slot ↦ elim (room_place ready at in_rooms) [
      | inl in_segment ↦ let below = page_slot_below slot in omega (arith, below, in_segment.holds.from)
      | inr has ↦ slot_in_no_run at ready.whole.rows (run_is_free ready has.is) has.of_run slot
    ]
  ]

  -- what a scavenge begins with is laid out
  pub laid_out : IsLaidOut fixed
  laid_out =
      let kinds = kinds_by_number start.heap.space in
      record {
        addressed = omega (arith, long, words_count_most start.heap.space ready.limits, kinds.board, kinds.count);
        cells_are = each_is;
        slots_there = slot_there;
        rooms_there = λ at in_rooms. omega (arith, long, rooms_below ready at in_rooms, behind_roots);
        one_cell = one_of_cells;
        one_room = one_of_rooms ready;
        slot_in_no_cell = slot_not_in_cell;
        slot_in_no_room = slot_not_in_room;
        cell_in_no_room = none_in_room;
      }
