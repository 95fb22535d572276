-- A heap that shows a graph may be scavenged: what a scavenge of it begins with.
use Rattle.std.proofs.Common.{◌≡◌, ℕ, ◌+◌, ◌≤◌, ◌<◌, ◌↔◌, ◌⊎◌, inl, inr, List, ◌++◌, map, Contains}
use Rattle.std.proofs.Common.{refl, sym, ◌∙◌, ap, subst, arith}
use Rattle.std.specs.List.{All, AllPairs, range_with_len, sum_by, flat_map}
use Rattle.std.proofs.lemmas.List.Elements.{All-contains_itself, All-weaker}
use Rattle.std.proofs.lemmas.List.Elements.{Contains-append_left, Contains-append_right, Contains-append_cases}
use Rattle.tagged_word.proofs.Members.{in_map, map_from, in_range, range_bounds}
use Rattle.page_space.specs.Extents.{Space, eden_start, cell_stretches, half_segments}
use Rattle.page_space.specs.RegionLaws.{IsSpace}
use Rattle.cell_layout.specs.Cells.{layouts_in}
use Rattle.free_runs.specs.FreeRuns.{AreFree}
use Rattle.handle_roots.specs.Roots.{root_at}
use Rattle.heap_model.specs.Types.{Cell, Run}
use Rattle.heap_model.specs.Heaps.{Heap, Row, words_of_cell}
use Rattle.heap_model.specs.Wholeness.{HasRows, Whole}
use Rattle.heap_model.specs.Collectable.{IsCollectable, AreFreeRuns}
use Rattle.heap_model.specs.Remembered.{AreRemembered}
use Rattle.heap_model.proofs.RegionRows.{row_is}
use Rattle.heap_model.proofs.RowCovers.{from_one, of_one}
use Rattle.heap_model.proofs.CellsApart.{has_is_cell, ends_within, used_few}
use Rattle.scav_copy.specs.declared.places.Room.{Room}
use Rattle.scav_copy.specs.Places.{Fixed, size_of, offsets_of}
use Rattle.scav_copy.specs.Renamings.{RefersToAddress}
use Rattle.scavenger.specs.Starts.{Start, Begins, IsBegun, IsSlotPlace, IsYoungCell, IsRootAt, IsFreeRun, IsSegmentRoom}
use Rattle.scavenger.specs.Starts.{room_of_run, segment_room, start_of}
use Rattle.scavenger.specs.Laws.{ShownHeapsMayBegin}
use Rattle.scavenger.proofs.StartReadings.{low_within, size_is, offsets_are}
use Rattle.scavenger.proofs.StartRows.{young_cells, young_has, young_in}
use Rattle.scavenger.proofs.StartAscends.{addresses, climbs_pairs, StandsIn, rows_climb}
use Rattle.scavenger.proofs.StartSums.{sum_by-map, sum_by-same, young_words}
use Rattle.heap_walk.proofs.SlotTargets.{IsUsedAt}
use Rattle.scavenger.proofs.StartTargets.{cell_targets, root_targets, recorded_targets}
use Rattle.scavenger.proofs.StartRooms.{IsReady}
use Rattle.scavenger.proofs.StartLaid.{laid_out}

-- the first root words of the variables, in order
abbrev root_slots : Space → List ℕ
root_slots space = map (root_at space) (range_with_len 0 space.variables)

-- the segments of a half as rooms
abbrev segment_rooms : Space → ℕ → List Room
segment_rooms space half = map (segment_room space half) (range_with_len 0 (half_segments space))

-- the free runs as rooms
abbrev run_rooms : Space → List (List Run) → List Room
run_rooms space rows = flat_map (map (room_of_run space)) rows

-- what a scavenge begins with, where the heap has these rows of cells
abbrev pub fixed_of : (start : Start) → HasRows start.heap → Fixed
fixed_of start rows = record {
  before = start.heap.words;
  layouts = layouts_in start.heap.space start.heap.words;
  cells = addresses (young_cells rows.rows);
  slots = root_slots start.heap.space ++ start.recorded;
  rooms = segment_rooms start.heap.space start.half ++ run_rooms start.heap.space start.rows;
}

-- its cells are the young ones
cells_are_young : (heap : Heap) (rows : HasRows heap) (at : ℕ)
    → Contains (addresses (young_cells rows.rows)) at ↔ IsYoungCell heap at
cells_are_young heap rows at = (
  λ among.
      let found = map_from (λ (cell : Cell). cell.at) (young_cells rows.rows) at among in
      let is = young_has rows found.0 found.1 in
      record {
        cell = found.0;
        words = words_of_cell heap found.0;
        has = is.has;
        stands = found.2;
        young = subst (λ (one : ℕ). eden_start heap.space ≤ one) found.2 is.young;
      },
  λ is.
      let young : eden_start heap.space ≤ is.cell.at = omega (arith, is.stands, is.young) in
      subst (Contains (addresses (young_cells rows.rows))) is.stands
      (in_map (λ (cell : Cell). cell.at) (young_cells rows.rows) is.cell (young_in rows is.cell is.has young)),
)

-- the first root words are those of the variables
slots_are_roots : (space : Space) (at : ℕ) → Contains (root_slots space) at ↔ IsRootAt space at
slots_are_roots space at = (
  λ among.
      let found = map_from (root_at space) (range_with_len 0 space.variables) at among in
      record {
        variable = found.0;
        known = omega (arith, (range_bounds 0 space.variables found.0 found.1).1);
        stands = sym found.2;
      },
  λ is.
      let there = in_range 0 space.variables is.variable (omega arith) (omega (arith, is.known)) in
      subst (Contains (root_slots space)) (sym is.stands)
      (in_map (root_at space) (range_with_len 0 space.variables) is.variable there),
)

-- its slots are the first root words and the recorded ones
slots_are : (start : Start) (rows : HasRows start.heap) (at : ℕ) → Contains (fixed_of start rows).slots at
    ↔ (IsRootAt start.heap.space at ⊎ Contains start.recorded at)
slots_are start rows at =
    let roots : List ℕ = root_slots start.heap.space in (
      λ among. elim (Contains-append_cases roots start.recorded at among) [
        | inl root ↦ inl ((slots_are_roots start.heap.space at).0 root)
        | inr recorded ↦ inr recorded
      ],
      λ either. elim either [
        | inl root ↦ Contains-append_left roots start.recorded at ((slots_are_roots start.heap.space at).1 root)
        | inr recorded ↦ Contains-append_right roots start.recorded at recorded
      ],
    )

-- a free run as a room is one of those of all rows
run_rooms_are : (space : Space) (rows : List (List Run)) (room : Room) → Contains (run_rooms space rows) room
    ↔ ((run : Run) × IsFreeRun rows run × (room ≡ room_of_run space run))
run_rooms_are space rows room =
    let of_row : List Run → List Room = map (room_of_run space) in (
      λ among.
          let row = from_one of_row rows room among in
          let found = map_from (room_of_run space) row.one room row.has in
          (found.0, record { row = row.one; of_rows = row.among; among = found.1 }, sym found.2),
      λ is.
          let run : Run = is.0 in
          let there = in_map (room_of_run space) is.1.row run is.1.among in
          subst (Contains (run_rooms space rows)) (sym is.2)
          (of_one of_row rows is.1.row (room_of_run space run) is.1.of_rows there),
    )

-- a segment as a room is one of those of all workers
segments_are : (space : Space) (half : ℕ) (room : Room)
    → Contains (segment_rooms space half) room ↔ IsSegmentRoom space half room
segments_are space half room = (
  λ among.
      let found = map_from (segment_room space half) (range_with_len 0 (half_segments space)) room among in
      record {
        worker = found.0;
        known = omega (arith, (range_bounds 0 (half_segments space) found.0 found.1).1);
        is = sym found.2;
      },
  λ is.
      let there = in_range 0 (half_segments space) is.worker (omega arith) (omega (arith, is.known)) in
      subst (Contains (segment_rooms space half)) (sym is.is)
      (in_map (segment_room space half) (range_with_len 0 (half_segments space)) is.worker there),
)

-- its rooms are the segments and the free runs
rooms_are : (start : Start) (rows : HasRows start.heap) (room : Room) → Contains (fixed_of start rows).rooms room
    ↔ (IsSegmentRoom start.heap.space start.half room
    ⊎ ((run : Run) × IsFreeRun start.rows run × (room ≡ room_of_run start.heap.space run)))
rooms_are start rows room =
    let space : Space = start.heap.space in
    let segments : List Room = segment_rooms space start.half in
    let runs : List Room = run_rooms space start.rows in (
      λ among. elim (Contains-append_cases segments runs room among) [
        | inl segment ↦ inl ((segments_are space start.half room).0 segment)
        | inr there ↦ inr ((run_rooms_are space start.rows room).0 there)
      ],
      λ either. elim either [
        | inl segment ↦
            Contains-append_left segments runs room ((segments_are space start.half room).1 segment)
        | inr run ↦ Contains-append_right segments runs room ((run_rooms_are space start.rows room).1 run)
      ],
    )

-- a scavenge begins with it
fixed_begins : (start : Start) (rows : HasRows start.heap) → Begins start (fixed_of start rows)
fixed_begins start rows = record {
  before = refl;
  layouts = refl;
  cells = cells_are_young start.heap rows;
  slots = slots_are start rows;
  rooms = rooms_are start rows;
}

-- each row stands in its region
rows_stand : (heap : Heap) (rows : HasRows heap) → All (StandsIn heap) rows.rows
rows_stand heap rows =
    let each : (row : Row) → Contains rows.rows row → StandsIn heap row = λ row there.
    let is = row_is row rows.are there in
    record { stands = is.used.stands; within = ends_within heap row (used_few rows) is.among is.used } in
    All-weaker (Contains rows.rows) (StandsIn heap) each rows.rows (All-contains_itself rows.rows)

-- the cells ascend
pub cells_ascend : (heap : Heap) (rows : HasRows heap)
    → AllPairs (λ one other. one < other) (addresses (young_cells rows.rows))
cells_ascend heap rows =
    climbs_pairs 0 _ (addresses (young_cells rows.rows))
    (rows_climb heap 0 (cell_stretches heap.space) rows.rows rows.are.everywhere (rows_stand heap rows))

-- they have as many words as survivors and eden's used words
cells_counted : (start : Start) (rows : HasRows start.heap) → IsSpace start.heap.space
    → sum_by (size_of (fixed_of start rows)) (addresses (young_cells rows.rows))
    ≡ start.heap.survivors + start.heap.used
cells_counted start rows limits =
    let fixed : Fixed = fixed_of start rows in
    let begins = fixed_begins start rows in
    let low = low_within start.heap.space limits in
    sum_by-map (size_of fixed) (λ (cell : Cell). cell.at) (young_cells rows.rows)
    ∙ sum_by-same (λ (cell : Cell). size_of fixed cell.at) (λ (cell : Cell). cell.size) (young_cells rows.rows)
    (λ cell there. size_is begins low cell (has_is_cell (young_has rows cell there).has))
    ∙ young_words start.heap rows

module _ {start : Start} {fixed : Fixed} (ready : IsReady start fixed) where
  -- a cell that stands from eden on is one of the cells
  young_among : (at : ℕ) → IsUsedAt start.heap at → eden_start start.heap.space ≤ at → Contains fixed.cells at
  young_among at is young = (ready.begins.cells at).1 record {
    cell = is.cell;
    words = is.words;
    has = is.has;
    stands = is.stands;
    young = young;
  }

  -- what a slot outside refers to from eden on stands there
  outside_targets : (place at : ℕ) → Contains fixed.slots place → RefersToAddress start.heap.words place at
      → IsUsedAt start.heap at
  outside_targets place at among refers = elim ((ready.begins.slots place).0 among) [
    | inl root ↦
        root_targets root.variable at ready.whole root.known
        (subst (λ (slot : ℕ). RefersToAddress start.heap.words slot at) root.stands refers)
    | inr recorded ↦ recorded_targets at ready.whole ((ready.remembered place).0 recorded).0 refers
  ]

  -- what a slot of one of the cells refers to stands there
  inside_targets : (cell offset place at : ℕ) → Contains fixed.cells cell → Contains (offsets_of fixed cell) offset
      → cell + offset ≡ place → RefersToAddress start.heap.words place at → IsUsedAt start.heap at
  inside_targets cell offset place at among slot is_place refers =
      let is : IsYoungCell start.heap cell = (ready.begins.cells cell).0 among in
      let own = ap (offsets_of fixed) (sym is.stands)
      ∙ offsets_are ready.begins (low_within start.heap.space ready.limits) is.cell (has_is_cell is.has) in
      let there = subst (λ (offsets : List ℕ). Contains offsets offset) own slot in
      let stands : place ≡ is.cell.at + offset = omega (arith, is.stands, is_place) in
      cell_targets offset at ready.whole is.has there
      (subst (λ (one : ℕ). RefersToAddress start.heap.words one at) stands refers)

  -- what a slot refers to from eden on is one of the cells
  slot_targets : (place at : ℕ) → IsSlotPlace fixed place → RefersToAddress fixed.before place at
      → eden_start start.heap.space ≤ at → Contains fixed.cells at
  slot_targets place at slot refers young =
      let here = subst (λ (words : List ℕ). RefersToAddress words place at) ready.begins.before refers in
      elim slot [
        | inl among ↦ young_among at (outside_targets place at among here) young
        | inr in_cell ↦
            young_among at (inside_targets in_cell.0 in_cell.1 place at in_cell.2 in_cell.3 in_cell.4 here) young
      ]

-- A whole heap with an empty half may be scavenged to it, where its free runs are known, and what is recorded is right.
pub may_begin : (start : Start) → IsSpace start.heap.space → (whole : Whole start.heap) → start.half ≤ 1
    → IsCollectable start.heap start.half → AreFreeRuns start.heap start.rows → AreFree start.rows
    → AreRemembered start.heap start.recorded → IsBegun start (fixed_of start whole.rows)
may_begin start limits whole is_half collectable free apart remembered =
    let begins = fixed_begins start whole.rows in
    let ready : IsReady start (fixed_of start whole.rows) = record {
      limits = limits;
      whole = whole;
      is_half = is_half;
      collectable = collectable;
      free = free;
      apart = apart;
      remembered = remembered;
      begins = begins;
    } in
    record {
      begins = begins;
      laid = laid_out ready;
      whole = whole;
      is_half = is_half;
      collectable = collectable;
      free = free;
      apart = apart;
      remembered = remembered;
      targets = slot_targets ready;
      ascend = cells_ascend start.heap whole.rows;
      counted = cells_counted start whole.rows limits;
    }

-- a heap that shows a graph may be scavenged
pub shown_heaps_may_begin : ShownHeapsMayBegin
shown_heaps_may_begin main graph limits shows young free =
    let whole = shows.shows.whole in (
      fixed_of (start_of main) whole.rows,
      may_begin (start_of main) limits whole (omega arith) shows.collectable shows.free free shows.remembered,
    )
