-- A cell that is to be copied and has no home stands among the words as it stood before.
use Rattle.std.proofs.Common.{ℕ, ◌^◌, ◌+◌, ◌-◌, ◌<◌, ◌≤◌, ◌≡◌, ◌⊎◌, inl, inr, List, length, get_or, slice_get, Some}
use Rattle.std.proofs.Common.{arith, sym, ap, subst, ◌∙◌}
use Rattle.std.specs.List.{Contains}
use Rattle.std.proofs.lemmas.Option.{slice_get-get_or}
use Rattle.tagged_word.specs.Shapes.{shapes_most}
use Rattle.tagged_word.specs.Cells.{ReadsAs}
use Rattle.tagged_word.specs.Readings.{read_cell}
use Rattle.tagged_word.proofs.CellReadings.{cell_from}
use Rattle.page_space.specs.Extents.{Space, eden_start, layouts_start}
use Rattle.page_space.proofs.LawsHold.{kinds_by_number}
use Rattle.cell_layout.specs.Cells.{IsCell, reading_of, layouts_in}
use Rattle.cell_layout.proofs.CellsThere.{slice_get-layouts_in}
use Rattle.cell_layout.proofs.Puts.{cells_are_apart}
use Rattle.heap_model.specs.Types.{Run}
use Rattle.heap_model.proofs.CellsApart.{has_is_cell}
use Rattle.heap_model.proofs.RememberedSlots.{ends_in_page, page_slot_below}
use Rattle.scav_copy.specs.declared.places.Home.{Home}
use Rattle.scav_copy.specs.declared.places.Room.{Room}
use Rattle.scav_copy.specs.Places.{Fixed, last_address, cell_before, words_in, size_of, IsInCells, IsInRoom, IsInRooms}
use Rattle.scav_copy.specs.Copies.{Copying}
use Rattle.scavenger.specs.Starts.{Start, IsBegun, IsYoungCell, IsRootAt, IsFreeRun, IsSegmentRoom}
use Rattle.scavenger.specs.Starts.{segment_from, room_of_run}
use Rattle.scavenger.specs.Following.{half_start, half_end}
use Rattle.scavenger.proofs.SegmentRooms.{segment_in_half}
use Rattle.scavenger.proofs.StartReadings.{low_sized, cell_before_is}
use Rattle.scavenger.proofs.TargetNumbers.{half_below_roots}

-- the cell that stood at an address before is the young cell there
pub before_is_young : {start : Start} {fixed : Fixed} {at : ℕ} → IsBegun start fixed
    → (young : IsYoungCell start.heap at) → cell_before fixed at ≡ Some (reading_of young.cell)
before_is_young {start} {fixed} {at} begun young =
    let few : length start.heap.words ≤ 2 ^ 32 =
    subst (λ (words : List ℕ). length words ≤ 2 ^ 32) begun.begins.before begun.laid.addressed in
    subst (λ (one : ℕ). cell_before fixed one ≡ Some (reading_of young.cell)) young.stands
    (cell_before_is begun.begins (low_sized start.heap begun.whole.sized few) young.cell (has_is_cell young.has))

-- a young cell has as many words as the cell that stood there before
pub young_size : {start : Start} {fixed : Fixed} {at : ℕ} → IsBegun start fixed
    → (young : IsYoungCell start.heap at) → young.cell.size ≡ size_of fixed at
young_size begun young = sym (ap words_in (before_is_young begun young))

-- no layout word is one of a cell
layout_in_no_cell : {start : Start} {fixed : Fixed} (shape : ℕ) → IsBegun start fixed → shape < shapes_most
    → IsInCells fixed (layouts_start start.heap.space + shape) → ⊥
layout_in_no_cell {start} {fixed} shape begun known inside =
    let cell : ℕ = inside.0 in
    let at : ℕ = layouts_start start.heap.space + shape in
    let young = (begun.begins.cells cell).0 inside.1 in
    let size : young.cell.size ≡ size_of fixed cell = young_size begun young in
    let here : young.cell.at + (at - cell) ≡ at = omega (arith, young.stands, inside.2.from) in
    cells_are_apart start.heap.space start.heap.words young.cell (at - cell) (has_is_cell young.has)
    (omega (arith, size, inside.2.from, inside.2.below)) shape known here

-- no layout word is before eden
layout_above : (space : Space) (shape : ℕ) → eden_start space ≤ layouts_start space + shape
layout_above space shape = omega (arith, (kinds_by_number space).layouts, (kinds_by_number space).roots)

-- a recorded slot stands in a page
pub recorded_below : {start : Start} {fixed : Fixed} (at : ℕ) → IsBegun start fixed → Contains start.recorded at
    → at < eden_start start.heap.space
recorded_below at begun there = page_slot_below ((begun.remembered at).0 there).0

-- a slot outside is no layout word
layout_by : {start : Start} {fixed : Fixed} (shape : ℕ) → IsBegun start fixed
    → IsRootAt start.heap.space (layouts_start start.heap.space + shape)
    ⊎ Contains start.recorded (layouts_start start.heap.space + shape) → ⊥
layout_by {start} shape begun (inl root) =
    omega (arith, root.known, root.stands, (kinds_by_number start.heap.space).layouts)
layout_by {start} shape begun (inr recorded) =
    let below = recorded_below (layouts_start start.heap.space + shape) begun recorded in
    omega (arith, below, layout_above start.heap.space shape)

-- no layout word is one of the slots outside
layout_is_no_slot : {start : Start} {fixed : Fixed} (shape : ℕ) → IsBegun start fixed
    → Contains fixed.slots (layouts_start start.heap.space + shape) → ⊥
layout_is_no_slot {start} shape begun there =
    layout_by shape begun ((begun.begins.slots (layouts_start start.heap.space + shape)).0 there)

-- a free run that a scavenge begins with ends before eden
pub run_ends : {start : Start} {fixed : Fixed} (run : Run) → IsBegun start fixed → IsFreeRun start.rows run
    → run.at + run.words ≤ eden_start start.heap.space
run_ends run begun is =
    let free = begun.free is.row run is.of_rows is.among in
    let ends = ends_in_page free.has free.of_page in
    omega (arith, ends, free.stands, free.size)

-- the address is one of the half that is filled
pub record IsInNewHalf (start : Start) (at : ℕ) : Type 0 where
  pub from : half_start start.heap.space start.half ≤ at
  pub below : at < half_end start.heap.space start.half

-- a word of a segment of it is
pub segment_in_new : {start : Start} (room : Room) (at : ℕ) → IsInRoom room at
    → IsSegmentRoom start.heap.space start.half room → IsInNewHalf start at
segment_in_new {start} room at inside segment =
    let space = start.heap.space in
    let within = segment_in_half space start.half segment.worker segment.known in
    let from : room.from ≡ segment_from space start.half segment.worker = ap (λ (one : Room). one.from) segment.is in
    let to : room.to ≡ segment_from space start.half segment.worker + space.sizes.young =
    ap (λ (one : Room). one.to) segment.is in
    record {
      from = omega (arith, from, inside.from, within.0);
      below = omega (arith, to, inside.below, within.1);
    }

-- a word of a room is one of that half, or of a page
room_by : {start : Start} {fixed : Fixed} (room : Room) (at : ℕ) → IsBegun start fixed → IsInRoom room at
    → (IsSegmentRoom start.heap.space start.half room
    ⊎ ((run : Run) × IsFreeRun start.rows run × (room ≡ room_of_run start.heap.space run)))
    → IsInNewHalf start at ⊎ (at < eden_start start.heap.space)
room_by room at begun inside (inl segment) = inl (segment_in_new room at inside segment)
room_by {start} room at begun inside (inr of_run) =
    let run : Run = of_run.0 in
    let to : room.to ≡ run.at + run.words = ap (λ (one : Room). one.to) of_run.2 in
    inr (omega (arith, to, inside.below, run_ends run begun of_run.1))

-- the words of rooms are those of that half, and words of pages
pub in_half_or_page : {start : Start} {fixed : Fixed} (at : ℕ) → IsBegun start fixed → IsInRooms fixed at
    → IsInNewHalf start at ⊎ (at < eden_start start.heap.space)
in_half_or_page at begun inside = room_by inside.0 at begun inside.2 ((begun.begins.rooms inside.0).0 inside.1)

-- no word of them is a layout word
layout_not : {start : Start} (shape : ℕ) → start.half ≤ 1
    → IsInNewHalf start (layouts_start start.heap.space + shape)
    ⊎ (layouts_start start.heap.space + shape < eden_start start.heap.space) → ⊥
layout_not {start} shape few (inl in_half) =
    let below = in_half.below in
    let ends = half_below_roots start.heap.space start.half few in
    let starts = (kinds_by_number start.heap.space).layouts in
    omega (arith, below, ends, starts)
layout_not {start} shape few (inr below) = omega (arith, below, layout_above start.heap.space shape)

-- no layout word is in a room
layout_in_no_room : {start : Start} {fixed : Fixed} (shape : ℕ) → IsBegun start fixed
    → IsInRooms fixed (layouts_start start.heap.space + shape) → ⊥
layout_in_no_room {start} shape begun inside =
    layout_not shape begun.is_half (in_half_or_page (layouts_start start.heap.space + shape) begun inside)

-- the layout words are as before
pub layouts_same : {start : Start} {fixed : Fixed} {words : List ℕ} {homes : List Home} (shape : ℕ)
    → IsBegun start fixed → Copying fixed words homes → shape < shapes_most
    → slice_get (layouts_in start.heap.space words) shape
    ≡ slice_get (layouts_in start.heap.space start.heap.words) shape
layouts_same {start} {fixed} {words} shape begun copying known =
    let at : ℕ = layouts_start start.heap.space + shape in
    let old : length fixed.before ≡ length start.heap.words =
    ap (λ (all : List ℕ). length all) begun.begins.before in
    let there : at < length start.heap.words =
    omega (arith, known, begun.whole.sized.words, (kinds_by_number start.heap.space).marks) in
    let within : at < length words = omega (arith, there, old, copying.long) in
    let same : get_or words at 0 ≡ get_or fixed.before at 0 =
    copying.outside at (layout_in_no_cell shape begun known) (layout_is_no_slot shape begun)
    (layout_in_no_room shape begun) in
    slice_get-layouts_in start.heap.space words shape known
    ∙ slice_get-get_or words at 0 within
    ∙ ap (λ (word : ℕ). Some word) (same ∙ ap (λ (all : List ℕ). get_or all at 0) begun.begins.before)
    ∙ sym (slice_get-get_or start.heap.words at 0 there)
    ∙ sym (slice_get-layouts_in start.heap.space start.heap.words shape known)

-- a young cell that reads as before is a cell of the words
pub young_is_cell : {start : Start} {fixed : Fixed} {words : List ℕ} {homes : List Home} (at : ℕ)
    → IsBegun start fixed → Copying fixed words homes → (young : IsYoungCell start.heap at)
    → read_cell words fixed.layouts at last_address ≡ cell_before fixed at → IsCell start.heap.space words young.cell
young_is_cell {start} {fixed} {words} at begun copying young same =
    let is_cell = has_is_cell young.has in
    let now = subst (λ (one : ℕ). ReadsAs words fixed.layouts one last_address (reading_of young.cell))
    (sym young.stands)
    (cell_from words fixed.layouts at last_address (reading_of young.cell) (same ∙ before_is_young begun young)) in
    record {
      end = is_cell.end;
      stands = is_cell.stands;
      reads = record {
        is_header = now.is_header;
        first = now.first;
        known = now.known;
        is_layout = now.is_layout;
        of_shape = layouts_same young.cell.header.shape begun copying now.known ∙ is_cell.reads.of_shape;
        second = now.second;
        sized = now.sized;
        ends = is_cell.reads.ends;
        there = now.there;
      };
    }
