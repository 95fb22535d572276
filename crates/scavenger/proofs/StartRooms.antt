-- Where the words of rooms and the slots outside are when a scavenge begins: rooms are the segments of a half and free
-- runs, and slots are first root words and slots of pages.
use Rattle.std.proofs.Common.{◌≡◌, ℕ, ◌+◌, ◌≤◌, ◌<◌, ◌⊎◌, inl, inr, List, Contains, IsTrue}
use Rattle.std.proofs.Common.{sym, ◌∙◌, ap, subst, arith}
use Rattle.tagged_word.specs.Cells.{is_free_kind}
use Rattle.page_space.specs.declared.region.Region.TheVariants.{Segment}
use Rattle.page_space.specs.Extents.{Space, Extent, ContainsAddress, eden_start, roots_start, marks_start}
use Rattle.page_space.specs.Extents.{half_segments}
use Rattle.page_space.specs.RegionLaws.{IsSpace}
use Rattle.page_space.proofs.LawsHold.{kinds_by_number}
use Rattle.page_space.proofs.Standing.{start_of, extent_of}
use Rattle.page_space.proofs.CellAddresses.{segment_ends}
use Rattle.free_runs.specs.FreeRuns.{AreFree}
use Rattle.free_runs.specs.Laws.{IsOfRun}
use Rattle.heap_model.specs.Types.{Cell, Run}
use Rattle.heap_model.specs.Heaps.{Heap}
use Rattle.heap_model.specs.Wholeness.{HasRows, Whole}
use Rattle.heap_model.specs.Collectable.{IsCollectable, IsFreeCell, AreFreeRuns}
use Rattle.heap_model.specs.Remembered.{IsSlotOf, IsPageSlot, AreRemembered}
use Rattle.heap_model.proofs.CellsApart.{IsOfCell, cells_apart}
use Rattle.heap_model.proofs.RememberedSlots.{ends_in_page, slot_of_cell}
use Rattle.scav_copy.specs.declared.places.Room.{Room}
use Rattle.scav_copy.specs.Places.{Fixed, IsInRoom, IsInRooms}
use Rattle.scav_copy.proofs.Spots.{none_in}
use Rattle.scavenger.specs.Starts.{Start, Begins, IsFreeRun, IsSegmentRoom, room_of_run, segment_from, segment_room}
use Rattle.scavenger.proofs.SegmentRooms.{IsInSegment, one_segment}
use Rattle.scavenger.proofs.PagesRuns.{HasRun, one_run}
use Rattle.scavenger.proofs.PagesSlots.{free_slots}

-- What is known of a heap that may be scavenged.
pub record IsReady (start : Start) (fixed : Fixed) : Type 0 where
  pub limits : IsSpace start.heap.space
  pub whole : Whole start.heap
  pub is_half : start.half ≤ 1
  pub collectable : IsCollectable start.heap start.half
  pub free : AreFreeRuns start.heap start.rows
  pub apart : AreFree start.rows
  pub remembered : AreRemembered start.heap start.recorded
  pub begins : Begins start fixed

-- a free run ends before eden
pub run_in_page : {heap : Heap} {run : Run} → IsFreeCell heap run → run.at + run.words ≤ eden_start heap.space
run_in_page free = omega (arith, ends_in_page free.has free.of_page, free.stands, free.size)

-- its words are those of its cell
run_of_cell : {heap : Heap} {run : Run} {at : ℕ} (free : IsFreeCell heap run) → IsOfRun run at
    → IsOfCell free.cell at
run_of_cell free of_run = record {
  from = omega (arith, of_run.from, free.stands);
  below = omega (arith, of_run.below, free.stands, free.size);
}

-- a free cell has no slot
free_has_no_slot : {cell : Cell} {at : ℕ} → IsTrue (is_free_kind cell.layout.kind) → IsSlotOf cell at → ⊥
free_has_no_slot {cell} free slot =
    let none = free_slots cell.layout.kind cell.layout cell.length free in
    none_in slot.offset (subst (λ (all : List ℕ). Contains all slot.offset) none slot.visited)

-- no slot of a page is a word of a free run
pub slot_in_no_run : {heap : Heap} {run : Run} (at : ℕ) → HasRows heap → IsFreeCell heap run → IsOfRun run at
    → IsPageSlot heap at → ⊥
slot_in_no_run {heap} {run} at rows free of_run slot =
    let same : free.cell ≡ slot.cell =
    cells_apart at rows free.has slot.has (run_of_cell free of_run) (slot_of_cell slot.has slot.slot) in
    free_has_no_slot free.free (subst (λ (cell : Cell). IsSlotOf cell at) (sym same) slot.slot)

-- a worker's segment of the half to which copies go, where it stands
abbrev pub segment_of : Start → ℕ → Extent
segment_of start worker = extent_of start.heap.space (Segment start.half worker)

-- the address is one of such a segment
pub record IsInSomeSegment (start : Start) (at : ℕ) : Type 0 where
  pub worker : ℕ
  pub known : worker < half_segments start.heap.space
  pub holds : ContainsAddress (segment_of start worker) at

-- a word of the room that is a segment is one of the segment's
here_in_segment : (start : Start) (room : Room) (at : ℕ) (is : IsSegmentRoom start.heap.space start.half room)
    → IsInRoom room at → IsInSegment start.heap.space start.half is.worker at
here_in_segment start room at is inside =
    let here : IsInRoom (segment_room start.heap.space start.half is.worker) at =
    subst (λ (one : Room). IsInRoom one at) is.is inside in
    record { from = here.from; below = here.below }

-- so the address is one of such a segment
in_segment : (start : Start) (room : Room) (at : ℕ) → IsSegmentRoom start.heap.space start.half room → IsInRoom room at
    → IsInSomeSegment start at
in_segment start room at is inside =
    let space : Space = start.heap.space in
    let here = here_in_segment start room at is inside in
    let starts : start_of space (Segment start.half is.worker) ≡ segment_from space start.half is.worker =
    omega arith in
    record {
      worker = is.worker;
      known = is.known;
      holds = record { from = omega (arith, starts, here.from); below = omega (arith, starts, here.below) };
    }

-- a word of the room that is a free run is one of the run's
in_run : (space : Space) (run : Run) (room : Room) (at : ℕ) → room ≡ room_of_run space run → IsInRoom room at
    → IsOfRun run at
in_run space run room at same inside =
    let here : IsInRoom (room_of_run space run) at = subst (λ (one : Room). IsInRoom one at) same inside in
    record { from = here.from; below = here.below }

module _ {start : Start} {fixed : Fixed} (ready : IsReady start fixed) where
  -- each free run is a free cell
  pub run_is_free : {run : Run} → IsFreeRun start.rows run → IsFreeCell start.heap run
  run_is_free {run} is = ready.free is.row run is.of_rows is.among

  -- no word of a free run is one of a segment
  run_not_in_segment : {run : Run} {at : ℕ} → IsFreeRun start.rows run → IsOfRun run at → IsInSomeSegment start at → ⊥
  run_not_in_segment is of_run in_one = omega (arith, run_in_page (run_is_free is), of_run.below, in_one.holds.from)

  -- a word of a room is one of a segment, or of a free run
  pub room_place : (at : ℕ) → IsInRooms fixed at → IsInSomeSegment start at ⊎ HasRun start.rows at
  room_place at in_rooms =
      let room : Room = in_rooms.0 in
      elim ((ready.begins.rooms room).0 in_rooms.1) [
        | inl segment ↦ inl (in_segment start room at segment in_rooms.2)
        | inr is ↦
            inr (record { run = is.0; is = is.1; of_run = in_run start.heap.space is.0 room at is.2 in_rooms.2 })
      ]

  -- a segment ends before the roots
  segment_below : (at : ℕ) → IsInSomeSegment start at → at < roots_start start.heap.space
  segment_below at in_one =
      let space : Space = start.heap.space in
      let ends =
      segment_ends space start.half in_one.worker (omega (arith, ready.is_half), omega (arith, in_one.known)) in
      omega (arith, in_one.holds.below, ends)

  -- so do all rooms
  pub rooms_below : (at : ℕ) → IsInRooms fixed at → at < roots_start start.heap.space
  rooms_below at in_rooms = elim (room_place at in_rooms) [
    | inl in_one ↦ segment_below at in_one
    | inr has ↦
        let ends = run_in_page (run_is_free has.is) in
        omega (arith, has.of_run.below, ends, (kinds_by_number start.heap.space).roots)
  ]

  -- two rooms that share a word are one
  pub one_of_rooms : (room other : Room) (at : ℕ) → Contains fixed.rooms room → Contains fixed.rooms other
      → IsInRoom room at → IsInRoom other at → room ≡ other
  one_of_rooms room other at among among_too inside inside_too =
      let space : Space = start.heap.space in
      elim ((ready.begins.rooms room).0 among) [
        | inl segment ↦ elim ((ready.begins.rooms other).0 among_too) [
          | inl segment_too ↦
              let one : segment.worker ≡ segment_too.worker =
              one_segment space start.half segment.worker segment_too.worker at
              (here_in_segment start room at segment inside) (here_in_segment start other at segment_too inside_too) in
              segment.is ∙ ap (segment_room space start.half) one ∙ sym segment_too.is
          | inr run ↦
              absurd (run_not_in_segment run.1 (in_run space run.0 other at run.2 inside_too)
              (in_segment start room at segment inside))
        ]
        | inr run ↦ elim ((ready.begins.rooms other).0 among_too) [
          | inl segment ↦
              absurd (run_not_in_segment run.1 (in_run space run.0 room at run.2 inside)
              (in_segment start other at segment inside_too))
          | inr another ↦
              let one : run.0 ≡ another.0 =
              one_run start.rows run.0 another.0 at ready.apart run.1 another.1
              (in_run space run.0 room at run.2 inside) (in_run space another.0 other at another.2 inside_too) in
              run.2 ∙ ap (room_of_run space) one ∙ sym another.2
        ]
      ]

  -- a slot is behind the regions of cells and before the marks, or a slot of a page
  pub slot_place : (at : ℕ) → Contains fixed.slots at
      → ((roots_start start.heap.space ≤ at) × (at < marks_start start.heap.space)) ⊎ IsPageSlot start.heap at
  slot_place at among =
      let kinds = kinds_by_number start.heap.space in
      elim ((ready.begins.slots at).0 among) [
        | inl root ↦
            inl (omega (arith, root.stands), omega (arith, root.stands, root.known, kinds.layouts, kinds.marks))
        | inr recorded ↦ inr ((ready.remembered at).0 recorded).0
      ]
