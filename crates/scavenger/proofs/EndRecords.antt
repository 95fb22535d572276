-- What is recorded at the end of a scavenge: exactly the slots of pages that refer to young cells.
use Rattle.std.proofs.Common.{◌≡◌, ℕ, ◌+◌, ◌<◌, ◌≤◌, ◌⊎◌, inl, inr, false, IsTrue, List, Contains, slice_get, get_or}
use Rattle.std.proofs.Common.{refl, sym, ◌∙◌, ap, subst, arith}
use Rattle.std.proofs.lemmas.Option.{same_Some, slice_get-get_or, get_or_from_slice_get}
use Rattle.tagged_word.specs.Cells.{scavenge_offsets, is_free_kind}
use Rattle.tagged_word.specs.Readings.{reference_in}
use Rattle.tagged_word.proofs.Readings.{reference_from}
use Rattle.page_space.specs.Extents.{eden_start}
use Rattle.cell_layout.proofs.OneCell.{slots_lie_within}
use Rattle.heap_model.specs.Types.{Cell, Run}
use Rattle.heap_model.specs.Heaps.{HasCell, words_of_cell}
use Rattle.heap_model.specs.Remembered.{IsSlotOf, IsPageSlot, RefersToYoung, AreRemembered}
use Rattle.heap_model.proofs.BoundHeaps.{none_in}
use Rattle.heap_model.proofs.CellsApart.{has_is_cell, one_at}
use Rattle.heap_model.proofs.CellWords.{word_there}
use Rattle.heap_model.proofs.RememberedSlots.{page_slot_below, refers_to_young_stays}
use Rattle.heap_model.proofs.WordClasses.{same_reference}
use Rattle.heap_moves.specs.Moved.{moved_to}
use Rattle.scav_copy.specs.declared.places.Home.{Home}
use Rattle.scav_copy.specs.Places.{Fixed, offsets_in, offsets_of, StoodAt}
use Rattle.scav_copy.specs.Renamings.{RefersToAddress}
use Rattle.scav_copy.specs.Copies.{IsKeptOrRenamed}
use Rattle.scav_copy.proofs.Reading.{copies_end}
use Rattle.scav_copy.proofs.Spots.{slot_in_cell}
use Rattle.scavenger.specs.Starts.{Start}
use Rattle.scavenger.specs.Walking.{AreKept, IsPromotedSlot, RefersToRoom}
use Rattle.scavenger.specs.Scavenged.{begins_free}
use Rattle.scavenger.proofs.TargetCells.{IsInNewHalf, before_is_young}
use Rattle.scavenger.proofs.KeptSpots.{segment_copy}
use Rattle.scavenger.proofs.Targets.{live_has_place}
use Rattle.scavenger.proofs.PagesSlots.{free_slots}
use Rattle.scavenger.proofs.EndRuns.{used_is_no_run}
use Rattle.scavenger.proofs.EndWords.{Ending, the_halves, kept_apart}
use Rattle.scavenger.proofs.EndCopies.{young_of}
use Rattle.scavenger.proofs.EndRows.{CameFrom}
use Rattle.scavenger.proofs.EndHeap.{end_heap, came_from, page_stays, copy_stands}
use Rattle.scavenger.proofs.EndPlaces.{young_or_not}
use Rattle.scavenger.proofs.EndSlots.{slots_read, recorded_is_young, young_is_recorded}
use Rattle.scavenger.proofs.EndStands.{page_kept}

-- a free cell has no slot
free_has_none : {cell : Cell} {at : ℕ} → IsSlotOf cell at → IsTrue (is_free_kind cell.layout.kind) → ⊥
free_has_none {cell} slot free =
    let none = free_slots cell.layout.kind cell.layout cell.length free in
    none_in slot.offset (subst (λ (offsets : List ℕ). Contains offsets slot.offset) none slot.visited)

module _ {start : Start} {left : ℕ} {fixed : Fixed} {homes : List Home} {rows : List (List Run)} {words now : List ℕ}
    {fill : ℕ} (ending : Ending start left fixed homes rows words now fill) where
  -- a home is in a segment, where it is young
  home_in_half : (home : Home) → Contains homes home → eden_start start.heap.space ≤ home.to
      → IsInNewHalf start home.to
  home_in_half home there young = segment_copy ending.begun home ending.filled.copying there young

  -- what a live slot refers to, where it was kept or renamed, is in a segment, where it is young
  live_by : (slot place cell : ℕ) → StoodAt fixed homes slot place → RefersToAddress words slot cell
      → eden_start start.heap.space ≤ cell
      → IsKeptOrRenamed homes (get_or fixed.before place 0) (get_or words slot 0) → IsInNewHalf start cell
  live_by slot place cell stood refers young (IsKeptOrRenamed.kept same) =
      let before : RefersToAddress fixed.before place cell = ap reference_in (sym same) ∙ refers in
      let among =
      ending.begun.targets place cell (live_has_place slot place ending.filled.copying stood) before young in
      absurd (ending.done slot place cell stood refers among)
  live_by slot place cell stood refers young (IsKeptOrRenamed.renamed home there was is) =
      let same : home.to ≡ cell =
      same_reference home.to cell (sym is ∙ (reference_from (get_or words slot 0) cell refers).1) in
      subst (IsInNewHalf start) same (home_in_half home there (omega (arith, same, young)))

  -- so it is
  pub young_in_half : (slot place cell : ℕ) → StoodAt fixed homes slot place → RefersToAddress words slot cell
      → eden_start start.heap.space ≤ cell → IsInNewHalf start cell
  young_in_half slot place cell stood refers young =
      live_by slot place cell stood refers young (ending.filled.copying.live slot place stood)

  -- a slot of a cell of a page is one at the end
  page_slot_stays : {at : ℕ} → IsPageSlot start.heap at → IsPageSlot (end_heap ending) at
  page_slot_stays slot =
      let none = used_is_no_run ending.begun record {
        cell = slot.cell;
        words = slot.words;
        has = slot.has;
        stands = refl;
        used = free_has_none slot.slot;
      } in
      record {
        cell = slot.cell;
        words = words_of_cell (end_heap ending) slot.cell;
        has = page_stays ending slot.has slot.of_page none;
        of_page = slot.of_page;
        slot = slot.slot;
      }

  -- a slot of a home copy in a page is one
  promoted_slot : {at : ℕ} → IsPromotedSlot start fixed homes at → IsPageSlot (end_heap ending) at
  promoted_slot slot =
      let home = slot.home in
      let is = young_of ending home slot.among in
      let cell = moved_to is.cell home.to in
      let same : offsets_of fixed home.from ≡ scavenge_offsets is.cell.layout is.cell.length =
      ap offsets_in (before_is_young ending.begun is) in
      record {
        cell = cell;
        words = words_of_cell (end_heap ending) cell;
        has = copy_stands ending home slot.among is;
        of_page = slot.in_page;
        slot = record {
          offset = slot.offset;
          visited = subst (λ offsets. Contains offsets slot.offset) same slot.visited;
          stands = slot.stands;
        };
      }

  -- it refers to what is young, where it refers to the segment
  room_is_young : {at : ℕ} → IsPromotedSlot start fixed homes at → RefersToRoom start words at
      → RefersToYoung (eden_start start.heap.space) now at
  room_is_young {at} slot refers =
      let halves = the_halves ending in
      let below = page_slot_below (promoted_slot slot) in
      let end = copies_end fixed words homes slot.home ending.begun.laid ending.filled.copying slot.among in
      let within = (slot_in_cell fixed slot.home.from slot.offset slot.visited).1 in
      record {
        word = get_or words at 0;
        stands = kept_apart ending at (inl below)
            ∙ slice_get-get_or words at 0 (omega (arith, end, within, slot.stands));
        cell = refers.cell;
        refers = refers.refers;
        young = omega (arith, refers.from, halves.room_from, halves.from);
      }

  -- a slot of a cell of a page that refers to what is young at the end was recorded
  was_recorded : {cell : Cell} {body : List ℕ} {at : ℕ} → HasCell start.heap cell body
      → cell.at < eden_start start.heap.space → begins_free start.rows cell.at ≡ false → IsSlotOf cell at
      → RefersToYoung (eden_start start.heap.space) now at → Contains start.recorded at
  was_recorded {cell} {body} {at} has below none slot refers =
      let offset : ℕ = slot.offset in
      let within =
      (slots_lie_within start.heap.space start.heap.words cell offset (has_is_cell has) slot.visited).within in
      let word = word_there offset has within in
      subst (Contains start.recorded) slot.stands
      (elim (young_or_not word.0 (eden_start start.heap.space)) [
        | inl young ↦ young_is_recorded ending offset word.0 young.0 has below slot.visited word.1 young.1 young.2
        | inr old ↦
            let kept = page_kept ending offset word.0 has below none within word.1 (λ recorded.
            let young = recorded_is_young ending offset word.0 has within word.1 recorded in
            omega (arith, old young.0 young.1, young.2)) in
            let same : word.0 ≡ refers.word =
            same_Some word.0 refers.word (sym kept ∙ ap (slice_get now) slot.stands ∙ refers.stands) in
            let is = (reference_from refers.word refers.cell refers.refers).1 in
            absurd (omega (arith, old refers.cell (same ∙ is), refers.young))
      ])

  -- a slot of a home copy that refers to what is young refers to the segment
  copy_refers : (home : Home) (offset at : ℕ) → Contains homes home → Contains (offsets_of fixed home.from) offset
      → home.to + offset ≡ at → RefersToYoung (eden_start start.heap.space) words at → RefersToRoom start words at
  copy_refers home offset at there visited stands refers =
      let reads : RefersToAddress words at refers.cell =
      ap reference_in (get_or_from_slice_get words at refers.word 0 refers.stands) ∙ refers.refers in
      let stood = StoodAt.in_cell home offset there visited stands refl in
      let inside = young_in_half at (home.from + offset) refers.cell stood reads refers.young in
      record { cell = refers.cell; refers = reads; from = inside.from; below = inside.below }

  -- a slot of a page that refers to what is young was recorded, or is one of a home copy that refers to the segment
  slot_by : {cell : Cell} {body : List ℕ} {at : ℕ} → HasCell (end_heap ending) cell body
      → cell.at < eden_start start.heap.space → IsSlotOf cell at
      → RefersToYoung (eden_start start.heap.space) now at → RefersToYoung (eden_start start.heap.space) words at
      → CameFrom start homes rows cell
      → (Contains start.recorded at × RefersToYoung (eden_start start.heap.space) words at)
      ⊎ (IsPromotedSlot start fixed homes at × RefersToRoom start words at)
  slot_by has in_page slot refers was (CameFrom.of_page body had below none) =
      inl (was_recorded had below none slot refers, was)
  slot_by {at = at} has in_page slot refers was (CameFrom.of_copy home there same) =
      let is = young_of ending home there in
      let one = one_at has (copy_stands ending home there is) (sym same) in
      let own : IsSlotOf (moved_to is.cell home.to) at = subst (λ (any : Cell). IsSlotOf any at) one slot in
      let visited = slots_read ending home own.offset is own.visited in
      inr (
        record {
          home = home;
          among = there;
          in_page = omega (arith, same, in_page);
          offset = own.offset;
          visited = visited;
          stands = own.stands;
        },
        copy_refers home own.offset at there visited own.stands was,
      )
  slot_by has in_page slot refers was (CameFrom.of_free run is same size below free no_number) =
      absurd (free_has_none slot free)

  -- so what is recorded at the end is right
  pub end_is_remembered : (slots : List ℕ) → AreKept start fixed words homes slots
      → AreRemembered (end_heap ending) slots
  end_is_remembered slots kept at = (
    λ there. elim ((kept at).0 there) [
      | inl recorded ↦
          let slot = ((ending.begun.remembered at).0 recorded.0).0 in (
            page_slot_stays slot,
            refers_to_young_stays (kept_apart ending at (inl (page_slot_below slot))) recorded.1,
          )
      | inr promoted ↦ (promoted_slot promoted.0, room_is_young promoted.0 promoted.1)
    ],
    λ both.
        let slot = both.0 in
        let same = kept_apart ending at (inl (page_slot_below slot)) in
        (kept at).1 (slot_by slot.has slot.of_page slot.slot both.1 (refers_to_young_stays (sym same) both.1)
        (came_from ending slot.has)),
  )
