-- What stands in pages stays where a cell is copied behind the copies of the segment.
use Rattle.std.proofs.Common.{◌≡◌, ℕ, ◌+◌, ◌*◌, ◌<◌, ◌≤◌, ◌↔◌, inl, inr, List, length}
use Rattle.std.proofs.Common.{sym, ap, subst, arith}
use Rattle.page_space.specs.Sizes.{page_words}
use Rattle.page_space.specs.Extents.{eden_start, layouts_start}
use Rattle.page_space.proofs.LawsHold.{kinds_by_number}
use Rattle.cell_layout.proofs.OneCell.{cells_have_words}
use Rattle.free_runs.specs.Laws.{IsFreeWord}
use Rattle.heap_model.specs.Types.{Cell, Run}
use Rattle.scav_copy.specs.declared.places.Home.{Home}
use Rattle.scav_copy.specs.Places.{Fixed, IsInCopy, IsInCopies}
use Rattle.scav_copy.specs.Copies.{with_home}
use Rattle.scav_copy.proofs.Ascending.{old_in, joined_is}
use Rattle.scavenger.specs.Starts.{Start, IsBegun, room_start}
use Rattle.scavenger.specs.Filling.{CopiesFillRooms, IsInPromoted, IsOfPage, PageStands}
use Rattle.scavenger.specs.Following.{moved_words}
use Rattle.scavenger.specs.Paging.{IsUnmoved, PagesStayForCopies, WordsStayLeft, FreeStaysApart}
use Rattle.scavenger.proofs.TargetNumbers.{room_below_roots}
use Rattle.scavenger.proofs.FollowTiles.{tiles_ascend}
use Rattle.scavenger.proofs.PagesWords.{StaysIn, length-moved, moved_elsewhere}
use Rattle.scavenger.proofs.PagesCells.{as_long, unmoved_is}
use Rattle.scavenger.proofs.PagesFree.{free_below}
use Rattle.scavenger.proofs.PagesSlots.{page_stays}

-- the segment is filled up to an address behind its start, which is behind the pages
pub fill_behind : {start : Start} {fixed : Fixed} {words : List ℕ} {rows : List (List Run)} {homes : List Home}
    {fill : ℕ} → CopiesFillRooms start fixed words rows homes fill → eden_start start.heap.space ≤ fill
fill_behind {start} {fill = fill} filled =
    omega (arith, tiles_ascend (room_start start.heap.space start.half) fill filled.stayed filled.tiles)

-- what a cell of a page is, it is with one home more
pub of_page_still : {start : Start} {rows : List (List Run)} {homes : List Home} {cell : Cell} (new : Home)
    → IsOfPage start rows homes cell → IsOfPage start rows (with_home homes new) cell
of_page_still new (IsOfPage.stays body has none) = IsOfPage.stays body has none
of_page_still {homes = homes} new (IsOfPage.copy home there same) =
    IsOfPage.copy home (old_in homes new home there) same
of_page_still new (IsOfPage.free run is same size free no_number) = IsOfPage.free run is same size free no_number

-- a page stands with one home more that is not in a page
page_with_home : {start : Start} {words : List ℕ} {rows : List (List Run)} {homes : List Home} (new : Home) (page : ℕ)
    → page < start.heap.space.sizes.pages → eden_start start.heap.space ≤ new.to
    → PageStands start words rows homes page → PageStands start words rows (with_home homes new) page
page_with_home {start} {homes = homes} new page known young stands = record {
  cells = stands.cells;
  row = stands.row;
  each = λ cell there. of_page_still new (stands.each cell there);
  stay = stands.stay;
  copies = λ home there here. elim (joined_is homes new home there) [
    | inl same ↦
        let to : new.to ≡ home.to = ap (λ (one : Home). one.to) same in
        absurd (omega (arith, young, to, here.below, known))
    | inr among ↦ stands.copies home among here
  ];
  runs = stands.runs;
}

module _ {start : Start} {fixed : Fixed} {words : List ℕ} {rows : List (List Run)} {homes : List Home} {fill : ℕ}
    {cell : Cell} (begun : IsBegun start fixed) (filled : CopiesFillRooms start fixed words rows homes fill)
    (unmoved : IsUnmoved start fixed words homes cell) where
  -- the words of the cell are there
  pub cell_there : cell.at + cell.size ≤ length words
  cell_there = unmoved.is_cell.reads.there

  -- the words of a page stay where the cell is copied to the segment
  moved_in_page : (page : ℕ) → page < start.heap.space.sizes.pages
      → fill + cell.size ≤ room_start start.heap.space start.half + start.heap.space.sizes.young
      → StaysIn start.heap.space words (moved_words words cell fill) (page_words * page)
      (page_words * page + page_words)
  moved_in_page page known fits =
      let space = start.heap.space in
      let is = unmoved_is cell begun filled.copying unmoved in
      let numbers = kinds_by_number space in
      let long = as_long begun filled.copying in
      let ends = room_below_roots space start.half begun.is_half in
      let behind = fill_behind filled in
      let some = (cells_have_words space words cell unmoved.is_cell).0 in
      let room : fill + cell.size ≤ length words = omega (arith, fits, ends, long, numbers.layouts, numbers.marks) in
      record {
        long = length-moved words cell fill cell_there room;
        within = λ at low high. moved_elsewhere words cell fill cell_there room at
            (omega (arith, high, known, behind, room)) (λ same. omega (arith, same, high, known, is.young))
            (inl (omega (arith, high, known, behind)));
        layouts = λ shape below. moved_elsewhere words cell fill cell_there room (layouts_start space + shape)
            (omega (arith, below, long, numbers.marks))
            (λ same. omega (arith, same, is.below, numbers.layouts, some))
            (inr (omega (arith, fits, ends, numbers.layouts)));
      }

-- a word of a copy in a page is one with a home more that is not in a page
promoted_still : (start : Start) (fixed : Fixed) (homes : List Home) (new : Home) (at : ℕ)
    → eden_start start.heap.space ≤ new.to
    → IsInPromoted start fixed homes at ↔ IsInPromoted start fixed (with_home homes new) at
promoted_still start fixed homes new at young = (
  λ is. (is.0, old_in homes new is.0 is.1, is.2, is.3),
  λ is. elim (joined_is homes new is.0 is.1) [
    | inl same ↦ absurd (omega (arith, young, ap (λ (one : Home). one.to) same, is.2))
    | inr among ↦ (is.0, among, is.2, is.3)
  ],
)

-- no word of a free run is in a copy with one more
pub apart_still : {start : Start} {fixed : Fixed} {words : List ℕ} {rows : List (List Run)} {homes : List Home}
    {fill : ℕ} (new : Home) (at : ℕ) → CopiesFillRooms start fixed words rows homes fill → IsFreeWord rows at
    → (IsInCopy fixed new at → ⊥)
    → IsInCopies fixed (with_home homes new) at → ⊥
apart_still {fixed = fixed} {homes = homes} new at filled free other inside =
    elim (joined_is homes new inside.0 inside.1) [
      | inl same ↦ other (subst (λ (home : Home). IsInCopy fixed home at) (sym same) inside.2)
      | inr among ↦ filled.apart at free (inside.0, among, inside.2)
    ]

-- a cell may be copied behind the copies of the segment
pub pages_stay_for_copies : PagesStayForCopies
pages_stay_for_copies start fixed words rows homes fill cell begun filled unmoved fits page known =
    let new : Home = record { from = cell.at; to = fill } in
    page_with_home new page known (fill_behind filled)
    (page_stays page (filled.pages page known) (moved_in_page begun filled unmoved page known fits))

-- then each word that was in a free run is in one or in a copy
pub words_stay_left : WordsStayLeft
words_stay_left start fixed words rows homes fill cell at begun filled unmoved =
    let new : Home = record { from = cell.at; to = fill } in
    let still = promoted_still start fixed homes new at (fill_behind filled) in (
      λ was. elim ((filled.left at).0 was) [ inl free ↦ inl free | inr copied ↦ inr (still.0 copied) ],
      λ now. (filled.left at).1 (elim now [ inl free ↦ inl free | inr copied ↦ inr (still.1 copied) ]),
    )

-- and in no more than one of both
pub free_stays_apart : FreeStaysApart
free_stays_apart start fixed words rows homes fill cell at begun filled unmoved free =
    let new : Home = record { from = cell.at; to = fill } in
    let below = free_below begun filled at free in
    let behind = fill_behind filled in
    apart_still new at filled free (λ inside. omega (arith, below, behind, inside.from))
