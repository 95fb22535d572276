-- A sweep goes along the row of a region: past a marked cell, and past the words behind the last one.
use Rattle.std.proofs.Common.{◌≡◌, ℕ, ◌+◌, ◌≤◌, ◌<◌, inl, inr, List, [], Contains, refl}
use Rattle.std.proofs.Common.{subst, arith}
use Rattle.std.proofs.lemmas.Bool.{cases_lt}
use Rattle.page_space.specs.Extents.{ContainsAddress}
use Rattle.page_space.proofs.Covering.{disjoint}
use Rattle.cell_layout.proofs.Rows.{cell_within, row_ascends}
use Rattle.heap_model.specs.Types.{Cell}
use Rattle.heap_model.specs.Heaps.{Heap, Row, IsUsedRow, HasCell, cell_extents}
use Rattle.heap_model.specs.Wholeness.{HasRows}
use Rattle.heap_model.specs.Changes.{Patch}
use Rattle.heap_model.proofs.BoundHeaps.{none_in}
use Rattle.heap_model.proofs.CellsApart.{cell_extent_stands, cells_apart, first_of_cell}
use Rattle.heap_model.proofs.RowEnds.{one_used_row}
use Rattle.heap_model.proofs.Patches.{row_holds}
use Rattle.sweeper.specs.Sweeping.{IsSweptTo}

-- nothing is swept where a sweep begins
pub nothing_swept : (heap : Heap) (marked : List ℕ) → IsSweptTo heap heap.words marked [] 0
nothing_swept heap marked = record {
  long = refl;
  each = λ gap there. absurd (none_in gap there);
  apart = λ one other at there there_too patched patched_too. absurd (none_in one there);
  below = λ gap there. absurd (none_in gap there);
  kept = λ at outside. refl;
  done = λ cell were has below. absurd (omega (arith, below));
}

-- what was swept to an address is to a later one, where each cell between them is marked
swept_further : {heap : Heap} {words marked : List ℕ} {gaps : List Patch} {to : ℕ} (later : ℕ)
    → IsSweptTo heap words marked gaps to → to ≤ later
    → ((cell : Cell) (were : List ℕ) → HasCell heap cell were → to ≤ cell.at → cell.at < later
    → Contains marked cell.at)
    → IsSweptTo heap words marked gaps later
swept_further {to = to} later swept ahead between = record {
  long = swept.long;
  each = swept.each;
  apart = swept.apart;
  below = λ gap there. omega (arith, swept.below gap there, ahead);
  kept = swept.kept;
  done = λ cell were has below. elim (cases_lt cell.at to) [
    | inl before ↦ swept.done cell were has before
    | inr above ↦ inl (between cell were has above below)
  ];
}

-- so a marked cell is passed by
pub marked_is_swept : {heap : Heap} {words marked : List ℕ} {gaps : List Patch} {cell : Cell} {were : List ℕ}
    → HasRows heap → IsSweptTo heap words marked gaps cell.at → HasCell heap cell were → Contains marked cell.at
    → IsSweptTo heap words marked gaps (cell.at + cell.size)
marked_is_swept {heap} {marked = marked} {cell = cell} rows swept has kept =
    swept_further (cell.at + cell.size) swept (omega arith)
    (λ other others has_other above below.
    let same : cell ≡ other =
    cells_apart other.at rows has has_other (record { from = above; below = below }) (first_of_cell has_other) in
    subst (λ (one : Cell). Contains marked one.at) same kept)

-- no cell of a region begins behind its used row
none_behind : {heap : Heap} {row : Row} {cell : Cell} {were : List ℕ} → HasRows heap
    → Contains (cell_extents heap.space) row.extent → IsUsedRow heap row → HasCell heap cell were
    → row.end ≤ cell.at → cell.at < row.extent.start + row.extent.words → ⊥
none_behind {heap} {row} {cell} rows there used has past below =
    let own = has.row in
    let ascends = row_ascends heap.space heap.words row.extent.start row.end row.cells used.stands in
    let here : ContainsAddress row.extent cell.at = record { from = omega (arith, ascends, past); below = below } in
    let first = first_of_cell has in
    let same = disjoint heap.space own.extent row.extent cell.at
    (cell_extent_stands heap.space own.extent has.in_region) (cell_extent_stands heap.space row.extent there)
    (row_holds rows has.in_region has.used has.in_row first) here in
    let within = cell_within heap.space heap.words own.extent.start own.end own.cells cell has.used.stands has.in_row in
    omega (arith, within.1, (one_used_row heap own row has.used used same).end, past, first.below)

-- so where its row is swept a region is
pub region_is_swept : {heap : Heap} {words marked : List ℕ} {gaps : List Patch} {row : Row} (end : ℕ) → HasRows heap
    → Contains (cell_extents heap.space) row.extent → IsUsedRow heap row → row.extent.start + row.extent.words ≡ end
    → row.end ≤ end → IsSweptTo heap words marked gaps row.end → IsSweptTo heap words marked gaps end
region_is_swept end rows there used ends within swept =
    swept_further end swept within
    (λ cell were has past below.
    absurd (none_behind rows there used has past (omega (arith, below, ends))))
