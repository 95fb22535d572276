-- A heap in which all regions are swept: cells stand in rows again. Each of them was marked and stood there, or is a
-- free cell in place of some that were not.
use Rattle.std.proofs.Common.{◌≡◌, ℕ, ◌+◌, ◌≤◌, ◌⊎◌, inl, inr, List, [], ◌++◌, Contains, All, IsTrue, slice_get}
use Rattle.std.proofs.Common.{refl, sym, ◌∙◌, subst, arith, append-nil}
use Rattle.std.proofs.lemmas.List.Elements.{All-contains, All-weaker, All-contains_itself}
use Rattle.tagged_word.specs.Cells.{is_free_kind}
use Rattle.tagged_word.proofs.Members.{first_in, one_in}
use Rattle.page_space.specs.Extents.{eden_start, roots_start}
use Rattle.cell_layout.specs.Cells.{IsRow, none}
use Rattle.cell_layout.proofs.Rows.{row_begins, row_of_none}
use Rattle.heap_model.specs.Types.{Cell}
use Rattle.heap_model.specs.Heaps.{Heap, HasCell, words_of_cell}
use Rattle.heap_model.specs.Kinds.{HasNoNumber}
use Rattle.heap_model.specs.Wholeness.{HasSizes, HasRows, Whole}
use Rattle.heap_model.specs.Changes.{Patch, IsPatch, IsPatched, IsChange, IsRunOf, CellsChange, written}
use Rattle.heap_model.specs.Laws.{gone_with, come_with}
use Rattle.heap_model.proofs.BoundHeaps.{none_in}
use Rattle.heap_model.proofs.CellsApart.{IsOfCell, first_of_cell, used_few}
use Rattle.heap_model.proofs.Patches.{before_is_patched, patched_is_before}
use Rattle.heap_model.proofs.RowCovers.{from_one, of_one}
use Rattle.heap_model.proofs.WordChanges.{changes_keep_cells}
use Rattle.heap_model.proofs.WordsAlike.{cell_below_roots}
use Rattle.sweeper.specs.Sweeping.{IsFreed, IsInGap, IsSweptTo}
use Rattle.sweeper.proofs.Gaps.{ahead_stays, layouts_say}

-- A swept heap.
pub record Swept (heap : Heap) (words marked : List ℕ) (gaps : List Patch) : Type 0 where
  pub whole : Whole heap
  pub swept : IsSweptTo heap words marked gaps (roots_start heap.space)

-- a free cell that has the words of a gap
pub record FillsGap (gap : Patch) (cell : Cell) : Type 0 where
  pub begins : cell.at ≡ gap.from
  pub ends : cell.at + cell.size ≡ gap.to
  pub is_free : IsTrue (is_free_kind cell.layout.kind)
  pub no_number : HasNoNumber cell

-- such a cell stands in one of the gaps
pub record IsOfGap (gaps : List Patch) (cell : Cell) : Type 0 where
  pub gap : Patch
  pub among : Contains gaps gap
  pub fills : FillsGap gap cell

module _ {heap : Heap} {words marked : List ℕ} {gaps : List Patch} (all : Swept heap words marked gaps) where
  -- the heap of afterwards
  abbrev pub after : Heap
  after = written heap words

  -- what a gap is
  pub gap_is : (gap : Patch) → Contains gaps gap → IsFreed heap words marked gap
  gap_is gap there = all.swept.each gap there

  -- a word from the roots on stays
  pub outside_stays : (at : ℕ) → roots_start heap.space ≤ at → slice_get words at ≡ slice_get heap.words at
  outside_stays at past = ahead_stays all.swept at past

  -- sizes are right
  sized : HasSizes after
  sized = record {
    words = all.swept.long ∙ all.whole.sized.words;
    shapes = all.whole.sized.shapes;
    layouts = layouts_say all.swept (omega arith) all.whole.sized;
  }

  -- an address that no patch has is in no gap
  free_is_no_gap : (at : ℕ) → All (λ (gap : Patch). IsPatched at gap → ⊥) gaps → IsInGap gaps at → ⊥
  free_is_no_gap at free inside =
      All-contains (λ (gap : Patch). IsPatched at gap → ⊥) gaps inside.gap free inside.among inside.patched

  -- only words of gaps changed
  change : IsChange heap after gaps []
  change =
      let used : ℕ = eden_start heap.space + heap.used in
      record {
        same_space = refl;
        same_survivors = refl;
        room = all.whole.rows.few;
        more = [];
        paths = sym (append-nil heap.paths);
        sized = sized;
        each = All-weaker (Contains gaps) (IsPatch heap after) (λ gap there. (gap_is gap there).is) gaps
            (All-contains_itself gaps);
        apart = all.swept.apart;
        from = used;
        to = used;
        run = IsRunOf.of_eden refl refl (omega arith);
        beside = λ patch at there patched above below. omega (arith, above, below);
        made_stand = none used;
        cells_stay = λ at below free not_new. all.swept.kept at (free_is_no_gap at free);
        roots_stay = λ at above below. outside_stays at above;
      }

  -- so cells stand in rows again, and change so
  changed : HasRows after × CellsChange heap after (gone_with gaps) (come_with gaps) []
  changed = changes_keep_cells heap after gaps [] all.whole change

  -- cells stand in rows
  pub rows_again : HasRows after
  rows_again = changed.0

  -- sizes are right again
  pub sizes_again : HasSizes after
  sizes_again = sized

  -- a cell that has an address of a gap is one of those that stood there, and so is not marked
  pub gap_cell_is_dead : {cell : Cell} {were : List ℕ} {at : ℕ} (gap : Patch) → Contains gaps gap
      → HasCell heap cell were → IsOfCell cell at → IsPatched at gap → Contains gap.before cell
  gap_cell_is_dead gap there has of_cell patched =
      patched_is_before all.whole.rows (gap_is gap there).is has of_cell patched

  -- no address of a marked cell is in a gap
  pub marked_is_no_gap : {cell : Cell} {were : List ℕ} {at : ℕ} → HasCell heap cell were → Contains marked cell.at
      → IsOfCell cell at → IsInGap gaps at → ⊥
  marked_is_no_gap {cell} has kept of_cell inside =
      (gap_is inside.gap inside.among).unmarked cell
      (gap_cell_is_dead inside.gap inside.among has of_cell inside.patched) kept

  -- a cell is marked, or all its addresses are in one gap
  pub marked_or_dead : {cell : Cell} {were : List ℕ} → HasCell heap cell were
      → Contains marked cell.at ⊎ ((gap : Patch) × Contains gaps gap × Contains gap.before cell)
  marked_or_dead {cell} {were} has =
      let first = first_of_cell has in
      elim (all.swept.done cell were has (omega (arith, first.below, cell_below_roots (used_few all.whole.rows) has))) [
        | inl kept ↦ inl kept
        | inr inside ↦
            inr (inside.gap, inside.among, gap_cell_is_dead inside.gap inside.among has first inside.patched)
      ]

  -- the address of a cell that is not marked is in its gap
  pub dead_is_in_gap : {cell : Cell} {at : ℕ} (gap : Patch) → Contains gaps gap → Contains gap.before cell
      → IsOfCell cell at → IsInGap gaps at
  dead_is_in_gap gap there before of_cell =
      record { gap = gap; among = there; patched = before_is_patched (gap_is gap there).is before of_cell }

  -- a marked cell stands as before
  pub marked_stays : {cell : Cell} {were : List ℕ} → HasCell heap cell were → Contains marked cell.at
      → HasCell after cell were
  marked_stays {cell} {were} has kept =
      changed.1.kept cell were has
      (λ gone.
      let one = from_one (λ (gap : Patch). gap.before) gaps cell gone in
      (gap_is one.one one.among).unmarked cell one.has kept)
      (λ filled. none_in filled.begins.other filled.begins.among)

  -- the words of a marked cell stay
  pub marked_word_stays : {cell : Cell} {were : List ℕ} (at : ℕ) → HasCell heap cell were → Contains marked cell.at
      → IsOfCell cell at → slice_get words at ≡ slice_get heap.words at
  marked_word_stays at has kept of_cell = all.swept.kept at (marked_is_no_gap has kept of_cell)

  -- the free cell of a gap has its words
  pub free_fills : (gap : Patch) (there : Contains gaps gap) → FillsGap gap (gap_is gap there).free
  free_fills gap there =
      let freed = gap_is gap there in
      let Row_of : List Cell → Type 0 = λ cells. IsRow heap.space words gap.from gap.to cells in
      let begins = row_begins (subst Row_of freed.one freed.is.stands) in
      record {
        begins = begins.starts;
        ends = row_of_none begins.rest;
        is_free = freed.is_free;
        no_number = freed.no_number;
      }

  -- and is a cell of the heap
  pub free_stands : (gap : Patch) (there : Contains gaps gap)
      → HasCell after (gap_is gap there).free (words_of_cell after (gap_is gap there).free)
  free_stands gap there =
      let freed = gap_is gap there in
      let of_after : Contains gap.after freed.free =
      subst (λ (cells : List Cell). Contains cells freed.free) (sym freed.one) (first_in freed.free []) in
      changed.1.comes freed.free
      (subst (λ (cells : List Cell). Contains cells freed.free) (sym (append-nil (come_with gaps)))
      (of_one (λ (one : Patch). one.after) gaps gap freed.free there of_after))

  -- what came is such a cell
  came_is_of_gap : (cell : Cell) → Contains (come_with gaps ++ []) cell → IsOfGap gaps cell
  came_is_of_gap cell came =
      let one = from_one (λ (gap : Patch). gap.after) gaps cell
      (subst (λ (cells : List Cell). Contains cells cell) (append-nil (come_with gaps)) came) in
      let freed = gap_is one.one one.among in
      let same : freed.free ≡ cell =
      one_in freed.free cell (subst (λ (cells : List Cell). Contains cells cell) freed.one one.has) in
      record { gap = one.one; among = one.among; fills = subst (FillsGap one.one) same (free_fills one.one one.among) }

  -- Each cell is of a gap, or was marked and stood there.
  pub cell_from : {cell : Cell} {now : List ℕ} → HasCell after cell now
      → IsOfGap gaps cell ⊎ (HasCell heap cell now × Contains marked cell.at)
  cell_from {cell} {now} has = elim (changed.1.back cell now has) [
    | inl came ↦ inl (came_is_of_gap cell came)
    | inr stood ↦ elim (marked_or_dead stood.0) [
      | inl kept ↦ inr (stood.0, kept)
      | inr dead ↦ absurd (stood.1 (of_one (λ (gap : Patch). gap.before) gaps dead.0 cell dead.1 dead.2))
    ]
  ]
