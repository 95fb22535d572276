-- A part of a row whose cells are not marked becomes one free cell: it is one gap more.
use Rattle.std.proofs.Common.{◌≡◌, ℕ, ◌+◌, ◌-◌, ◌≤◌, ◌<◌, ◌⊎◌, inl, inr, List, [], ◌∷◌, ◌++◌, Contains, length}
use Rattle.std.proofs.Common.{refl, sym, ◌∙◌, ap, subst, arith}
use Rattle.std.proofs.lemmas.Bool.{cases_lt}
use Rattle.std.proofs.lemmas.List.Elements.{Contains-append_left, Contains-append_right}
use Rattle.tagged_word.proofs.Members.{first_in, in_cases}
use Rattle.page_space.specs.Sizes.{page_words}
use Rattle.page_space.specs.Extents.{Space, Extent, ContainsAddress, CellsEndAt, roots_start, layouts_start}
use Rattle.page_space.proofs.Covering.{disjoint}
use Rattle.page_space.proofs.Starts.{layouts_start_is, marks_start_is}
use Rattle.cell_layout.specs.Cells.{IsCell, IsRow}
use Rattle.cell_layout.proofs.Rows.{row_begins, row_of_none}
use Rattle.heap_model.specs.Types.{Cell}
use Rattle.heap_model.specs.Heaps.{Heap, Row, IsUsedRow, HasCell, cell_extents, words_of_cell}
use Rattle.heap_model.specs.Wholeness.{HasSizes, HasRows}
use Rattle.heap_model.specs.Changes.{Patch, IsPatch, IsPatched, PatchesDisjoint, written}
use Rattle.heap_model.proofs.CellsApart.{has_is_cell, cell_extent_stands, ends_within, first_of_cell, used_few}
use Rattle.heap_model.proofs.Patches.{row_holds}
use Rattle.heap_model.proofs.Rewrites.{row_of_one}
use Rattle.heap_model.proofs.WordsAlike.{extent_below_roots}
use Rattle.write_barrier.specs.FreeCells.{with_free_cell}
use Rattle.write_barrier.proofs.FreeCells.{free_cell, free_cell_is_free, free_cell_no_number, free_cell_put}
use Rattle.write_barrier.proofs.FreeCells.{cell_beside, beside_free_cell, length-free_cell, shapes_have_free}
use Rattle.sweeper.specs.Sweeping.{IsFreed, IsInGap, IsSweptTo}
use Rattle.sweeper.proofs.Gaps.{range_cases, in_more, in_first, layouts_say}

-- A part of a used row, from an address up to another: its cells are not marked, and have no more words than a page.
pub record DeadPart (heap : Heap) (marked : List ℕ) (from to : ℕ) : Type 0 where
  pub sized : HasSizes heap
  pub rows : HasRows heap
  pub row : Row
  pub in_region : Contains (cell_extents heap.space) row.extent
  pub used : IsUsedRow heap row
  pub front : List Cell
  pub dead : List Cell
  pub back : List Cell
  pub part : row.cells ≡ front ++ dead ++ back
  pub stood : IsRow heap.space heap.words from to dead
  pub ends : to ≤ row.end
  pub unmarked : (cell : Cell) → Contains dead cell → Contains marked cell.at → ⊥
  pub some : from < to
  pub short : to ≤ from + page_words

-- a row with words begins with a cell
pub first_of : {space : Space} {words : List ℕ} {from to : ℕ} (cells : List Cell) → from < to
    → IsRow space words from to cells → (cell : Cell) × Contains cells cell × (cell.at ≡ from)
first_of [] some row = absurd (omega (arith, some, row_of_none row))
first_of (cell ∷ cells) some row = (cell, first_in cell cells, (row_begins row).starts)

module _ {heap : Heap} {words marked : List ℕ} {gaps : List Patch} {from to : ℕ}
    (swept : IsSweptTo heap words marked gaps from) (part : DeadPart heap marked from to) where
  -- the words with a free cell over them
  abbrev pub freed_words : List ℕ
  freed_words = with_free_cell words from (to - from)

  -- the free cell
  abbrev over : Cell
  over = free_cell from (to - from)

  -- the gap that the part becomes
  abbrev pub gap_of : Patch
  gap_of = record { from = from; to = to; before = part.dead; after = over ∷ [] }

  -- the row ends in its region
  pub row_ends : part.row.end ≤ part.row.extent.start + part.row.extent.words
  row_ends = ends_within heap part.row (used_few part.rows) part.in_region part.used

  -- the part ends before the roots
  pub ends_before_roots : to ≤ roots_start heap.space
  ends_before_roots =
      omega (arith, part.ends, row_ends, extent_below_roots heap.space part.row.extent part.in_region)

  -- and so before the layout words
  ends_before_layouts : from + (to - from) ≤ layouts_start heap.space
  ends_before_layouts = omega (arith, part.some, ends_before_roots, layouts_start_is heap.space)

  -- the first cell of the part stands at its begin
  first_cell : (cell : Cell) × Contains part.dead cell × (cell.at ≡ from)
  first_cell = first_of part.dead part.some part.stood

  -- each of its cells is one of the row's
  pub dead_in_row : (cell : Cell) → Contains part.dead cell → Contains part.row.cells cell
  dead_in_row cell there =
      subst (λ (all : List Cell). Contains all cell) (sym part.part)
      (Contains-append_left (part.front ++ part.dead) part.back cell
      (Contains-append_right part.front part.dead cell there))

  -- and so one of the heap's
  pub dead_has : (cell : Cell) → Contains part.dead cell → HasCell heap cell (words_of_cell heap cell)
  dead_has cell there = record {
    row = part.row;
    in_region = part.in_region;
    used = part.used;
    in_row = dead_in_row cell there;
    words_are = refl;
  }

  -- the region has its first address
  pub begins_inside : ContainsAddress part.row.extent from
  begins_inside =
      let first = first_cell in
      subst (ContainsAddress part.row.extent) first.2
      (row_holds part.rows part.in_region part.used (dead_in_row first.0 first.1)
      (first_of_cell (dead_has first.0 first.1)))

  -- cells may stand from there to the end of the region
  cells_end : CellsEndAt heap.space from (part.row.extent.start + part.row.extent.words)
  cells_end =
      let first = first_cell in
      let has = dead_has first.0 first.1 in
      let stands = (has_is_cell has).stands in
      let same : stands.extent ≡ part.row.extent =
      disjoint heap.space stands.extent part.row.extent first.0.at stands.stands
      (cell_extent_stands heap.space part.row.extent part.in_region) stands.holds
      (row_holds part.rows part.in_region part.used (dead_in_row first.0 first.1) (first_of_cell has)) in
      let At : ℕ → Type 0 = λ at. CellsEndAt heap.space at (part.row.extent.start + part.row.extent.words) in
      let End : ℕ → Type 0 = λ end. CellsEndAt heap.space first.0.at end in
      subst At first.2 (subst End (sym stands.ends ∙ ap (λ (e : Extent). e.start + e.words) same) stands)

  -- there are so many words
  long_enough : from + (to - from) ≤ length words
  long_enough =
      omega (
        arith,
        part.some,
        ends_before_roots,
        layouts_start_is heap.space,
        marks_start_is heap.space,
        part.sized.words,
        swept.long,
      )

  -- the free cell stands in the words
  over_stands : IsCell heap.space freed_words over
  over_stands =
      let within : from ≤ roots_start heap.space = omega (arith, part.some, ends_before_roots) in
      free_cell_put heap.space words from (to - from) (part.row.extent.start + part.row.extent.words)
      (shapes_have_free heap.space words heap.paths (layouts_say swept within part.sized)) cells_end
      (omega (arith, part.some)) (omega (arith, part.short)) (omega (arith, part.some, part.ends, row_ends)) long_enough

  -- so the part is a patch
  is_patch : IsPatch heap (written heap freed_words) gap_of
  is_patch = record {
    row = part.row;
    in_region = part.in_region;
    used = part.used;
    front = part.front;
    back = part.back;
    part = part.part;
    stood = part.stood;
    stands = row_of_one from to over_stands refl (omega (arith, part.some));
  }

  -- which is freed
  is_freed : IsFreed heap freed_words marked gap_of
  is_freed = record {
    is = is_patch;
    some = part.some;
    free = over;
    one = refl;
    is_free = free_cell_is_free from (to - from);
    no_number = free_cell_no_number from (to - from);
    unmarked = part.unmarked;
  }

  -- a row of one cell stays where that ends before the part
  row_stays : (start end : ℕ) (cells : List Cell) (cell : Cell) → cells ≡ cell ∷ [] → end ≤ from
      → IsRow heap.space words start end cells → IsRow heap.space freed_words start end cells
  row_stays start end cells cell one before row =
      let Row_of : List Cell → Type 0 = λ all. IsRow heap.space words start end all in
      let Row_now : List Cell → Type 0 = λ all. IsRow heap.space freed_words start end all in
      let begins = row_begins (subst Row_of one row) in
      let ends = row_of_none begins.rest in
      subst Row_now (sym one)
      (row_of_one start end
      (cell_beside heap.space words from (to - from) cell ends_before_layouts begins.is_cell
      (inl (omega (arith, ends, before)))) begins.starts ends)

  -- a gap from before stays freed
  freed_stays : (gap : Patch) → Contains gaps gap → IsFreed heap freed_words marked gap
  freed_stays gap there =
      let freed = swept.each gap there in
      let is = freed.is in
      record {
        is = record {
          row = is.row;
          in_region = is.in_region;
          used = is.used;
          front = is.front;
          back = is.back;
          part = is.part;
          stood = is.stood;
          stands = row_stays gap.from gap.to gap.after freed.free freed.one (swept.below gap there) is.stands;
        };
        some = freed.some;
        free = freed.free;
        one = freed.one;
        is_free = freed.is_free;
        no_number = freed.no_number;
        unmarked = freed.unmarked;
      }

  -- each of the gaps is freed
  each_freed : (gap : Patch) → Contains (gap_of ∷ gaps) gap → IsFreed heap freed_words marked gap
  each_freed gap there = elim (in_cases gap_of gaps gap there) [
    | inl same ↦ subst (IsFreed heap freed_words marked) same is_freed
    | inr later ↦ freed_stays gap later
  ]

  -- a gap from before has no address of the part
  apart_from : (gap : Patch) (at : ℕ) → Contains gaps gap → IsPatched at gap → IsPatched at gap_of → ⊥
  apart_from gap at there patched here = omega (arith, patched.below, swept.below gap there, here.from)

  -- the gaps have no address in common
  all_apart : PatchesDisjoint (gap_of ∷ gaps)
  all_apart one other at there there_too patched patched_too = elim (in_cases gap_of gaps one there) [
    | inl same ↦ elim (in_cases gap_of gaps other there_too) [
      | inl same_too ↦ sym same ∙ same_too
      | inr later ↦ absurd (apart_from other at later patched_too (subst (IsPatched at) (sym same) patched))
    ]
    | inr later ↦ elim (in_cases gap_of gaps other there_too) [
      | inl same ↦ absurd (apart_from one at later patched (subst (IsPatched at) (sym same) patched_too))
      | inr later_too ↦ swept.apart one other at later later_too patched patched_too
    ]
  ]

  -- they end where the part does, or before
  all_below : (gap : Patch) → Contains (gap_of ∷ gaps) gap → gap.to ≤ to
  all_below gap there = elim (in_cases gap_of gaps gap there) [
    | inl same ↦ omega (arith, ap (λ (one : Patch). one.to) same)
    | inr later ↦ omega (arith, swept.below gap later, part.some)
  ]

  -- an address that is in no gap is beside the part
  beside_part : (at : ℕ) → (IsInGap (gap_of ∷ gaps) at → ⊥) → (at < from) ⊎ (from + (to - from) ≤ at)
  beside_part at outside = elim (range_cases from to at) [
    | inl inside ↦ absurd (outside (in_first gap_of gaps (record { from = inside.0; below = inside.1 })))
    | inr aside ↦ elim (cases_lt at from) [
      | inl before ↦ inl before
      | inr above ↦ elim (cases_lt at to) [
        | inl below ↦ absurd (aside above below)
        | inr behind ↦ inr (omega (arith, part.some, behind))
      ]
    ]
  ]

  -- So cells are swept up to its end.
  pub part_is_swept : IsSweptTo heap freed_words marked (gap_of ∷ gaps) to
  part_is_swept = record {
    long = length-free_cell words from (to - from) ∙ swept.long;
    each = each_freed;
    apart = all_apart;
    below = all_below;
    kept = λ at outside.
        beside_free_cell words from (to - from) at (beside_part at outside)
        ∙ swept.kept at (λ inside. outside (in_more gap_of inside));
    done = λ cell were has below. elim (cases_lt cell.at from) [
      | inl before ↦ elim (swept.done cell were has before) [
        | inl kept ↦ inl kept
        | inr inside ↦ inr (in_more gap_of inside)
      ]
      | inr above ↦ inr (in_first gap_of gaps (record { from = above; below = below }))
    ];
  }
