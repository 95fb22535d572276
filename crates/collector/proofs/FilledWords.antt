-- The words of an image, as they are put region by region.
use Rattle.std.proofs.Common.{◌≡◌, ℕ, ◌≤◌, ◌<◌, inl, inr, List, length, refl, ◌∙◌, arith}
use Rattle.std.proofs.lemmas.Bool.{cases_lt}
use Rattle.page_space.specs.Extents.{roots_start, marks_start}
use Rattle.page_space.proofs.Starts.{layouts_start_is, marks_start_is}
use Rattle.cell_layout.proofs.Rows.{row_ascends}
use Rattle.heap_model.specs.Heaps.{Heap}
use Rattle.heap_model.specs.Wholeness.{HasRows}
use Rattle.heap_model.proofs.CellsApart.{ends_within, used_few}
use Rattle.heap_model.proofs.WordsAlike.{cell_below_roots, extent_below_roots}
use Rattle.collector.specs.Images.{AreWordsOf}
use Rattle.heap_model.specs.RegionRows.{StandsBetween}
use Rattle.heap_model.proofs.RegionRows.{row_between}
use Rattle.collector.specs.Filling.{CopiesWithin, BlanksWithin, FillsWithin}
use Rattle.heap_walk.specs.Limits.{EndsRow}
use Rattle.collector.proofs.RowAddresses.{of_row, not_behind}

-- where the used row of a region may end
pub record LiesBetween (heap : Heap) (start row_end end : ℕ) : Type 0 where
  pub from : start ≤ row_end
  pub within : row_end ≤ end
  pub before_marks : end ≤ marks_start heap.space

-- it ends in its region, and so before the marks
pub row_lies_between : (heap : Heap) (start row_end end : ℕ) → HasRows heap → StandsBetween heap.space start end
    → EndsRow heap start row_end → LiesBetween heap start row_end end
row_lies_between heap start row_end end rows stands ends =
    let own = row_between rows.are stands in
    let row = own.row in
    let is = own.is in
    let at_end : row.end ≡ row_end = ends row is in
    let ascends = row_ascends heap.space heap.words row.extent.start row.end row.cells is.used.stands in
    let within = ends_within heap row (used_few rows) is.among is.used in
    record {
      from = omega (arith, ascends, is.starts, at_end);
      within = omega (arith, within, own.ends, at_end);
      before_marks = omega (
        arith,
        extent_below_roots heap.space stands.extent stands.among,
        stands.ends,
        layouts_start_is heap.space,
        marks_start_is heap.space,
      );
    }

-- a region is filled where its used row is copied and the words behind that are made 0
pub region_filled : (heap : Heap) (old mid new : List ℕ) (start row_end end : ℕ) → HasRows heap
    → StandsBetween heap.space start end → EndsRow heap start row_end → CopiesWithin heap.words old mid start row_end
    → BlanksWithin mid new row_end end → FillsWithin heap old new start end
region_filled heap old mid new start row_end end rows stands ends copies blanks =
    let own = row_between rows.are stands in
    let row = own.row in
    let is = own.is in
    let at_end : row.end ≡ row_end = ends row is in
    let lies = row_lies_between heap start row_end end rows stands ends in
    record {
      count = blanks.count ∙ copies.count;
      filled = record {
        cells = λ at from below of_some. elim (cases_lt at row_end) [
          | inl inside ↦ blanks.others at (inl inside) ∙ copies.there at from inside
          | inr behind ↦ absurd (not_behind heap row at rows is.among is.used (omega (arith, at_end, behind))
              (omega (arith, own.ends, below)) of_some)
        ];
        rest = λ at from below none. elim (cases_lt at row_end) [
          | inl inside ↦ absurd (none (of_row heap row at is.among is.used (omega (arith, is.starts, from))
              (omega (arith, at_end, inside))))
          | inr behind ↦ blanks.there at behind below
        ];
      };
      others = λ at outside. elim outside [
        | inl before ↦ blanks.others at (inl (omega (arith, lies.from, before))) ∙ copies.others at (inl before)
        | inr behind ↦ blanks.others at (inr behind) ∙ copies.others at (inr (omega (arith, lies.within, behind)))
      ];
    }

-- nothing was filled
pub fills_none : (heap : Heap) (words : List ℕ) (from : ℕ) → FillsWithin heap words words from from
fills_none heap words from = record {
  count = refl;
  filled = record {
    cells = λ at above below of_some. absurd (omega (arith, above, below));
    rest = λ at above below none. absurd (omega (arith, above, below));
  };
  others = λ at outside. refl;
}

-- one region more was filled
pub fills_more : (heap : Heap) (old mid new : List ℕ) (from at end : ℕ) → from ≤ at → at ≤ end
    → FillsWithin heap old mid from at → FillsWithin heap mid new at end → FillsWithin heap old new from end
fills_more heap old mid new from at end above below first then = record {
  count = then.count ∙ first.count;
  filled = record {
    cells = λ k low high of_some. elim (cases_lt k at) [
      | inl early ↦ then.others k (inl early) ∙ first.filled.cells k low early of_some
      | inr late ↦ then.filled.cells k late high of_some
    ];
    rest = λ k low high none. elim (cases_lt k at) [
      | inl early ↦ then.others k (inl early) ∙ first.filled.rest k low early none
      | inr late ↦ then.filled.rest k late high none
    ];
  };
  others = λ k outside. elim outside [
    | inl before ↦ then.others k (inl (omega (arith, before, above))) ∙ first.others k (inl before)
    | inr behind ↦ then.others k (inr behind) ∙ first.others k (inr (omega (arith, behind, below)))
  ];
}

-- with the roots and the layout words the words are those of an image
pub words_filled : (heap : Heap) (old mid new : List ℕ) → HasRows heap → length old ≡ marks_start heap.space
    → FillsWithin heap old mid 0 (roots_start heap.space)
    → CopiesWithin heap.words mid new (roots_start heap.space) (marks_start heap.space) → AreWordsOf heap new
words_filled heap old mid new rows room fills copies = record {
  count = copies.count ∙ fills.count ∙ room;
  cells = λ at of_some.
      let below : at < roots_start heap.space =
      omega (arith, cell_below_roots (used_few rows) of_some.has, of_some.of_cell.below) in
      copies.others at (inl below) ∙ fills.filled.cells at (omega arith) below of_some;
  rest = λ at below none. copies.others at (inl below) ∙ fills.filled.rest at (omega arith) below none;
  roots = λ at from below. copies.there at from (omega (arith, marks_start_is heap.space, below));
  layouts = λ at from below. copies.there at (omega (arith, layouts_start_is heap.space, from)) below;
}
