-- The flags of all cells of a heap's rows tell where cells start.
use Rattle.std.proofs.Common.{inl, inr, Bool, List, sym, ◌∙◌}
use Rattle.heap_model.specs.Heaps.{Heap, Row, AreRows, words_of_cell}
use Rattle.live_cells.proofs.CellLists.{cells_in, cell_among, among_has}
use Rattle.heap_check.specs.Flags.{AreClearedFor}
use Rattle.heap_check.specs.Marks.{MarksCells, MarksStarts}
use Rattle.heap_check.proofs.ClearedFlags.{cleared_none}
use Rattle.heap_check.proofs.MarkedCells.{starts_or_not}

-- where no flag was set before
pub marks_starts : {heap : Heap} {rows : List Row} {old new : List Bool} → AreRows heap rows → AreClearedFor heap old
    → MarksCells old new (cells_in rows) → MarksStarts heap new
marks_starts {heap} {rows} {old} {new} are cleared marks = record {
  starts_there = λ at set. elim (starts_or_not at (cells_in rows)) [
    | inl one ↦ (one.cell, (words_of_cell heap one.cell, among_has are one.cell one.among, one.starts))
    | inr none ↦ absurd (cleared_none heap cleared at (sym (marks.others at none) ∙ set))
  ];
  marked = λ cell words has. marks.set cell (cell_among are has);
}
