-- How a count goes on: it begins at no cell, passes by an object's cell or words where none begins, and comes to all.
use Rattle.std.proofs.Common.{◌≡◌, ℕ, ◌+◌, ◌*◌, ◌<◌, ◌≤◌, Bool, true, false, inl, inr, List, [], ◌∷◌, ◌++◌}
use Rattle.std.proofs.Common.{length, length-append, sum_by, IsTrue, sym, ◌∙◌, ap, arith}
use Rattle.std.proofs.lemmas.Bool.{cases_lt}
use Rattle.std.proofs.lemmas.List.Kept.{AllPairs-filter}
use Rattle.std.proofs.lemmas.List.Sums.{sum_by-append, sum_by-cons}
use Rattle.tagged_word.proofs.Members.{filter_from, filter_true, in_filter}
use Rattle.page_space.specs.Extents.{roots_start}
use Rattle.cell_layout.proofs.OneCell.{cells_have_words}
use Rattle.heap_model.specs.Types.{Cell}
use Rattle.heap_model.specs.Heaps.{Heap, Row, AreRows, HasCell, words_of_cell}
use Rattle.tagged_word.specs.Cells.{is_object_kind}
use Rattle.heap_model.specs.Wholeness.{HasRows}
use Rattle.heap_model.proofs.CellsApart.{IsOfCell, has_is_cell, first_of_cell, cells_apart, used_few}
use Rattle.heap_model.proofs.WordsAlike.{cell_below_roots}
use Rattle.live_cells.specs.Census.{objects_in, pairs_counted}
use Rattle.live_cells.proofs.CellLists.{IsBefore, cells_in, cells_ascend, cell_among, among_has}
use Rattle.live_cells.specs.Counting.{objects_before, CountsCellsAndPairs, CountsTo, word_pairs_most}
use Rattle.live_cells.proofs.CellsBefore.{begins_before, same_kept, all_kept, none_kept}
use Rattle.live_cells.proofs.CellsBefore.{below_test, not_below_test, kept_to}

-- whether a cell is an object's
abbrev is_object : Cell → Bool
is_object cell = is_object_kind cell.layout.kind

-- no object's cell begins from an address up to another
abbrev pub NoneBegins : Heap → ℕ → ℕ → Type 0
NoneBegins heap from to =
    (cell : Cell) (words : List ℕ) → HasCell heap cell words → IsTrue (is_object cell) → from ≤ cell.at → cell.at < to
    → ⊥

-- nothing was counted before the first address
pub counts_none : (heap : Heap) → CountsTo heap 0 0 0
counts_none heap = record {
  counted = λ rows are.
      let none : objects_before rows 0 ≡ [] = none_kept (begins_before 0) (objects_in rows) (λ cell there.
      not_below_test cell.at 0 (omega arith)) in
      record {
        objects = sym (ap (λ (cells : List Cell). length cells) none);
        entries = sym (ap (sum_by (λ cell. pairs_counted heap cell.layout.kind cell.at)) none);
      };
  few_objects = omega arith;
  few_entries = omega arith;
}

-- before an address and before another begin the same, where none begins between
same_before : {heap : Heap} {rows : List Row} {from to : ℕ} → AreRows heap rows → from ≤ to → NoneBegins heap from to
    → objects_before rows to ≡ objects_before rows from
same_before {heap} {rows} {from} {to} are ahead none =
    same_kept (begins_before to) (begins_before from) (objects_in rows) (λ cell there.
    elim (cases_lt cell.at from) [
      | inl before ↦
          below_test cell.at to (omega (arith, before, ahead)) ∙ sym (below_test cell.at from before)
      | inr past ↦ elim (cases_lt cell.at to) [
        | inl below ↦
            let has = among_has are cell (filter_from is_object (cells_in rows) cell there) in
            let object = filter_true is_object (cells_in rows) cell there in
            absurd (none cell (words_of_cell heap cell) has object past below)
        | inr behind ↦ not_below_test cell.at to behind ∙ sym (not_below_test cell.at from past)
      ]
    ])

-- so a count comes to that address too
pub counts_further : {heap : Heap} {from to objects entries : ℕ} → from ≤ to → NoneBegins heap from to
    → CountsTo heap from objects entries → CountsTo heap to objects entries
counts_further {heap} {from} {to} ahead none counts = record {
  counted = λ rows are.
      let one = counts.counted rows are in
      let same : objects_before rows to ≡ objects_before rows from = same_before are ahead none in
      record {
        objects = one.objects ∙ sym (ap (λ (cells : List Cell). length cells) same);
        entries = one.entries ∙ sym (ap (sum_by (λ cell. pairs_counted heap cell.layout.kind cell.at)) same);
      };
  few_objects = omega (arith, counts.few_objects, ahead);
  few_entries = omega (arith, counts.few_entries, ahead);
}

-- no other cell begins in a cell
pub none_in_cell : {heap : Heap} {cell other : Cell} {words others : List ℕ} → HasRows heap → HasCell heap cell words
    → HasCell heap other others → cell.at ≤ other.at → other.at < cell.at + cell.size → cell ≡ other
none_in_cell {cell = cell} {other} rows has has_other from below =
    let inside : IsOfCell cell other.at = record { from = from; below = below } in
    cells_apart other.at rows has has_other inside (first_of_cell has_other)

-- so a count passes by a cell that is no object's
pub counts_over : {heap : Heap} {cell : Cell} {words : List ℕ} {objects entries : ℕ} → HasRows heap
    → HasCell heap cell words → is_object cell ≡ false → CountsTo heap cell.at objects entries
    → CountsTo heap (cell.at + cell.size) objects entries
counts_over {heap} {cell} rows has none counts =
    counts_further (omega arith) (λ other others has_other object from below.
    let same : cell ≡ other = none_in_cell rows has has_other from below in
    let is : false ≡ true = sym none ∙ ap is_object same ∙ object in
    absurd (cc)) counts

-- behind an object's cell that begins there one more begins before
one_more : {heap : Heap} {rows : List Row} {cell : Cell} {words : List ℕ} → HasRows heap → AreRows heap rows
    → HasCell heap cell words → is_object cell ≡ true
    → objects_before rows (cell.at + cell.size) ≡ objects_before rows cell.at ++ cell ∷ []
one_more {heap} {rows} {cell} whole are has object =
    let some = (cells_have_words heap.space heap.words cell (has_is_cell has)).0 in
    kept_to (objects_in rows) cell (cell.at + cell.size)
    (AllPairs-filter IsBefore is_object (cells_in rows) (cells_ascend are (used_few whole)))
    (in_filter is_object (cells_in rows) cell object (cell_among are has)) (omega (arith, some))
    (λ other there behind.
    let has_other = among_has are other (filter_from is_object (cells_in rows) other there) in
    elim (cases_lt other.at (cell.at + cell.size)) [
      | inl below ↦
          let same : cell ≡ other = none_in_cell whole has has_other (omega (arith, behind)) below in
          absurd (omega (arith, behind, ap (λ (c : Cell). c.at) same))
      | inr past ↦ past
    ])

-- and a count has one more
pub counts_more : {heap : Heap} {cell : Cell} {words : List ℕ} {objects entries : ℕ} (pairs : ℕ)
    → HasRows heap
    → HasCell heap cell words → is_object cell ≡ true → pairs ≡ pairs_counted heap cell.layout.kind cell.at
    → pairs ≤ word_pairs_most * cell.size → CountsTo heap cell.at objects entries
    → CountsTo heap (cell.at + cell.size) (objects + 1) (entries + pairs)
counts_more {heap} {cell} {words} pairs whole has object is few counts =
    let some = (cells_have_words heap.space heap.words cell (has_is_cell has)).0 in
    record {
      counted = λ rows are.
          let one = counts.counted rows are in
          let counted : Cell → ℕ = λ cell. pairs_counted heap cell.layout.kind cell.at in
          let before : List Cell = objects_before rows cell.at in
          let more : objects_before rows (cell.at + cell.size) ≡ before ++ cell ∷ [] = one_more whole are has object in
          record {
            objects = omega (
              arith,
              one.objects,
              ap (λ (cells : List Cell). length cells) more,
              length-append before (cell ∷ []),
            );
            entries = omega (
              arith,
              one.entries,
              is,
              ap (sum_by counted) more,
              sum_by-append counted before (cell ∷ []),
              sum_by-cons counted cell [],
            );
          };
      few_objects = omega (arith, counts.few_objects, some);
      few_entries = omega (arith, counts.few_entries, few);
    }

-- at the roots all cells were passed by
pub counts_all : {heap : Heap} {rows : List Row} {to objects entries : ℕ} → HasRows heap → AreRows heap rows
    → roots_start heap.space ≤ to → CountsTo heap to objects entries
    → CountsCellsAndPairs heap (objects_in rows) objects entries
counts_all {heap} {rows} {to} whole are past counts =
    let one = counts.counted rows are in
    let all : objects_before rows to ≡ objects_in rows =
    all_kept (begins_before to) (objects_in rows) (λ cell there.
    let has = among_has are cell (filter_from is_object (cells_in rows) cell there) in
    let some = (cells_have_words heap.space heap.words cell (has_is_cell has)).0 in
    below_test cell.at to (omega (arith, cell_below_roots (used_few whole) has, some, past))) in
    record {
      objects = one.objects ∙ ap (λ (cells : List Cell). length cells) all;
      entries = one.entries ∙ ap (sum_by (λ cell. pairs_counted heap cell.layout.kind cell.at)) all;
    }
