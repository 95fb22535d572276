-- How flags of what stands beside objects are set, cell by cell.
use Rattle.std.proofs.Common.{◌≡◌, ℕ, ◌+◌, ◌^◌, ◌<◌, inl, inr, Bool, true, List, Some, length, slice_get}
use Rattle.std.proofs.Common.{sym, ◌∙◌, subst, arith}
use Rattle.tagged_word.specs.Cells.{store_slot}
use Rattle.tagged_word.specs.Readings.{reference_in}
use Rattle.page_space.specs.Extents.{words_count}
use Rattle.cell_layout.proofs.OneCell.{cells_have_words}
use Rattle.heap_model.specs.Types.{Cell}
use Rattle.heap_model.specs.Heaps.{Heap, words_of_cell}
use Rattle.heap_model.specs.Kinds.{HasWord}
use Rattle.heap_model.specs.Wholeness.{HasRows}
use Rattle.heap_model.proofs.CellsApart.{has_is_cell}
use Rattle.image_walk.specs.Finding.{HasNoCellFrom}
use Rattle.image_walk.specs.NextCell.{IsNextCell}
use Rattle.image_walk.specs.Words.{HasWords}
use Rattle.image_walk.proofs.CellsOnward.{passed_or_next, onward_below_roots}
use Rattle.image_walk.proofs.ObjectNaming.{next_to_at}
use Rattle.heap_check.specs.Names.{IsBesideOf, MarksAt, MarksBeside, MarksBesideBefore}

-- the address of what stands beside an object is that of its slot 1
pub beside_at : {heap : Heap} {object : Cell} {word at : ℕ} → HasWords heap → words_count heap.space < 2 ^ 32
    → HasWord (words_of_cell heap object) store_slot word → IsBesideOf heap object at
    → reference_in word ≡ Some at
beside_at {heap} {object} {word} sized few there is =
    subst (λ (at : ℕ). reference_in word ≡ Some at) is.place
    (next_to_at heap object is.other word sized few there is.next_to)

-- nothing is flagged before the first address
pub beside_none : {heap : Heap} {flags : List Bool} → length flags ≡ length heap.words
    → ((at : ℕ) → slice_get flags at ≡ Some true → ⊥) → MarksBesideBefore heap 0 flags
beside_none many clear = record {
  as_many = many;
  only = λ at set. absurd (clear at set);
  each = λ at is. absurd (omega (arith, is.before));
}

-- one cell more was passed
pub beside_more : {heap : Heap} {at : ℕ} {cell : Cell} {old new : List Bool} → HasRows heap
    → IsNextCell heap at cell → MarksAt (IsBesideOf heap cell) old new → MarksBesideBefore heap at old
    → MarksBesideBefore heap (cell.at + cell.size) new
beside_more {heap} {at} {cell} rows next marks before =
    let onward = onward_below_roots heap at cell rows next in
    let some = (cells_have_words heap.space heap.words cell (has_is_cell next.first.has)).0 in
    record {
      as_many = marks.as_many ∙ before.as_many;
      only = λ place set. elim (marks.only place set) [
        | inl was ↦
            let is = before.only place was in
            record { object = is.object; stands = is.stands; before = omega (arith, is.before, onward.0); is = is.is }
        | inr is ↦ record { object = cell; stands = next.first.has; before = omega (arith, some); is = is }
      ];
      each = λ place is. elim (passed_or_next heap at cell is.object rows next is.stands is.before) [
        | inl early ↦
            marks.kept place
            (before.each place (record { object = is.object; stands = is.stands; before = early; is = is.is }))
        | inr same ↦ marks.set place (subst (λ (one : Cell). IsBesideOf heap one place) (sym same) is.is)
      ];
    }

-- all cells were passed
pub beside_all : {heap : Heap} {at : ℕ} {flags : List Bool} → HasNoCellFrom heap at → MarksBesideBefore heap at flags
    → MarksBeside heap flags
beside_all none before = record {
  as_many = before.as_many;
  only = λ at set.
      let is = before.only at set in
      record { object = is.object; stands = is.stands; is = is.is };
  each = λ at is.
      before.each at (record {
        object = is.object;
        stands = is.stands;
        before = none is.object _ is.stands;
        is = is.is;
      });
}
