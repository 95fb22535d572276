-- What a weak map counts: the pairs of its table, of which there are few.
use Rattle.std.proofs.Common.{◌≡◌, ℕ, ◌+◌, ◌≤◌, Bool, not, List, length, drop, count_by, sym, ◌∙◌, subst, arith}
use Rattle.std.proofs.Common.{ap, length-drop, slice_get, Some, unwrap_or}
use Rattle.std.proofs.lemmas.List.Sums.{count_by-le-length}
use Rattle.tagged_word.specs.declared.layout.Kind.TheVariants as kind
use Rattle.tagged_word.specs.Cells.{store_head}
use Rattle.cell_layout.proofs.OneCell.{cells_have_words}
use Rattle.heap_model.specs.Types.{Cell}
use Rattle.heap_model.specs.Heaps.{Heap, HasCell}
use Rattle.heap_model.specs.Kinds.{Pair, is_free_pair, HasTable, IsWeakCell, IsSoundOf, count_offset}
use Rattle.heap_model.specs.Needs.{count_at}
use Rattle.heap_model.specs.Wholeness.{Whole}
use Rattle.heap_model.proofs.CellsApart.{has_is_cell}
use Rattle.heap_model.proofs.CellWords.{words_are_size, words_by_kind}
use Rattle.heap_model.proofs.PairLists.{length-pairs_in}
use Rattle.heap_model.proofs.WordsRead.{word_of_cell}

-- the most pairs of a table that is no longer than a page
abbrev pub page_pairs_most : ℕ
page_pairs_most = 1023

-- a table has no more
few_in_table : {heap : Heap} (word : ℕ) (pairs : List Pair) → HasTable heap word pairs → length pairs ≤ page_pairs_most
few_in_table word pairs HasTable.none = omega arith
few_in_table {heap} word pairs (HasTable.table word' cell words refers of_kind power) =
    let most = (cells_have_words heap.space heap.words cell (has_is_cell refers.has)).1 in
    omega (
      arith,
      most,
      words_are_size refers.has,
      length-pairs_in (drop store_head words),
      length-drop store_head words,
    )

-- what is known of the count of a weak map: so many pairs of its table, and its cell has 3 words
pub record HasFewPairs (heap : Heap) (cell : Cell) : Type 0 where
  pub few : count_at heap cell.at ≤ page_pairs_most
  pub size : cell.size ≡ 3

-- so a weak map counts no more
pub few_pairs : {heap : Heap} {cell : Cell} {words : List ℕ} → Whole heap → HasCell heap cell words
    → cell.layout.kind ≡ kind.Weak → HasFewPairs heap cell
few_pairs {heap} {cell} {words} whole has of_kind =
    let filled : Pair → Bool = λ pair. not (is_free_pair pair) in
    let sound : IsWeakCell heap words =
    subst (λ k. IsSoundOf k heap cell words) of_kind (whole.sound cell words has) in
    let counted : count_at heap cell.at ≡ count_by filled sound.pairs =
    word_of_cell count_offset (count_by filled sound.pairs) has sound.counted in
    record {
      few = omega (
        arith,
        counted,
        count_by-le-length filled sound.pairs,
        few_in_table sound.store sound.pairs sound.table,
      );
      size = sym (words_are_size has) ∙ words_by_kind kind.Weak has of_kind;
    }

-- the count of a weak map is the word at its offset
pub count_read : (heap : Heap) (at word : ℕ) → slice_get heap.words (at + count_offset) ≡ Some word
    → count_at heap at ≡ word
count_read heap at word is = ap (λ found. unwrap_or found 0) is
