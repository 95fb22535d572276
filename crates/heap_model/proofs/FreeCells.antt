-- A cell of the old heap that no patch has stays.
use Rattle.std.proofs.Common.{◌≡◌, ℕ, ◌+◌, List, ◌++◌, length, Contains, slice_get}
use Rattle.std.proofs.Common.{sym, ◌∙◌, ap, subst, arith}
use Rattle.std.proofs.lemmas.List.Elements.{All-contains, All-weaker, All-contains_itself}
use Rattle.heap_model.specs.Types.{Path, Cell}
use Rattle.page_space.specs.Extents.{Space, marks_start}
use Rattle.cell_layout.specs.Cells.{IsCell, layouts_in}
use Rattle.cell_layout.specs.CellLaws.{ReadsAlike}
use Rattle.cell_layout.proofs.OneCell.{cells_stay}
use Rattle.cell_layout.proofs.Puts.{two_words}
use Rattle.heap_model.specs.Heaps.{Heap, HasCell, words_of_cell}
use Rattle.heap_model.specs.Changes.{Patch, IsPatched}
use Rattle.heap_model.proofs.CellsApart.{IsOfCell, has_is_cell, first_of_cell, used_few}
use Rattle.heap_model.proofs.WordsAlike.{cell_below_roots}
use Rattle.heap_model.proofs.RowCovers.{stretch_alike}
use Rattle.heap_model.proofs.LayoutsStay.{SayLayouts, layout_stays}
use Rattle.heap_model.proofs.Patches.{Patching, IsFree, patch_is, patched_is_before, before_is_patched, not_new}

-- where a patch does not have the first address of a cell, none of its addresses is the patch's
pub free_cell : {old new : Heap} {patches : List Patch} {made : List Cell} {cell : Cell} {words : List ℕ} {at : ℕ}
    → Patching old new patches made → HasCell old cell words → IsFree patches cell.at → IsOfCell cell at
    → IsFree patches at
free_cell {old} {new} {patches} {cell = cell} {at = at} patching has free of_cell =
    let apart = λ (patch : Patch) (there : Contains patches patch) (patched : IsPatched at patch).
    let is = patch_is patching there in
    let before = patched_is_before patching.rows is has of_cell patched in
    All-contains (λ (one : Patch). IsPatched cell.at one → ⊥) patches patch free there
    (before_is_patched is before (first_of_cell has)) in
    All-weaker (Contains patches) (λ (one : Patch). IsPatched at one → ⊥) apart patches (All-contains_itself patches)

-- the words of a cell that no patch has stay
pub free_word : {old new : Heap} {patches : List Patch} {made : List Cell} {cell : Cell} {words : List ℕ} (at : ℕ)
    → Patching old new patches made → HasCell old cell words → IsFree patches cell.at → IsOfCell cell at
    → slice_get new.words at ≡ slice_get old.words at
free_word {old} {new} {cell = cell} at patching has free of_cell =
    patching.change.cells_stay at (omega (arith, of_cell.below, cell_below_roots (used_few patching.rows) has))
    (free_cell patching has free of_cell) (not_new patching has of_cell)

-- so its words are those from before
pub free_words : {old new : Heap} {patches : List Patch} {made : List Cell} {cell : Cell} {words : List ℕ}
    → Patching old new patches made → HasCell old cell words → IsFree patches cell.at
    → words_of_cell new cell ≡ words_of_cell old cell
free_words {old} {new} {cell = cell} patching has free =
    stretch_alike cell.at cell.size old.words new.words
    (λ at above below. free_word at patching has free record { from = above; below = below })

-- there are as many words as before
pub as_long : {old new : Heap} {patches : List Patch} {made : List Cell} → Patching old new patches made
    → length new.words ≡ length old.words
as_long patching =
    patching.change.sized.words ∙ ap (λ (space : Space). marks_start space) patching.change.same_space
    ∙ sym patching.sized.words

-- the layout word of a cell's shape stays
pub free_layout : {old new : Heap} {patches : List Patch} {made : List Cell} (cell : Cell)
    → Patching old new patches made → IsCell old.space old.words cell
    → slice_get (layouts_in old.space new.words) cell.header.shape
    ≡ slice_get (layouts_in old.space old.words) cell.header.shape
free_layout {old} {new} cell patching is_cell =
    let change = patching.change in
    let P : Space → Type 0 = λ space. SayLayouts space new.words new.paths in
    let Q : List Path → Type 0 = λ paths. SayLayouts old.space new.words paths in
    let say : SayLayouts old.space new.words (old.paths ++ change.more) =
    subst Q change.paths (subst P change.same_space change.sized.layouts) in
    layout_stays old.space old.words new.words old.paths change.more cell patching.sized.layouts say is_cell

-- a cell of the old heap that no patch has stays
pub free_stays : {old new : Heap} {patches : List Patch} {made : List Cell} {cell : Cell} {words : List ℕ}
    → Patching old new patches made → HasCell old cell words → IsFree patches cell.at
    → IsCell old.space new.words cell
free_stays {old} {new} {cell = cell} patching has free =
    let is_cell = has_is_cell has in
    let alike : ReadsAlike old.space old.words new.words cell = record {
      first = free_word cell.at patching has free (first_of_cell has);
      second = λ long. free_word (cell.at + 1) patching has free record {
        from = omega arith;
        below = omega (arith, two_words old.space old.words cell is_cell long);
      };
      of_shape = free_layout cell patching is_cell;
    } in
    cells_stay old.space old.words new.words cell is_cell (as_long patching) alike
