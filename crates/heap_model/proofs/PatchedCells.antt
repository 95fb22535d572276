-- Where only patches and newly used words of eden change, all cells but those of the patches are as before.
use Rattle.std.proofs.Common.{◌≢◌, ℕ, ◌+◌, inl, inr, List, ◌++◌, Contains}
use Rattle.std.proofs.Common.{sym, subst}
use Rattle.std.proofs.lemmas.List.Elements.{Contains-append_cases}
use Rattle.page_space.specs.Extents.{eden_start}
use Rattle.heap_model.specs.Types.{Cell}
use Rattle.heap_model.specs.Heaps.{Heap, HasCell, words_of_cell}
use Rattle.heap_model.specs.Changes.{Patch, BeginsInOneOf}
use Rattle.heap_model.specs.Laws.{gone_with, come_with}
use Rattle.heap_model.proofs.EdenChanges.{IsBehindUsed, EdenCellsChange}
use Rattle.heap_model.proofs.CellsApart.{first_of_cell}
use Rattle.heap_model.proofs.RowCovers.{covered, from_one, of_one}
use Rattle.heap_model.proofs.Patches.{Patching, patch_is, before_has, not_new, spot}
use Rattle.heap_model.proofs.RowParts.{after_stands}
use Rattle.heap_model.proofs.NewRows.{made_stands}
use Rattle.heap_model.proofs.NewCells.{came_cell, first_of_row, after_is_patched, made_is_new}
use Rattle.heap_model.proofs.KeptCells.{made_cell, kept_cell, not_gone_is_free, cell_back}

-- what went stood in the old heap
went_stood : {old new : Heap} {patches : List Patch} {made : List Cell} (cell : Cell) → Patching old new patches made
    → Contains (gone_with patches) cell → HasCell old cell (words_of_cell old cell)
went_stood {patches = patches} cell patching gone =
    let one = from_one (λ (patch : Patch). patch.before) patches cell gone in
    before_has (patch_is patching one.among) one.has

-- what came or was made stands in the new one
comes_stands : {old new : Heap} {patches : List Patch} {made : List Cell} (cell : Cell) → Patching old new patches made
    → Contains (come_with patches ++ made) cell → HasCell new cell (words_of_cell new cell)
comes_stands {patches = patches} {made} cell patching there =
    elim (Contains-append_cases (come_with patches) made cell there) [
      | inl came ↦
          let one = from_one (λ (patch : Patch). patch.after) patches cell came in
          came_cell patching one.among one.has
      | inr is_made ↦ made_cell patching is_made
    ]

-- a cell that a patch has now begins in the words of one that it had before
came_in_patch : {old new : Heap} {patches : List Patch} {made : List Cell} {patch : Patch} (cell : Cell)
    → Patching old new patches made → Contains patches patch → Contains patch.after cell
    → BeginsInOneOf patch.before cell
came_in_patch {old} {new} {patch = patch} cell patching there after =
    let stands = after_stands patching there in
    let of_cell = first_of_row old.space new.words patch.from patch.to patch.after cell stands after in
    let patched = after_is_patched patching there after of_cell in
    let stood = (patch_is patching there).stood in
    let before =
    covered old.space old.words patch.from patch.to patch.before cell.at stood patched.from patched.below in
    record {
      other = before.cell;
      among = before.among;
      from = before.of_cell.from;
      below = before.of_cell.below;
    }

-- what came with some of the patches begins in the words of what went with these
pub came_with_some : {old new : Heap} {patches : List Patch} {made : List Cell} (some : List Patch) (cell : Cell)
    → Patching old new patches made → ((patch : Patch) → Contains some patch → Contains patches patch)
    → Contains (come_with some) cell → BeginsInOneOf (gone_with some) cell
came_with_some some cell patching are came =
    let one = from_one (λ (patch : Patch). patch.after) some cell came in
    let begins = came_in_patch cell patching (are one.one one.among) one.has in
    record {
      other = begins.other;
      among = of_one (λ (patch : Patch). patch.before) some one.one begins.other one.among begins.among;
      from = begins.from;
      below = begins.below;
    }

-- what was made begins in newly used words
made_newly : {old new : Heap} {patches : List Patch} {made : List Cell} (cell : Cell)
    → Patching old new patches made → Contains made cell → IsBehindUsed old new cell.at
made_newly {old} {new} {made = made} cell patching there =
    let from : ℕ = eden_start old.space + old.used in
    let to : ℕ = eden_start old.space + new.used in
    made_is_new patching there (first_of_row old.space new.words from to made cell (made_stands patching) there)

-- no cell began where one was made
new_place : {old new : Heap} {patches : List Patch} {made : List Cell} (cell other : Cell) (words : List ℕ)
    → Patching old new patches made → Contains made cell → HasCell old other words → other.at ≢ cell.at
new_place {old} {new} cell other words patching there has same =
    not_new patching has (first_of_cell has)
    (subst (IsBehindUsed old new) (sym same) (made_newly cell patching there))

-- the cells change by those of the patches
pub cells_change : {old new : Heap} {patches : List Patch} {made : List Cell} → Patching old new patches made
    → EdenCellsChange old new (gone_with patches) (come_with patches) made
cells_change {patches = patches} patching = record {
  went = λ cell there. went_stood cell patching there;
  comes = λ cell there. comes_stands cell patching there;
  kept = λ cell words has stays. kept_cell patching has (not_gone_is_free patching has stays (spot patches cell.at));
  back = λ cell words has. cell_back patching has;
  in_place = λ cell there. came_with_some patches cell patching (λ patch among. among) there;
  newly = λ cell there. made_newly cell patching there;
  new_places = λ cell other words there has. new_place cell other words patching there has;
}
