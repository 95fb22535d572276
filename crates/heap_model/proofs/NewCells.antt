-- Which cells stand in the new rows.
use Rattle.std.proofs.Common.{◌≡◌, ℕ, ◌+◌, ◌≤◌, ◌<◌, List, Contains}
use Rattle.std.proofs.Common.{refl, sym, subst, arith}
use Rattle.std.proofs.lemmas.List.Elements.{All-contains}
use Rattle.page_space.specs.Extents.{Space, eden_start}
use Rattle.heap_model.specs.Types.{Cell}
use Rattle.cell_layout.specs.Cells.{IsRow}
use Rattle.cell_layout.proofs.OneCell.{cells_have_words}
use Rattle.cell_layout.proofs.Rows.{rows_part_around, cell_within}
use Rattle.heap_model.specs.Heaps.{Heap, Row, HasCell, cell_extents, words_of_cell}
use Rattle.heap_model.specs.Changes.{Patch, IsPatched}
use Rattle.heap_model.proofs.EdenChanges.{IsBehindUsed}
use Rattle.heap_model.proofs.CellsApart.{IsOfCell, one_of_row}
use Rattle.heap_model.proofs.RowCovers.{covered}
use Rattle.heap_model.proofs.Patches.{Patching, IsFree, patch_is, patched_not_new}
use Rattle.heap_model.proofs.FreeCells.{free_cell}
use Rattle.heap_model.proofs.PatchedRows.{RowPatching, in_own_row}
use Rattle.heap_model.proofs.RowParts.{Origin, after_stands}
use Rattle.heap_model.proofs.NewRows.{NewRow, row_of, new_row, new_row_used, made_stands}

-- Where an address of a new cell is: in the patch of the cell, in no patch, or among the words that are newly used.
pub data OriginAt (old new : Heap) (patches : List Patch) (made : List Cell) (cell : Cell) (at : ℕ) : Type 0 where
  in_patch : (patch : Patch) → Contains patches patch → Contains patch.after cell → IsPatched at patch
      → OriginAt old new patches made cell at
  in_none : HasCell old cell (words_of_cell old cell) → IsFree patches at → OriginAt old new patches made cell at
  in_new : Contains made cell → IsBehindUsed old new at → OriginAt old new patches made cell at

-- the patch has the addresses of its cells
pub after_is_patched : {old new : Heap} {patches : List Patch} {made : List Cell} {patch : Patch} {cell : Cell} {at : ℕ}
    → Patching old new patches made → Contains patches patch → Contains patch.after cell → IsOfCell cell at
    → IsPatched at patch
after_is_patched {old} {new} {patch = patch} {cell} patching there after of_cell =
    let stands = after_stands patching there in
    let within = cell_within old.space new.words patch.from patch.to patch.after cell stands after in
    record { from = omega (arith, within.0, of_cell.from); below = omega (arith, within.1, of_cell.below) }

-- the addresses of what was made are newly used
pub made_is_new : {old new : Heap} {patches : List Patch} {made : List Cell} {cell : Cell} {at : ℕ}
    → Patching old new patches made → Contains made cell → IsOfCell cell at → IsBehindUsed old new at
made_is_new {old} {new} {made = made} {cell} patching there of_cell =
    let from : ℕ = eden_start old.space + old.used in
    let to : ℕ = eden_start old.space + new.used in
    let within = cell_within old.space new.words from to made cell (made_stands patching) there in
    record { from = omega (arith, within.0, of_cell.from); below = omega (arith, within.1, of_cell.below) }

-- where an address of a new cell is
origin_at : {old new : Heap} {patches : List Patch} {made : List Cell} {cell : Cell} {at : ℕ}
    → Patching old new patches made → IsOfCell cell at → Origin old patches made cell
    → OriginAt old new patches made cell at
origin_at patching of_cell (Origin.came patch there after) =
    OriginAt.in_patch patch there after (after_is_patched patching there after of_cell)
origin_at patching of_cell (Origin.stayed has free) = OriginAt.in_none has (free_cell patching has free of_cell)
origin_at patching of_cell (Origin.is_made there) = OriginAt.in_new there (made_is_new patching there of_cell)

-- a cell of the new row that has the address
pub record Found (old new : Heap) (patches : List Patch) (made cells : List Cell) (at : ℕ) : Type 0 where
  pub cell : Cell
  pub among : Contains cells cell
  pub of_cell : IsOfCell cell at
  pub origin : OriginAt old new patches made cell at

-- the new row has each of its addresses
pub found : {old new : Heap} {patches : List Patch} {made : List Cell} {row : Row} (at : ℕ)
    → Patching old new patches made
    → (one : NewRow old new patches made row row.extent.region) → row.extent.start ≤ at → at < one.end
    → Found old new patches made one.cells at
found {old} {new} {patches} {made} {row} at patching one above below =
    let there = covered old.space new.words row.extent.start one.end one.cells at one.stands above below in
    record {
      cell = there.cell;
      among = there.among;
      of_cell = there.of_cell;
      origin = origin_at patching there.of_cell
          (All-contains (Origin old patches made) one.cells there.cell one.each there.among);
    }

-- a cell of the new row is one of the new heap
pub new_has : {old new : Heap} {patches : List Patch} {made : List Cell} {row : Row} {cell : Cell}
    → RowPatching old new patches made row → (one : NewRow old new patches made row row.extent.region)
    → Contains one.cells cell → HasCell new cell (words_of_cell new cell)
new_has {row = row} context one in_row = record {
  row = row_of one;
  in_region = subst (λ (space : Space). Contains (cell_extents space) row.extent)
      (sym context.patching.change.same_space) context.there;
  used = new_row_used context.patching one;
  in_row = in_row;
  words_are = refl;
}

-- the first address of a cell of a row is the cell's
pub first_of_row : (space : Space) (words : List ℕ) (from to : ℕ) (cells : List Cell) (cell : Cell)
    → IsRow space words from to cells → Contains cells cell → IsOfCell cell cell.at
first_of_row space words from to cells cell row there =
    let is_cell = (rows_part_around space words from to cells cell row there).is_cell in
    record { from = omega arith; below = omega (arith, (cells_have_words space words cell is_cell).0) }

-- what has an address of a patch in the new row is the patch's cell there
patch_has : {old new : Heap} {patches : List Patch} {made : List Cell} {patch : Patch} {cell other : Cell}
    → Patching old new patches made → Contains patches patch → Contains patch.after cell → IsOfCell cell cell.at
    → IsOfCell other cell.at → OriginAt old new patches made other cell.at → other ≡ cell
patch_has {old} {new} {patch = patch} {cell} {other} patching there after of_cell of_other
    (OriginAt.in_patch another there_too after_too patched) =
    let patched_cell : IsPatched cell.at patch = after_is_patched patching there after of_cell in
    let same : another ≡ patch = patching.change.apart another patch cell.at there_too there patched patched_cell in
    let among : Contains patch.after other = subst (λ (one : Patch). Contains one.after other) same after_too in
    one_of_row old.space new.words patch.from patch.to patch.after other cell cell.at
    (after_stands patching there) among after
    of_other of_cell
patch_has {patches = patches} {patch = patch} {cell} patching there after of_cell of_other
    (OriginAt.in_none has is_free) =
    absurd (All-contains (λ (one : Patch). IsPatched cell.at one → ⊥) patches patch is_free there
    (after_is_patched patching there after of_cell))
patch_has patching there after of_cell of_other (OriginAt.in_new among is_new) =
    absurd (patched_not_new patching there (after_is_patched patching there after of_cell) is_new)

-- the cells of a patch stand in the new heap
pub came_cell : {old new : Heap} {patches : List Patch} {made : List Cell} {patch : Patch} {cell : Cell}
    → Patching old new patches made → Contains patches patch → Contains patch.after cell
    → HasCell new cell (words_of_cell new cell)
came_cell {old} {new} {patches} {made} {patch} {cell} patching there after =
    let is = patch_is patching there in
    let context : RowPatching old new patches made is.row =
    record { patching = patching; there = is.in_region; used = is.used } in
    let one = new_row context in
    let of_cell =
    first_of_row old.space new.words patch.from patch.to patch.after cell (after_stands patching there) after in
    let patched = after_is_patched patching there after of_cell in
    let part = in_own_row cell.at is patched in
    let spot = found cell.at patching one (omega (arith, part.from, patched.from))
    (omega (arith, part.to, patched.below, one.grows)) in
    let same : spot.cell ≡ cell = patch_has patching there after of_cell spot.of_cell spot.origin in
    new_has context one (subst (Contains one.cells) same spot.among)
