-- The cells of the new heap: what was made, what no patch has, and no others but those of the patches.
use Rattle.std.proofs.Common.{◌≡◌, ℕ, ◌+◌, ◌⊎◌, inl, inr, List, [], ◌++◌, Contains}
use Rattle.std.proofs.Common.{sym, ◌∙◌, ap, subst, arith}
use Rattle.std.proofs.lemmas.List.Elements.{All-contains, Contains-append_left, Contains-append_right}
use Rattle.page_space.specs.declared.region.Region.TheVariants.{Eden}
use Rattle.page_space.specs.Extents.{Space, Extent, eden_start, extents_from, words_in, half_of}
use Rattle.tagged_word.proofs.Members.{first_in}
use Rattle.page_space.proofs.Stretches.{stands_first, stands_then}
use Rattle.page_space.proofs.Standing.{extent_of, pages, eden, to_eden, to_half, words_in-pages}
use Rattle.heap_model.specs.Types.{Cell}
use Rattle.cell_layout.proofs.Rows.{cell_within}
use Rattle.heap_model.specs.Heaps.{Heap, Row, EndsUsed, HasCell, cell_extents, words_of_cell}
use Rattle.heap_model.specs.Changes.{Patch, IsPatched}
use Rattle.heap_model.specs.Laws.{gone_with, come_with}
use Rattle.heap_model.proofs.RowEnds.{one_used_row}
use Rattle.heap_model.proofs.CellsApart.{IsOfCell, cells_apart, first_of_cell, one_of_row}
use Rattle.heap_model.proofs.RowCovers.{from_one, of_one}
use Rattle.heap_model.proofs.Patches.{Patching, IsFree, Spot, patch_is, patched_is_before, before_is_patched, not_new}
use Rattle.heap_model.proofs.Patches.{patched_not_new}
use Rattle.heap_model.proofs.FreeCells.{free_words}
use Rattle.heap_model.proofs.PatchedRows.{RowPatching}
use Rattle.heap_model.proofs.RowParts.{Origin}
use Rattle.heap_model.proofs.NewRows.{row_of, new_row, new_row_used, made_stands, of_rows}
use Rattle.heap_model.proofs.RegionRows.{row_of as row_for}
use Rattle.heap_model.proofs.NewCells.{OriginAt, found, new_has, first_of_row, made_is_new}

-- the old heap's row of a region
record RegionRow (old new : Heap) (patches : List Patch) (made : List Cell) (extent : Extent) : Type 0 where
  pub row : Row
  pub context : RowPatching old new patches made row
  pub same : row.extent ≡ extent

-- each region of cells has one
region_row : {old new : Heap} {patches : List Patch} {made : List Cell} {extent : Extent}
    → Patching old new patches made → Contains (cell_extents old.space) extent → RegionRow old new patches made extent
region_row {extent = extent} patching there =
    let own = row_for extent patching.rows.are there in
    record { row = own.row; context = of_rows patching own.there; same = own.same }

-- eden is a region of cells
eden_there : (space : Space) → Contains (cell_extents space) (extent_of space Eden)
eden_there space =
    let one : Extent = extent_of space Eden in
    let P : ℕ → Type 0 = λ n. Contains (extents_from n (eden space)) one in
    let begins : eden_start space ≡ 0 + words_in (pages space) = omega (arith, words_in-pages space) in
    stands_first 0 (to_half space) (half_of space 1) one
    (stands_first 0 (to_eden space) (half_of space 0) one
    (stands_then 0 (pages space) (eden space) one (subst P begins (first_in one []))))

-- what has an address of a cell that was made is that cell
made_has : {old new : Heap} {patches : List Patch} {made : List Cell} {cell other : Cell}
    → Patching old new patches made
    → Contains made cell → IsOfCell cell cell.at → IsOfCell other cell.at → OriginAt old new patches made other cell.at
    → other ≡ cell
made_has patching there of_cell of_other (OriginAt.in_patch patch there_too after patched) =
    absurd (patched_not_new patching there_too patched (made_is_new patching there of_cell))
made_has patching there of_cell of_other (OriginAt.in_none has is_free) =
    absurd (not_new patching has of_other (made_is_new patching there of_cell))
made_has {old} {new} {made = made} {cell} {other} patching there of_cell of_other (OriginAt.in_new among is_new) =
    let from : ℕ = eden_start old.space + old.used in
    let to : ℕ = eden_start old.space + new.used in
    one_of_row old.space new.words from to made other cell cell.at (made_stands patching) among there of_other of_cell

-- what was made stands in the new heap
pub made_cell : {old new : Heap} {patches : List Patch} {made : List Cell} {cell : Cell} → Patching old new patches made
    → Contains made cell → HasCell new cell (words_of_cell new cell)
made_cell {old} {new} {patches} {made} {cell} patching there =
    let region = region_row patching (eden_there old.space) in
    let one = new_row region.context in
    let ends : one.end ≡ eden_start old.space + new.used =
    subst (λ (extent : Extent). EndsUsed new extent one.end extent.region) region.same one.ends in
    let start : region.row.extent.start ≡ eden_start old.space = ap (λ (extent : Extent). extent.start) region.same in
    let from : ℕ = eden_start old.space + old.used in
    let to : ℕ = eden_start old.space + new.used in
    let of_cell = first_of_row old.space new.words from to made cell (made_stands patching) there in
    let is_new = made_is_new patching there of_cell in
    let place = found cell.at patching one (omega (arith, start, is_new.from)) (omega (arith, ends, is_new.below)) in
    let same : place.cell ≡ cell = made_has patching there of_cell place.of_cell place.origin in
    new_has region.context one (subst (Contains one.cells) same place.among)

-- what has an address of a cell that no patch has is that cell
kept_has : {old new : Heap} {patches : List Patch} {made : List Cell} {cell other : Cell} {words : List ℕ}
    → Patching old new patches made → HasCell old cell words → IsFree patches cell.at → IsOfCell other cell.at
    → OriginAt old new patches made other cell.at → other ≡ cell
kept_has {patches = patches} {cell = cell} patching has free of_other (OriginAt.in_patch patch there after patched) =
    absurd (All-contains (λ (one : Patch). IsPatched cell.at one → ⊥) patches patch free there patched)
kept_has {cell = cell} patching has free of_other (OriginAt.in_none has_other is_free) =
    cells_apart cell.at patching.rows has_other has of_other (first_of_cell has)
kept_has patching has free of_other (OriginAt.in_new among is_new) =
    absurd (not_new patching has (first_of_cell has) is_new)

-- a cell that no patch has stands as before
pub kept_cell : {old new : Heap} {patches : List Patch} {made : List Cell} {cell : Cell} {words : List ℕ}
    → Patching old new patches made → HasCell old cell words → IsFree patches cell.at → HasCell new cell words
kept_cell {old} {new} {patches} {made} {cell} patching has free =
    let row : Row = has.row in
    let context : RowPatching old new patches made row =
    record { patching = patching; there = has.in_region; used = has.used } in
    let one = new_row context in
    let within = cell_within old.space old.words row.extent.start row.end row.cells cell has.used.stands has.in_row in
    let below = (first_of_cell has).below in
    let place = found cell.at patching one within.0 (omega (arith, within.1, below, one.grows)) in
    let same : place.cell ≡ cell = kept_has patching has free place.of_cell place.origin in
    let there = new_has context one (subst (Contains one.cells) same place.among) in
    record {
      row = there.row;
      in_region = there.in_region;
      used = there.used;
      in_row = there.in_row;
      words_are = free_words patching has free ∙ has.words_are;
    }

-- a cell that did not go is in no patch
pub not_gone_is_free : {old new : Heap} {patches : List Patch} {made : List Cell} {cell : Cell} {words : List ℕ}
    → Patching old new patches made → HasCell old cell words → (Contains (gone_with patches) cell → ⊥)
    → Spot patches cell.at → IsFree patches cell.at
not_gone_is_free patching has stays (Spot.free is_free) = is_free
not_gone_is_free {patches = patches} {cell = cell} patching has stays (Spot.in_patch patch there patched) =
    let before = patched_is_before patching.rows (patch_is patching there) has (first_of_cell has) patched in
    absurd (stays (of_one (λ (one : Patch). one.before) patches patch cell there before))

-- and one in no patch did not go
free_is_not_gone : {old new : Heap} {patches : List Patch} {made : List Cell} {cell : Cell} {words : List ℕ}
    → Patching old new patches made → HasCell old cell words → IsFree patches cell.at
    → Contains (gone_with patches) cell → ⊥
free_is_not_gone {patches = patches} {cell = cell} patching has free gone =
    let one = from_one (λ (patch : Patch). patch.before) patches cell gone in
    All-contains (λ (patch : Patch). IsPatched cell.at patch → ⊥) patches one.one free one.among
    (before_is_patched (patch_is patching one.among) one.has (first_of_cell has))

-- where a cell of the new heap is from, by lists of cells
cell_from : {old new : Heap} {patches : List Patch} {made : List Cell} {cell : Cell} {words : List ℕ}
    → Patching old new patches made → words_of_cell new cell ≡ words → Origin old patches made cell
    → Contains (come_with patches ++ made) cell ⊎ (HasCell old cell words × (Contains (gone_with patches) cell → ⊥))
cell_from {patches = patches} {made} {cell} patching are (Origin.came patch there after) =
    inl (Contains-append_left (come_with patches) made cell
    (of_one (λ (one : Patch). one.after) patches patch cell there after))
cell_from patching are (Origin.stayed has is_free) =
    inr (
      record {
        row = has.row;
        in_region = has.in_region;
        used = has.used;
        in_row = has.in_row;
        words_are = sym (free_words patching has is_free) ∙ are;
      },
      free_is_not_gone patching has is_free,
    )
cell_from {patches = patches} {made} {cell} patching are (Origin.is_made there) =
    inl (Contains-append_right (come_with patches) made cell there)

-- each cell of the new heap came, was made, or is one that did not go
pub cell_back : {old new : Heap} {patches : List Patch} {made : List Cell} {cell : Cell} {words : List ℕ}
    → Patching old new patches made → HasCell new cell words
    → Contains (come_with patches ++ made) cell ⊎ (HasCell old cell words × (Contains (gone_with patches) cell → ⊥))
cell_back {old} {new} {patches} {made} {cell} patching has =
    let P : Space → Type 0 = λ space. Contains (cell_extents space) has.row.extent in
    let in_region : P old.space = subst P patching.change.same_space has.in_region in
    let region = region_row patching in_region in
    let one = new_row region.context in
    let same = one_used_row new has.row (row_of one) has.used (new_row_used patching one) (sym region.same) in
    let there : Contains one.cells cell = subst (λ (all : List Cell). Contains all cell) same.cells has.in_row in
    cell_from patching has.words_are (All-contains (Origin old patches made) one.cells cell one.each there)
