-- The new row of each region.
use Rattle.std.proofs.Common.{◌≡◌, ℕ, ◌+◌, ◌≤◌, ◌<◌, inl, inr, List, [], ◌∷◌}
use Rattle.std.proofs.Common.{◌++◌, map, Contains, All, slice_get}
use Rattle.std.proofs.Common.{refl, sym, ◌∙◌, ap, subst, arith}
use Rattle.std.proofs.lemmas.Bool.{cases_lt}
use Rattle.std.proofs.lemmas.List.Elements.{All-nil, All-cons, All-append, All-weaker}
use Rattle.std.proofs.lemmas.List.Elements.{All-contains_itself}
use Rattle.std.proofs.lemmas.List.Sums.{sum_by-cons}
use Rattle.tagged_word.proofs.Members.{first_in, rest_in}
use Rattle.heap_model.specs.Types.{Region, Cell}
use Rattle.page_space.specs.declared.region.Region.TheVariants.{Page, Eden, Segment}
use Rattle.page_space.specs.Extents.{Space, Extent, ContainsAddress, eden_start}
use Rattle.page_space.proofs.Standing.{start_of}
use Rattle.page_space.proofs.Placed.{placed}
use Rattle.cell_layout.specs.Cells.{IsRow}
use Rattle.cell_layout.proofs.Rows.{row_ascends, rows_join}
use Rattle.heap_model.specs.Heaps.{Heap, Row, EndsUsed, IsUsedRow, survivors_in, survivors_of, cell_extents}
use Rattle.heap_model.specs.Wholeness.{HasRows}
use Rattle.heap_model.specs.Changes.{Patch}
use Rattle.heap_model.proofs.CellsApart.{cell_extent_stands}
use Rattle.heap_model.proofs.WordsAlike.{extent_below_roots}
use Rattle.heap_model.proofs.RegionRows.{row_is}
use Rattle.heap_model.proofs.Patches.{Patching, IsFree, Spot, spot, new_few}
use Rattle.heap_model.proofs.PatchedRows.{RowPatching, patch_in_row}
use Rattle.heap_model.proofs.RowParts.{Origin, new_part}

-- The new row of a region: it ends where the old one does, or behind it in eden.
pub record NewRow (old new : Heap) (patches : List Patch) (made : List Cell) (row : Row)
    (region : Region) : Type 0 where
  pub end : ℕ
  pub cells : List Cell
  pub ends : EndsUsed new row.extent end region
  pub stands : IsRow old.space new.words row.extent.start end cells
  pub each : All (Origin old patches made) cells
  pub grows : row.end ≤ end
  pub survivors : survivors_in (record { extent = row.extent; end = end; cells = cells }) region
      ≡ survivors_in row region

-- no patch has the address where a row ends before its region does
end_is_free : {old new : Heap} {patches : List Patch} {made : List Cell} {row : Row}
    → RowPatching old new patches made row → ContainsAddress row.extent row.end → Spot patches row.end
    → IsFree patches row.end
end_is_free context holds (Spot.free is_free) = is_free
end_is_free context holds (Spot.in_patch patch there patched) =
    absurd (omega (arith, (patch_in_row context there patched holds).to, patched.below))

-- the word there stays, where eden ends before the region
end_stays : {old new : Heap} {patches : List Patch} {made : List Cell} {row : Row}
    → RowPatching old new patches made row
    → eden_start old.space + old.space.sizes.young ≤ row.extent.start → row.end < row.extent.start + row.extent.words
    → slice_get new.words row.end ≡ slice_get old.words row.end
end_stays {old} {new} {patches} {row = row} context behind below =
    let from = row_ascends old.space old.words row.extent.start row.end row.cells context.used.stands in
    let few = new_few context.patching in
    context.patching.change.cells_stay row.end (omega (arith, extent_below_roots old.space row.extent context.there))
    (end_is_free context record { from = from; below = below } (spot patches row.end))
    (λ is_new. omega (arith, is_new.below))

-- what was made stands in the new words
pub made_stands : {old new : Heap} {patches : List Patch} {made : List Cell} → Patching old new patches made
    → IsRow old.space new.words (eden_start old.space + old.used) (eden_start old.space + new.used) made
made_stands {old} {new} {made = made} patching =
    let P : Space → Type 0 = λ space.
    IsRow space new.words (eden_start old.space + old.used) (eden_start old.space + new.used) made in
    subst P patching.change.same_space patching.change.made_stand

-- the new row of eden: what was made stands behind the other cells
new_row_of_eden : {old new : Heap} {patches : List Patch} {made : List Cell} {row : Row}
    → RowPatching old new patches made row
    → row.extent.start ≡ eden_start old.space → row.end ≡ row.extent.start + old.used
    → NewRow old new patches made row Eden
new_row_of_eden {old} {new} {patches} {made} {row} context start ends =
    let part = new_part context in
    let to : ℕ = eden_start old.space + new.used in
    let P : ℕ → Type 0 = λ from. IsRow old.space new.words from to made in
    let at_end : eden_start old.space + old.used ≡ row.end = omega arith in
    let Q : Cell → Type 0 = Origin old patches made in
    let new_cells : (cell : Cell) → Contains made cell → Q cell = λ cell there. Origin.is_made there in
    record {
      end = to;
      cells = part.cells ++ made;
      ends = omega arith;
      stands = rows_join old.space new.words row.extent.start row.end to part.cells made part.stands
          (subst P at_end (made_stands context.patching));
      each = All-append (Origin old patches made) part.cells made part.each
          (All-weaker (Contains made) (Origin old patches made) new_cells made (All-contains_itself made));
      grows = omega (arith, context.patching.change.grown);
      survivors = refl;
    }

-- the new row of a region, kind by kind
new_row_of : {old new : Heap} {patches : List Patch} {made : List Cell} {row : Row} (region : Region)
    → RowPatching old new patches made row → row.extent.start ≡ start_of old.space region
    → EndsUsed old row.extent row.end region → NewRow old new patches made row region
new_row_of {row = row} (Page page) context start ends =
    let part = new_part context in
    record {
      end = row.end;
      cells = part.cells;
      ends = ends;
      stands = part.stands;
      each = part.each;
      grows = omega arith;
      survivors = refl;
    }
new_row_of Eden context start ends = new_row_of_eden context start ends
new_row_of {row = row} (Segment half worker) context start ends =
    let part = new_part context in
    record {
      end = row.end;
      cells = part.cells;
      ends = (
        ends.0,
        elim (cases_lt row.end (row.extent.start + row.extent.words)) [
          | inl inside ↦ elim ends.1 [
            | inl at_end ↦ inl at_end
            | inr none ↦ inr (end_stays context (omega arith) inside ∙ none)
          ]
          | inr at_end ↦ inl (omega (arith, ends.0))
        ],
      );
      stands = part.stands;
      each = part.each;
      grows = omega arith;
      survivors = refl;
    }
new_row_of _ context start ends = absurd ends

-- the new row of a row
pub new_row : {old new : Heap} {patches : List Patch} {made : List Cell} {row : Row}
    → RowPatching old new patches made row → NewRow old new patches made row row.extent.region
new_row {old} {row = row} context =
    let place = (placed old.space row.extent (cell_extent_stands old.space row.extent context.there)).place in
    new_row_of row.extent.region context (ap (λ (extent : Extent). extent.start) place) context.used.ends

-- the row that it is
abbrev pub row_of : {old new : Heap} {patches : List Patch} {made : List Cell} {row : Row}
    → NewRow old new patches made row row.extent.region → Row
row_of {row = row} made_new = record { extent = row.extent; end = made_new.end; cells = made_new.cells }

-- it is used
pub new_row_used : {old new : Heap} {patches : List Patch} {made : List Cell} {row : Row}
    → Patching old new patches made → (found : NewRow old new patches made row row.extent.region)
    → IsUsedRow new (row_of found)
new_row_used {new = new} {row = row} patching found = record {
  ends = found.ends;
  stands = subst (λ (space : Space). IsRow space new.words row.extent.start found.end found.cells)
      (sym patching.change.same_space) found.stands;
}

-- the new rows of some rows
record NewRows (old new : Heap) (rows : List Row) : Type 0 where
  pub others : List Row
  pub everywhere : map (λ row. row.extent) others ≡ map (λ row. row.extent) rows
  pub each : All (IsUsedRow new) others
  pub survivors : survivors_of others ≡ survivors_of rows

-- each row has a new one
new_rows : {old new : Heap} {patches : List Patch} {made : List Cell} (rows : List Row) → Patching old new patches made
    → ((row : Row) → Contains rows row → RowPatching old new patches made row) → NewRows old new rows
new_rows {new = new} [] patching contexts =
    record { others = []; everywhere = refl; each = All-nil (IsUsedRow new); survivors = refl }
new_rows {new = new} (row ∷ rows) patching contexts =
    let found = new_row (contexts row (first_in row rows)) in
    let later = new_rows rows patching (λ one there. contexts one (rest_in row rows one there)) in
    let count : Row → ℕ = λ one. survivors_in one one.extent.region in
    record {
      others = row_of found ∷ later.others;
      everywhere = ap (λ more. row.extent ∷ more) later.everywhere;
      each = All-cons (IsUsedRow new) (row_of found) later.others (new_row_used patching found) later.each;
      survivors = sum_by-cons count (row_of found) later.others
          ∙ ap (λ n. n + survivors_of later.others) found.survivors
          ∙ ap (λ n. count row + n) later.survivors ∙ sym (sum_by-cons count row rows);
    }

-- a row of the old heap, beside the patches
pub of_rows : {old new : Heap} {patches : List Patch} {made : List Cell} {row : Row}
    (patching : Patching old new patches made)
    → Contains patching.rows.rows row → RowPatching old new patches made row
of_rows {row = row} patching there =
    let is = row_is row patching.rows.are there in record { patching = patching; there = is.among; used = is.used }

-- the new heap has rows
pub has_rows : {old new : Heap} {patches : List Patch} {made : List Cell} → Patching old new patches made → HasRows new
has_rows {old} {new} patching =
    let rows = patching.rows in
    let change = patching.change in
    let all = new_rows rows.rows patching (λ row there. of_rows patching there) in
    record {
      rows = all.others;
      are = record {
        everywhere = all.everywhere ∙ rows.are.everywhere ∙
            ap (λ (space : Space). cell_extents space) (sym change.same_space);
        each = all.each;
      };
      counted = all.survivors ∙ rows.counted ∙ sym change.same_survivors;
      few = change.room;
    }
