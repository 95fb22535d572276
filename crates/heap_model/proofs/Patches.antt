-- Patches of a heap's words: which cells they have, and which addresses are in none of them.
use Rattle.std.proofs.Common.{◌≡◌, ℕ, ◌+◌, ◌≤◌, ◌⊎◌, inl, inr, List}
use Rattle.std.proofs.Common.{[], ◌∷◌, ◌++◌, Contains, All}
use Rattle.std.proofs.Common.{refl, sym, ap, subst, arith}
use Rattle.std.proofs.lemmas.Bool.{cases_lt}
use Rattle.std.proofs.lemmas.List.Elements.{All-nil, All-cons, All-contains}
use Rattle.std.proofs.lemmas.List.Elements.{Contains-append_left, Contains-append_right}
use Rattle.tagged_word.proofs.Members.{first_in, rest_in}
use Rattle.page_space.specs.declared.region.Region.TheVariants.{Eden}
use Rattle.page_space.specs.Extents.{Space, Extent, ContainsAddress, eden_start}
use Rattle.page_space.proofs.Covering.{disjoint}
use Rattle.page_space.proofs.Standing.{extent_of, eden_stands}
use Rattle.heap_model.specs.Types.{Cell}
use Rattle.cell_layout.proofs.Rows.{cell_within}
use Rattle.heap_model.specs.Heaps.{Heap, Row, EndsUsed, IsUsedRow, HasCell, cell_extents, words_of_cell}
use Rattle.heap_model.specs.Wholeness.{HasRows, HasSizes}
use Rattle.heap_model.specs.Changes.{Patch, IsPatch, IsPatched}
use Rattle.heap_model.proofs.EdenChanges.{IsBehindUsed, EdenChange}
use Rattle.heap_model.proofs.CellsApart.{IsOfCell, cells_apart, cell_extent_stands, ends_within, used_few}
use Rattle.heap_model.proofs.RowCovers.{covered}

-- a heap with rows, and a change of its patches' words
pub record Patching (old new : Heap) (patches : List Patch) (made : List Cell) : Type 0 where
  pub sized : HasSizes old
  pub rows : HasRows old
  pub change : EdenChange old new patches made

-- no patch has the address
abbrev pub IsFree : List Patch → ℕ → Type 0
IsFree patches at = All (λ patch. IsPatched at patch → ⊥) patches

-- One of the patches has the address, or none does.
pub data Spot (patches : List Patch) (at : ℕ) : Type 0 where
  in_patch : (patch : Patch) → Contains patches patch → IsPatched at patch → Spot patches at
  free : IsFree patches at → Spot patches at

-- the patch has the address, or it does not
patched_or_not : (patch : Patch) (at : ℕ) → IsPatched at patch ⊎ (IsPatched at patch → ⊥)
patched_or_not patch at =
    elim (cases_lt at patch.from) [
      | inl before ↦ inr (λ patched. omega arith)
      | inr above ↦ elim (cases_lt at patch.to) [
        | inl below ↦ inl record { from = above; below = below }
        | inr behind ↦ inr (λ patched. omega arith)
      ]
    ]

-- one patch more
spot_more : (patch : Patch) (patches : List Patch) (at : ℕ) → IsPatched at patch ⊎ (IsPatched at patch → ⊥)
    → Spot patches at → Spot (patch ∷ patches) at
spot_more patch patches at (inl patched) rest = Spot.in_patch patch (first_in patch patches) patched
spot_more patch patches at (inr not) (Spot.in_patch other there patched) =
    Spot.in_patch other (rest_in patch patches other there) patched
spot_more patch patches at (inr not) (Spot.free none) =
    Spot.free (All-cons (λ (one : Patch). IsPatched at one → ⊥) patch patches not none)

-- one of the patches has the address, or none does
pub spot : (patches : List Patch) (at : ℕ) → Spot patches at
spot [] at = Spot.free (All-nil (λ (one : Patch). IsPatched at one → ⊥))
spot (patch ∷ patches) at = spot_more patch patches at (patched_or_not patch at) (spot patches at)

-- each of the patches is one
pub patch_is : {old new : Heap} {patches : List Patch} {made : List Cell} {patch : Patch}
    → Patching old new patches made → Contains patches patch → IsPatch old new patch
patch_is {old} {new} {patches} {patch = patch} patching there =
    All-contains (IsPatch old new) patches patch patching.change.each there

-- the cells before are those of the patch's row
pub before_in_row : {old new : Heap} {patch : Patch} {cell : Cell} (is : IsPatch old new patch)
    → Contains patch.before cell → Contains is.row.cells cell
before_in_row {patch = patch} {cell} is there =
    subst (λ (all : List Cell). Contains all cell) (sym is.part)
    (Contains-append_left (is.front ++ patch.before) is.back cell
    (Contains-append_right is.front patch.before cell there))

-- so the old heap has them
pub before_has : {old new : Heap} {patch : Patch} {cell : Cell} → IsPatch old new patch → Contains patch.before cell
    → HasCell old cell (words_of_cell old cell)
before_has is there = record {
  row = is.row;
  in_region = is.in_region;
  used = is.used;
  in_row = before_in_row is there;
  words_are = refl;
}

-- the patch has their addresses
pub before_is_patched : {old new : Heap} {patch : Patch} {cell : Cell} {at : ℕ} → IsPatch old new patch
    → Contains patch.before cell → IsOfCell cell at → IsPatched at patch
before_is_patched {old} {patch = patch} {cell} is there of_cell =
    let within = cell_within old.space old.words patch.from patch.to patch.before cell is.stood there in
    record { from = omega (arith, within.0); below = omega (arith, within.1) }

-- and a cell that has an address of the patch is one of them
pub patched_is_before : {old new : Heap} {patch : Patch} {cell : Cell} {words : List ℕ} {at : ℕ} → HasRows old
    → IsPatch old new patch → HasCell old cell words → IsOfCell cell at → IsPatched at patch
    → Contains patch.before cell
patched_is_before {old} {patch = patch} {cell} {at = at} rows is has of_cell patched =
    let there = covered old.space old.words patch.from patch.to patch.before at is.stood patched.from patched.below in
    let same : there.cell ≡ cell = cells_apart at rows (before_has is there.among) has there.of_cell of_cell in
    subst (Contains patch.before) same there.among

-- eden has room for the words that are newly used
pub new_few : {old new : Heap} {patches : List Patch} {made : List Cell} → Patching old new patches made
    → new.used ≤ old.space.sizes.young
new_few {old} {new} patching =
    let same : new.space.sizes.young ≡ old.space.sizes.young =
    ap (λ (space : Space). space.sizes.young) patching.change.same_space in
    omega (arith, patching.change.room, same)

-- the region of a cell's row has the cell's addresses
pub row_holds : {heap : Heap} {row : Row} {cell : Cell} {at : ℕ} → HasRows heap
    → Contains (cell_extents heap.space) row.extent → IsUsedRow heap row → Contains row.cells cell → IsOfCell cell at
    → ContainsAddress row.extent at
row_holds {heap} {row} {cell} rows there used in_row of_cell =
    let within = cell_within heap.space heap.words row.extent.start row.end row.cells cell used.stands in_row in
    let ends = ends_within heap row (used_few rows) there used in
    record { from = omega (arith, within.0); below = omega (arith, within.1, ends) }

-- a row of eden ends with its used words
eden_ends : (heap : Heap) (row : Row) → row.extent ≡ extent_of heap.space Eden → IsUsedRow heap row
    → row.end ≡ eden_start heap.space + heap.used
eden_ends heap row same used = subst (λ (extent : Extent). EndsUsed heap extent row.end extent.region) same used.ends

-- no address of a cell is behind the used words of eden
pub cell_not_behind : {old new : Heap} {cell : Cell} {words : List ℕ} {at : ℕ} → HasRows old
    → new.used ≤ old.space.sizes.young → HasCell old cell words → IsOfCell cell at → IsBehindUsed old new at → ⊥
cell_not_behind {old} {cell = cell} {at = at} rows few has of_cell behind =
    let row : Row = has.row in
    let in_eden : ContainsAddress (extent_of old.space Eden) at =
    record { from = omega (arith, behind.from); below = omega (arith, behind.below, few) } in
    let same : row.extent ≡ extent_of old.space Eden =
    disjoint old.space row.extent (extent_of old.space Eden) at (cell_extent_stands old.space row.extent has.in_region)
    (eden_stands old.space) (row_holds rows has.in_region has.used has.in_row of_cell) in_eden in
    let within = cell_within old.space old.words row.extent.start row.end row.cells cell has.used.stands has.in_row in
    omega (arith, within.1, eden_ends old row same has.used, behind.from, of_cell.below)

-- so no address of a cell is newly used
pub not_new : {old new : Heap} {patches : List Patch} {made : List Cell} {cell : Cell} {words : List ℕ} {at : ℕ}
    → Patching old new patches made → HasCell old cell words → IsOfCell cell at → IsBehindUsed old new at → ⊥
not_new patching has of_cell is_new = cell_not_behind patching.rows (new_few patching) has of_cell is_new

-- nor is one of a patch
pub patched_not_new : {old new : Heap} {patches : List Patch} {made : List Cell} {patch : Patch} {at : ℕ}
    → Patching old new patches made → Contains patches patch → IsPatched at patch → IsBehindUsed old new at → ⊥
patched_not_new {old} {patch = patch} {at} patching there patched is_new =
    let is = patch_is patching there in
    let one = covered old.space old.words patch.from patch.to patch.before at is.stood patched.from patched.below in
    not_new patching (before_has is one.among) one.of_cell is_new
