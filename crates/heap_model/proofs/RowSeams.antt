-- Where the new row stops beside the old one: no patch goes on there.
use Rattle.std.proofs.Common.{◌≡◌, ℕ, ◌+◌, ◌-◌, ◌≤◌, ◌<◌, inl, inr, List, Contains, ap, arith}
use Rattle.std.proofs.lemmas.Bool.{cases_lt}
use Rattle.std.proofs.lemmas.List.Elements.{All-contains}
use Rattle.page_space.specs.Extents.{ContainsAddress}
use Rattle.heap_model.specs.Types.{Cell}
use Rattle.heap_model.specs.Heaps.{Heap, Row, HasCell}
use Rattle.heap_model.specs.Changes.{Patch, IsPatched}
use Rattle.heap_model.proofs.CellsApart.{IsOfCell, first_of_cell, ends_within, used_few}
use Rattle.heap_model.proofs.Patches.{Patching, IsFree}
use Rattle.heap_model.proofs.FreeCells.{free_cell}
use Rattle.heap_model.proofs.PatchedRows.{RowPatching, patch_in_row}

-- The new row comes as far as the old one, or to the end of the patch in which the old one is.
pub data Ahead (patches : List Patch) (at next : ℕ) : Type 0 where
  even : at ≡ next → Ahead patches at next
  inside : (patch : Patch) → Contains patches patch → IsPatched at patch → patch.to ≡ next → Ahead patches at next

-- a patch with this address begins there
abbrev pub IsSeam : List Patch → ℕ → ℕ → Type 0
IsSeam patches next to = (patch : Patch) → Contains patches patch → next < to → IsPatched next patch → patch.from ≡ next

-- no patch goes on from a cell that none has
pub seam_behind_free : {old new : Heap} {patches : List Patch} {made : List Cell} {cell : Cell}
    {words : List ℕ} (to : ℕ)
    → Patching old new patches made → HasCell old cell words → IsFree patches cell.at
    → IsSeam patches (cell.at + cell.size) to
seam_behind_free {patches = patches} {cell = cell} to patching has free patch there some_left patched =
    elim (cases_lt patch.from (cell.at + cell.size)) [
      | inl before ↦
          let some = (first_of_cell has).below in
          let last : ℕ = cell.at + cell.size - 1 in
          let of_cell : IsOfCell cell last = record { from = omega (arith, some); below = omega (arith, some) } in
          absurd (All-contains (λ (one : Patch). IsPatched last one → ⊥) patches patch
          (free_cell patching has free of_cell) there
          record { from = omega (arith, some); below = omega (arith, patched.below) })
      | inr same ↦ omega (arith, patched.from)
    ]

-- nor from another patch
pub seam_behind_patch : {old new : Heap} {patches : List Patch} {made : List Cell} {patch : Patch} (at to : ℕ)
    → Patching old new patches made → Contains patches patch → IsPatched at patch → IsSeam patches patch.to to
seam_behind_patch {patch = patch} at to patching there patched other there_too some_left patched_too =
    elim (cases_lt other.from patch.to) [
      | inl before ↦
          let last : ℕ = patch.to - 1 in
          let same : other ≡ patch = patching.change.apart other patch last there_too there
          record { from = omega (arith, patched.below); below = omega (arith, patched_too.below) }
          record { from = omega (arith, patched.from, patched.below); below = omega (arith, patched.below) } in
          let ends : other.to ≡ patch.to = ap (λ (one : Patch). one.to) same in
          absurd (omega (arith, ends, patched_too.below))
      | inr same ↦ omega (arith, patched_too.from)
    ]

-- nor into the row from before it
pub seam_at_start : {old new : Heap} {patches : List Patch} {made : List Cell} {row : Row}
    → RowPatching old new patches made row → IsSeam patches row.extent.start row.end
seam_at_start {old} {row = row} context patch there some_left patched =
    let start : ℕ = row.extent.start in
    let room = ends_within old row (used_few context.patching.rows) context.there context.used in
    let holds : ContainsAddress row.extent start =
    record { from = omega arith; below = omega (arith, some_left, room) } in
    omega (arith, (patch_in_row context there patched holds).from, patched.from)

-- behind a cell of a patch the old row is in the patch, or at its end
pub ahead_in : {patches : List Patch} (cell : Cell) (patch : Patch) (next : ℕ) → Contains patches patch
    → IsPatched cell.at patch → cell.at + cell.size ≤ patch.to → patch.to ≡ next
    → Ahead patches (cell.at + cell.size) next
ahead_in cell patch next there patched within ends =
    elim (cases_lt (cell.at + cell.size) patch.to) [
      | inl below ↦ Ahead.inside patch there record { from = omega (arith, patched.from); below = below } ends
      | inr behind ↦ Ahead.even (omega arith)
    ]
