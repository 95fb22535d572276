-- Free runs of pages stay free cells where objects change inside their own cells, and where a variable is bound anew;
-- and so do the fillers of a range.
use Rattle.std.proofs.Common.{◌≡◌, ℕ, ◌+◌, ◌<◌, ◌≤◌, List, Contains, IsTrue, refl, sym, ap, subst, arith}
use Rattle.tagged_word.specs.Cells.{is_free_kind}
use Rattle.page_space.specs.Extents.{Space, eden_start}
use Rattle.heap_model.specs.Types.{Cell, Run, Held}
use Rattle.heap_model.specs.Heaps.{Heap, HasCell, cell_extents}
use Rattle.heap_model.specs.Wholeness.{Whole}
use Rattle.heap_model.specs.Laws.{bound}
use Rattle.heap_model.specs.Changes.{IsFillerAt, AreFillers, IsFilledIn}
use Rattle.heap_model.specs.Collectable.{IsFreeCell, AreFreeRuns, CellsAvoidFree, AvoidRange}
use Rattle.heap_model.specs.Collectable.{OwnChangesKeepFree, OwnChangesKeepFillers}
use Rattle.heap_model.proofs.CellOutcomes.{cells_move}
use Rattle.heap_model.proofs.Moves.{Moves}
use Rattle.heap_model.proofs.BoundHeaps.{none_in, bound_moves}
use Rattle.heap_model.proofs.StaysCollectable.{own_not_free}

-- a free cell is no object's own, so it did not go; it stays where no cell is made of it
free_cell_stays : {old new : Heap} {gone came made : List Cell} {cell : Cell} {words : List ℕ}
    → Moves old new gone came made → HasCell old cell words → IsTrue (is_free_kind cell.layout.kind)
    → (IsFilledIn made cell → ⊥) → HasCell new cell words
free_cell_stays {cell = cell} {words} moves has free not_filled =
    moves.cells.kept cell words has
    (λ gone. own_not_free (moves.cells.went cell gone) (moves.own.own cell gone) free) not_filled

-- so a free run stays, of which no cell is made
free_stays : {old new : Heap} {gone came made : List Cell} {run : Run} → new.space ≡ old.space
    → Moves old new gone came made
    → ((cell : Cell) → Contains made cell → cell.at ≤ run.at → run.at < cell.at + cell.size → ⊥)
    → IsFreeCell old run → IsFreeCell new run
free_stays same moves avoids is = record {
  cell = is.cell;
  words = is.words;
  has = free_cell_stays moves is.has is.free (λ filled.
      let begins = filled.begins in
      avoids begins.other begins.among (omega (arith, begins.from, is.stands))
      (omega (arith, begins.below, is.stands)));
  stands = is.stands;
  size = is.size;
  of_page = subst (λ (space : Space). is.cell.at < eden_start space) (sym same) is.of_page;
  free = is.free;
}

-- so free runs stay so
moves_keep_free : {old new : Heap} {gone came made : List Cell} (rows : List (List Run)) → new.space ≡ old.space
    → Moves old new gone came made → CellsAvoidFree made rows → AreFreeRuns old rows → AreFreeRuns new rows
moves_keep_free rows same moves avoid are row run among there =
    free_stays same moves (λ cell is_made. avoid row run cell among there is_made) (are row run among there)

-- a filler stays, of which no cell is made
filler_stays : {old new : Heap} {gone came made : List Cell} {at : ℕ} → Moves old new gone came made
    → ((cell : Cell) → Contains made cell → cell.at ≤ at → at < cell.at + cell.size → ⊥)
    → IsFillerAt old at → IsFillerAt new at
filler_stays moves avoids is = record {
  cell = is.cell;
  words = is.words;
  has = free_cell_stays moves is.has (ap is_free_kind is.filler) (λ filled.
      let begins = filled.begins in
      avoids begins.other begins.among (omega (arith, begins.from, is.stands))
      (omega (arith, begins.below, is.stands)));
  stands = is.stands;
  filler = is.filler;
}

-- so a range of fillers stays one
fillers_stay : {old new : Heap} {gone came made : List Cell} (from to : ℕ) → new.space ≡ old.space
    → Moves old new gone came made → AvoidRange made from to → AreFillers old from to → AreFillers new from to
fillers_stay from to same moves avoid are = record {
  extent = are.extent;
  among = subst (λ (space : Space). Contains (cell_extents space) are.extent) (sym same) are.among;
  begins = are.begins;
  ends = are.ends;
  of_page = subst (λ (space : Space). to ≤ eden_start space) (sym same) are.of_page;
  each = λ at above below.
      filler_stays moves (λ cell is_made begins ends. avoid cell at is_made begins ends above below)
      (are.each at above below);
}

-- they do where objects change inside their own cells
pub own_changes_keep_free : OwnChangesKeepFree
own_changes_keep_free old new gone came made rows whole change own avoid are =
    moves_keep_free rows change.same_space (record { whole = whole; cells = cells_move change; own = own }) avoid are

-- and so do fillers
pub own_changes_keep_fillers : OwnChangesKeepFillers
own_changes_keep_fillers old new gone came made from to whole change own avoid are =
    fillers_stay from to change.same_space (record { whole = whole; cells = cells_move change; own = own }) avoid are

-- and where a variable is bound anew
pub bound_keeps_free : (heap : Heap) (variable : ℕ) (one : Held) (rows : List (List Run))
    → variable < heap.space.variables → Whole heap → AreFreeRuns heap rows → AreFreeRuns (bound heap variable one) rows
bound_keeps_free heap variable one rows below whole are =
    moves_keep_free rows refl (bound_moves heap variable one below whole)
    (λ row run cell among there is_made. absurd (none_in cell is_made)) are

-- and fillers do
pub bound_keeps_fillers : (heap : Heap) (variable : ℕ) (one : Held) (from to : ℕ)
    → variable < heap.space.variables → Whole heap → AreFillers heap from to
    → AreFillers (bound heap variable one) from to
bound_keeps_fillers heap variable one from to below whole are =
    fillers_stay from to refl (bound_moves heap variable one below whole)
    (λ cell at is_made. absurd (none_in cell is_made)) are
