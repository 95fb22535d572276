-- Where only patches and the run change, cells stand in rows again, and all but those of the patches are as before.
use Rattle.std.proofs.Common.{◌≡◌, ℕ, ◌+◌, ◌≤◌, List, subst, arith}
use Rattle.page_space.specs.Extents.{eden_start}
use Rattle.cell_layout.specs.Cells.{IsRow}
use Rattle.heap_model.specs.Types.{Cell}
use Rattle.heap_model.specs.Heaps.{Heap}
use Rattle.heap_model.specs.Wholeness.{HasRows, Whole}
use Rattle.heap_model.specs.Changes.{Patch, IsRunOf, IsNewlyUsed, IsChange, CellsChange}
use Rattle.heap_model.specs.Laws.{ChangesKeepCells, gone_with, come_with}
use Rattle.heap_model.proofs.EdenChanges.{EdenChange, EdenCellsChange}
use Rattle.heap_model.proofs.Patches.{Patching}
use Rattle.heap_model.proofs.NewRows.{has_rows}
use Rattle.heap_model.proofs.PatchedCells.{cells_change}
use Rattle.heap_model.proofs.FilledPages.{page_keeps_cells}

-- a change whose run is behind the used words of eden
eden_change : {old new : Heap} {patches : List Patch} {made : List Cell} (change : IsChange old new patches made)
    → change.from ≡ eden_start old.space + old.used → change.to ≡ eden_start old.space + new.used
    → old.used ≤ new.used → EdenChange old new patches made
eden_change {old} {new} {made = made} change begins ends grown =
    let From : ℕ → Type 0 = λ from. IsRow new.space new.words from change.to made in
    let To : ℕ → Type 0 = λ to. IsRow new.space new.words (eden_start old.space + old.used) to made in
    record {
      same_space = change.same_space;
      same_survivors = change.same_survivors;
      grown = grown;
      room = change.room;
      more = change.more;
      paths = change.paths;
      sized = change.sized;
      each = change.each;
      apart = change.apart;
      made_stand = subst To ends (subst From begins change.made_stand);
      cells_stay = λ at below free not_new. change.cells_stay at below free
          (λ above before. not_new record { from = omega (arith, above, begins); below = omega (arith, before, ends) });
      roots_stay = change.roots_stay;
    }

-- how cells change by it
eden_cells_change : {old new : Heap} {gone came made : List Cell} {patches : List Patch}
    → IsChange old new patches made → EdenCellsChange old new gone came made → CellsChange old new gone came made
eden_cells_change change eden = record {
  same_space = change.same_space;
  more = change.more;
  paths = change.paths;
  went = eden.went;
  comes = eden.comes;
  kept = λ cell words has stays not_filled. eden.kept cell words has stays;
  back = eden.back;
  in_place = eden.in_place;
  newly = λ cell there. let behind = eden.newly cell there in IsNewlyUsed.of_eden behind.from behind.below;
  new_places = λ cell other words there has same. absurd (eden.new_places cell other words there has same);
  roots_stay = change.roots_stay;
}

-- where patches and the run change, by the kinds of runs
keep_cells : {old new : Heap} {patches : List Patch} {made : List Cell} → Whole old
    → (change : IsChange old new patches made) → IsRunOf old new change.from change.to
    → HasRows new × CellsChange old new (gone_with patches) (come_with patches) made
keep_cells {old} {new} {patches} {made} whole change (IsRunOf.of_eden begins ends grown) =
    let patching : Patching old new patches made =
    record { sized = whole.sized; rows = whole.rows; change = eden_change change begins ends grown } in
    (has_rows patching, eden_cells_change change (cells_change patching))
keep_cells whole change (IsRunOf.of_page forward same fillers) =
    page_keeps_cells
    record { whole = whole; change = change; forward = forward; same_used = same; fillers = fillers }

-- changes of patches and of the run keep cells
pub changes_keep_cells : ChangesKeepCells
changes_keep_cells old new patches made whole change = keep_cells whole change change.run
