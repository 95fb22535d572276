-- Cells that are made in fillers of a page are a patch there, and nothing is made in eden.
use Rattle.std.proofs.Common.{◌≡◌, ℕ, ◌+◌, ◌≤◌, ◌<◌, ◌⊎◌, inl, inr, List, [], ◌∷◌, ◌++◌, Contains}
use Rattle.std.proofs.Common.{sym, ◌∙◌, ap, subst, arith}
use Rattle.std.proofs.lemmas.List.Elements.{All-cons, All-head, All-tail}
use Rattle.std.proofs.lemmas.List.Elements.{Contains-append_left, Contains-append_right, Contains-append_cases}
use Rattle.tagged_word.specs.declared.layout.Kind.TheVariants as kind
use Rattle.tagged_word.proofs.Members.{in_cases, rest_in}
use Rattle.page_space.specs.Extents.{eden_start}
use Rattle.cell_layout.specs.Cells.{IsRow, none}
use Rattle.cell_layout.proofs.Rows.{cell_within}
use Rattle.heap_model.specs.Types.{Cell}
use Rattle.heap_model.specs.Heaps.{Heap, HasCell}
use Rattle.heap_model.specs.Wholeness.{HasRows, Whole}
use Rattle.heap_model.specs.Changes.{Patch, IsPatch, IsPatched, PatchesDisjoint, AreFillers, IsNewlyUsed, IsChange}
use Rattle.heap_model.specs.Changes.{IsFilledIn, CellsChange}
use Rattle.heap_model.specs.Laws.{gone_with, come_with}
use Rattle.heap_model.proofs.CellsApart.{one_at}
use Rattle.heap_model.proofs.RowCovers.{covered}
use Rattle.heap_model.proofs.BoundHeaps.{none_in}
use Rattle.heap_model.proofs.EdenChanges.{EdenChange, EdenCellsChange}
use Rattle.heap_model.proofs.FillerRows.{FillerRun, filler_run}
use Rattle.heap_model.proofs.Patches.{Patching}
use Rattle.heap_model.proofs.NewRows.{has_rows}
use Rattle.heap_model.proofs.NewCells.{first_of_row}
use Rattle.heap_model.proofs.PatchedCells.{came_with_some, cells_change}

-- a change whose run is of a page
pub record PageChange (old new : Heap) (patches : List Patch) (made : List Cell) : Type 0 where
  pub whole : Whole old
  pub change : IsChange old new patches made
  pub forward : change.from ≤ change.to
  pub same_used : new.used ≡ old.used
  pub fillers : AreFillers old change.from change.to

-- the fillers of the run
pub run_of : {old new : Heap} {patches : List Patch} {made : List Cell} → (page : PageChange old new patches made)
    → FillerRun old page.change.from page.change.to
run_of page = filler_run page.change.from page.change.to page.whole.rows page.forward page.fillers

-- the run as a patch: what was made stands in place of the fillers
abbrev pub page_patch : {old new : Heap} {patches : List Patch} {made : List Cell} → PageChange old new patches made
    → Patch
page_patch {made = made} page = record {
  from = page.change.from;
  to = page.change.to;
  before = (run_of page).cells;
  after = made;
}

-- it is one
run_is_patch : {old new : Heap} {patches : List Patch} {made : List Cell} → (page : PageChange old new patches made)
    → IsPatch old new (page_patch page)
run_is_patch page =
    let run = run_of page in
    record {
      row = run.row;
      in_region = run.in_region;
      used = run.used;
      front = run.front;
      back = run.back;
      part = run.part;
      stood = run.stood;
      stands = page.change.made_stand;
    }

-- it has no address of the other patches
run_apart : {old new : Heap} {patches : List Patch} {made : List Cell} → (page : PageChange old new patches made)
    → PatchesDisjoint (page_patch page ∷ patches)
run_apart {patches = patches} page one other at there there_too patched patched_too =
    let change = page.change in
    let run : Patch = page_patch page in
    elim (in_cases run patches one there) [
      | inl is_run ↦ elim (in_cases run patches other there_too) [
        | inl is_run_too ↦ sym is_run ∙ is_run_too
        | inr among ↦
            let is : IsPatched at run = subst (IsPatched at) (sym is_run) patched in
            absurd (change.beside other at among patched_too is.from is.below)
      ]
      | inr among ↦ elim (in_cases run patches other there_too) [
        | inl is_run ↦
            let is : IsPatched at run = subst (IsPatched at) (sym is_run) patched_too in
            absurd (change.beside one at among patched is.from is.below)
        | inr among_too ↦ change.apart one other at among among_too patched patched_too
      ]
    ]

-- so it is a change that makes no cell in eden
page_eden_change : {old new : Heap} {patches : List Patch} {made : List Cell}
    → (page : PageChange old new patches made) → EdenChange old new (page_patch page ∷ patches) []
page_eden_change {old} {new} {patches} page =
    let change = page.change in
    let run : Patch = page_patch page in
    let start : ℕ = eden_start old.space in
    let Beside : ℕ → Patch → Type 0 = λ at patch. IsPatched at patch → ⊥ in
    record {
      same_space = change.same_space;
      same_survivors = change.same_survivors;
      grown = omega (arith, page.same_used);
      room = change.room;
      more = change.more;
      paths = change.paths;
      sized = change.sized;
      each = All-cons (IsPatch old new) run patches (run_is_patch page) change.each;
      apart = run_apart page;
      made_stand = subst (λ (used : ℕ). IsRow new.space new.words (start + old.used) (start + used) [])
          (sym page.same_used) (none (start + old.used));
      cells_stay = λ at below free not_new. change.cells_stay at below (All-tail (Beside at) run patches free)
          (λ above before. All-head (Beside at) run patches free record { from = above; below = before });
      roots_stay = change.roots_stay;
    }

-- the change of the patches and of this one
page_patching : {old new : Heap} {patches : List Patch} {made : List Cell} → (page : PageChange old new patches made)
    → Patching old new (page_patch page ∷ patches) []
page_patching page =
    record { sized = page.whole.sized; rows = page.whole.rows; change = page_eden_change page }

-- a filler of the run is one in whose words a cell was made
is_filled : {old new : Heap} {patches : List Patch} {made : List Cell} {cell : Cell}
    → (page : PageChange old new patches made) → Contains (run_of page).cells cell → IsFilledIn made cell
is_filled {old} {new} {made = made} {cell} page there =
    let run = run_of page in
    let from : ℕ = page.change.from in
    let to : ℕ = page.change.to in
    let of_cell = first_of_row old.space old.words from to run.cells cell run.stood there in
    let within = cell_within old.space old.words from to run.cells cell run.stood there in
    let one = covered new.space new.words from to made cell.at page.change.made_stand within.0
    (omega (arith, within.1, of_cell.below)) in
    record {
      filler = run.fillers cell there;
      begins = record {
        other = one.cell;
        among = one.among;
        from = one.of_cell.from;
        below = one.of_cell.below;
      };
    }

-- what was made begins in the run
made_in_run : {old new : Heap} {patches : List Patch} {made : List Cell} (cell : Cell)
    → (page : PageChange old new patches made) → Contains made cell
    → (page.change.from ≤ cell.at) × (cell.at < page.change.to)
made_in_run {old} {new} {made = made} cell page there =
    let from : ℕ = page.change.from in
    let to : ℕ = page.change.to in
    let stand = page.change.made_stand in
    let of_cell = first_of_row new.space new.words from to made cell stand there in
    let within = cell_within new.space new.words from to made cell stand there in
    (within.0, omega (arith, within.1, of_cell.below))

-- so a filler of a page stood there
made_newly : {old new : Heap} {patches : List Patch} {made : List Cell} (cell : Cell)
    → PageChange old new patches made → Contains made cell → IsNewlyUsed old new cell.at
made_newly cell page there =
    let within = made_in_run cell page there in
    IsNewlyUsed.of_page (page.fillers.each cell.at within.0 within.1) (omega (arith, within.1, page.fillers.of_page))

-- and no other cell
made_on_filler : {old new : Heap} {patches : List Patch} {made : List Cell} (cell other : Cell) (words : List ℕ)
    → PageChange old new patches made → Contains made cell → HasCell old other words → other.at ≡ cell.at
    → other.layout.kind ≡ kind.Filler
made_on_filler cell other words page there has same =
    let within = made_in_run cell page there in
    let stood = page.fillers.each cell.at within.0 within.1 in
    let one : other ≡ stood.cell = one_at has stood.has (same ∙ sym stood.stands) in
    ap (λ (c : Cell). c.layout.kind) one ∙ stood.filler

-- what came or was made, in the order of the patches
in_patches : (came made : List Cell) (cell : Cell) → Contains (came ++ made) cell
    → Contains (made ++ came ++ []) cell
in_patches came made cell there =
    Contains-append_left (made ++ came) [] cell
    (elim (Contains-append_cases came made cell there) [
      | inl of_came ↦ Contains-append_right made came cell of_came
      | inr of_made ↦ Contains-append_left made came cell of_made
    ])

-- and back
from_patches : (came made : List Cell) (cell : Cell) → Contains (made ++ came ++ []) cell
    → Contains (came ++ made) cell
from_patches came made cell there =
    elim (Contains-append_cases (made ++ came) [] cell there) [
      | inl some ↦ elim (Contains-append_cases made came cell some) [
        | inl of_made ↦ Contains-append_right came made cell of_made
        | inr of_came ↦ Contains-append_left came made cell of_came
      ]
      | inr nowhere ↦ absurd (none_in cell nowhere)
    ]

-- where a cell of the new heap is from, where what was made came with no patch
back_of_page : {old : Heap} {cell : Cell} {words : List ℕ} (fillers gone came made : List Cell)
    → Contains (made ++ came ++ []) cell ⊎ (HasCell old cell words × (Contains (fillers ++ gone) cell → ⊥))
    → Contains (came ++ made) cell ⊎ (HasCell old cell words × (Contains gone cell → ⊥))
back_of_page {cell = cell} fillers gone came made (inl there) = inl (from_patches came made cell there)
back_of_page {cell = cell} fillers gone came made (inr stood) =
    inr (stood.0, λ went. stood.1 (Contains-append_right fillers gone cell went))

-- the cells change by those of the patches, and by what was made
page_cells_change : {old new : Heap} {patches : List Patch} {made : List Cell} → PageChange old new patches made
    → CellsChange old new (gone_with patches) (come_with patches) made
page_cells_change {old} {new} {patches} {made} page =
    let patching = page_patching page in
    let run : Patch = page_patch page in
    let gone : List Cell = gone_with patches in
    let came : List Cell = come_with patches in
    let eden : EdenCellsChange old new (run.before ++ gone) (made ++ came) [] = cells_change patching in
    record {
      same_space = page.change.same_space;
      more = page.change.more;
      paths = page.change.paths;
      went = λ cell there. eden.went cell (Contains-append_right run.before gone cell there);
      comes = λ cell there. eden.comes cell (in_patches came made cell there);
      kept = λ cell words has stays not_filled. eden.kept cell words has
          (λ went. elim (Contains-append_cases run.before gone cell went) [
            | inl of_run ↦ not_filled (is_filled page of_run)
            | inr of_patch ↦ stays of_patch
          ]);
      back = λ cell words has. back_of_page run.before gone came made (eden.back cell words has);
      in_place = λ cell there. came_with_some patches cell patching
          (λ patch among. rest_in run patches patch among) there;
      newly = λ cell there. made_newly cell page there;
      new_places = λ cell other words there has same. made_on_filler cell other words page there has same;
      roots_stay = page.change.roots_stay;
    }

-- cells that are made in fillers of a page leave rows of cells, and change the cells as patches do
pub page_keeps_cells : {old new : Heap} {patches : List Patch} {made : List Cell} → PageChange old new patches made
    → HasRows new × CellsChange old new (gone_with patches) (come_with patches) made
page_keeps_cells page = (has_rows (page_patching page), page_cells_change page)
