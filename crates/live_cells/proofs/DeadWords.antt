-- Which words of pages are dead, and which of them are in free runs; so how many words fit.
use Rattle.std.proofs.Common.{◌≡◌, ℕ, ◌+◌, ◌<◌, List, []}
use Rattle.std.proofs.Common.{IsTrue, subst, arith}
use Rattle.std.proofs.lemmas.Bool.Decides.{nat_tests}
use Rattle.std.proofs.lemmas.List.Elements.{Contains-get_or}
use Rattle.tagged_word.specs.Cells.{is_free_kind}
use Rattle.free_runs.specs.FreeRuns.{row_of}
use Rattle.free_runs.proofs.PageRows.{page_there, run_of_page}
use Rattle.heap_model.specs.Types.{Cell}
use Rattle.heap_model.specs.Heaps.{Heap, HasCell}
use Rattle.heap_model.specs.Wholeness.{HasRows, IsOwnedKind}
use Rattle.heap_model.proofs.CellsApart.{IsOfCell, one_at, cells_apart}
use Rattle.heap_model.proofs.StaysCollectable.{object_not_free, owned_not_free}
use Rattle.live_cells.specs.Exact.{IsNamedByObject, IsWordOf, IsDeadWord, Fits}
use Rattle.live_cells.specs.Fitting.{NoRunFitsNone, RunsFit}
use Rattle.live_cells.proofs.RunWords.{page_run, none_has}

-- a cell that an object names is a store, a table or a box
pub named_is_owned : {heap : Heap} {cell : Cell} {words : List ℕ} → HasCell heap cell words
    → IsNamedByObject heap cell.at → IsOwnedKind cell.layout.kind
named_is_owned {cell = cell} has named =
    let names = named.names in
    let same : names.cell ≡ cell = one_at names.refers.has has names.at in
    subst (λ (one : Cell). IsOwnedKind one.layout.kind) same names.owned

-- a word of a free cell is dead
pub free_is_dead : {heap : Heap} {cell : Cell} {words : List ℕ} (at : ℕ) → HasRows heap → HasCell heap cell words
    → IsTrue (is_free_kind cell.layout.kind) → IsWordOf cell at → IsDeadWord heap at
free_is_dead {cell = cell} at rows has free word other others has_other of_other =
    let one : IsOfCell cell at = record { from = word.from; below = word.below } in
    let two : IsOfCell other at = record { from = of_other.from; below = of_other.below } in
    let same : cell ≡ other = cells_apart at rows has has_other one two in
    let is_free : IsTrue (is_free_kind other.layout.kind) =
    subst (λ (c : Cell). IsTrue (is_free_kind c.layout.kind)) same free in (
      λ object. object_not_free other.layout.kind object is_free,
      λ named. owned_not_free other.layout.kind (named_is_owned has_other named) is_free,
    )

-- so words fit where a run has so many
pub runs_fit : RunsFit
runs_fit heap rows page run n is_rows free are there enough =
    let within = page_there rows page run there in
    let lies = run_of_page rows page run free there in
    let one = are (row_of rows page) run (Contains-get_or rows page [] within) there in
    Fits.page page run.at (omega (arith, lies.from, one.stands, one.of_page)) lies.from
    (omega (arith, lies.below, enough))
    (λ at from below. free_is_dead at is_rows one.has one.free
    (record { from = omega (arith, one.stands, from); below = omega (arith, one.stands, one.size, enough, below) }))

-- words for which there is no room beside survivors and used words, and which no run has, fit nowhere
pub no_run_fits_none : NoRunFitsNone
no_run_fits_none heap rows n some free dead nowhere lacks (Fits.young room) =
    let less : heap.space.sizes.young < heap.survivors + heap.used + n = grind (arith, nat_tests, lacks) in
    omega (arith, less, room)
no_run_fits_none heap rows n some free dead nowhere lacks (Fits.page page first there from below words) =
    none_has rows page n nowhere (page_run rows page first n free some from below
    (λ at above within. dead at (omega (arith, there, below, within)) (words at above within)))
