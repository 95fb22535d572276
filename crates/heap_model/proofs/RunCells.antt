-- The run in which cells are made: no cell that stood before has a word of it, but for fillers.
use Rattle.std.proofs.Common.{◌≡◌, ℕ, ◌≤◌, ◌<◌, List, ◌∙◌, ap, subst, arith}
use Rattle.tagged_word.specs.declared.layout.Kind.TheVariants as kind
use Rattle.heap_model.specs.Types.{Cell}
use Rattle.heap_model.specs.Heaps.{Heap, HasCell}
use Rattle.heap_model.specs.Wholeness.{HasRows}
use Rattle.heap_model.specs.Changes.{AreFillers, IsRunOf}
use Rattle.heap_model.proofs.EdenChanges.{IsBehindUsed}
use Rattle.heap_model.proofs.CellsApart.{IsOfCell, cells_apart, first_of_cell}
use Rattle.heap_model.proofs.Patches.{cell_not_behind}

-- a cell that has a word of fillers is the one there
filler_beside : {heap : Heap} {cell : Cell} {words : List ℕ} (from to at : ℕ) → HasRows heap → AreFillers heap from to
    → HasCell heap cell words → IsOfCell cell at → from ≤ at → at < to
    → (cell.layout.kind ≡ kind.Filler) × (cell.at ≡ at)
filler_beside {cell = cell} from to at rows fillers has of_cell above below =
    let one = fillers.each at above below in
    let of_filler : IsOfCell one.cell at = subst (IsOfCell one.cell) one.stands (first_of_cell one.has) in
    let same : cell ≡ one.cell = cells_apart at rows has one.has of_cell of_filler in
    (ap (λ (c : Cell). c.layout.kind) same ∙ one.filler, ap (λ (c : Cell). c.at) same ∙ one.stands)

-- a cell that has a word of the run is a filler there
pub run_beside : {old new : Heap} {cell : Cell} {words : List ℕ} (from to at : ℕ) → HasRows old
    → new.used ≤ old.space.sizes.young → IsRunOf old new from to → HasCell old cell words → IsOfCell cell at
    → from ≤ at → at < to → (cell.layout.kind ≡ kind.Filler) × (cell.at ≡ at)
run_beside {old} {new} from to at rows few (IsRunOf.of_eden begins ends grown) has of_cell above below =
    let behind : IsBehindUsed old new at =
    record { from = omega (arith, begins, above); below = omega (arith, ends, below) } in
    absurd (cell_not_behind rows few has of_cell behind)
run_beside from to at rows few (IsRunOf.of_page forward same fillers) has of_cell above below =
    filler_beside from to at rows fillers has of_cell above below
