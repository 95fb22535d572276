-- What a change of one plain object's cells leaves of an open cycle of marking.
use Rattle.std.proofs.Common.{ℕ, List, ◌∷◌}
use Rattle.object_graph.specs.Graphs.{Graph}
use Rattle.heap_model.specs.Types.{Cell}
use Rattle.write_barrier.specs.MutatorState.{Mutator, heap_of, MainShows}
use Rattle.write_barrier.specs.Storing.{StoresOn}
use Rattle.write_barrier.specs.SureStores.{StoresBlack}
use Rattle.object_cells.specs.CellWrites.{reshaped}
use Rattle.object_cells.specs.CycleChanges.{KeepsCellsOpen}
use Rattle.object_cells.specs.SlotChanges.{WritesFields}
use Rattle.object_cells.specs.SureCells.{RemembersSurely}
use Rattle.object_cells.proofs.OwnerWrites.{plain_owns}
use Rattle.object_cells.proofs.BlackCells.{black_keeps_cells}
use Rattle.object_cells.proofs.SureCells.{stores_keep_cells}

-- where words of its cells were written, and what was put as slots' words was put surely, the cycle is as it has to be
abbrev pub KeepsIfSure : Mutator → Mutator → Cell → ℕ → Type 0
KeepsIfSure old new cell next =
    (others made : List Cell) → WritesFields (heap_of old) (heap_of new) cell next others made
    → RemembersSurely old new (cell ∷ others) (reshaped new.paths cell next ∷ others) made
    → KeepsCellsOpen old new (reshaped new.paths cell next) others

-- so it is where words were stored
pub stored_keeps : {old new : Mutator} {graph : Graph} {cell : Cell} {next : ℕ} → MainShows old graph
    → StoresOn old new → KeepsIfSure old new cell next
stored_keeps shows stores others made writes remembers =
    stores_keep_cells plain_owns shows writes remembers stores

-- and where the object's cell was made black before
pub black_keeps : {old new : Mutator} {graph : Graph} {cell : Cell} {next : ℕ} → MainShows old graph
    → StoresBlack old new cell.at → KeepsIfSure old new cell next
black_keeps shows stores others made writes remembers = black_keeps_cells plain_owns shows writes remembers stores
