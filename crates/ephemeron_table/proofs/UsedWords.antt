-- Words of cells that are no fillers are none of those in which the next cell is made.
use Rattle.std.proofs.Common.{ℕ, ◌+◌, ◌≤◌, ◌<◌, arith}
use Rattle.nursery.specs.Young.{HasRoom}
use Rattle.heap_model.specs.Wholeness.{Whole}
use Rattle.write_barrier.specs.MutatorState.{Mutator, heap_of, IsTied}
use Rattle.object_cells.specs.Contents.{next_at}
use Rattle.object_cells.proofs.UnusedWords.{next_apart}
use Rattle.ephemeron_table.specs.Rehashing.{IsUsed}

-- a word that is used is none of so many next ones, where there is room for these
pub used_not_next : {old : Mutator} {a : ℕ} (need : ℕ) → IsTied old → Whole (heap_of old) → HasRoom old.young need
    → IsUsed old a → next_at old ≤ a → a < next_at old + need → ⊥
used_not_next {old} {a} need tied whole room is from below =
    let used = is.used in
    next_apart need a tied whole.rows room used.no_filler used.has
    (record { from = omega (arith, is.begins, used.starts); below = omega (arith, is.ends, used.ends) }) from below
