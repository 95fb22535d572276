-- Published cells are old.
use Rattle.std.proofs.Common.{ℕ, ◌+◌, ◌<◌, ◌≤◌, ◌≡◌, ◌⊎◌, inl, inr, IsTrue, List, length, min}
use Rattle.std.proofs.Common.{slice_index, Option, Some, None}
use Rattle.std.proofs.Common.{IsSome, Contains, refl, arith}
use Rattle.std.proofs.lemmas.Bool.{cases_lt}
use Rattle.std.proofs.lemmas.List.{get_or_past}
use Rattle.std.proofs.lemmas.List.Elements.{All-contains}
use Rattle.mark_laws.specs.Types.{Reading, World}
use Rattle.tagged_word.proofs.Cells.{size_bounds}
use Rattle.tagged_word.proofs.CellReadings.{cell_from}
use Rattle.core_parts.specs.Lists.{is_in}
use Rattle.core_parts.proofs.Joining.{decided, found_in, in_found}
use Rattle.mark_world.specs.Pages.{is_free, page_end}
use Rattle.mark_world.specs.Steps.{black}
use Rattle.mark_world.specs.Coverage.{cell_of, colour_of}
use Rattle.mark_world.specs.Soundness.{HasCells, HasSizes}

-- a published cell is a free start, or the mutator made it black
pub free_or_mine : (world : World) (at : ℕ) → Contains world.main.starts at
    → IsTrue (is_free world.main at) ⊎ Contains world.main.mine at
free_or_mine world at start = elim (decided (is_in world.main.mine at)) [
  | inl mine ↦ inr (in_found world.main.mine at mine)
  | inr other ↦ inl (rw (found_in world.main.starts at start, other) refl)
]

-- an option that has a value is that value
pub value_of : {X : Type 0} (o : Option X) → IsSome o → (x : X) × (o ≡ Some x)
value_of None e = cc
value_of (Some x) e = (x, refl)

-- a cell of a page begins in the pages
pub read_old : (world : World) (at : ℕ) (cell : Reading) → cell_of world at ≡ Some cell → at < world.old
read_old world at cell e =
    let reads = cell_from world.words world.layouts at (min world.old (page_end at)) cell e in
    let size = size_bounds cell.layout cell.length cell.size reads.sized in
    let ends : at + cell.size ≤ min world.old (page_end at) = reads.ends in
    omega (arith, size.0, ends)

-- a black cell has a colour
pub black_within : (colours : List ℕ) (at : ℕ) → slice_index colours at ≡ black → at < length colours
black_within colours at is_black = elim (cases_lt at (length colours)) [
  | inl within ↦ within
  | inr past ↦
      let none : slice_index colours at ≡ 0 = get_or_past colours at 0 past in
      absurd (omega (arith, none, is_black))
]

-- a published cell is old
pub start_old : (world : World) → HasSizes world → HasCells world → (at : ℕ) → Contains world.main.starts at
    → at < length world.colours
start_old world sizes cells at start = elim (free_or_mine world at start) [
  | inl free ↦
      let read = value_of (cell_of world at) (cells.read at free) in
      omega (arith, read_old world at read.0 read.1, sizes.colours)
  | inr mine ↦ black_within world.colours at
      (All-contains (λ (a : ℕ). colour_of world a ≡ black) world.main.mine at cells.mine_black mine)
]
