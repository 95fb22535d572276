-- What filling a slot leaves of the mutator.
use Rattle.std.proofs.Common.{◌≡◌, ℕ, refl, ap, ◌∙◌}
use Rattle.write_barrier.specs.Seats.{Seat}
use Rattle.write_barrier.specs.MutatorState.{Mutator}
use Rattle.write_barrier.specs.Opening.{ChangesWithin}
use Rattle.object_cells.specs.declared.content.SlotWrite.{SlotWrite}
use Rattle.object_cells.specs.declared.content.SlotWrite.TheVariants as filling
use Rattle.object_cells.specs.Contents.{filled, AllocatesBox}
use Rattle.object_cells.proofs.RestOfWords.{allocates_seat}
use Rattle.shape_change.specs.Fillings.{with_paths}

-- where words are used, the paths stay
pub allocates_paths : (old new : Mutator) (filling : SlotWrite) → AllocatesBox old new filling → new.paths ≡ old.paths
allocates_paths old new (filling.Tagged word) same = ap (λ (main : Mutator). main.paths) same
allocates_paths old new (filling.Raw word) same = ap (λ (main : Mutator). main.paths) same
allocates_paths old new (filling.NewBox at v) more = ap (λ (main : Mutator). main.paths) more.1
allocates_paths old new (filling.OldBox at v) same = ap (λ (main : Mutator). main.paths) same

-- where a slot is filled, the regions stay
pub filled_space : (main : Mutator) (at : ℕ) (filling : SlotWrite)
    → (filled main at filling).seat.space ≡ main.seat.space
filled_space main at (filling.Tagged word) = refl
filled_space main at (filling.Raw word) = refl
filled_space main at (filling.NewBox box v) = refl
filled_space main at (filling.OldBox box v) = refl

-- and so they do where paths are added in between
pub laid_space : (old between laid : Mutator) (filling : SlotWrite) (from to : ℕ) → AllocatesBox old between filling
    → ChangesWithin (with_paths between laid.paths) laid from to → laid.seat.space ≡ old.seat.space
laid_space old between laid filling from to allocates changes =
    changes.seat.space ∙ ap (λ (seat : Seat). seat.space) (allocates_seat old between filling allocates)
