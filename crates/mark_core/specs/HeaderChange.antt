-- One slot of a cell whose header changes.
use Rattle.std.specs.Prelude.{ℕ, ◌+◌, ◌⊎◌, List, Contains, slice_index}
use Rattle.mark_laws.specs.Types.{World}
use Rattle.mark_world.specs.Pages.{OfTarget}

-- the slot was tagged before, or has no target, or one that the mutator is sure of
abbrev pub IsSureSlot : World → ℕ → List ℕ → ℕ → Type 0
IsSureSlot world at before offset =
    Contains before offset
    ⊎ OfTarget world.old (slice_index world.words (at + offset)) (λ to. Contains world.main.sure to)
