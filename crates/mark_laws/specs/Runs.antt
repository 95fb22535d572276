-- What holds at each moment of a list of events that were possible.
use Rattle.std.specs.Prelude.{◌≡◌, ℕ, ◌≤◌, false, List, All, length}
use Rattle.mark_laws.specs.Types.{Event, World}
use Rattle.mark_world.specs.AfterEvents.{WerePossible, moment}
use Rattle.mark_world.specs.Soundness.{Sound}
use Rattle.mark_world.specs.BornCells.{Born}
use Rattle.mark_world.specs.OneLayouts.{OneLayout}

-- a world is sound, and marking reaches only born cells there
abbrev pub IsSoundAndBorn : World → Type 0
IsSoundAndBorn world = Sound world × Born world

-- no seat is out
abbrev pub HasNoneOut : World → Type 0
HasNoneOut world = All (λ view. view.out ≡ false) world.helpers

-- A whole world is whole at each moment of events, as long as each was possible at its own.
abbrev pub WholeAlong : Type 0
WholeAlong =
    (start : World) (events : List Event) (count : ℕ) → IsSoundAndBorn start → count ≤ length events
    → WerePossible start events count → (k : ℕ) → k ≤ count → IsSoundAndBorn (moment start events k)

-- Where events were possible, from a whole world where no seat is out, each snap that a helper settles while its cell
-- is grey was read under one layout.
abbrev pub LayoutsAreOne : Type 0
LayoutsAreOne =
    (start : World) (events : List Event) → IsSoundAndBorn start → HasNoneOut start
    → WerePossible start events (length events) → OneLayout start events
