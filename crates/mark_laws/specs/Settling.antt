-- The mutator's part, done but for the cells that it is making or changing, from step to step of a command.
use Rattle.std.specs.Prelude.{◌≡◌, ◌↔◌, ℕ, List, [], ◌∷◌, ◌++◌, All}
use Rattle.mark_laws.specs.Types.{Event, World}
use Rattle.mark_world.specs.AfterEvents.{after, after_all, Possible}
use Rattle.mark_world.specs.BetweenCommands.{HasSureTarget, Settled}
use Rattle.mark_world.specs.Soundness.{AreIn, HasCells}
use Rattle.mark_world.specs.Unfinished.{HasSureOrOwed, MayOwe, MineAreRead, ReadsSlots, SettledBut, SettlingBut}
use Rattle.mark_world.specs.Unfinished.{EachSpares, Spares, made_after, made_after_all, shades}
use Rattle.mark_laws.specs.Runs.{IsSoundAndBorn}

-- with no cell to make the mutator's part is done, and each cell that it made black is read; and the other way round
abbrev pub NoneMadeIsSettled : Type 0
NoneMadeIsSettled = (world : World) → SettledBut world [] ↔ (Settled world × MineAreRead world)

-- it is done but for these cells exactly where it is under way but for them, and nothing is owed
abbrev pub NoneOwedIsSettled : Type 0
NoneOwedIsSettled =
    (world : World) (made : List ℕ) → SettledBut world made ↔ ((world.main.owed ≡ []) × SettlingBut world made)

-- more cells may be left out
abbrev pub MoreMayBeMade : Type 0
MoreMayBeMade = (world : World) (made more : List ℕ) → AreIn more made → SettlingBut world made → SettlingBut world more

-- a cell leaves the list once it is read and its targets are sure
abbrev pub DoneLeaves : Type 0
DoneLeaves =
    (world : World) (at : ℕ) (made : List ℕ) → ReadsSlots world (HasSureTarget world) at → SettledBut world (at ∷ made)
    → SettledBut world made

-- so do all of a list, each of which is
abbrev pub AllDoneLeave : Type 0
AllDoneLeave =
    (world : World) (cells made : List ℕ) → All (ReadsSlots world (HasSureTarget world)) cells
    → SettledBut world (cells ++ made) → SettledBut world made

-- or owed, while the mutator's part is under way
abbrev pub PaidLeaves : Type 0
PaidLeaves =
    (world : World) (at : ℕ) (made : List ℕ) → ReadsSlots world (HasSureOrOwed world) at → SettlingBut world (at ∷ made)
    → SettlingBut world made

-- each possible event that spares the cells that are done leaves the mutator's part under way but for the others
abbrev pub SettlingStays : Type 0
SettlingStays =
    (world : World) (made : List ℕ) (of : Event) → HasCells world → SettlingBut world made → Possible world of
    → Spares world made of → SettlingBut (after world of) (made_after made of)

-- and done but for the others, if nothing may come to be owed by it
abbrev pub SettledStays : Type 0
SettledStays =
    (world : World) (made : List ℕ) (of : Event) → HasCells world → SettledBut world made → Possible world of
    → Spares world made of → (MayOwe of → ⊥) → SettledBut (after world of) (made_after made of)

-- once all that is owed is shaded the mutator's part is done but for these cells
abbrev pub ShadesSettle : Type 0
ShadesSettle =
    (world : World) (made : List ℕ) → SettlingBut world made
    → SettledBut (after_all world (shades world.main.owed)) made

-- so it is after each possible event that spares them and the shades of what is owed then
abbrev pub StepsSettle : Type 0
StepsSettle =
    (world : World) (made : List ℕ) (of : Event) → HasCells world → SettledBut world made → Possible world of
    → Spares world made of
    → SettledBut (after_all (after world of) (shades (after world of).main.owed)) (made_after made of)

-- so it goes on from a whole world along a list of events
abbrev pub SettlingAlong : Type 0
SettlingAlong =
    (world : World) (made : List ℕ) (events : List Event) → IsSoundAndBorn world → SettlingBut world made
    → EachSpares world made events → SettlingBut (after_all world events) (made_after_all made events)
