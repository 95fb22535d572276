-- Changes of cells by the mutator, as the steps of them among a list of events, whatever helpers do in between.
use Rattle.std.specs.Prelude.{◌≡◌, ℕ, ◌⊎◌, Bool, true, false, List, [], ◌∷◌, All, Contains, length, slice_set}
use Rattle.std.specs.Prelude.{Some, IsSomeAnd}
use Rattle.std.specs.List.{filter}
use Rattle.mark_laws.specs.Types.{Event, World}
use Rattle.mark_world.specs.declared.event.Event.TheVariants as event
use Rattle.mark_world.specs.Pages.{is_inside}
use Rattle.mark_world.specs.AfterEvents.{WerePossible, after_all}
use Rattle.mark_world.specs.Coverage.{cell_of}
use Rattle.mark_world.specs.BetweenCommands.{HasSureTarget}
use Rattle.mark_world.specs.Unfinished.{EachSpares, ReadsSlots, SettledBut, SettlingBut, made_after_all}
use Rattle.mark_laws.specs.Runs.{IsSoundAndBorn}

-- whether an event is a step of a change: it stores a word, puts a layout word in its place, or makes a cell black
abbrev pub is_step : Event → Bool
is_step (event.StoreSlot at word) = true
is_step (event.StoreOwned at word) = true
is_step (event.StoreHeader at word) = true
is_step (event.AddLayout shape word) = true
is_step (event.Blacken at) = true
is_step (event.NewBlack at) = true
is_step _ = false

-- the steps of changes among events: all but shades, looks, what helpers do, and what concerns seats and the board
abbrev pub steps_of : List Event → List Event
steps_of events = filter is_step events

-- the words after an event that stores one
abbrev pub stored : List ℕ → Event → List ℕ
stored words (event.StoreSlot at word) = slice_set words at word
stored words (event.StoreOwned at word) = slice_set words at word
stored words (event.StoreHeader at word) = slice_set words at word
stored words _ = words

-- the words after a list of events
abbrev pub all_stored : List ℕ → List Event → List ℕ
all_stored words [] = words
all_stored words (of ∷ rest) = all_stored (stored words of) rest

-- the words of a world change by the steps of changes alone
abbrev pub WordsAreStored : Type 0
WordsAreStored =
    (world : World) (events : List Event) → (after_all world events).words ≡ all_stored world.words (steps_of events)

-- a word lies in no cell that the mutator made black, but in those that it is making or changing; each other is read
abbrev pub LiesApart : World → List ℕ → ℕ → Type 0
LiesApart world made at =
    All (λ a. Contains made a ⊎ IsSomeAnd (cell_of world a) (λ cell. is_inside a (Some cell) at ≡ false))
    world.main.mine

-- An event leaves alone what the mutator is done with: it stores a word in none of these cells, and it makes only cells
-- black that the mutator is making or changing.
abbrev pub LeavesDone : World → List ℕ → Event → Type 0
LeavesDone world made (event.StoreSlot at word) = LiesApart world made at
LeavesDone world made (event.StoreOwned at word) = LiesApart world made at
LeavesDone world made (event.StoreHeader at word) = LiesApart world made at
LeavesDone world made (event.Blacken at) = Contains made at
LeavesDone world made _ = Unit {0}

-- an event that leaves the cells alone that the mutator was done with at the start spares, at its moment, those that it
-- is done with then
abbrev pub ApartIsSpared : Type 0
ApartIsSpared =
    (world : World) (made : List ℕ) (events : List Event) → WerePossible world events (length events)
    → All (LeavesDone world made) (steps_of events) → EachSpares world made events

-- a list of possible events keeps the mutator's part under way but for these cells and the new ones, if its steps leave
-- the others alone
abbrev pub ChangesKeep : Type 0
ChangesKeep =
    (world : World) (made : List ℕ) (events : List Event) → IsSoundAndBorn world → SettlingBut world made
    → WerePossible world events (length events) → All (LeavesDone world made) (steps_of events)
    → SettlingBut (after_all world events) (made_after_all made (steps_of events))

-- a change has ended: nothing is owed, and each cell that was made or changed is read and has sure targets
pub record HasEnded (world : World) (made : List ℕ) : Type 0 where
  pub owed : world.main.owed ≡ []
  pub done : All (ReadsSlots world (HasSureTarget world)) made

-- the mutator's part is done behind such a list of events once its changes have ended, if it was so before
abbrev pub ChangesSettle : Type 0
ChangesSettle =
    (world : World) (made : List ℕ) (events : List Event) → IsSoundAndBorn world → SettledBut world []
    → WerePossible world events (length events) → All (LeavesDone world made) (steps_of events)
    → HasEnded (after_all world events) (made_after_all made (steps_of events)) → SettledBut (after_all world events) []

-- a word that was stored in a slot has a sure target once nothing is owed
abbrev pub StoredIsSure : Type 0
StoredIsSure =
    (world : World) (events : List Event) (at word : ℕ) → Contains events (event.StoreSlot at word)
    → (after_all world events).main.owed ≡ [] → HasSureTarget (after_all world events) word
