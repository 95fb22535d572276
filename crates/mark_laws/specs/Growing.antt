-- What only grows from event to event, and how many seats are out.
use Rattle.std.specs.Prelude.{◌≡◌, ◌↔◌, ℕ, ◌+◌, ◌≤◌, List, length}
use Rattle.mark_laws.specs.Types.{Event, MainView, World}
use Rattle.mark_world.specs.declared.event.Event.TheVariants as event
use Rattle.mark_world.specs.AfterEvents.{after, after_all, moment, seats_out, Possible}
use Rattle.mark_world.specs.Soundness.{AreIn}
use Rattle.mark_laws.specs.Runs.{HasNoneOut}

-- what is published, born, made black by the mutator, or sure to it in one view is so in the other
pub record Grows (main later : MainView) : Type 0 where
  pub starts : AreIn later.starts main.starts
  pub born : AreIn later.born main.born
  pub mine : AreIn later.mine main.mine
  pub sure : AreIn later.sure main.sure

-- no event takes a cell from these lists
abbrev pub ListsGrow : Type 0
ListsGrow = (world : World) (of : Event) → Grows world.main (after world of).main

-- nor does a list of events
abbrev pub ListsGrowAlong : Type 0
ListsGrowAlong = (start : World) (events : List Event) → Grows start.main (after_all start events).main

-- from each moment of events to each later one
abbrev pub MomentsGrow : Type 0
MomentsGrow =
    (start : World) (events : List Event) (from to : ℕ) → from ≤ to → to ≤ length events
    → Grows (moment start events from).main (moment start events to).main

-- a seat more is out after one was lent
abbrev pub LendCounts : Type 0
LendCounts = (world : World) → seats_out (after world event.Lend) ≡ seats_out world + 1

-- and a seat fewer after one that was out was taken back
abbrev pub ReturnCounts : Type 0
ReturnCounts =
    (world : World) (number : ℕ) → Possible world (event.Return number)
    → seats_out (after world (event.Return number)) + 1 ≡ seats_out world

-- the event lends a seat, or takes one back
abbrev pub MovesSeat : Event → Type 0
MovesSeat event.Lend = Unit {0}
MovesSeat (event.Return number) = Unit {0}
MovesSeat _ = ⊥

-- after every other event as many seats are out
abbrev pub OthersKeepCount : Type 0
OthersKeepCount = (world : World) (of : Event) → (MovesSeat of → ⊥) → seats_out (after world of) ≡ seats_out world

-- no seat is counted exactly where none is out
abbrev pub NoneIsZero : Type 0
NoneIsZero = (world : World) → (seats_out world ≡ 0) ↔ HasNoneOut world
