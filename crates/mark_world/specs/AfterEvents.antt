-- The world after an event, and after each of a list of events; where an event is possible.
use Rattle.std.specs.Prelude.{◌≡◌, ◌≢◌, ℕ, ◌<◌, IsTrue, List, [], ◌∷◌, ◌++◌, Contains, slice_get}
use Rattle.std.specs.Prelude.{slice_index, slice_set, take, count_by, Option, Some, None, IsSomeAnd}
use Rattle.page_space.specs.Sizes.{helpers_most}
use Rattle.mark_world.specs.declared.event.Event.{Event}
use Rattle.mark_world.specs.declared.event.Event.TheVariants as event
use Rattle.mark_world.specs.declared.step.Actor.{Actor}
use Rattle.mark_world.specs.declared.step.Spot.{Spot}
use Rattle.mark_world.specs.declared.views.HelperView.{HelperView}
use Rattle.mark_world.specs.declared.world.World.{World}
use Rattle.mark_world.specs.Steps.{actor, main_spot, helper_spot, becomes, main_learns, helper_learns, white}
use Rattle.mark_world.specs.Steps.{lent, returned, taken_back}
use Rattle.mark_world.specs.Conditions.{MayMain, MayHelper}

-- the word at a spot; 0 past the end of its list, and where there is no spot
abbrev pub word_at : World → Option Spot → ℕ
word_at world None = 0
word_at world (Some (Spot.Heap at)) = slice_index world.words at
word_at world (Some (Spot.Layout shape)) = slice_index world.layouts shape
word_at world (Some (Spot.Colour at)) = slice_index world.colours at
word_at world (Some (Spot.Board place)) = slice_index world.board place

-- the world with a word put at a spot; past the end of its list nothing is put
abbrev pub with_word : World → Option Spot → ℕ → World
with_word world None word = world
with_word world (Some (Spot.Heap at)) word = record world { words = slice_set world.words at word }
with_word world (Some (Spot.Layout shape)) word = record world { layouts = slice_set world.layouts shape word }
with_word world (Some (Spot.Colour at)) word = record world { colours = slice_set world.colours at word }
with_word world (Some (Spot.Board place)) word = record world { board = slice_set world.board place word }

-- the world after a step of the mutator that finds a word at a spot
abbrev pub main_finds : World → Event → Option Spot → ℕ → World
main_finds world of spot found =
    record (with_word world spot (becomes of found)) {
      main = main_learns world.old world.words world.layouts world.main of found;
    }

-- the world after a step of the mutator
abbrev pub after_main : World → Event → World
after_main world of = main_finds world of (main_spot of) (word_at world (main_spot of))

-- the world after a step of a helper that finds a word at a spot
abbrev pub helper_finds : World → ℕ → HelperView → Event → Option Spot → ℕ → World
helper_finds world number view of spot found =
    record (with_word world spot (becomes of found)) {
      helpers = slice_set world.helpers number (helper_learns world.old view of found);
    }

-- the world after a step of a helper; a helper that there is not makes none
abbrev pub after_helper : World → ℕ → Event → Option HelperView → World
after_helper world number of None = world
after_helper world number of (Some view) =
    helper_finds world number view of (helper_spot view of) (word_at world (helper_spot view of))

-- the world after a seat was taken back
abbrev pub after_return : World → ℕ → Option HelperView → World
after_return world number None = world
after_return world number (Some view) =
    record world { main = taken_back world.main view; helpers = slice_set world.helpers number returned }

-- the world after an event of an actor
abbrev pub after_step : World → Event → Actor → World
after_step world of Actor.Mutator = after_main world of
after_step world of (Actor.Helper number) = after_helper world number of (slice_get world.helpers number)
after_step world of Actor.Lends = record world { helpers = world.helpers ++ lent ∷ [] }
after_step world of (Actor.Returns number) = after_return world number (slice_get world.helpers number)

-- the world after an event, whoever took part in it
abbrev pub after : World → Event → World
after world of = after_step world of (actor of)

-- how many seats are out
abbrev pub seats_out : World → ℕ
seats_out world = count_by (λ view. view.out) world.helpers

-- the cell is published and not white
pub record IsMarked (world : World) (at : ℕ) : Type 0 where
  pub start : Contains world.main.starts at
  pub coloured : slice_index world.colours at ≢ white

-- what an event asks of the world beside the view of its seat: only of a cell whose header is to be loaded
abbrev pub AsksWorld : World → Event → Type 0
AsksWorld world (event.LoadHeader number cell) = IsMarked world cell
AsksWorld world _ = Unit {0}

-- a helper that is out may make the step
pub record MayStep (world : World) (of : Event) (view : HelperView) : Type 0 where
  pub out : IsTrue view.out
  pub may : MayHelper view of
  pub asks : AsksWorld world of

-- an event of an actor is possible in a world
abbrev pub PossibleStep : World → Event → Actor → Type 0
PossibleStep world of Actor.Mutator = MayMain world.old world.words world.layouts world.main of
PossibleStep world of (Actor.Helper number) = IsSomeAnd (slice_get world.helpers number) (MayStep world of)
PossibleStep world of Actor.Lends = seats_out world < helpers_most
PossibleStep world of (Actor.Returns number) = IsSomeAnd (slice_get world.helpers number) (λ view. IsTrue view.out)

-- an event is possible in a world, whoever takes part in it
abbrev pub Possible : World → Event → Type 0
Possible world of = PossibleStep world of (actor of)

-- the world after a list of events
abbrev pub after_all : World → List Event → World
after_all world [] = world
after_all world (of ∷ rest) = after_all (after world of) rest

-- the world after so many of the events
abbrev pub moment : World → List Event → ℕ → World
moment start events count = after_all start (take count events)

-- the first so many events were possible, each at its moment
abbrev pub WerePossible : World → List Event → ℕ → Type 0
WerePossible start events count =
    (k : ℕ) (of : Event) → k < count → slice_get events k ≡ Some of → Possible (moment start events k) of
