-- What soundness says of the mutator's view and the pages alone, and worlds that agree on the words of their pages.
use Rattle.std.specs.Prelude.{◌≡◌, ◌≢◌, ℕ, ◌+◌, ◌%◌, ◌^◌, ◌<◌, ◌≤◌, false, List, All, Contains}
use Rattle.std.specs.Prelude.{length, take, slice_index, IsSome, IfSome}
use Rattle.tagged_word.specs.Shapes.{shapes_most}
use Rattle.page_space.specs.Sizes.{page_words}
use Rattle.mark_laws.specs.Types.{Event, Actor, MainView, World}
use Rattle.mark_world.specs.Pages.{EachFree, OfTarget, cell_at, is_inside, slots_of}
use Rattle.mark_world.specs.Steps.{actor}
use Rattle.mark_world.specs.AfterEvents.{Possible, after}
use Rattle.mark_world.specs.Soundness.{AreIn, Sound}
use Rattle.mark_world.specs.BornCells.{Born}
use Rattle.mark_world.specs.BetweenCommands.{Settled}

-- What soundness and births say of the mutator's view, the pages and the layout words, without colours, board or
-- helpers: the sizes are right, each free start reads a cell and none begins in another's, the mutator's lists are
-- published and born cells, those that it made black are old, and each target of a tagged slot of a born free start is
-- born.
pub record MainSound (old : ℕ) (words layouts : List ℕ) (main : MainView) : Type 0 where
  pub pages : old % page_words ≡ 0
  pub addresses : old < 2 ^ 32
  pub within : old ≤ length words
  pub shapes : length layouts ≡ shapes_most
  pub read : EachFree main (λ start. IsSome (cell_at old words layouts start))
  pub apart : EachFree main (λ start. EachFree main (λ other. start ≢ other →
      is_inside start (cell_at old words layouts start) other ≡ false))
  pub born : AreIn main.starts main.born
  pub mine : AreIn main.starts main.mine
  pub mine_born : AreIn main.born main.mine
  pub mine_old : All (λ at. at < old) main.mine
  pub sure_born : AreIn main.born main.sure
  pub owed_born : AreIn main.born main.owed
  pub slots : EachFree main (λ start. Contains main.born start → IfSome (cell_at old words layouts start) (λ cell.
      All (λ offset. OfTarget old (slice_index words (start + offset)) (Contains main.born)) (slots_of cell)))

-- it holds of the mutator's view of a world
abbrev pub HasMainSound : World → Type 0
HasMainSound world = MainSound world.old world.words world.layouts world.main

-- a whole world has it
abbrev pub WholeIsMainSound : Type 0
WholeIsMainSound = (world : World) → Sound world → Born world → HasMainSound world

-- Two worlds agree on the words of their pages, and are the same but for the words behind the pages and the mutator's
-- log.
pub record AgreesOnPages (world other : World) : Type 0 where
  pub words : take world.old other.words ≡ take world.old world.words
  pub rest : other ≡ record world { words = other.words; main = record world.main { log = other.main.log } }

-- what is known of a world is known of another one
pub record KnowsOf (world other : World) : Type 0 where
  pub sound : Sound world → Sound other
  pub born : Born world → Born other
  pub settled : Settled world → Settled other
  pub main : HasMainSound world → HasMainSound other

-- what is known of a world is known of each that agrees with it on the pages
abbrev pub PagesTellAll : Type 0
PagesTellAll = (world other : World) → AgreesOnPages world other → KnowsOf world other

-- each possible step of the mutator keeps it, whatever the world is beside its view, pages and layout words
abbrev pub MainSoundStays : Type 0
MainSoundStays =
    (world : World) (of : Event) → HasMainSound world → actor of ≡ Actor.Mutator → Possible world of
    → HasMainSound (after world of)
