-- Which words the steps of a helper touch, by its own view: they are there.
use Rattle.std.specs.Prelude.{◌≡◌, ℕ, ◌+◌, ◌%◌, ◌<◌, All, Some, IfSome}
use Rattle.tagged_word.specs.Readings.{reference_in}
use Rattle.tagged_word.specs.Shapes.{shapes_most}
use Rattle.page_space.specs.Extents.{board_words}
use Rattle.page_space.specs.Sizes.{page_words}
use Rattle.mark_laws.specs.Types.{Event, Snap, Spot, HelperView}
use Rattle.mark_world.specs.declared.event.Event.TheVariants as event
use Rattle.mark_world.specs.Pages.{page_end, target}
use Rattle.mark_world.specs.Naming.{named}
use Rattle.mark_world.specs.Steps.{helper_learns, helper_spot, lent, returned}
use Rattle.mark_world.specs.Conditions.{MayHelper}
use Rattle.mark_laws.specs.OwnViews.{AsksOwnView, IsNamed}

-- a target is old
abbrev pub TargetsAreOld : Type 0
TargetsAreOld = (old word at : ℕ) → target old word ≡ Some at → at < old

-- a slot that a snap names lies in the page of its cell
abbrev pub NamedLieInPage : Type 0
NamedLieInPage = (snap : Snap) (offset : ℕ) → IsNamed (named snap) offset → snap.cell + offset < page_end snap.cell

-- the cells that a view has in hand are old
pub record HasOldCells (old : ℕ) (view : HelperView) : Type 0 where
  pub grey : All (λ at. at < old) view.grey
  pub snap : IfSome view.snap (λ snap. snap.cell < old)
  pub visit : All (λ at. at < old) view.visit

-- what a step finds is old too: a word of the board refers to an old cell, if to any
abbrev pub FindsOld : ℕ → Event → ℕ → Type 0
FindsOld old (event.Take number place) found = IfSome (reference_in found) (λ at. at < old)
FindsOld old _ found = Unit {0}

-- the cells in hand of a seat that was just lent, or taken back, are old, since it has none
abbrev pub EmptyViewsHaveOldCells : Type 0
EmptyViewsHaveOldCells = (old : ℕ) → HasOldCells old lent × HasOldCells old returned

-- they are old after a step that the view allows
abbrev pub OldCellsStay : Type 0
OldCellsStay =
    (old : ℕ) (view : HelperView) (of : Event) (found : ℕ) → MayHelper view of → AsksOwnView view of
    → FindsOld old of found → HasOldCells old view → HasOldCells old (helper_learns old view of found)

-- a spot is there: a word of the pages, the layout word of a shape that may be, or a word of the board
abbrev pub IsThere : ℕ → Spot → Type 0
IsThere old (Spot.Heap at) = at < old
IsThere old (Spot.Layout shape) = shape < shapes_most
IsThere old (Spot.Colour at) = at < old
IsThere old (Spot.Board place) = place < board_words

-- Where the old words are whole pages, each step that a view allows touches a word that is there.
abbrev pub SpotsAreThere : Type 0
SpotsAreThere =
    (old : ℕ) (view : HelperView) (of : Event) → old % page_words ≡ 0 → MayHelper view of → AsksOwnView view of
    → HasOldCells old view → IfSome (helper_spot view of) (IsThere old)
