-- What a helper is to visit once it has settled a snap, and what a cell is that it has visited.
use Rattle.std.specs.Prelude.{◌≡◌, ◌≢◌, ℕ, Contains, Some}
use Rattle.mark_world.specs.declared.event.Event.TheVariants as event
use Rattle.mark_laws.specs.Types.{Snap, HelperView, World}
use Rattle.mark_world.specs.Pages.{target}
use Rattle.mark_world.specs.Naming.{read_words}
use Rattle.mark_world.specs.Steps.{grey, helper_learns, white}
use Rattle.mark_world.specs.AfterEvents.{Possible, after}
use Rattle.mark_world.specs.Coverage.{colour_of}
use Rattle.mark_world.specs.Soundness.{Sound}
use Rattle.mark_world.specs.BornCells.{Born}

-- a word that was read in a slot of a snap has the target
abbrev pub HasReadTarget : ℕ → Snap → ℕ → Type 0
HasReadTarget old snap at = (word : ℕ) × Contains (read_words snap) word × (target old word ≡ Some at)

-- a helper that settles a snap and finds its cell grey is to visit the targets of the words read, and no other cells
pub record VisitsTargets (old number : ℕ) (view : HelperView) (snap : Snap) : Type 0 where
  pub each : (at : ℕ) → HasReadTarget old snap at
      → Contains (helper_learns old view (event.Settle number) grey).visit at
  pub alone : (at : ℕ) → Contains (helper_learns old view (event.Settle number) grey).visit at
      → HasReadTarget old snap at

-- each helper with a snap is
abbrev pub SettlingVisitsTargets : Type 0
SettlingVisitsTargets =
    (old number : ℕ) (view : HelperView) (snap : Snap) → view.snap ≡ Some snap → VisitsTargets old number view snap

-- A cell that a helper has shaded is not white. No event makes its colour lighter, so a slot that refers to it once
-- more can be passed over.
abbrev pub ShadedIsColoured : Type 0
ShadedIsColoured =
    (world : World) (number at : ℕ) → Sound world → Born world → Possible world (event.ShadeHelper number at)
    → colour_of (after world (event.ShadeHelper number at)) at ≢ white
