-- Which cells marking may reach: those that count as reached when the cycle began, or as made since.
use Rattle.std.specs.Prelude.{◌≡◌, ℕ, All, Contains, IfSome}
use Rattle.mark_world.specs.declared.world.World.{World}
use Rattle.mark_world.specs.Pages.{EachFree, OfTarget}
use Rattle.mark_world.specs.Steps.{grey}
use Rattle.mark_world.specs.AfterEvents.{IsMarked}
use Rattle.mark_world.specs.Coverage.{EachSlot, colour_of}

-- a word has no target, or a born one
abbrev pub HasBorn : World → ℕ → Type 0
HasBorn world word = OfTarget world.old word (λ to. Contains world.main.born to)

-- Each published cell that is not white is born, and so is each target of a tagged slot of a born free start, of a slot
-- that was read in a snap of a grey cell, and each cell that a helper is to visit.
pub record Born (world : World) : Type 0 where
  pub reached : (at : ℕ) → IsMarked world at → Contains world.main.born at
  pub slots : EachFree world.main (λ start. Contains world.main.born start →
      EachSlot world start (λ offset. HasBorn world))
  pub snaps : All (λ view. IfSome view.snap (λ snap. colour_of world snap.cell ≡ grey →
      All (λ slot. HasBorn world slot.word) snap.slots)) world.helpers
  pub visits : All (λ view. All (λ at. Contains world.main.born at) view.visit) world.helpers
