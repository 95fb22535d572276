-- Seats with which workers ran, taken back by the owner of the table of claims.
use Rattle.std.specs.Prelude.{◌≡◌, ℕ, ◌<◌, List, [], ◌∷◌, length, slice_get, Some}
use Rattle.shared_table.specs.Owned.{Own}
use Rattle.claims.specs.Claimed.{AreApart, AreAmong, together}
use Rattle.claims.specs.Sides.{OwnerSide, taking}
use Rattle.eden_copies.specs.Eden.{deal_of}
use Rattle.eden_copies.specs.Copied.{HasCopied}
use Rattle.eden_copies.specs.Together.{Finished, HaveCopied}

-- the seats of these workers were taken back, one after another
pub data AreTakenBack : List Finished → OwnerSide → OwnerSide → Type 0 where
  none : (owner : OwnerSide) → AreTakenBack [] owner owner
  next : (one : Finished) (more : List Finished) (old new : OwnerSide) → AreTakenBack more (taking old one.seat) new
      → AreTakenBack (one ∷ more) old new

-- Each worker has copied what it was dealt, and all seats were taken back, in a round in which none was before: so what
-- the owner knows at the end of the round is known of all together.
abbrev pub TakenBackHaveCopied : Type 0
TakenBackHaveCopied =
    (own : Own) (recorded : List ℕ) (all : List Finished) (old new : OwnerSide) → 0 < length all
    → ((number : ℕ) (one : Finished) → slice_get all number ≡ Some one
    → HasCopied own (deal_of recorded number (length all)) one.worker one.seat)
    → old.made ≡ [] → AreTakenBack all old new → AreApart (together new.made)
    → AreAmong new.seen (together new.made) → HaveCopied own recorded all
