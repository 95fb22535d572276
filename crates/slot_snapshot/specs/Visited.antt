-- What a visit comes to.
use Rattle.std.specs.Prelude.{◌≡◌, ℕ, List, Some}
use Rattle.mark_laws.specs.OwnViews.{HasReadWhole}
use Rattle.mark_laws.specs.Types.{Snap, SnapSlot}
use Rattle.mark_world.specs.declared.event.Event.TheVariants as event
use Rattle.mark_world.specs.Steps.{snap_targets}
use Rattle.shared_table.specs.declared.colour.Colour.{Colour}
use Rattle.shared_table.specs.declared.colour.Colour.TheVariants.{Grey, Black}
use Rattle.shared_table.specs.Colours.{number_of}
use Rattle.shared_table.specs.HelperTold.{learned, own_number}
use Rattle.shared_table.specs.Seats.{Helping}
use Rattle.slot_snapshot.specs.declared.visits.Visit.{Visit}
use Rattle.slot_snapshot.specs.declared.visits.Visit.TheVariants as visit
use Rattle.slot_snapshot.specs.Loads.{begun}

-- the cell was read in a snap, and settled; its exchange found this colour
pub record Settles (before after : Helping) (cell : ℕ) (found : Colour) (snap : Snap) : Type 0 where
  pub of : snap.cell ≡ cell
  pub after_is : after ≡ record before {
    lent = learned (begun before.lent cell snap) (event.Settle own_number) (number_of found);
  }

-- What is kept is the snap: the header and the slots as they were read, in order. It has read the cell whole, and its
-- targets are what the seat is to visit.
pub record Keeps (before after : Helping) (cell header : ℕ) (slots : List SnapSlot) : Type 0 where
  pub snap : Snap
  pub settles : Settles before after cell Grey snap
  pub header_is : snap.header ≡ header
  pub slots_are : snap.slots ≡ slots
  pub whole : HasReadWhole snap
  pub last : after.lent.view.last ≡ Some snap
  pub visit : after.lent.view.visit ≡ snap_targets before.lent.counts.old snap

-- a cell that is dropped was black already
pub record Drops (before after : Helping) (cell : ℕ) (found : Colour) : Type 0 where
  pub snap : Snap
  pub settles : Settles before after cell found snap
  pub black : found ≡ Black

-- A visit keeps what it read exactly where its own exchange made the cell black, and else drops it.
abbrev pub IsVisited : Helping → Helping → ℕ → Visit → Type 0
IsVisited before after cell (visit.Kept snapshot) = Keeps before after cell snapshot.header snapshot.slots.now
IsVisited before after cell (visit.Dropped found) = Drops before after cell found
