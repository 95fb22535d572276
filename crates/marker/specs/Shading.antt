-- What a marker has in hand, and the targets that it shades.
use Rattle.std.specs.Prelude.{◌≡◌, ℕ, ◌≤◌, ◌⊎◌, ◌↔◌, List, [], Contains, Some, None, get_or}
use Rattle.cell_list.specs.Listing.{Listing}
use Rattle.core_parts.specs.Lists.{left}
use Rattle.mark_laws.specs.Types.{SnapSlot}
use Rattle.mark_world.specs.Pages.{target}
use Rattle.shared_table.specs.declared.overview.Lent.{Lent}
use Rattle.shared_table.specs.Seats.{Helping}
use Rattle.marker.specs.Turns.{AddsNoTurn}

-- the list has just the cells that wait with the seat, and has room for each cell
pub record HasListed (listing : Listing) (lent : Lent) : Type 0 where
  pub room : lent.counts.old ≤ listing.bound
  pub members : (at : ℕ) → Contains listing.addresses at ↔ Contains lent.view.grey at

-- the list has just the others of them, since this cell was taken off it
pub record HasListedOthers (listing : Listing) (lent : Lent) (cell : ℕ) : Type 0 where
  pub room : lent.counts.old ≤ listing.bound
  pub members : (at : ℕ) → Contains listing.addresses at ↔ Contains (left lent.view.grey cell) at

-- the seat is to visit the cell, or has seen that it is not white
abbrev pub MayShade : Lent → ℕ → Type 0
MayShade lent at = Contains lent.view.visit at ⊎ Contains lent.seen at

-- a seat with nothing in hand but cells that wait
pub record IsAtRest (lent : Lent) : Type 0 where
  pub snap : lent.view.snap ≡ None
  pub visit : lent.view.visit ≡ []

-- A seat has shaded cells: of the cells to visit none joined, what it might shade it still may, and its log gained no
-- turn.
pub record Shades (before after : Helping) : Type 0 where
  pub table : after.table ≡ before.table
  pub counts : after.lent.counts ≡ before.lent.counts
  pub snap : after.lent.view.snap ≡ before.lent.view.snap
  pub log : AddsNoTurn before.lent.view.log after.lent.view.log
  pub fewer : (at : ℕ) → Contains after.lent.view.visit at → Contains before.lent.view.visit at
  pub may : (at : ℕ) → MayShade before.lent at → MayShade after.lent at

-- the target of a word is to be visited no more
abbrev pub IsShaded : Helping → ℕ → Type 0
IsShaded after word =
    (at : ℕ) → target after.lent.counts.old word ≡ Some at → Contains after.lent.view.visit at → ⊥

-- the word of a slot, by its number
abbrev pub word_of : List SnapSlot → ℕ → SnapSlot → ℕ
word_of slots k default = (get_or slots k default).word
