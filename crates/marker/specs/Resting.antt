-- A seat between two turns, and what a turn does.
use Rattle.std.specs.Prelude.{◌≡◌, ◌≢◌, ◌↔◌, ◌⊎◌, ℕ, ◌+◌, ◌%◌, ◌<◌, Bool, true, false, List, [], ◌∷◌, ◌++◌, Contains}
use Rattle.std.specs.Prelude.{Option, Some, None}
use Rattle.page_space.specs.Extents.{board_words}
use Rattle.cell_list.specs.Listing.{Listing}
use Rattle.core_parts.specs.declared.note.Note.{Note}
use Rattle.core_parts.specs.declared.note.Note.TheVariants.{Took}
use Rattle.shared_table.specs.declared.overview.Lent.{Lent}
use Rattle.shared_table.specs.Seats.{Helping}
use Rattle.marker.specs.Turns.{AddsVisit}
use Rattle.marker.specs.Shading.{HasListed, IsAtRest}

-- A seat with its list, between two turns: the list has just the cells that wait, and nothing else is in hand.
pub record Rests (listing : Listing) (lent : Lent) : Type 0 where
  pub listed : HasListed listing lent
  pub rest : IsAtRest lent

-- a cell was taken off a list, which has the others still; there was none where the list was empty
abbrev pub IsNext : Listing → Listing → Option ℕ → Type 0
IsNext before after None = (after ≡ before) × (before.addresses ≡ [])
IsNext before after (Some cell) = (after.bound ≡ before.bound) × Contains before.addresses cell × (cell < before.bound)
    × ((one : ℕ) → Contains after.addresses one ↔ (Contains before.addresses one × (one ≢ cell)))

-- the seat stays at its table
pub record StaysAt (before after : Helping) : Type 0 where
  pub table : after.table ≡ before.table
  pub counts : after.lent.counts ≡ before.lent.counts

-- the place of the board after one
abbrev pub next_place : ℕ → ℕ
next_place place = (place + 1) % board_words

-- what a log gains by a look at a place: nothing was there, or a cell
abbrev pub Looks : List Note → List Note → ℕ → Bool → Type 0
Looks before after place true = after ≡ before ++ Took place 0 ∷ []
Looks before after place false = (found : ℕ) × (found ≢ 0) × (after ≡ before ++ Took place found ∷ [])

-- What one turn does: with no cell that waits it looks at a place, where nothing is or a cell that waits then; or it
-- visits a cell.
abbrev pub Turned : List Note → List Note → (was now : ℕ) → (had listed : List ℕ) → Bool → Type 0
Turned before after was now had listed true =
    Looks before after was true × (now ≡ next_place was) × (had ≡ []) × (listed ≡ [])
Turned before after was now had listed false =
    (AddsVisit before after ⊎ (Looks before after was false × (had ≡ []) × (listed ≢ []))) × (now < board_words)
