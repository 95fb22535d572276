-- What a step of a worker needs, and what it does.
use Rattle.std.specs.Prelude.{◌≡◌, ℕ, ◌+◌, ◌-◌, ◌<◌, ◌≤◌, length, Contains}
use Rattle.tagged_word.specs.declared.word.Class.TheVariants.{Ref}
use Rattle.tagged_word.specs.Words.{bits_of}
use Rattle.page_space.specs.Extents.{eden_start}
use Rattle.shared_table.specs.Owned.{Own}
use Rattle.claims.specs.declared.view.Claim.{Claim}
use Rattle.claims.specs.Claimed.{claim_of}
use Rattle.claims.specs.Sides.{PlacesSide, SeatSide, saw, won}
use Rattle.eden_copies.specs.Eden.{size_in, word_at, RefersToEden, StandsInEden}
use Rattle.eden_copies.specs.Sides.{WorkerSide, end_of, with_copy, with_slot}

-- the place that stands for an address of eden, at the table of claims
abbrev pub place_of : Own → ℕ → ℕ
place_of own cell = cell - eden_start own.space

-- the cell is claimed for an address
abbrev pub cell_claim : Own → ℕ → ℕ → Claim
cell_claim own cell home = claim_of (place_of own cell) home

-- the seat has seen no claim of the cell
abbrev pub IsUnseen : Own → SeatSide → ℕ → Type 0
IsUnseen own seat cell = (home : ℕ) → Contains seat.seen (cell_claim own cell home) → ⊥

-- A worker may make steps: its seat is one at this table, in which a place stands for each word of eden; its room may
-- have as many words as eden, and each of them has an address.
pub record IsReady (own : Own) (claims : PlacesSide) (worker : WorkerSide) (seat : SeatSide) : Type 0 where
  pub seated : seat.table ≡ claims.table
  pub places : claims.places ≡ own.space.sizes.young
  pub most : worker.most ≡ own.space.sizes.young
  pub fits : worker.start + worker.most ≤ 4294967295

-- a cell of eden stands at the address; where no claim of it was seen, there is room for its copy
pub record CanCopy (own : Own) (worker : WorkerSide) (seat : SeatSide) (cell : ℕ) : Type 0 where
  pub stands : StandsInEden own cell
  pub words_fit : IsUnseen own seat cell → length worker.room + size_in own cell ≤ worker.most
  pub copies_fit : IsUnseen own seat cell → length worker.copies < worker.most

-- the word may be followed: to a cell that can be copied, where it refers to an address of eden
abbrev pub MayFollow : Own → WorkerSide → SeatSide → ℕ → Type 0
MayFollow own worker seat word = (cell : ℕ) → RefersToEden own word cell → CanCopy own worker seat cell

-- The cell's copy is found: another worker's, or an earlier one of its own, by a claim that the seat saw; or it was
-- made behind the words of the room, and the seat claimed the cell for it.
pub data HasHome (own : Own) (old new : WorkerSide) (before behind : SeatSide) (cell home : ℕ) : Type 0 where
  found : new ≡ old → behind ≡ saw before (cell_claim own cell home)
      → HasHome own old new before behind cell home
  made : IsUnseen own before cell → home ≡ end_of old → new ≡ with_copy own old cell
      → behind ≡ won before (cell_claim own cell home)
      → HasHome own old new before behind cell home

-- A word was followed, and this one takes its place: the word itself, where it refers to no address of eden; else the
-- reference to the copy of the cell.
pub data HasFollowed (own : Own) (old new : WorkerSide) (before behind : SeatSide) (word now : ℕ) : Type 0 where
  passed : ((cell : ℕ) → RefersToEden own word cell → ⊥) → new ≡ old → behind ≡ before → now ≡ word
      → HasFollowed own old new before behind word now
  led : (cell home : ℕ) → RefersToEden own word cell → HasHome own old new before behind cell home
      → now ≡ bits_of (Ref home)
      → HasFollowed own old new before behind word now

-- A slot of a copy was followed, in which the word stood before at another address.
pub record HasScanned (own : Own) (old new : WorkerSide) (before behind : SeatSide) (from to : ℕ) : Type 0 where
  pub now : ℕ
  pub middle : WorkerSide
  pub followed : HasFollowed own old middle before behind (word_at own from) now
  pub slot : new ≡ with_slot own middle from to now

-- a slot that was dealt was followed; nothing is stored into it
pub record HasRead (own : Own) (old new : WorkerSide) (before behind : SeatSide) (slot : ℕ) : Type 0 where
  pub now : ℕ
  pub followed : HasFollowed own old new before behind (word_at own slot) now
