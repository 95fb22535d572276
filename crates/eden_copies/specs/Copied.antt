-- What a worker has done: between any two of its steps, and in the end.
use Rattle.std.specs.Prelude.{◌≡◌, ◌≢◌, ℕ, ◌+◌, ◌%◌, ◌<◌, ◌≤◌, ◌↔◌}
use Rattle.std.specs.Prelude.{true, List, [], ◌∷◌, ◌++◌, map, length, Contains, slice_get}
use Rattle.std.specs.Prelude.{Some}
use Rattle.tagged_word.specs.declared.word.Class.TheVariants.{Ref}
use Rattle.tagged_word.specs.Words.{bits_of}
use Rattle.shared_table.specs.Owned.{Own}
use Rattle.scav_copy.specs.declared.places.Home.{Home}
use Rattle.claims.specs.declared.view.Claim.{Claim}
use Rattle.claims.specs.Claimed.{AreAmong}
use Rattle.claims.specs.Sides.{SeatSide}
use Rattle.eden_copies.specs.Eden.{Deal, word_at, size_in, slots_in, outer_slots, RefersToEden, IsDealt, IsLed}
use Rattle.eden_copies.specs.Sides.{WorkerSide, end_of, room_word, is_of_survivor}
use Rattle.eden_copies.specs.Steps.{cell_claim}

-- the claim that a copy stands for
abbrev pub claim_for : Own → Home → Claim
claim_for own home = cell_claim own home.from home.to

-- from an address to another the copies stand one behind another, with no word between them
abbrev pub AreTiled : Own → ℕ → List Home → ℕ → Type 0
AreTiled own at [] end = at ≡ end
AreTiled own at (home ∷ homes) end = (home.to ≡ at) × AreTiled own (at + size_in own home.from) homes end

-- no cell has two of these copies
abbrev pub AreOfOneEach : List Home → Type 0
AreOfOneEach [] = Unit {0}
AreOfOneEach (home ∷ homes) = ((other : Home) → Contains homes other → other.from ≢ home.from) × AreOfOneEach homes

-- The word became this one: it did not change, and refers to no address of eden; or it refers to a cell of eden, and
-- became the reference to what a claim that was seen says of the cell.
pub data IsFollowed (own : Own) (seen : List Claim) (old new : ℕ) : Type 0 where
  kept : ((cell : ℕ) → RefersToEden own old cell → ⊥) → new ≡ old → IsFollowed own seen old new
  renamed : (cell home : ℕ) → RefersToEden own old cell → Contains seen (cell_claim own cell home)
      → new ≡ bits_of (Ref home) → IsFollowed own seen old new

-- the slot is that of a copy, before an address, and the word of before refers to a survivor
pub record IsSurvivorSlot (own : Own) (copies : List Home) (front slot : ℕ) : Type 0 where
  pub home : Home
  pub offset : ℕ
  pub among : Contains copies home
  pub visited : Contains (slots_in own home.from) offset
  pub stands : home.to + offset ≡ slot
  pub passed : slot < front
  pub survives : is_of_survivor own (word_at own (home.from + offset)) ≡ true

-- What a worker has done whose slots before an address were followed. Its copies are what it claimed, in order; they
-- stand one behind another from the room's first word to its last, and a way from what is dealt leads to each of their
-- cells. A word of a copy that is no slot is the cell's; a slot before the address was followed. Left to the main side
-- are just the slots before it that refer to survivors.
pub record IsCopying (own : Own) (deal : Deal) (front : ℕ) (worker : WorkerSide) (seat : SeatSide) : Type 0 where
  pub claimed : seat.made ≡ map (claim_for own) worker.copies
  pub known : AreAmong seat.made seat.seen
  pub tiled : AreTiled own worker.start worker.copies (end_of worker)
  pub one_each : AreOfOneEach worker.copies
  pub led : (home : Home) → Contains worker.copies home → IsLed own deal home.from
  pub copied : (home : Home) (offset : ℕ) → Contains worker.copies home → offset < size_in own home.from
      → (Contains (slots_in own home.from) offset → ⊥)
      → room_word worker (home.to + offset) ≡ word_at own (home.from + offset)
  pub followed : (home : Home) (offset : ℕ) → Contains worker.copies home → Contains (slots_in own home.from) offset
      → home.to + offset < front
      → IsFollowed own seat.seen (word_at own (home.from + offset)) (room_word worker (home.to + offset))
  pub left : (slot : ℕ) → Contains worker.left slot ↔ IsSurvivorSlot own worker.copies front slot
  pub left_few : worker.start + length worker.left ≤ front
  pub reached : front ≤ end_of worker

-- of the slots outside eden, those before a number that were dealt have been followed
abbrev pub HasFollowedDealt : Own → Deal → ℕ → SeatSide → Type 0
HasFollowedDealt own deal count seat =
    (number slot : ℕ) → number < count → slice_get (outer_slots own.space deal.recorded) number ≡ Some slot
    → number % deal.every ≡ deal.first → (now : ℕ) × IsFollowed own seat.seen (word_at own slot) now

-- What a worker has done that has followed no slot of its room, but what was dealt of the slots before a number.
pub record IsDealing (own : Own) (deal : Deal) (count : ℕ) (worker : WorkerSide) (seat : SeatSide) : Type 0 where
  pub copying : IsCopying own deal worker.start worker seat
  pub dealt : HasFollowedDealt own deal count seat

-- the worker went on: it has the copies that it had, and maybe more, and the seat has seen what it saw
pub record GoesOn (old new : WorkerSide) (before behind : SeatSide) : Type 0 where
  pub most : new.most ≡ old.most
  pub start : new.start ≡ old.start
  pub more : List Home
  pub copies : new.copies ≡ old.copies ++ more
  pub table : behind.table ≡ before.table
  pub round : behind.round ≡ before.round
  pub seen : AreAmong before.seen behind.seen

-- What a worker has done in the end. All slots of its copies were followed, and each slot that was dealt refers to no
-- address of eden, or to a cell of which a claim was seen.
pub record HasCopied (own : Own) (deal : Deal) (worker : WorkerSide) (seat : SeatSide) : Type 0 where
  pub copying : IsCopying own deal (end_of worker) worker seat
  pub dealt : (slot : ℕ) → IsDealt own deal slot → (now : ℕ) × IsFollowed own seat.seen (word_at own slot) now
