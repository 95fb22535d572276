-- What all workers of a scavenge have done together.
use Rattle.std.specs.Prelude.{◌≡◌, ℕ, ◌+◌, ◌<◌, List, map, length, Contains, slice_get, Some}
use Rattle.std.specs.List.{flat_map}
use Rattle.shared_table.specs.Owned.{Own}
use Rattle.scav_copy.specs.declared.places.Home.{Home}
use Rattle.scav_copy.specs.Renamings.{IsRenamed}
use Rattle.claims.specs.declared.view.Claim.{Claim}
use Rattle.claims.specs.Claimed.{AreApart, AreAmong, together}
use Rattle.claims.specs.Sides.{SeatSide}
use Rattle.eden_copies.specs.Eden.{Deal, deal_of, word_at, slots_in, IsLed, MayCopy}
use Rattle.eden_copies.specs.Sides.{WorkerSide, room_word}
use Rattle.eden_copies.specs.Copied.{HasCopied}

-- a worker and its seat, after its run
pub record Finished : Type 0 where
  pub worker : WorkerSide
  pub seat : SeatSide

-- the copies of all that count
abbrev pub homes_of : List Finished → List Home
homes_of all = flat_map (λ one. one.worker.copies) all

-- what each claimed
abbrev pub claims_of : List Finished → List (List Claim)
claims_of all = map (λ one. one.seat.made) all

-- all slots outside eden, as dealt to one
abbrev pub whole_deal : List ℕ → Deal
whole_deal recorded = deal_of recorded 0 1

-- There is a worker. The slots outside eden were dealt out to all, in turn, and each has copied what it was dealt. No
-- place was claimed twice, and each claim that was seen was made: that is what the owner of the table knows in the end.
pub record HaveCopied (own : Own) (recorded : List ℕ) (all : List Finished) : Type 0 where
  pub some : 0 < length all
  pub each : (number : ℕ) (one : Finished) → slice_get all number ≡ Some one
      → HasCopied own (deal_of recorded number (length all)) one.worker one.seat
  pub once : AreApart (together (claims_of all))
  pub seen : (one : Finished) → Contains all one → AreAmong one.seat.seen (together (claims_of all))

-- Each cell of eden to which a way leads from a slot outside has a copy that counts, and no other cell has one. No cell
-- has two. In the slots of these copies references to cells of eden became those to the copies.
pub record AreCopiedOnce (own : Own) (recorded : List ℕ) (all : List Finished) : Type 0 where
  pub copied : (cell : ℕ) → IsLed own (whole_deal recorded) cell
      → (home : Home) × Contains (homes_of all) home × (home.from ≡ cell)
  pub led : (home : Home) → Contains (homes_of all) home → IsLed own (whole_deal recorded) home.from
  pub one_each : (home other : Home) → Contains (homes_of all) home → Contains (homes_of all) other
      → home.from ≡ other.from → home ≡ other
  pub slots : (one : Finished) (home : Home) (offset : ℕ) → Contains all one → Contains one.worker.copies home
      → Contains (slots_in own home.from) offset
      → IsRenamed (homes_of all) (word_at own (home.from + offset)) (room_word one.worker (home.to + offset))

-- workers that each did their part have copied each cell once
abbrev pub WorkersCopyOnce : Type 0
WorkersCopyOnce =
    (own : Own) (recorded : List ℕ) (all : List Finished) → MayCopy own (whole_deal recorded)
    → HaveCopied own recorded all → AreCopiedOnce own recorded all
