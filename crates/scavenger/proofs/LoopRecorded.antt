-- The recorded slots are followed, in ascending order.
use Rattle.std.proofs.Common.{ℕ, ◌+◌, ◌<◌, ◌≤◌, inl, inr, Bool, List, Contains, get_or}
use Rattle.std.proofs.Common.{refl, arith}
use Rattle.std.proofs.lemmas.Option.{slice_get-get_or}
use Rattle.page_space.specs.Extents.{eden_start}
use Rattle.remembered_set.specs.Recorded.{HasNoneFrom, IsNextRecorded}
use Rattle.write_barrier.specs.Seats.{heap_words}
use Rattle.heap_model.specs.Remembered.{RefersToYoung}
use Rattle.write_barrier.specs.MutatorState.{Mutator}
use Rattle.scav_copy.specs.declared.places.Home.{Home}
use Rattle.scav_copy.specs.Places.{Fixed, StoodAt}
use Rattle.scav_copy.specs.Renamings.{RefersToAddress}
use Rattle.scav_copy.proofs.Spots.{live_is_there}
use Rattle.scavenger.specs.declared.progress.Progress.{Progress}
use Rattle.scavenger.specs.Starts.{Start, SegmentCopies}
use Rattle.scavenger.specs.Filling.{Front, IsToDo}
use Rattle.scavenger.specs.Walking.{Scavenging, HasFollowed, at_recorded}
use Rattle.scavenger.proofs.LoopGoing.{HasFront, moves_front, passes_slot}

module _ {start now : Mutator} {handed : List SegmentCopies} {all : Bool} {progress : Progress} {todo : List ℕ}
    {front : Front}
    (state : Scavenging start handed now all progress todo front) where
  -- what is recorded is live: a slot that was recorded before, or one of a copy
  pub recorded_is_live : (slot : ℕ) → Contains now.recorded.slots slot
      → (place : ℕ) × StoodAt state.fixed state.homes slot place
  recorded_is_live slot there = elim ((state.kept slot).0 there) [
    | inl was ↦ (slot, StoodAt.itself ((state.begun.begins.slots slot).1 (inr was.0)) refl)
    | inr promoted ↦
        let is = promoted.0 in
        (is.home.from + is.offset, StoodAt.in_cell is.home is.offset is.among is.visited is.stands refl)
  ]

  -- a live slot that was recorded before and refers to one of the cells is still recorded
  pub still_recorded : (slot place cell : ℕ) → StoodAt state.fixed state.homes slot place
      → Contains start.recorded.slots slot → RefersToAddress (heap_words now.seat) slot cell
      → Contains state.fixed.cells cell → Contains now.recorded.slots slot
  still_recorded slot place cell stood was refers is =
      let words : List ℕ = heap_words now.seat in
      let copying = state.filled.copying in
      let there = live_is_there slot place state.begun.laid copying stood in
      let young = (state.begun.begins.cells cell).0 is in
      let refers_to : RefersToYoung (eden_start start.seat.space) words slot = record {
        word = get_or words slot 0;
        stands = slice_get-get_or words slot 0 (omega (arith, there, copying.long));
        cell = cell;
        refers = refers;
        young = young.young;
      } in
      (state.kept slot).1 (inl (was, refers_to))

  -- what is recorded stands in a page
  pub recorded_in_page : (slot : ℕ) → slot < now.recorded.bound → slot < eden_start start.seat.space
  recorded_in_page slot below = omega (arith, below, state.changes.bound, state.bounded)

-- what was to do of the recorded slots from one on is to do from another on
recorded_move : {start : Start} {fixed : Fixed} {homes : List Home} {todo : List ℕ} (end from next other : ℕ)
    → (Contains start.recorded other → from ≤ other → next ≤ other)
    → IsToDo start fixed homes todo (at_recorded end from) other
    → IsToDo start fixed homes todo (at_recorded end next) other
recorded_move end from next other on (IsToDo.root behind) = IsToDo.root behind
recorded_move end from next other on (IsToDo.recorded behind below there) =
    IsToDo.recorded (on there behind) below there
recorded_move end from next other on (IsToDo.at_hand behind below) = IsToDo.at_hand behind below
recorded_move end from next other on (IsToDo.left there) = IsToDo.left there
recorded_move end from next other on (IsToDo.listed home there listed inside) =
    IsToDo.listed home there listed inside

module _ {start now : Mutator} {handed : List SegmentCopies} {all : Bool} {progress : Progress} {todo : List ℕ}
    {end from : ℕ}
    (state : Scavenging start handed now all progress todo (at_recorded end from)) where
  -- before the next slot that is recorded, none is to do
  pub reaches_recorded : (slot : ℕ) → IsNextRecorded now.recorded from slot → HasFront state (at_recorded end slot)
  reaches_recorded slot next =
      moves_front state (at_recorded end slot) (λ other place cell stood refers is.
      recorded_move end from slot other (λ was behind.
      next.least other (still_recorded state other place cell stood was refers is) behind))

  -- and where there is none, all are done
  pub recorded_done : HasNoneFrom now.recorded from
      → Scavenging start handed now all progress todo (at_recorded end (eden_start start.seat.space))
  recorded_done none =
      let eden : ℕ = eden_start start.seat.space in
      (moves_front state (at_recorded end eden) (λ other place cell stood refers is.
      recorded_move end from eden other (λ was behind.
      let before = none other (still_recorded state other place cell stood was refers is) in
      absurd (omega (arith, before, behind))))).after

-- the scavenge goes on where one more recorded slot was followed
pub recorded_go_on : {start now new : Mutator} {handed : List SegmentCopies} {all : Bool} {before after : Progress}
    {todo left : List ℕ}
    {end slot : ℕ} {state : Scavenging start handed now all before todo (at_recorded end slot)}
    → HasFollowed start handed now new all before after todo left (at_recorded end slot) slot state
    → Scavenging start handed new all after left (at_recorded end (slot + 1))
recorded_go_on {end = end} {slot} has =
    (passes_slot (at_recorded end (slot + 1)) has (λ other place stood apart.
    recorded_move end slot (slot + 1) other (λ was behind. omega (arith, behind, apart)))).after
