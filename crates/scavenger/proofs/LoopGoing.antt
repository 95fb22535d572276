-- A scavenge goes on from one slot to the next: what stays, and how the front moves.
use Rattle.std.proofs.Common.{◌≡◌, ◌≢◌, ℕ, ◌+◌, ◌<◌, ◌≤◌, ◌⊎◌, inl, inr, Bool, List, Contains, sum_by}
use Rattle.std.proofs.Common.{refl, sym, ◌∙◌, ap, subst, arith}
use Rattle.std.proofs.lemmas.Bool.{cases_eq}
use Rattle.page_space.specs.Extents.{Space, eden_start, roots_start}
use Rattle.page_space.proofs.LawsHold.{kinds_by_number}
use Rattle.nursery.specs.Young.{Young, other_half}
use Rattle.write_barrier.specs.Seats.{heap_words}
use Rattle.write_barrier.specs.MutatorState.{Mutator}
use Rattle.scav_copy.specs.declared.places.Home.{Home}
use Rattle.scav_copy.specs.Places.{Fixed, size_of, StoodAt}
use Rattle.scav_copy.specs.Renamings.{RefersToAddress}
use Rattle.scav_copy.proofs.Spots.{copy_in_room, slot_in_cell, within_by}
use Rattle.scavenger.specs.declared.spaces.Spaces.{Spaces}
use Rattle.scavenger.specs.declared.progress.Progress.{Progress}
use Rattle.scavenger.specs.Starts.{SegmentCopies, IsRootAt, start_with}
use Rattle.scavenger.specs.Filling.{Front, IsToDo, ChangesWords}
use Rattle.scavenger.specs.Walking.{AreSpaces, room_end, Scavenging, MayFollow, HasGrown, HasFollowed}
use Rattle.scavenger.proofs.Sums.{few_filled, few_homes, homes_are, sum_of_homes}
use Rattle.scavenger.proofs.TargetCells.{in_half_or_page, recorded_below}
use Rattle.scavenger.proofs.TargetNumbers.{half_below_roots}

-- the spaces stay where only heap words change
pub same_spaces : {old new : Mutator} {all : Bool} (spaces : Spaces) → ChangesWords old new
    → AreSpaces old.seat.space old.young.half all spaces → AreSpaces new.seat.space new.young.half all spaces
same_spaces {old} {new} {all} spaces changes are =
    subst (λ (space : Space). AreSpaces space new.young.half all spaces) (sym changes.seat.space)
    (subst (λ (young : Young). AreSpaces old.seat.space young.half all spaces) (sym changes.young) are)

-- and so has the young generation as many words
pub same_young : {old new : Mutator} → ChangesWords old new
    → new.seat.space.sizes.young ≡ old.seat.space.sizes.young
same_young changes = ap (λ (space : Space). space.sizes.young) changes.seat.space

-- and eden begins where it did
pub same_eden : {old new : Mutator} → ChangesWords old new → eden_start new.seat.space ≡ eden_start old.seat.space
same_eden changes = ap (λ (space : Space). eden_start space) changes.seat.space

-- what is changed between two states that both come from a first one
pub changes_since : {first old new : Mutator} → ChangesWords first old → ChangesWords first new
    → ChangesWords old new
changes_since {first} {old} {new} before now = record {
  seat = record {
    space = now.seat.space ∙ sym before.seat.space;
    phase = now.seat.phase ∙ sym before.seat.phase;
    count = now.seat.count ∙ sym before.seat.count;
    shared = now.seat.shared ∙ sym before.seat.shared;
    home = now.seat.home ∙ sym before.seat.home;
    out = now.seat.out ∙ sym before.seat.out;
    lent = now.seat.lent ∙ sym before.seat.lent;
    marks = now.seat.marks ∙ sym before.seat.marks;
  };
  paths = now.paths ∙ sym before.paths;
  cycle = now.cycle ∙ sym before.cycle;
  young = now.young ∙ sym before.young;
  count = now.count ∙ sym before.count;
  bound = now.bound ∙ sym before.bound;
  rows = now.rows ∙ sym before.rows;
}

-- no word was copied, and the list is the same
pub grows_nothing : (progress : Progress) (todo : List ℕ) → HasGrown progress progress todo todo
grows_nothing progress todo = record { more = omega arith; grows = omega arith }

-- growth after growth
pub grows_again : {before mid after : Progress} {todo between left : List ℕ} → HasGrown before mid todo between
    → HasGrown mid after between left → HasGrown before after todo left
grows_again first then = record {
  more = omega (arith, first.more, then.more);
  grows = omega (arith, first.grows, then.grows);
}

-- The scavenge is the same with another front.
pub record HasFront {start now : Mutator} {handed : List SegmentCopies} {all : Bool} {progress : Progress}
    {todo : List ℕ} {front : Front}
    (state : Scavenging start handed now all progress todo front) (next : Front) : Type 0 where
  pub after : Scavenging start handed now all progress todo next
  pub fixed : after.fixed ≡ state.fixed
  pub homes : after.homes ≡ state.homes

module _ {start now : Mutator} {handed : List SegmentCopies} {all : Bool} {progress : Progress} {todo : List ℕ}
    {front : Front}
    (state : Scavenging start handed now all progress todo front) where
  -- the copies of the segment end in the room, or where it ends
  pub fill_in_room : progress.fill ≤ room_end start.seat.space (other_half start.young.half)
  fill_in_room = omega (arith, few_filled state.begun state.filled, state.begun.whole.rows.few)

  -- no more words were copied than the young generation has
  pub copied_few : progress.copied ≤ start.seat.space.sizes.young
  copied_few =
      let fixed : Fixed = state.fixed in
      let few : sum_of_homes (size_of fixed) state.homes ≤ sum_by (size_of fixed) fixed.cells =
      few_homes (size_of fixed) fixed.cells state.homes state.begun.ascend state.filled.copying.ascend
      (homes_are state.filled) in
      omega (arith, few, state.copied, state.begun.counted, state.begun.whole.rows.few)

  -- a live slot may be followed
  pub may_follow : (slot place : ℕ) → StoodAt state.fixed state.homes slot place → MayFollow now all progress todo slot
  may_follow slot place stood = record {
    start = start;
    handed = handed;
    front = front;
    scavenging = state;
    place = place;
    stood = stood;
  }

  -- a slot of a copy stands before the roots
  in_copy_before : (slot : ℕ) (home : Home) (offset : ℕ) → Contains state.homes home
      → offset < size_of state.fixed home.from → home.to + offset ≡ slot → slot < roots_start start.seat.space
  in_copy_before slot home offset there less is =
      let space : Space = start.seat.space in
      let room = copy_in_room home slot state.filled.copying there
      (within_by home.to (size_of state.fixed home.from) offset slot less is) in
      elim (in_half_or_page slot state.begun room) [
        | inl in_half ↦
            omega (arith, in_half.below, half_below_roots space (other_half start.young.half) state.begun.is_half)
        | inr page ↦ omega (arith, page, (kinds_by_number space).roots)
      ]

  -- a live slot is the first root word of a variable, or stands before all root words
  pub root_or_before : (slot place : ℕ) → StoodAt state.fixed state.homes slot place
      → IsRootAt start.seat.space slot ⊎ (slot < roots_start start.seat.space)
  root_or_before slot place (StoodAt.itself there same) = elim ((state.begun.begins.slots slot).0 there) [
    | inl root ↦ inl root
    | inr recorded ↦
        let below = recorded_below slot state.begun recorded in
        inr (omega (arith, below, (kinds_by_number start.seat.space).roots))
  ]
  root_or_before slot place (StoodAt.in_cell home offset there is e f) =
      inr (in_copy_before slot home offset there (slot_in_cell state.fixed home.from offset is).1 e)

  -- the front may move where each live slot that was to do and refers to one of the cells still is
  pub moves_front : (next : Front)
      → ((slot place cell : ℕ) → StoodAt state.fixed state.homes slot place
      → RefersToAddress (heap_words now.seat) slot cell → Contains state.fixed.cells cell
      → IsToDo (start_with start handed) state.fixed state.homes todo front slot
      → IsToDo (start_with start handed) state.fixed state.homes todo next slot)
      → HasFront state next
  moves_front next moves = record {
    after = record {
      fixed = state.fixed;
      homes = state.homes;
      two = state.two;
      bounded = state.bounded;
      quiet = state.quiet;
      begun = state.begun;
      filled = state.filled;
      copied = state.copied;
      placed = state.placed;
      kept = state.kept;
      listed = state.listed;
      few = state.few;
      others = λ slot place cell stood refers is.
          moves slot place cell stood refers is (state.others slot place cell stood refers is);
      changes = state.changes;
    };
    fixed = refl;
    homes = refl;
  }

-- behind a slot that was followed, the front may move past it
pub passes_slot : {start old new : Mutator} {handed : List SegmentCopies} {all : Bool} {before after : Progress}
    {todo left : List ℕ} {front : Front}
    {slot : ℕ} {state : Scavenging start handed old all before todo front} (next : Front)
    (has : HasFollowed start handed old new all before after todo left front slot state)
    → ((other place : ℕ) → StoodAt has.on.next.fixed has.on.next.homes other place → other ≢ slot
    → IsToDo (start_with start handed) has.on.next.fixed has.on.next.homes left front other
    → IsToDo (start_with start handed) has.on.next.fixed has.on.next.homes left next other)
    → HasFront has.on.next next
passes_slot {new = new} {slot = slot} next has moves =
    moves_front has.on.next next (λ other place cell stood refers is to_do.
    elim (cases_eq other slot) [
      | inl same ↦
          absurd (has.done place cell
          (subst (λ (one : ℕ). StoodAt has.on.next.fixed has.on.next.homes one place) same stood)
          (subst (λ (one : ℕ). RefersToAddress (heap_words new.seat) one cell) same refers) is)
      | inr apart ↦ moves other place stood apart to_do
    ])
