-- The slots of a copy are followed, one after another.
use Rattle.std.proofs.Common.{◌≡◌, ℕ, ◌+◌, ◌<◌, ◌≤◌, Bool, List}
use Rattle.std.proofs.Common.{refl, sym, ◌∙◌, ap, subst, arith}
use Rattle.std.specs.List.{All, Contains}
use Rattle.std.proofs.lemmas.List.Elements.{All-contains}
use Rattle.tagged_word.specs.Cells.{scavenge_offsets}
use Rattle.tagged_word.proofs.Cells.{slot_within}
use Rattle.page_space.specs.Extents.{marks_start}
use Rattle.cell_layout.specs.Slots.{IsLeastFrom}
use Rattle.heap_model.specs.Types.{Cell}
use Rattle.write_barrier.specs.MutatorState.{Mutator}
use Rattle.scav_copy.specs.declared.places.Home.{Home}
use Rattle.scav_copy.specs.Places.{Fixed, size_of, offsets_of, IsInCopy, StoodAt}
use Rattle.scav_copy.proofs.Reading.{copies_end}
use Rattle.scav_copy.proofs.Spots.{copy_in_room, slot_in_cell, within_by}
use Rattle.write_barrier.specs.Seats.{heap_words}
use Rattle.scavenger.specs.declared.progress.Progress.{Progress}
use Rattle.scavenger.specs.Starts.{Start, SegmentCopies}
use Rattle.scavenger.specs.Filling.{Front, IsToDo}
use Rattle.scavenger.specs.Walking.{Scavenging, HasFollowed, HasGrown, IsCopyOf, IsScanned, at_copy}
use Rattle.scavenger.proofs.PagesCells.{as_long}
use Rattle.scavenger.proofs.LoopGoing.{HasFront, moves_front, passes_slot}

-- what was at hand is so from another address on
at_hand_moves : {start : Start} {fixed : Fixed} {homes : List Home} {todo : List ℕ} (end eden from next to other : ℕ)
    → (from ≤ other → other < to → next ≤ other) → IsToDo start fixed homes todo (at_copy end eden from to) other
    → IsToDo start fixed homes todo (at_copy end eden next to) other
at_hand_moves end eden from next to other on (IsToDo.root behind) = IsToDo.root behind
at_hand_moves end eden from next to other on (IsToDo.recorded behind below there) =
    IsToDo.recorded behind below there
at_hand_moves end eden from next to other on (IsToDo.at_hand above below) = IsToDo.at_hand (on above below) below
at_hand_moves end eden from next to other on (IsToDo.left there) = IsToDo.left there
at_hand_moves end eden from next to other on (IsToDo.listed home there listed inside) =
    IsToDo.listed home there listed inside

-- and where none is, nothing need be at hand
none_at_hand : {start : Start} {fixed : Fixed} {homes : List Home} {todo : List ℕ} (end eden from to other : ℕ)
    → (from ≤ other → other < to → ⊥) → IsToDo start fixed homes todo (at_copy end eden from to) other
    → IsToDo start fixed homes todo (at_copy end eden 0 0) other
none_at_hand end eden from to other none (IsToDo.root behind) = IsToDo.root behind
none_at_hand end eden from to other none (IsToDo.recorded behind below there) = IsToDo.recorded behind below there
none_at_hand end eden from to other none (IsToDo.at_hand above below) = absurd (none above below)
none_at_hand end eden from to other none (IsToDo.left there) = IsToDo.left there
none_at_hand end eden from to other none (IsToDo.listed home there listed inside) =
    IsToDo.listed home there listed inside

-- a copy of a cell is one where the cells are the same
same_copy : {fixed other : Fixed} {home : Home} {cell : Cell} → other ≡ fixed → IsCopyOf fixed home cell
    → IsCopyOf other home cell
same_copy {home = home} {cell} same is = subst (λ (one : Fixed). IsCopyOf one home cell) (sym same) is

-- A copy is scanned further on, and the list grew little.
pub record ScansOn (start : Mutator) (handed : List SegmentCopies) (new : Mutator) (all : Bool)
    (before after : Progress) (todo left : List ℕ) (cell : Cell)
    (front : Front) : Type 0 where
  pub scanned : IsScanned start handed new all after left cell front
  pub grown : HasGrown before after todo left

module _ {start now : Mutator} {handed : List SegmentCopies} {all : Bool} {progress : Progress} {todo : List ℕ}
    {cell : Cell} {front : Front}
    (scanned : IsScanned start handed now all progress todo cell front) where
  -- the copy ends before the marks
  pub copy_ends : cell.at + cell.size ≤ marks_start start.seat.space
  copy_ends =
      let state = scanned.scavenging in
      let copying = state.filled.copying in
      let end = copies_end state.fixed (heap_words now.seat) state.homes scanned.home state.begun.laid copying
      scanned.among in
      omega (arith, end, as_long state.begun copying, scanned.is.stands, scanned.is.size)

  -- an address in the cell is one of the copy's
  in_copy : (at : ℕ) → cell.at ≤ at → at < cell.at + cell.size → IsInCopy scanned.scavenging.fixed scanned.home at
  in_copy at from below = record {
    from = omega (arith, scanned.is.stands, from);
    below = omega (arith, scanned.is.stands, scanned.is.size, below);
  }

  -- a live slot in the words of the copy is one of its slots
  copy_slot : (other place : ℕ) → StoodAt scanned.scavenging.fixed scanned.scavenging.homes other place
      → cell.at ≤ other → other < cell.at + cell.size
      → (offset : ℕ) × Contains (scavenge_offsets cell.layout cell.length) offset × (cell.at + offset ≡ other)
  copy_slot other place (StoodAt.itself there same) above below =
      let state = scanned.scavenging in
      absurd (state.begun.laid.slot_in_no_room other there
      (copy_in_room scanned.home other state.filled.copying scanned.among (in_copy other above below)))
  copy_slot other place (StoodAt.in_cell home offset there is e f) above below =
      let state = scanned.scavenging in
      let fixed : Fixed = state.fixed in
      let inside = slot_in_cell fixed home.from offset is in
      let same : home ≡ scanned.home =
      state.filled.copying.apart home scanned.home other there scanned.among
      (within_by home.to (size_of fixed home.from) offset other inside.1 e) (in_copy other above below) in
      let at : home.to ≡ cell.at = ap (λ (one : Home). one.to) same ∙ scanned.is.stands in (
        offset,
        subst (λ (all : List ℕ). Contains all offset) scanned.is.offsets
            (subst (λ (one : Home). Contains (offsets_of fixed one.from) offset) same is),
        omega (arith, at, e),
      )

  -- an offset of the cell's is one of the copy's
  of_copy : (offset : ℕ) → Contains (scavenge_offsets cell.layout cell.length) offset
      → Contains (offsets_of scanned.scavenging.fixed scanned.home.from) offset
  of_copy offset there = subst (λ (all : List ℕ). Contains all offset) (sym scanned.is.offsets) there

  -- and lies in it
  pub offset_in_cell : (offset : ℕ) → Contains (scavenge_offsets cell.layout cell.length) offset
      → offset < cell.size
  offset_in_cell offset there =
      let inside = slot_in_cell scanned.scavenging.fixed scanned.home.from offset (of_copy offset there) in
      omega (arith, inside.1, scanned.is.size)

  -- behind the header
  pub slot_behind : (offset : ℕ) → Contains (scavenge_offsets cell.layout cell.length) offset → 1 ≤ offset
  slot_behind offset there =
      (slot_within cell.layout cell.length cell.size offset scanned.is.sized.is_layout scanned.is.sized.sized there).0

  -- so the slot there is live
  pub slot_is_live : (offset slot : ℕ) → Contains (scavenge_offsets cell.layout cell.length) offset
      → slot ≡ cell.at + offset
      → StoodAt scanned.scavenging.fixed scanned.scavenging.homes slot (scanned.home.from + offset)
  slot_is_live offset slot there is =
      StoodAt.in_cell scanned.home offset scanned.among (of_copy offset there)
      (omega (arith, scanned.is.stands, is)) refl

module _ {start now : Mutator} {handed : List SegmentCopies} {all : Bool} {progress : Progress} {todo : List ℕ}
    {cell : Cell} {end eden : ℕ}
    (from : ℕ)
    (scanned : IsScanned start handed now all progress todo cell
    (at_copy end eden (cell.at + from) (cell.at + cell.size)))
  where
    -- before the next slot none is to do
    reaches_slot : (offset slot : ℕ) → IsLeastFrom (scavenge_offsets cell.layout cell.length) from offset
        → slot ≡ cell.at + offset
        → HasFront scanned.scavenging (at_copy end eden slot (cell.at + cell.size))
    reaches_slot offset slot least is =
        let to : ℕ = cell.at + cell.size in
        moves_front scanned.scavenging (at_copy end eden slot to) (λ other place target stood refers of_cells.
        at_hand_moves end eden (cell.at + from) slot to other (λ above below.
        let one = copy_slot scanned other place stood (omega (arith, above)) below in
        let first = least.least one.0 one.1 (omega (arith, above, one.2)) in
        omega (arith, first, one.2, is)))

    -- and once that was followed, those behind it are to do
    pub slots_go_on : (new : Mutator) (after : Progress) (left : List ℕ) (offset slot : ℕ)
        → IsLeastFrom (scavenge_offsets cell.layout cell.length) from offset → slot ≡ cell.at + offset
        → ((front : Front) (state : Scavenging start handed now all progress todo front) (place : ℕ)
        → StoodAt state.fixed state.homes slot place
        → HasFollowed start handed now new all progress after todo left front slot state)
        → ScansOn start handed new all progress after todo left cell
        (at_copy end eden (cell.at + (offset + 1)) (cell.at + cell.size))
    slots_go_on new after left offset slot least is followed =
        let to : ℕ = cell.at + cell.size in
        let next : ℕ = cell.at + (offset + 1) in
        let at_slot = reaches_slot offset slot least is in
        let Live : Fixed → List Home → Type 0 = λ fixed homes. StoodAt fixed homes slot (scanned.home.from + offset) in
        let live : Live at_slot.after.fixed at_slot.after.homes =
        subst (λ (fixed : Fixed). Live fixed at_slot.after.homes) (sym at_slot.fixed)
        (subst (Live scanned.scavenging.fixed) (sym at_slot.homes) (slot_is_live scanned offset slot least.among is)) in
        let has = followed (at_copy end eden slot to) at_slot.after (scanned.home.from + offset) live in
        let step = passes_slot (at_copy end eden next to) has (λ other place stood apart.
        at_hand_moves end eden slot next to other (λ above below. omega (arith, above, apart, is))) in
        let home : Home = scanned.home in
        let was : Contains at_slot.after.homes home =
        subst (λ (homes : List Home). Contains homes home) (sym at_slot.homes) scanned.among in
        record {
          scanned = record {
            scavenging = step.after;
            home = home;
            among = subst (λ (homes : List Home). Contains homes home) (sym step.homes) (has.on.kept home was);
            is = same_copy (step.fixed ∙ has.on.same ∙ at_slot.fixed) scanned.is;
          };
          grown = has.on.grown;
        }

    -- where none stands before an offset, those from there on are to do
    pub slots_pass : (next : ℕ)
        → ((other : ℕ) → Contains (scavenge_offsets cell.layout cell.length) other → from ≤ other → next ≤ other)
        → IsScanned start handed now all progress todo cell (at_copy end eden (cell.at + next) (cell.at + cell.size))
    slots_pass next none =
        let to : ℕ = cell.at + cell.size in
        let moved = moves_front scanned.scavenging (at_copy end eden (cell.at + next) to)
        (λ other place target stood refers of_cells.
        at_hand_moves end eden (cell.at + from) (cell.at + next) to other (λ above below.
        let one = copy_slot scanned other place stood (omega (arith, above)) below in
        let first = none one.0 one.1 (omega (arith, above, one.2)) in
        omega (arith, first, one.2))) in
        record {
          scavenging = moved.after;
          home = scanned.home;
          among = subst (λ (homes : List Home). Contains homes scanned.home) (sym moved.homes) scanned.among;
          is = same_copy moved.fixed scanned.is;
        }

    -- where no slot is left, the copy is done
    pub slots_done : All (λ offset. offset < from) (scavenge_offsets cell.layout cell.length)
        → Scavenging start handed now all progress todo (at_copy end eden 0 0)
    slots_done done =
        let to : ℕ = cell.at + cell.size in
        (moves_front scanned.scavenging (at_copy end eden 0 0) (λ other place target stood refers of_cells.
        none_at_hand end eden (cell.at + from) to other (λ above below.
        let one = copy_slot scanned other place stood (omega (arith, above)) below in
        let less : one.0 < from =
        All-contains (λ offset. offset < from) (scavenge_offsets cell.layout cell.length) one.0 done one.1 in
        omega (arith, less, above, one.2)))).after
