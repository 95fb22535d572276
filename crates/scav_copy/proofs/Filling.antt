-- The start of copying, and words that are stored in rooms.
use Rattle.std.proofs.Common.{ℕ, ◌<◌, ◌+◌, ◌≡◌, ◌≢◌, List, [], get_or, arith, refl, sym, subst, ◌∙◌}
use Rattle.std.specs.List.{Contains}
use Rattle.std.proofs.lemmas.List.{length-set}
use Rattle.scav_copy.specs.declared.places.Home.{Home}
use Rattle.scav_copy.specs.Places.{Fixed, size_of, IsInRooms, IsInCopies, IsLaidOut}
use Rattle.scav_copy.specs.Places.{StoodAt, IsInRange}
use Rattle.scav_copy.specs.Copies.{HasHeader, IsKeptOrRenamed}
use Rattle.scav_copy.specs.CopyLaws.{StartIsCopying, RoomsMayBeFilled}
use Rattle.scav_copy.proofs.Spots.{none_in, slot_in_cell, cell_itself, within_by, elsewhere, same_word}

-- with no home, a live slot is one of `slots` and stood where it is
start_live : {fixed : Fixed} (slot place : ℕ) → StoodAt fixed [] slot place
    → IsKeptOrRenamed [] (get_or fixed.before place 0) (get_or fixed.before slot 0)
start_live {fixed} slot place (StoodAt.itself there same) =
    IsKeptOrRenamed.kept (subst (λ (at : ℕ). get_or fixed.before slot 0 ≡ get_or fixed.before at 0) same refl)
start_live slot place (StoodAt.in_cell home offset there is e f) = absurd (none_in home there)

-- words as before, with no home, are copying
pub start_is_copying : StartIsCopying
start_is_copying fixed = record {
  long = refl;
  ascend = λ i j d less within. absurd (omega arith);
  reached = λ home there. absurd (none_in home there);
  housed = λ home there. absurd (none_in home there);
  apart = λ one other at there. absurd (none_in one there);
  headers = λ cell there. HasHeader.unmoved (λ home inside. absurd (none_in home inside)) refl;
  bodies = λ cell offset there low high. refl;
  copied = λ home offset there. absurd (none_in home there);
  live = start_live;
  outside = λ at no_cell no_slot no_room. refl;
}

-- the header of a cell stands where the word is the same
pub same_header : {fixed : Fixed} {words others : List ℕ} {homes : List Home} {cell : ℕ}
    → get_or others cell 0 ≡ get_or words cell 0 → HasHeader fixed words homes cell → HasHeader fixed others homes cell
same_header e (HasHeader.forwarded home there of is) = HasHeader.forwarded home there of (e ∙ is)
same_header e (HasHeader.unmoved none is) = HasHeader.unmoved none (e ∙ is)

-- a word of a room is no word of a cell
room_is_no_cell : {fixed : Fixed} (at cell offset : ℕ) → IsLaidOut fixed → IsInRooms fixed at
    → Contains fixed.cells cell
    → offset < size_of fixed cell → cell + offset ≢ at
room_is_no_cell {fixed} at cell offset laid in_room there less same =
    laid.cell_in_no_room at (cell, there, within_by cell (size_of fixed cell) offset at less same) in_room

-- a word in no home copy is none of this copy
free_is_no_copy : (fixed : Fixed) (homes : List Home) (at : ℕ) (home : Home) (offset : ℕ)
    → (IsInCopies fixed homes at → ⊥) → Contains homes home → offset < size_of fixed home.from
    → home.to + offset ≢ at
free_is_no_copy fixed homes at home offset free there less same =
    free (home, there, within_by home.to (size_of fixed home.from) offset at less same)

-- nor a live slot
pub free_is_not_live : {fixed : Fixed} {homes : List Home} (at slot place : ℕ) → IsLaidOut fixed → IsInRooms fixed at
    → (IsInCopies fixed homes at → ⊥) → StoodAt fixed homes slot place → slot ≢ at
free_is_not_live {fixed} at slot place laid in_room free (StoodAt.itself there same) is =
    laid.slot_in_no_room at (subst (Contains fixed.slots) is there) in_room
free_is_not_live {fixed} {homes} at slot place laid in_room free (StoodAt.in_cell home offset there slot_is e f) is =
    free_is_no_copy fixed homes at home offset free there (slot_in_cell fixed home.from offset slot_is).1 (e ∙ is)

-- a word of a room that is in no home copy may become any
pub rooms_may_be_filled : RoomsMayBeFilled
rooms_may_be_filled fixed words homes at word laid copying in_room free = record {
  long = length-set words at word ∙ copying.long;
  ascend = copying.ascend;
  reached = copying.reached;
  housed = copying.housed;
  apart = copying.apart;
  headers = λ cell there.
      let other : cell ≢ at = λ same.
      laid.cell_in_no_room at
      (cell, there, subst (IsInRange cell (size_of fixed cell)) same (cell_itself cell laid there))
      in_room in
      same_header (elsewhere words at word cell other) (copying.headers cell there);
  bodies = λ cell offset there low high.
      elsewhere words at word (cell + offset) (room_is_no_cell at cell offset laid in_room there high)
      ∙ copying.bodies cell offset there low high;
  copied = λ home offset there less no_slot.
      elsewhere words at word (home.to + offset) (free_is_no_copy fixed homes at home offset free there less)
      ∙ copying.copied home offset there less no_slot;
  live = λ slot place stood.
      same_word (elsewhere words at word slot (free_is_not_live at slot place laid in_room free stood))
      (copying.live slot place stood);
  outside = λ other no_cell no_slot no_room.
      let apart : other ≢ at = λ same. no_room (subst (IsInRooms fixed) (sym same) in_room) in
      elsewhere words at word other apart ∙ copying.outside other no_cell no_slot no_room;
}
