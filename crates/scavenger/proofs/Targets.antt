-- What a live slot refers to among the words that are left.
use Rattle.std.proofs.Common.{ℕ, ◌+◌, ◌<◌, ◌≡◌, ◌⊎◌, inl, inr, List, Some, arith, sym, subst}
use Rattle.std.specs.List.{Contains}
use Rattle.tagged_word.specs.Readings.{reference_in}
use Rattle.tagged_word.proofs.Cells.{some_same}
use Rattle.tagged_word.proofs.Readings.{reference_to}
use Rattle.page_space.specs.Extents.{eden_start}
use Rattle.heap_model.specs.Types.{Run}
use Rattle.scav_copy.specs.declared.places.Home.{Home}
use Rattle.scav_copy.specs.Places.{Fixed, size_of, StoodAt}
use Rattle.scav_copy.specs.Renamings.{RefersToAddress}
use Rattle.scav_copy.specs.Copies.{Copying, IsKeptOrRenamed}
use Rattle.scav_copy.specs.Going.{IsFollowed}
use Rattle.scav_copy.proofs.Spots.{home_fits, home_itself, copy_in_room, from_is}
use Rattle.scav_copy.proofs.Continuing.{slots_are_followed}
use Rattle.scavenger.specs.Starts.{Start, IsBegun, IsSlotPlace, room_start}
use Rattle.scavenger.specs.Filling.{CopiesFillRooms}
use Rattle.scavenger.specs.Following.{IsFromSpace, IsTarget, SlotsHaveTargets}
use Rattle.scavenger.proofs.Sums.{room_for_one}
use Rattle.scavenger.proofs.TargetNumbers.{half_is_not_left, left_is_young}
use Rattle.scavenger.proofs.TargetCells.{IsInNewHalf, in_half_or_page, young_size, young_is_cell}

-- where the word of a live slot stood before, a slot stood
pub live_has_place : {fixed : Fixed} {words : List ℕ} {homes : List Home} (slot place : ℕ) → Copying fixed words homes
    → StoodAt fixed homes slot place → IsSlotPlace fixed place
live_has_place {fixed} slot place copying (StoodAt.itself there same) = inl (subst (Contains fixed.slots) same there)
live_has_place slot place copying (StoodAt.in_cell home offset there is e f) =
    inr (home.from, offset, from_is home copying there, is, f)

-- a word of the half that is filled, or of a page, is not left
room_not_left : {start : Start} (left at : ℕ) → start.half + left ≡ 1
    → IsInNewHalf start at ⊎ (at < eden_start start.heap.space) → IsFromSpace start.heap.space left at → ⊥
room_not_left {start} left at both (inl in_half) is_left =
    half_is_not_left start.heap.space start.half left at both in_half.from in_half.below is_left
room_not_left {start} left at both (inr below) is_left =
    omega (arith, below, left_is_young start.heap.space left at is_left)

-- a home is not left
pub home_is_not_left : {start : Start} {fixed : Fixed} {words : List ℕ} {homes : List Home} (left : ℕ)
    (home : Home) → IsBegun start fixed → start.half + left ≡ 1 → Copying fixed words homes → Contains homes home
    → IsFromSpace start.heap.space left home.to → ⊥
home_is_not_left left home begun both copying there =
    room_not_left left home.to both (in_half_or_page home.to begun
    (copy_in_room home home.to copying there (home_itself home begun.laid copying there)))

-- a word that refers to what is left was not renamed
kept_where_left : {start : Start} {fixed : Fixed} {words : List ℕ} {homes : List Home} {old new : ℕ}
    (left at : ℕ) → IsBegun start fixed → start.half + left ≡ 1 → Copying fixed words homes
    → reference_in new ≡ Some at → IsFromSpace start.heap.space left at → IsKeptOrRenamed homes old new → new ≡ old
kept_where_left left at begun both copying refers is_left (IsKeptOrRenamed.kept same) = same
kept_where_left {start} {new = new} left at begun both copying refers is_left
    (IsKeptOrRenamed.renamed home there was is) =
    let same : home.to ≡ at =
    some_same (reference_to new home.to (home_fits home begun.laid copying there) is) refers in
    absurd (home_is_not_left left home begun both copying there
    (subst (IsFromSpace start.heap.space left) (sym same) is_left))

-- what a live slot refers to, where that is left, its place referred to before
pub referred_before : {start : Start} {fixed : Fixed} {words : List ℕ} {homes : List Home}
    (left slot place at : ℕ) → IsBegun start fixed → start.half + left ≡ 1 → Copying fixed words homes
    → StoodAt fixed homes slot place → RefersToAddress words slot at → IsFromSpace start.heap.space left at
    → RefersToAddress fixed.before place at
referred_before left slot place at begun both copying stood refers is_left =
    let same = kept_where_left left at begun both copying refers is_left (copying.live slot place stood) in
    subst (λ (word : ℕ). reference_in word ≡ Some at) same refers

-- so it is one of the cells
pub left_is_cell : {start : Start} {fixed : Fixed} {words : List ℕ} {homes : List Home}
    (left slot place at : ℕ) → IsBegun start fixed → start.half + left ≡ 1 → Copying fixed words homes
    → StoodAt fixed homes slot place → RefersToAddress words slot at → IsFromSpace start.heap.space left at
    → Contains fixed.cells at
left_is_cell {start} left slot place at begun both copying stood refers is_left =
    begun.targets place at (live_has_place slot place copying stood)
    (referred_before left slot place at begun both copying stood refers is_left)
    (left_is_young start.heap.space left at is_left)

-- what is found there: the reference to a home, or the cell as it was, for which there is room
target_by : {start : Start} {fixed : Fixed} {words : List ℕ} {rows : List (List Run)} {homes : List Home} {fill : ℕ}
    (place at : ℕ) → IsBegun start fixed → CopiesFillRooms start fixed words rows homes fill
    → Contains fixed.cells at → RefersToAddress fixed.before place at → IsFollowed fixed words homes place at
    → IsTarget start.heap.space fixed words homes
    (room_start start.heap.space start.half + start.heap.space.sizes.young) fill at
target_by place at begun filled is was (IsFollowed.has_home home there refers before) =
    IsTarget.forwarded home there (some_same before was) refers
target_by {start} {fixed} {fill = fill} place at begun filled is was
    (IsFollowed.has_none none reached no_reference same) =
    let young = (begun.begins.cells at).0 is in
    let size : young.cell.size ≡ size_of fixed at = young_size begun young in
    IsTarget.unmoved young.cell no_reference (young_is_cell at begun filled.copying young same) young.stands size
    (omega (arith, size, room_for_one at begun filled is none)) none

-- each live slot that refers to what is left has a target there, and it is one of the cells
pub slots_have_targets : SlotsHaveTargets
slots_have_targets start left fixed words rows homes fill slot place at begun both filled stood refers is_left =
    let is = left_is_cell left slot place at begun both filled.copying stood refers is_left in (
      is,
      target_by place at begun filled is
          (referred_before left slot place at begun both filled.copying stood refers is_left)
          (slots_are_followed fixed words homes slot place at begun.laid filled.copying stood refers is),
    )
