-- Live slots: the one place where each stood, what they refer to, and the reference to a home that one gets.
use Rattle.std.proofs.Common.{ℕ, ◌<◌, ◌≤◌, ◌+◌, ◌≡◌, ◌≢◌, ◌⊎◌, inl, inr, List, length, set}
use Rattle.std.proofs.Common.{get_or, Some, arith, sym, ap}
use Rattle.std.proofs.Common.{subst, ◌∙◌}
use Rattle.std.specs.List.{Contains}
use Rattle.std.proofs.lemmas.Bool.{cases_lt}
use Rattle.std.proofs.lemmas.List.{length-set, get_or-set_same}
use Rattle.tagged_word.specs.declared.word.Class.TheVariants.{Ref}
use Rattle.tagged_word.specs.Words.{bits_of}
use Rattle.tagged_word.specs.Readings.{reference_in}
use Rattle.tagged_word.proofs.Readings.{reference_from}
use Rattle.scav_copy.specs.declared.places.Home.{Home}
use Rattle.scav_copy.specs.Places.{Fixed, size_of, offsets_of, IsInCopy, IsInCells, IsInRooms, IsLaidOut, StoodAt}
use Rattle.scav_copy.specs.Renamings.{IsReachable, RefersToAddress}
use Rattle.scav_copy.specs.Copies.{Copying, IsKeptOrRenamed}
use Rattle.scav_copy.specs.CopyLaws.{LiveSlotsHaveOneOrigin, LiveSlotsReferAsBefore, SlotsMayBeRenamed}
use Rattle.scav_copy.proofs.Spots.{slot_in_cell, some_words, within_by, copy_in_room, live_in_no_cell}
use Rattle.scav_copy.proofs.Spots.{live_is_there, home_is_no_cell, elsewhere, same_word}
use Rattle.scav_copy.proofs.Filling.{same_header}

-- a slot of a copy is in it
slot_in_copy : (fixed : Fixed) (home : Home) (offset slot : ℕ) → Contains (offsets_of fixed home.from) offset
    → home.to + offset ≡ slot → IsInCopy fixed home slot
slot_in_copy fixed home offset slot is e =
    within_by home.to (size_of fixed home.from) offset slot (slot_in_cell fixed home.from offset is).1 e

-- one of `slots` is in no home copy
slot_in_no_copy : {fixed : Fixed} {words : List ℕ} {homes : List Home} (slot : ℕ) (home : Home) → IsLaidOut fixed
    → Copying fixed words homes → Contains fixed.slots slot → Contains homes home → IsInCopy fixed home slot → ⊥
slot_in_no_copy slot home laid copying there among has =
    laid.slot_in_no_room slot there (copy_in_room home slot copying among has)

-- a slot of one copy stood at one place
one_place : (one other : Home) (first second slot here place : ℕ) → one ≡ other → one.to + first ≡ slot
    → other.to + second ≡ slot → one.from + first ≡ here → other.from + second ≡ place → here ≡ place
one_place one other first second slot here place same e f g h =
    let to : one.to ≡ other.to = ap (λ (home : Home). home.to) same in
    let from : one.from ≡ other.from = ap (λ (home : Home). home.from) same in
    omega arith

-- the word of a live slot stood at one place
pub one_origin : LiveSlotsHaveOneOrigin
one_origin fixed words homes slot one other laid copying (StoodAt.itself there same) (StoodAt.itself also is) =
    sym same ∙ is
one_origin fixed words homes slot one other laid copying (StoodAt.itself there same)
    (StoodAt.in_cell home offset among is e f) =
    absurd (slot_in_no_copy slot home laid copying there among (slot_in_copy fixed home offset slot is e))
one_origin fixed words homes slot one other laid copying (StoodAt.in_cell home offset among is e f)
    (StoodAt.itself there same) =
    absurd (slot_in_no_copy slot home laid copying there among (slot_in_copy fixed home offset slot is e))
one_origin fixed words homes slot one other laid copying
    (StoodAt.in_cell home offset among is e f) (StoodAt.in_cell second further also has g h) =
    one_place home second offset further slot one other
    (copying.apart home second slot among also (slot_in_copy fixed home offset slot is e)
    (slot_in_copy fixed second further slot has g)) e g f h

-- a cell that stood in a live slot is reached
pub origin_reached : {fixed : Fixed} {words : List ℕ} {homes : List Home} (slot place cell : ℕ)
    → Copying fixed words homes
    → StoodAt fixed homes slot place → RefersToAddress fixed.before place cell → Contains fixed.cells cell
    → IsReachable fixed cell
origin_reached {fixed} slot place cell copying (StoodAt.itself there same) refers is =
    IsReachable.by_slot slot cell there (subst (λ (at : ℕ). RefersToAddress fixed.before at cell) (sym same) refers) is
origin_reached {fixed} slot place cell copying (StoodAt.in_cell home offset there slot_is e f) refers is =
    IsReachable.by_cell home.from offset cell (copying.reached home there) slot_is
    (subst (λ (at : ℕ). RefersToAddress fixed.before at cell) (sym f) refers) is

-- a word that refers to one of the cells is as it was
not_renamed : {fixed : Fixed} {words : List ℕ} {homes : List Home} {old new : ℕ} (cell : ℕ) → IsLaidOut fixed
    → Copying fixed words homes → Contains fixed.cells cell → reference_in new ≡ Some cell
    → IsKeptOrRenamed homes old new
    → new ≡ old
not_renamed cell laid copying is refers (IsKeptOrRenamed.kept same) = same
not_renamed {new = new} cell laid copying is refers (IsKeptOrRenamed.renamed home there was now) =
    absurd (home_is_no_cell home new cell laid copying there now refers is)

-- a live slot that refers to one of the cells holds the word of before, and the cell is reached
pub as_before : LiveSlotsReferAsBefore
as_before fixed words homes slot place cell laid copying stood refers is =
    let same : get_or words slot 0 ≡ get_or fixed.before place 0 =
    not_renamed cell laid copying is refers (copying.live slot place stood) in (
      same,
      origin_reached slot place cell copying stood
          (subst (λ (word : ℕ). reference_in word ≡ Some cell) same refers) is,
    )

-- a word of a copy that is no slot is no live slot
plain_is_not_live : {fixed : Fixed} {words : List ℕ} {homes : List Home} (slot place : ℕ) (home : Home) (offset : ℕ)
    → IsLaidOut fixed → Copying fixed words homes → StoodAt fixed homes slot place → Contains homes home
    → offset < size_of fixed home.from → (Contains (offsets_of fixed home.from) offset → ⊥) → home.to + offset ≢ slot
plain_is_not_live {fixed} slot place home offset laid copying (StoodAt.itself there same) among less no_slot e =
    slot_in_no_copy slot home laid copying there among (within_by home.to (size_of fixed home.from) offset slot less e)
plain_is_not_live {fixed} slot place home offset laid copying (StoodAt.in_cell other further there is f g) among less
    no_slot e =
    let same : other ≡ home = copying.apart other home slot there among (slot_in_copy fixed other further slot is f)
    (within_by home.to (size_of fixed home.from) offset slot less e) in
    let to : other.to ≡ home.to = ap (λ (one : Home). one.to) same in
    let equal : further ≡ offset = omega arith in
    no_slot (subst (Contains (offsets_of fixed home.from)) equal
    (subst (λ (one : Home). Contains (offsets_of fixed one.from) further) same is))

-- the slot that gets the reference is renamed, and every other is as it was
redirected : {fixed : Fixed} {words : List ℕ} {homes : List Home} (slot place : ℕ) (home : Home) (other origin : ℕ)
    → IsLaidOut fixed → Copying fixed words homes → StoodAt fixed homes slot place → Contains homes home
    → RefersToAddress fixed.before place home.from → StoodAt fixed homes other origin → (other ≡ slot) ⊎ (other ≢ slot)
    → IsKeptOrRenamed homes (get_or fixed.before origin 0) (get_or (set words slot (bits_of (Ref home.to))) other 0)
redirected {fixed} {words} {homes} slot place home other origin laid copying stood among refers also (inl same) =
    let word : ℕ = bits_of (Ref home.to) in
    let origins : origin ≡ place = one_origin fixed words homes slot origin place laid copying
    (subst (λ (at : ℕ). StoodAt fixed homes at origin) same also) stood in
    let there : slot < length words =
    subst (λ (long : ℕ). slot < long) (sym copying.long) (live_is_there slot place laid copying stood) in
    IsKeptOrRenamed.renamed home among
    (ap (λ (at : ℕ). get_or fixed.before at 0) origins
    ∙ (reference_from (get_or fixed.before place 0) home.from refers).1)
    (ap (λ (at : ℕ). get_or (set words slot word) at 0) same ∙ get_or-set_same words slot word 0 there)
redirected {words = words} slot place home other origin laid copying stood among refers also (inr apart) =
    same_word (elsewhere words slot (bits_of (Ref home.to)) other apart) (copying.live other origin also)

-- a word that is no slot and in no room is no live slot
live_is_inside : {fixed : Fixed} {words : List ℕ} {homes : List Home} (at slot place : ℕ) → Copying fixed words homes
    → StoodAt fixed homes slot place → (Contains fixed.slots at → ⊥) → (IsInRooms fixed at → ⊥) → at ≢ slot
live_is_inside {fixed} at slot place copying (StoodAt.itself there origin) no_slot no_room same =
    no_slot (subst (Contains fixed.slots) (sym same) there)
live_is_inside {fixed} at slot place copying (StoodAt.in_cell home offset there is e f) no_slot no_room same =
    no_room (subst (IsInRooms fixed) (sym same)
    (copy_in_room home slot copying there (slot_in_copy fixed home offset slot is e)))

-- two numbers are equal or not
pub equal_or_not : (one other : ℕ) → (one ≡ other) ⊎ (one ≢ other)
equal_or_not one other =
    elim (cases_lt one other) [
      | inl less ↦ inr (λ same. omega arith)
      | inr more ↦ elim (cases_lt other one) [ inl less ↦ inr (λ same. omega arith) | inr both ↦ inl (omega arith) ]
    ]

-- a live slot that referred to a cell before may become the reference to the cell's home
pub slots_may_be_renamed : SlotsMayBeRenamed
slots_may_be_renamed fixed words homes slot place home laid copying stood among refers =
    let word : ℕ = bits_of (Ref home.to) in
    let no_cell : IsInCells fixed slot → ⊥ = live_in_no_cell slot place laid copying stood in
    record {
      long = length-set words slot word ∙ copying.long;
      ascend = copying.ascend;
      reached = copying.reached;
      housed = copying.housed;
      apart = copying.apart;
      headers = λ cell there.
          let some : 1 ≤ size_of fixed cell = some_words cell laid there in
          let other : cell ≢ slot = λ same.
          no_cell (cell, there, record { from = omega arith; below = omega arith }) in
          same_header (elsewhere words slot word cell other) (copying.headers cell there);
      bodies = λ cell offset there low high.
          let other : cell + offset ≢ slot = λ same.
          no_cell (cell, there, within_by cell (size_of fixed cell) offset slot high same) in
          elsewhere words slot word (cell + offset) other ∙ copying.bodies cell offset there low high;
      copied = λ one offset there less no_slot.
          elsewhere words slot word (one.to + offset)
          (plain_is_not_live slot place one offset laid copying stood there less no_slot)
          ∙ copying.copied one offset there less no_slot;
      live = λ other origin also.
          redirected slot place home other origin laid copying stood among refers also (equal_or_not other slot);
      outside = λ at no_word no_slot no_room.
          elsewhere words slot word at (live_is_inside at slot place copying stood no_slot no_room)
          ∙ copying.outside at no_word no_slot no_room;
    }
