-- A cell that gets a home: its words stand there, and its header becomes the reference to them.
use Rattle.std.proofs.Common.{ℕ, ◌<◌, ◌≤◌, ◌+◌, ◌≡◌, ◌≢◌, ◌⊎◌, inl, inr, List, length, set}
use Rattle.std.proofs.Common.{get_or, IsSome, arith, refl, sym, ap}
use Rattle.std.proofs.Common.{subst, ◌∙◌}
use Rattle.std.specs.List.{Contains}
use Rattle.std.proofs.lemmas.List.{length-set, get_or-set_same}
use Rattle.tagged_word.specs.declared.word.Class.TheVariants.{Ref}
use Rattle.tagged_word.specs.Words.{bits_of}
use Rattle.scav_copy.specs.declared.places.Home.{Home}
use Rattle.scav_copy.specs.declared.places.Room.{Room}
use Rattle.scav_copy.specs.Places.{Fixed, cell_before, size_of, offsets_of, IsOfCell, IsInCopy, IsInRooms}
use Rattle.scav_copy.specs.Places.{IsLaidOut, StoodAt}
use Rattle.scav_copy.specs.Renamings.{IsReachable}
use Rattle.scav_copy.specs.Copies.{with_home, HasNoHome, HasHeader, IsKeptOrRenamed, LiesInRoom, Copying, IsCopyAt}
use Rattle.scav_copy.specs.CopyLaws.{CellsMayMove, LiveSlotsStayLive}
use Rattle.scav_copy.proofs.Spots.{slot_in_cell, cell_within, cell_itself, reached_is, within_by, copy_in_room}
use Rattle.scav_copy.proofs.Spots.{live_in_no_cell, elsewhere, same_word}
use Rattle.scav_copy.proofs.Ascending.{new_in, old_in, joined_is, joined_ascends}
use Rattle.scav_copy.proofs.Redirecting.{equal_or_not}

-- a live slot stays one when a cell gets a home
pub stay_live : LiveSlotsStayLive
stay_live fixed homes new slot place (StoodAt.itself there same) = StoodAt.itself there same
stay_live fixed homes new slot place (StoodAt.in_cell home offset there is e f) =
    StoodAt.in_cell home offset (old_in homes new home there) is e f

-- what is as it was or renamed is so with a home more
more_homes : {homes : List Home} {old word : ℕ} (new : Home) → IsKeptOrRenamed homes old word
    → IsKeptOrRenamed (with_home homes new) old word
more_homes new (IsKeptOrRenamed.kept same) = IsKeptOrRenamed.kept same
more_homes {homes} new (IsKeptOrRenamed.renamed home there was is) =
    IsKeptOrRenamed.renamed home (old_in homes new home there) was is

-- a fact of the new home and of each old one is one of all
each_home : (P : Home → Type 0) (homes : List Home) (new : Home) → P new
    → ((home : Home) → Contains homes home → P home)
    → (home : Home) → Contains (with_home homes new) home → P home
each_home P homes new is others home there =
    elim (joined_is homes new home there) [ inl same ↦ subst P same is | inr among ↦ others home among ]

-- all that a cell's move asks for
record Moving (fixed : Fixed) (words : List ℕ) (homes : List Home) (new : Home) : Type 0 where
  laid : IsLaidOut fixed
  copying : Copying fixed words homes
  reached : IsReachable fixed new.from
  none : HasNoHome homes new.from
  copy : IsCopyAt fixed words homes new.from new.to

-- the words once the header is the reference
abbrev moved : List ℕ → Home → List ℕ
moved words new = set words new.from (bits_of (Ref new.to))

-- an old copy shares no word with the new one
apart_new : {fixed : Fixed} {words : List ℕ} {homes : List Home} {new : Home} (home : Home) (at : ℕ)
    → Moving fixed words homes new → Contains homes home → IsInCopy fixed home at → IsInCopy fixed new at → ⊥
apart_new home at moving there has also = moving.copy.apart home at there has also

-- no two copies share a word
copies_apart : {fixed : Fixed} {words : List ℕ} {homes : List Home} {new : Home} → Moving fixed words homes new
    → (one other : Home) (at : ℕ) → Contains (with_home homes new) one → Contains (with_home homes new) other
    → IsInCopy fixed one at → IsInCopy fixed other at → one ≡ other
copies_apart {fixed} {homes = homes} {new} moving one other at there also has shares =
    each_home (λ one. (other : Home) → Contains (with_home homes new) other → IsInCopy fixed one at
    → IsInCopy fixed other at → one ≡ other) homes new
    (each_home (λ other. IsInCopy fixed new at → IsInCopy fixed other at → new ≡ other) homes new (λ first second. refl)
    (λ home among first second. absurd (apart_new home at moving among second first)))
    (λ home among. each_home (λ other. IsInCopy fixed home at → IsInCopy fixed other at → home ≡ other) homes new
    (λ first second. absurd (apart_new home at moving among first second))
    (λ last inside first second. moving.copying.apart home last at among inside first second))
    one there other also has shares

-- the address of the cell is no word of a room
cell_no_room : {fixed : Fixed} {words : List ℕ} {homes : List Home} {new : Home} (at : ℕ) → Moving fixed words homes new
    → IsInRooms fixed at → at ≢ new.from
cell_no_room {fixed} {new = new} at moving in_room same =
    let is : Contains fixed.cells new.from = reached_is fixed new.from moving.reached in
    moving.laid.cell_in_no_room new.from (new.from, is, cell_itself new.from moving.laid is)
    (subst (IsInRooms fixed) same in_room)

-- the words of the new copy are words of a room
new_in_room : {fixed : Fixed} {words : List ℕ} {homes : List Home} {new : Home} (at : ℕ) → Moving fixed words homes new
    → IsInCopy fixed new at → IsInRooms fixed at
new_in_room at moving has =
    let lies = moving.copy.lies in (
      moving.copy.room,
      lies.among,
      record {
        from = omega (arith, has.from, lies.from);
        below = omega (arith, has.below, lies.ends);
      },
    )

-- a word of a copy, old or new, is as it was when the header is stored
copy_stays : {fixed : Fixed} {words : List ℕ} {homes : List Home} {new : Home} (home : Home) (offset : ℕ)
    → Moving fixed words homes new → Contains (with_home homes new) home → offset < size_of fixed home.from
    → get_or (moved words new) (home.to + offset) 0 ≡ get_or words (home.to + offset) 0
copy_stays {fixed} {words} {homes} {new} home offset moving there less =
    let at : ℕ = home.to + offset in
    let has = within_by home.to (size_of fixed home.from) offset at less refl in
    elsewhere words new.from (bits_of (Ref new.to)) at (cell_no_room at moving
    (each_home (λ one. IsInCopy fixed one at → IsInRooms fixed at) homes new (new_in_room at moving)
    (λ one among. copy_in_room one at moving.copying among) home there has))

-- a cell is there
cell_there : {fixed : Fixed} {words : List ℕ} {homes : List Home} (cell : ℕ) → Contains fixed.cells cell
    → IsSome (cell_before fixed cell) → Copying fixed words homes → cell < length words
cell_there {fixed} {words} cell is some copying =
    subst (λ (long : ℕ). cell < long) (sym copying.long) (cell_within fixed cell some)

-- a header stays as it was or a reference to a home when another cell gets one
more_headers : {fixed : Fixed} {words others : List ℕ} {homes : List Home} {cell : ℕ} (new : Home)
    → get_or others cell 0 ≡ get_or words cell 0 → new.from ≢ cell → HasHeader fixed words homes cell
    → HasHeader fixed others (with_home homes new) cell
more_headers {homes = homes} new e other (HasHeader.forwarded home there of is) =
    HasHeader.forwarded home (old_in homes new home there) of (e ∙ is)
more_headers {homes = homes} {cell} new e other (HasHeader.unmoved none is) =
    HasHeader.unmoved (each_home (λ home. home.from ≢ cell) homes new other none) (e ∙ is)

-- no word behind a header is the cell that moves
body_is_no_cell : {fixed : Fixed} {words : List ℕ} {homes : List Home} {new : Home} (cell offset : ℕ)
    → Moving fixed words homes new → Contains fixed.cells cell → 1 ≤ offset → offset < size_of fixed cell
    → cell + offset ≢ new.from
body_is_no_cell {fixed} {new = new} cell offset moving there low high same =
    let is : Contains fixed.cells new.from = reached_is fixed new.from moving.reached in
    let one : cell ≡ new.from =
    moving.laid.one_cell cell new.from new.from there is (within_by cell (size_of fixed cell) offset new.from high same)
    (cell_itself new.from moving.laid is) in
    omega arith

-- a live slot of the words before the move is as it was
old_live : {fixed : Fixed} {words : List ℕ} {homes : List Home} {new : Home} (slot place : ℕ)
    → Moving fixed words homes new → StoodAt fixed homes slot place
    → IsKeptOrRenamed (with_home homes new) (get_or fixed.before place 0) (get_or (moved words new) slot 0)
old_live {fixed} {words} {homes} {new} slot place moving stood =
    let is : Contains fixed.cells new.from = reached_is fixed new.from moving.reached in
    let other : slot ≢ new.from = λ same.
    live_in_no_cell slot place moving.laid moving.copying stood
    (new.from, is, subst (IsOfCell fixed new.from) (sym same) (cell_itself new.from moving.laid is)) in
    more_homes new (same_word (elsewhere words new.from (bits_of (Ref new.to)) slot other)
    (moving.copying.live slot place stood))

-- a slot of the new copy holds the word of its cell
new_live : {fixed : Fixed} {words : List ℕ} {homes : List Home} {new : Home} (slot place offset : ℕ)
    → Moving fixed words homes new → Contains (offsets_of fixed new.from) offset → new.to + offset ≡ slot
    → new.from + offset ≡ place
    → IsKeptOrRenamed (with_home homes new) (get_or fixed.before place 0) (get_or (moved words new) slot 0)
new_live {fixed} {words} {homes} {new} slot place offset moving has to from =
    let less : offset < size_of fixed new.from = (slot_in_cell fixed new.from offset has).1 in
    IsKeptOrRenamed.kept (ap (λ (at : ℕ). get_or (moved words new) at 0) (sym to)
    ∙ copy_stays new offset moving (new_in homes new) less ∙ moving.copy.whole offset less
    ∙ ap (λ (at : ℕ). get_or fixed.before at 0) from)

-- the header of a cell is the reference to its home, or as before
header_moved : {fixed : Fixed} {words : List ℕ} {homes : List Home} {new : Home} (cell : ℕ)
    → Moving fixed words homes new
    → Contains fixed.cells cell → (cell ≡ new.from) ⊎ (cell ≢ new.from)
    → HasHeader fixed (moved words new) (with_home homes new) cell
header_moved {fixed} {words} {homes} {new} cell moving there (inl same) =
    let word : ℕ = bits_of (Ref new.to) in
    let is : Contains fixed.cells new.from = reached_is fixed new.from moving.reached in
    let inside : new.from < length words = cell_there new.from is (moving.laid.cells_are new.from is) moving.copying in
    HasHeader.forwarded new (new_in homes new) (sym same)
    (ap (λ (at : ℕ). get_or (moved words new) at 0) same ∙ get_or-set_same words new.from word 0 inside)
header_moved {words = words} {homes} {new} cell moving there (inr other) =
    more_headers new (elsewhere words new.from (bits_of (Ref new.to)) cell other) (λ same. other (sym same))
    (moving.copying.headers cell there)

-- a live slot of the new home is one of its words, and is as it was
live_moved : {fixed : Fixed} {words : List ℕ} {homes : List Home} {new : Home} (slot place : ℕ)
    → Moving fixed words homes new → StoodAt fixed (with_home homes new) slot place
    → IsKeptOrRenamed (with_home homes new) (get_or fixed.before place 0) (get_or (moved words new) slot 0)
live_moved {fixed} {words} {homes} {new} slot place moving (StoodAt.itself there same) =
    old_live slot place moving (StoodAt.itself there same)
live_moved {fixed} {words} {homes} {new} slot place moving (StoodAt.in_cell home offset there is e f) =
    each_home (λ one. Contains (offsets_of fixed one.from) offset → one.to + offset ≡ slot → one.from + offset ≡ place
    → IsKeptOrRenamed (with_home homes new) (get_or fixed.before place 0) (get_or (moved words new) slot 0)) homes new
    (λ has to from. new_live slot place offset moving has to from)
    (λ one among has to from. old_live slot place moving (StoodAt.in_cell one offset among has to from))
    home there is e f

-- a cell that was reached and has no home gets one where its words stand
pub cells_may_move : CellsMayMove
cells_may_move fixed words homes cell to laid copying reached none copy =
    let new : Home = record { from = cell; to = to } in
    let moving : Moving fixed words homes new =
    record { laid = laid; copying = copying; reached = reached; none = none; copy = copy } in
    let word : ℕ = bits_of (Ref to) in
    let is : Contains fixed.cells cell = reached_is fixed cell reached in
    record {
      long = length-set words cell word ∙ copying.long;
      ascend = joined_ascends homes new copying.ascend none;
      reached = each_home (λ home. IsReachable fixed home.from) homes new reached copying.reached;
      housed = each_home (λ home. (room : Room) × LiesInRoom fixed room home.to (size_of fixed home.from)) homes new
          (copy.room, copy.lies) copying.housed;
      apart = copies_apart moving;
      headers = λ other there. header_moved other moving there (equal_or_not other cell);
      bodies = λ other offset there low high.
          elsewhere words cell word (other + offset) (body_is_no_cell other offset moving there low high)
          ∙ copying.bodies other offset there low high;
      copied = λ home offset there less no_slot.
          copy_stays home offset moving there less
          ∙ each_home (λ one. offset < size_of fixed one.from → (Contains (offsets_of fixed one.from) offset → ⊥)
          → get_or words (one.to + offset) 0 ≡ get_or fixed.before (one.from + offset) 0) homes new
          (λ within no. copy.whole offset within)
          (λ one among. copying.copied one offset among) home there less no_slot;
      live = λ slot place stood. live_moved slot place moving stood;
      outside = λ at no_cell no_slot no_room.
          let other : at ≢ cell = λ same.
          no_cell (cell, is, subst (IsOfCell fixed cell) (sym same) (cell_itself cell laid is)) in
          elsewhere words cell word at other ∙ copying.outside at no_cell no_slot no_room;
    }
