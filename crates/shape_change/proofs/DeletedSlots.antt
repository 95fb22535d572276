-- What the slots of a plain object hold once a field was taken out of its cells.
use Rattle.std.proofs.Common.{◌≡◌, ◌≢◌, ℕ, suc, ◌<◌, ◌≤◌, ◌⊎◌, inl, inr, List, length}
use Rattle.std.proofs.Common.{Some, slice_get, nat_lt, refl, sym, ◌∙◌, ap, arith}
use Rattle.std.proofs.lemmas.Bool.{cases_lt, cases_eq}
use Rattle.std.proofs.lemmas.Bool.Decides.{nat_tests}
use Rattle.std.proofs.lemmas.Option.{same_Some}
use Rattle.heap_model.specs.Types.{Field, Path, Cell}
use Rattle.write_barrier.specs.Seats.{heap_words}
use Rattle.heap_model.specs.Heaps.{HasCell, words_of_cell}
use Rattle.heap_model.specs.Slots.{hole_word}
use Rattle.heap_model.specs.Kinds.{HasWord}
use Rattle.heap_model.specs.Wholeness.{Whole}
use Rattle.heap_model.specs.Showing.{ShowsPlain}
use Rattle.write_barrier.specs.MutatorState.{Mutator, heap_of}
use Rattle.shape_change.specs.Shifts.{slot_at}
use Rattle.shape_change.specs.Deletions.{TakesFieldOut}
use Rattle.shape_change.proofs.FieldsLess.{origin_of, origin_of-before, origin_of-behind}
use Rattle.object_cells.proofs.PlainFields.{slots_held}
use Rattle.object_cells.proofs.FieldsFound.{path_long}
use Rattle.object_cells.proofs.StoreCells.{store_at, slots_counted}
use Rattle.shape_change.proofs.SlotAddresses.{slot_at-own, SlotsStand, slots_stand, slots_are_apart, slot_read}
use Rattle.shape_change.proofs.StoresFound.{store_is_there}
use Rattle.shape_change.proofs.TakenOut.{slot_stands}

-- the field of this number was taken out of the cell that shows these fields
pub record Deleting (old new : Mutator) (cell : Cell) (slot : ℕ) (fields : List Field) : Type 0 where
  pub whole : Whole (heap_of old)
  pub has : HasCell (heap_of old) cell (words_of_cell (heap_of old) cell)
  pub shows : ShowsPlain (heap_of old) cell (words_of_cell (heap_of old) cell) cell.layout.cap fields
  pub taken : TakesFieldOut old new cell.at cell.header slot
  pub there : slot < length fields

-- the next slot stands in the object exactly where this one does, unless it is the first that does not
next_alike : (one cap : ℕ) → suc one ≢ cap → nat_lt one cap ≡ nat_lt (suc one) cap
next_alike one cap apart = grind (arith, nat_tests)

-- What a slot holds now: what the slot held from which it comes, where both stand in the object or both in the store;
-- or what was drawn in, where it is the last in the object; or nothing.
pub data NowHolds {old new : Mutator} {cell : Cell} {slot : ℕ} {fields : List Field}
    (deleting : Deleting old new cell slot fields) (one word : ℕ) : Type 0 where
  moved : one < deleting.taken.last → HasWord deleting.shows.slots (origin_of slot one) word
      → nat_lt one cell.layout.cap ≡ nat_lt (origin_of slot one) cell.layout.cap → NowHolds deleting one word
  drawn_in : slot ≤ one → one < deleting.taken.last → suc one ≡ cell.layout.cap → word ≡ deleting.taken.first
      → NowHolds deleting one word
  hole : deleting.taken.last ≤ one → word ≡ hole_word → NowHolds deleting one word

module _ {old new : Mutator} {cell : Cell} {slot : ℕ} {fields : List Field}
    (deleting : Deleting old new cell slot fields) where
  -- the cap is that of the cell
  pub cap_is : deleting.taken.cap ≡ cell.layout.cap
  cap_is = sym deleting.taken.caps ∙ ap (λ (p : Path). p.cap) deleting.shows.path

  -- the last field is the last
  pub count_is : length fields ≡ suc deleting.taken.last
  count_is = sym (path_long fields deleting.shows.path) ∙ deleting.taken.counted

  -- where the slot of a number stands
  abbrev pub address : ℕ → ℕ
  address one = slot_at cell.at cell.layout.cap (store_at deleting.shows.has.stands) one

  -- there are slots for all fields
  pub room_is : suc deleting.taken.last ≤ length deleting.shows.slots
  room_is = omega (arith, count_is, (slots_held deleting.whole deleting.has deleting.shows).room)

  -- where all slots stand
  pub all_stand : SlotsStand (heap_of old) cell.at cell.layout.cap (store_at deleting.shows.has.stands)
      (length deleting.shows.slots)
  all_stand = slots_stand deleting.whole deleting.has deleting.shows.of_kind deleting.shows.has

  -- the slots of the fields that moved stand there
  pub address_is : (one : ℕ) → one ≤ deleting.taken.last
      → slot_at cell.at deleting.taken.cap deleting.taken.store one ≡ address one
  address_is one few =
      let taken = deleting.taken in
      let cap : ℕ = cell.layout.cap in
      let are = deleting.shows.has in
      let caps = cap_is in
      ap (λ n. slot_at cell.at n taken.store one) caps ∙ elim (cases_lt one cap) [
        | inl own ↦
            slot_at-own cell.at cap taken.store one own ∙ sym (slot_at-own cell.at cap (store_at are.stands) one own)
        | inr from ↦
            let counted = slots_counted deleting.has deleting.shows.of_kind are in
            let same : store_at are.stands ≡ taken.store =
            store_is_there (taken.has_beside (omega (arith, caps, few, from))).at deleting.has refl are
            (omega (arith, counted, room_is, few, from)) in
            ap (λ n. slot_at cell.at cap n one) (sym same)
      ]

  -- a slot that did not move holds what it held
  pub stays : (one : ℕ) → one < length deleting.shows.slots → (one < slot) ⊎ (deleting.taken.last < one)
      → slice_get (heap_words new.seat) (address one) ≡ slice_get (heap_words old.seat) (address one)
  stays one below out =
      let taken = deleting.taken in
      let cap : ℕ = cell.layout.cap in
      let store : ℕ = store_at deleting.shows.has.stands in
      let count : ℕ = length deleting.shows.slots in
      let stand = all_stand in
      let one_stands = slot_stands old cell.at cap store count one stand below in
      taken.stay (address one) one_stands.below one_stands.behind (λ k low high same.
      let number : k ≡ one = slots_are_apart (heap_of old) cell.at cap store count k one stand
      (omega (arith, room_is, high)) below (sym (address_is k high) ∙ same) in
      elim out [ inl before ↦ omega (arith, number, before, low) | inr behind ↦ omega (arith, number, behind, high) ])

  -- what a slot holds that did not move
  now_stays : (one word : ℕ) → one < length deleting.shows.slots
      → slice_get (heap_words new.seat) (address one) ≡ Some word → (one < slot) ⊎ (deleting.taken.last < one)
      → HasWord deleting.shows.slots one word
  now_stays one word below stands out =
      sym (slot_read one deleting.has deleting.shows.of_kind deleting.shows.has below)
      ∙ sym (stays one below out) ∙ stands

  -- what a slot holds that holds the next
  now_moved : (one word : ℕ) → slice_get (heap_words new.seat) (address one) ≡ Some word → slot ≤ one
      → one < deleting.taken.last → suc one ≢ cell.layout.cap → NowHolds deleting one word
  now_moved one word stands from below apart =
      let taken = deleting.taken in
      let caps = cap_is in
      let behind = origin_of-behind slot one from in
      let read = slot_read (suc one) deleting.has deleting.shows.of_kind deleting.shows.has
      (omega (arith, room_is, below)) in
      let moved : HasWord deleting.shows.slots (suc one) word =
      sym read ∙ ap (slice_get (heap_words old.seat)) (sym (address_is (suc one) (omega (arith, below))))
      ∙ sym (taken.moved one from below (λ same. apart (same ∙ caps)))
      ∙ ap (slice_get (heap_words new.seat)) (address_is one (omega (arith, below))) ∙ stands in
      NowHolds.moved below (ap (slice_get deleting.shows.slots) behind ∙ moved)
      (next_alike one cell.layout.cap apart ∙ ap (λ n. nat_lt n cell.layout.cap) (sym behind))

  -- what each slot holds
  pub now_holds : (one word : ℕ) → one < length deleting.shows.slots
      → slice_get (heap_words new.seat) (address one) ≡ Some word → NowHolds deleting one word
  now_holds one word below stands =
      let taken = deleting.taken in
      let there = deleting.there in
      let count = count_is in
      elim (cases_lt one slot) [
        | inl before ↦
            let same = origin_of-before slot one before in
            NowHolds.moved (omega (arith, before, there, count))
            (ap (slice_get deleting.shows.slots) same ∙ now_stays one word below stands (inl before))
            (ap (λ n. nat_lt n cell.layout.cap) (sym same))
        | inr from ↦ elim (cases_lt one taken.last) [
          | inl moves ↦ elim (cases_eq (suc one) cell.layout.cap) [
            | inl same ↦
                NowHolds.drawn_in from moves same (same_Some word taken.first
                (sym stands ∙ ap (slice_get (heap_words new.seat)) (sym (address_is one (omega (arith, moves))))
                ∙ taken.drawn_in one from moves (same ∙ sym cap_is)))
            | inr apart ↦ now_moved one word stands from moves apart
          ]
          | inr rest ↦ elim (cases_eq taken.last one) [
            | inl same ↦
                NowHolds.hole rest (same_Some word hole_word
                (sym stands ∙ ap (λ n. slice_get (heap_words new.seat) (address n)) (sym same)
                ∙ ap (slice_get (heap_words new.seat)) (sym (address_is taken.last (omega arith))) ∙ taken.hole))
            | inr apart ↦
                let behind : taken.last < one = omega (arith, rest, apart) in
                NowHolds.hole rest ((slots_held deleting.whole deleting.has deleting.shows).rest one word
                (omega (arith, count, behind))
                (now_stays one word below stands (inr behind)))
          ]
        ]
      ]
