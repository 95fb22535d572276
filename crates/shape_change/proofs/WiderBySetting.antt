-- What is asked of the steps by which a field gets a wider representation, by how its slot is set.
use Rattle.std.proofs.Common.{◌≡◌, ℕ, take, sym, ◌∙◌, ap, subst, inl}
use Rattle.mark_world.specs.declared.event.Event.TheVariants as event
use Rattle.cycle_state.specs.Cycles.{words_of_pages}
use Rattle.page_space.specs.Extents.{eden_start, layouts_start, marks_start}
use Rattle.write_barrier.specs.Marking.{MayPut, MayPutHeader, with_blackened}
use Rattle.write_barrier.specs.MutatorState.{Mutator, heap_of, with_word}
use Rattle.write_barrier.specs.Opening.{ChangesWithin}
use Rattle.write_barrier.specs.Seats.{Seat, heap_words}
use Rattle.write_barrier.specs.Storing.{StoresOn}
use Rattle.write_barrier.specs.SureStores.{StoresBlack}
use Rattle.write_barrier.proofs.StoresOn.{stores_on_again}
use Rattle.object_cells.specs.declared.content.SlotWrite.{SlotWrite}
use Rattle.object_cells.specs.Contents.{AllocatesBox, filled, filling_at}
use Rattle.object_cells.specs.CycleChanges.{MayFillSlot}
use Rattle.object_cells.proofs.FillsOn.{allocates_on, may_fill}
use Rattle.object_cells.proofs.RestOfWords.{allocates_seat}
use Rattle.shape_change.specs.Fillings.{CanSetSlot, with_paths}
use Rattle.shape_change.specs.Places.{place_at}
use Rattle.shape_change.specs.declared.set_slot.SlotSetting.{SlotSetting}
use Rattle.shape_change.proofs.SamePages.{pages_same}
use Rattle.shape_change.proofs.Settings.{Setting}
use Rattle.shape_change.proofs.SetThere.{name_at, setting_fills, shown_setting}
use Rattle.shape_change.proofs.WiderOn.{wider_can, wider_may_blacken, wider_may_head, wider_stores}

module _ {old : Mutator} (between : Mutator) {laid : Mutator} {object shape slot : ℕ} {sets : SlotSetting}
    (can : CanSetSlot old object shape slot sets)
    (allocates : AllocatesBox old between (filling_at old (place_at object sets.place) sets.content))
    (lays : StoresOn between laid) where
  -- the field that is set
  set : Setting old can.shown.graph object slot can.shown.plain can.shown.value (name_at can.shown.plain.fields slot)
  set = shown_setting can.shown can.there can.fits

  -- how its slot is filled
  abbrev pub write : SlotWrite
  write = filling_at old (place_at object sets.place) sets.content

  -- words were stored before
  before : StoresOn old laid
  before = stores_on_again (allocates_on write allocates) lays

  -- the words of its box were used
  used : AllocatesBox old between (filling_at old (place_at set.cell.at sets.place) sets.content)
  used =
      subst (λ (a : ℕ). AllocatesBox old between (filling_at old (place_at a sets.place) sets.content))
      (sym set.stands) allocates

  -- the object may be made black
  pub setting_may_blacken : MayPut laid object (event.Blacken object)
  setting_may_blacken =
      subst (λ (a : ℕ). MayPut laid a (event.Blacken a)) set.stands (wider_may_blacken set before)

  -- then the slot may be filled
  pub setting_may_fill : MayFillSlot (with_blackened laid object) (place_at object sets.place) write
  setting_may_fill =
      subst (λ (a : ℕ). MayFillSlot (with_blackened laid a) (place_at a sets.place)
      (filling_at old (place_at a sets.place) sets.content)) set.stands
      (may_fill (with_blackened laid set.cell.at) (place_at set.cell.at sets.place)
      (filling_at old (place_at set.cell.at sets.place) sets.content)
      (wider_can set before can.sizes (setting_fills set can.there can.is can.shown.is_held.shows)
      between used))

  -- then any header may be put
  pub setting_may_head : (head : ℕ)
      → MayPutHeader (filled (with_blackened laid object) (place_at object sets.place) write) object head
  setting_may_head head =
      subst (λ (a : ℕ). MayPutHeader (filled (with_blackened laid a) (place_at a sets.place)
      (filling_at old (place_at a sets.place) sets.content)) a head) set.stands
      (wider_may_head set before can.sizes (setting_fills set can.there can.is can.shown.is_held.shows)
      between used head)

  -- so words were stored once the object was black
  pub setting_stores : {new : Mutator} (head : ℕ) → ChangesWithin (with_paths between laid.paths) laid
      (layouts_start between.seat.space) (marks_start between.seat.space)
      → new ≡ with_word (filled (with_blackened laid object) (place_at object sets.place) write) object head
      → StoresBlack old new object
  setting_stores {new} head changes is =
      let seat : between.seat ≡ old.seat = allocates_seat old between write allocates in
      let same : words_of_pages (heap_of laid) ≡ words_of_pages (heap_of between) =
      pages_same between laid changes.seat.space changes.count (λ a below.
      changes.beside a (inl below)) in
      let all : words_of_pages (heap_of laid) ≡ words_of_pages (heap_of old) =
      same ∙ ap (λ (one : Seat). take (eden_start one.space) (heap_words one)) seat in
      subst (λ (a : ℕ). new ≡ with_word (filled (with_blackened laid a) (place_at a sets.place)
      (filling_at old (place_at a sets.place) sets.content)) a head → StoresBlack old new a) set.stands
      (wider_stores set before can.sizes (setting_fills set can.there can.is can.shown.is_held.shows)
      between used head all) is
