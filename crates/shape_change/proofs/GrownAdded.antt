-- A field that comes to a store that was made for it is shown, in a box where it needs one.
use Rattle.std.proofs.Common.{◌≡◌, ℕ, ◌+◌, ◌-◌, ◌<◌, ◌≤◌, false, inl, inr, List, [], ◌∷◌, ◌++◌, length, drop, Some}
use Rattle.std.proofs.Common.{nat_lt}
use Rattle.std.proofs.Common.{slice_get, refl, sym, ◌∙◌, ap, subst, arith, length-append, length-drop}
use Rattle.std.proofs.lemmas.Bool.{cases_lt}
use Rattle.std.proofs.lemmas.Bool.Decides.{nat_tests}
use Rattle.heap_model.specs.Types.{Header, Value, Path, Cell, Held}
use Rattle.tagged_word.specs.declared.layout.Kind.TheVariants as kind
use Rattle.tagged_word.specs.Cells.{plain_head, store_head, store_slot, proto_slot}
use Rattle.tagged_word.proofs.Members.{first_in}
use Rattle.object_graph.specs.Values.{rep_of}
use Rattle.object_graph.specs.Objects.{with_field}
use Rattle.object_graph.specs.Graphs.{Graph, PlainObject}
use Rattle.page_space.specs.Sizes.{AreWithin}
use Rattle.page_space.proofs.Starts.{marks_start_is}
use Rattle.write_barrier.specs.Seats.{heap_words}
use Rattle.heap_model.specs.Heaps.{HasCell, words_of_cell}
use Rattle.heap_model.specs.Slots.{reference_word, HoldsStore}
use Rattle.heap_model.specs.Kinds.{HasWord, HasSlots}
use Rattle.heap_model.specs.Needs.{grown}
use Rattle.heap_model.specs.Showing.{ShowsField}
use Rattle.heap_model.proofs.BoundHeaps.{none_in}
use Rattle.heap_model.proofs.CellOutcomes.{object_is_no_filler}
use Rattle.heap_model.proofs.CellsApart.{IsOfCell}
use Rattle.heap_model.proofs.CellWords.{words_by_kind}
use Rattle.write_barrier.specs.MutatorState.{Mutator, heap_of}
use Rattle.object_cells.specs.SureCells.{RemembersSurely}
use Rattle.object_cells.specs.declared.stores.Store.{Store}
use Rattle.object_cells.specs.Capacities.{ChangesObjectUsing}
use Rattle.object_cells.specs.CellWrites.{reshaped}
use Rattle.object_cells.specs.Contents.{next_at}
use Rattle.object_cells.specs.PlainObjects.{ShowsRefilled}
use Rattle.object_cells.specs.SlotChanges.{HasTagged, WritesFields}
use Rattle.object_cells.specs.Made.{store_content, content_word}
use Rattle.object_cells.proofs.CopiedSlots.{NewSlotIs, new_slot_is}
use Rattle.object_cells.proofs.HeldNeeds.{new_value_held}
use Rattle.object_cells.proofs.MadeBoxes.{made_boxes}
use Rattle.object_cells.proofs.OneWord.{WritesOne}
use Rattle.object_cells.proofs.OwnCapacities.{object_grows}
use Rattle.object_cells.proofs.OwnCells.{IsOwnWord, writes_cells, word_stays}
use Rattle.object_cells.proofs.OwnPlaces.{plain_is_object}
use Rattle.object_cells.proofs.OwnerWrites.{plain_owns, becomes_cap}
use Rattle.object_cells.proofs.SlotPlaces.{own_slot, behind_cap}
use Rattle.object_cells.proofs.SlotsNow.{plain_cell_size, word_at_offset, head_stays}
use Rattle.object_cells.proofs.StoreRuns.{CopiesSlots, copies_slots}
use Rattle.object_cells.proofs.TakenValues as taken
use Rattle.object_cells.proofs.TakenValues.{TakesValue, only_store}
use Rattle.object_cells.proofs.UnusedWords.{marks_fit}
use Rattle.object_cells.proofs.TouchedFields.{refields}
use Rattle.shape_change.proofs.AddedContents.{content_shows}
use Rattle.shape_change.proofs.AddedFields.{new_field}
use Rattle.shape_change.proofs.AddedShown.{added_shows}
use Rattle.shape_change.proofs.AddedSlots.{SlotIs, PutsOne, AddsSlot}
use Rattle.shape_change.proofs.AddedWords.{over_writes_one}
use Rattle.shape_change.proofs.FullStores.{length-slots}
use Rattle.shape_change.proofs.GrownTouches.{grown_touches}
use Rattle.shape_change.proofs.GrownWords as grows
use Rattle.shape_change.proofs.GrownWords.{StoreGrowing, over}
use Rattle.shape_change.proofs.OneAdding.{path_after, shape_after}
use Rattle.shape_change.proofs.FieldsAlike.{added_alike}
use Rattle.shape_change.proofs.TouchedSlots.{store_remembered}

module _ {old new : Mutator} {graph : Graph} {plain : PlainObject} {object : ℕ} {header : Header} {name : ℕ}
    {value : Held} {what : Value} {store : Store}
    (growing : StoreGrowing old new graph plain object header name value what store) where
  -- the object's cell in the new heap, and the cells that are made
  abbrev came : Cell
  came = reshaped new.paths growing.known.cell growing.adds.next

  abbrev new_store : Cell
  new_store = grows.new_store growing

  abbrev box : ℕ
  box = grows.box growing

  abbrev made : List Cell
  made = grows.made growing

  -- the word of the slot
  abbrev word : ℕ
  word = content_word (store_content value) box

  -- the slots
  abbrev now : List ℕ
  now = drop plain_head (words_of_cell (heap_of new) came) ++ drop store_head (words_of_cell (heap_of new) new_store)

  -- one word of the object's own cell was put, and its header
  one : WritesOne (heap_of old) (heap_of new) growing.known.cell growing.adds.next (object + store_slot)
      (reference_word (next_at old)) made
  one = over_writes_one made growing.known.shows.shows.whole (over growing) (grows.filled growing).row

  writes : WritesFields (heap_of old) (heap_of new) growing.known.cell growing.adds.next [] made
  writes =
      let known = growing.known in
      let of_slot = grows.of_slot growing in
      let own : IsOwnWord (heap_of old) known.cell [] (object + store_slot) = record {
        each = λ other there. absurd (none_in other there);
        inside = inl (record { from = of_slot.from; below = of_slot.below });
      } in
      writes_cells known.cell growing.adds.next (object + store_slot) (reference_word (next_at old)) [] made
      known.shows.shows.whole known.has known.shown.of_kind (shape_after (over growing))
      (ap (λ (p : Path). p.cap) (path_after known (over growing))) own one

  -- so the object takes the value
  takes : TakesValue kind.Plain kind.Store (heap_of old) (heap_of new) growing.known.cell came [] (new_store ∷ [])
      (store_content value) box what (reference_word (next_at old))
  takes = record {
    owns = plain_owns;
    whole = growing.known.shows.shows.whole;
    writes = writes;
    belong = λ other there. absurd (none_in other there);
    each = only_store (record { of_kind = refl; no_number = refl; refers = refl });
    stands = (grows.filled growing).box;
    objects = length graph.objects;
    fits = growing.known.fits;
    value = new_value_held false value what growing.known.held.shows;
  }

  -- the store stands in the new heap
  store_has : HasCell (heap_of new) new_store (words_of_cell (heap_of new) new_store)
  store_has = taken.made_has takes new_store (first_in new_store (made_boxes (store_content value) box))

  -- the word of the slot for the store refers to it
  named : slice_get (heap_words new.seat) (growing.known.cell.at + store_slot) ≡ Some (reference_word (next_at old))
  named =
      ap (λ n. slice_get (heap_words new.seat) (n + store_slot)) growing.known.stands ∙ (grows.fills growing).named

  -- the slots are the object's own and those of the store
  abbrev slots_now : HasSlots (heap_of new) (words_of_cell (heap_of new) came) now
  slots_now = record {
    store = reference_word (next_at old);
    slot = taken.slot_is takes (omega (arith, plain_cell_size growing.known.has growing.known.shown.of_kind)) named;
    beside = drop store_head (words_of_cell (heap_of new) new_store);
    stands = HoldsStore.store (reference_word (next_at old)) new_store (words_of_cell (heap_of new) new_store)
        (record { refers = refl; has = store_has }) refl;
    are = refl;
  }

  -- the object has as many fields as the cap and the capacity, and as many slots
  fields_full : length plain.fields ≡ growing.known.cell.layout.cap + store.capacity
  fields_full = omega (arith, growing.known.count, growing.known.cap, growing.behind, growing.full)

  slots_long : length growing.known.sound.slots ≡ growing.known.cell.layout.cap + store.capacity
  slots_long =
      let known = growing.known in
      omega (
        arith,
        length-slots known.has known.shown.of_kind known.sound.has,
        growing.is.slots known.cell (words_of_cell (heap_of old) known.cell) known.sound.has.beside
            known.sound.has.store known.has known.stands known.sound.has.slot known.sound.has.stands,
      )

  -- an in-object slot holds what it held
  own_kept : (k x : ℕ) → k < growing.known.cell.layout.cap → HasWord now k x → HasWord growing.known.sound.slots k x
  own_kept k x below there =
      let known = growing.known in
      let a : ℕ = known.cell.at + (plain_head + k) in
      let size = plain_cell_size known.has known.shown.of_kind in
      let of_cell : IsOfCell known.cell a = record { from = omega arith; below = omega (arith, size, below) } in
      let no_filler =
      object_is_no_filler known.cell.layout.kind (plain_is_object known.shown.of_kind) in
      sym (own_slot k known.has known.shown.of_kind known.sound.has below)
      ∙ sym (word_stays a known.shows.shows.whole one known.has no_filler of_cell (λ same. omega (arith, same))
      (λ same. omega (arith, same, known.stands)))
      ∙ own_slot k (taken.came_has takes) refl slots_now (omega (arith, below, becomes_cap writes.becomes)) ∙ there

  -- the prototype stays
  proto_stays : slice_get (words_of_cell (heap_of new) came) proto_slot
      ≡ slice_get (words_of_cell (heap_of old) growing.known.cell) proto_slot
  proto_stays =
      let known = growing.known in
      let within : proto_slot < known.cell.size = omega (arith, plain_cell_size known.has known.shown.of_kind) in
      word_at_offset proto_slot (taken.came_has takes) within
      ∙ head_stays proto_slot known.shows.shows.whole known.has known.shown.of_kind one (omega arith) (omega arith)
      (λ same. omega (arith, same, known.stands))
      ∙ sym (word_at_offset proto_slot known.has within)

  -- a slot of the store holds what one of the other held, the word that was put, or nothing
  beside_is : (j x : ℕ) → HasWord (drop store_head (words_of_cell (heap_of new) new_store)) j x
      → NewSlotIs growing.known.sound.has.beside store.capacity word j x
  beside_is =
      let known = growing.known in
      new_slot_is known.shows.shows.whole growing.is known.has known.stands known.sound.has.slot known.sound.has.stands
      store_has growing.adds.path.stay
      (subst (λ all. CopiesSlots (heap_words growing.adds.mid.seat) all store (grown store.capacity) (next_at old) word)
      (sym (grows.words_are growing)) (copies_slots (grows.makes growing) (grows.bits growing) store.capacity refl))

  -- so it is of the slot of this number
  slot_by : (k j x : ℕ) → k ≡ growing.known.cell.layout.cap + j
      → NewSlotIs growing.known.sound.has.beside store.capacity word j x
      → SlotIs growing.known.sound.slots (length plain.fields) word k x
  slot_by k j x is (NewSlotIs.kept below there) =
      let known = growing.known in
      let cap : ℕ = known.cell.layout.cap in
      let place : k - cap ≡ j = omega (arith, is) in
      SlotIs.kept (λ same. omega (arith, same, fields_full, is, below))
      (sym (behind_cap k cap known.has known.shown.of_kind known.sound.has refl (omega (arith, is)))
      ∙ ap (slice_get known.sound.has.beside) place ∙ there)
  slot_by k j x is (NewSlotIs.put same put) = SlotIs.put (omega (arith, fields_full, is, same)) put
  slot_by k j x is (NewSlotIs.more behind hole) =
      SlotIs.more (λ same. omega (arith, same, fields_full, is, behind)) (omega (arith, slots_long, is, behind)) hole

  -- one word was put in the slots
  puts : PutsOne growing.known.sound.slots now (length plain.fields) word
  puts k x there =
      let cap : ℕ = growing.known.cell.layout.cap in
      elim (cases_lt k cap) [
        | inl below ↦ SlotIs.kept (λ same. omega (arith, same, fields_full, below)) (own_kept k x below there)
        | inr from ↦ slot_by k (k - cap) x (omega (arith, from)) (beside_is (k - cap) x
            (behind_cap k cap (taken.came_has takes) refl slots_now (becomes_cap writes.becomes) from ∙ there))
      ]

  -- there are as many slots as the cap and the new store has
  now_long : length plain.fields < length now
  now_long =
      let words = words_of_cell (heap_of new) came in
      let others = words_of_cell (heap_of new) new_store in
      omega (
        arith,
        fields_full,
        length-append (drop plain_head words) (drop store_head others),
        length-drop plain_head words,
        length-drop store_head others,
        words_by_kind kind.Plain (taken.came_has takes) refl,
        words_by_kind kind.Store store_has refl,
        becomes_cap writes.becomes,
      )

  -- the word of the new slot shows the value
  shows : ShowsField (heap_of new) (nat_lt (length plain.fields) growing.known.cell.layout.cap) word (rep_of what) what
  shows =
      let from : growing.known.cell.layout.cap ≤ length plain.fields = omega (arith, fields_full) in
      let test : nat_lt (length plain.fields) growing.known.cell.layout.cap ≡ false = grind (arith, nat_tests) in
      subst (λ o. ShowsField (heap_of new) o word (rep_of what) what) (sym test)
      (content_shows takes.objects box takes.value (taken.places takes) takes.fits (taken.refers_box takes))

  -- so the field is added
  adds_slot : AddsSlot (heap_of old) (heap_of new) growing.known.cell growing.adds.next [] made plain.fields
      (new_field name what)
  adds_slot =
      let known = growing.known in
      let slot : ℕ = length plain.fields in
      record {
        whole = known.shows.shows.whole;
        has = known.has;
        plain = known.shown.of_kind;
        sound = known.sound;
        was = known.was;
        path = path_after known (over growing);
        now = now;
        are = slots_now;
        proto = proto_stays;
        word = word;
        puts = puts;
        room = now_long;
        shows = shows;
        comes = λ tagged. taken.value_comes takes (HasTagged known.cell known.sound.slots) slot slot;
        store_comes = inr (new_store, first_in new_store (made_boxes (store_content value) box), refl, refl);
        belong = takes.belong;
        stores_only = λ other there. absurd (none_in other there);
        kinds = taken.made_kinds takes;
        stores = taken.stores_told takes;
        boxes = taken.boxes_told takes;
      }

  -- beside what was made only the slot for the store and the header were touched, so the change is remembered
  remembered : RemembersSurely old new (growing.known.cell ∷ []) (came ∷ []) made
  remembered =
      let known = growing.known in
      let cap : ℕ = known.cell.layout.cap in
      store_remembered (refields known.shows.shows.whole known.has known.sound.shape known.was
      (path_after known (over growing)) refl writes)
      (λ number few. added_alike cap plain.fields (new_field name what) number
      (λ same. omega (arith, same, few, fields_full))) (grown_touches growing)

  -- and the graph is shown in which the object has the field
  pub grown_shown : ShowsRefilled new graph plain (with_field plain.fields name what)
  grown_shown =
      added_shows (grows.need growing) growing.known (over growing).room (over growing).adds (over growing).puts
      (grows.filled growing).row writes adds_slot remembered growing.adds.stores

  -- the object's property store has as many slots as the new one
  pub grown_becomes : AreWithin old.seat.space.sizes old.seat.space.variables
      → ChangesObjectUsing old new (grows.need growing) growing.known.cell.at (grown store.capacity)
  grown_becomes within =
      object_grows (taken.taken_beside takes slots_now.slot) (grows.filled growing).row new_store
      (first_in new_store (made_boxes (store_content value) box)) refl
      (omega (arith, (grows.run growing).within, marks_fit old.seat.space within, marks_start_is old.seat.space)) named
