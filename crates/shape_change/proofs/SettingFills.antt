-- The slot of a field that is set may be filled where a cycle of marking is open, and words are stored then.
use Rattle.std.specs.Prelude.{ℤ}
use Rattle.std.proofs.Common.{◌≡◌, ℕ, ◌+◌, ◌<◌, Bool, true, false, length, Option, Some, None, slice_get, nat_lt}
use Rattle.std.proofs.Common.{Contains, refl, sym, ◌∙◌, ap, subst, arith}
use Rattle.std.proofs.lemmas.Bool.Decides.{nat_tests}
use Rattle.std.proofs.lemmas.Option.{same_Some}
use Rattle.tagged_word.specs.declared.layout.Kind.TheVariants as kind
use Rattle.tagged_word.specs.Cells.{has_length, plain_head, tagged_offsets, tagged_offsets_of, scavenge_offsets}
use Rattle.tagged_word.specs.Cells.{scavenge_offsets_of}
use Rattle.page_space.specs.Extents.{layouts_start, marks_start}
use Rattle.page_space.specs.Sizes.{AreWithin}
use Rattle.page_space.proofs.Starts.{marks_start_is}
use Rattle.mark_world.specs.declared.event.Event.TheVariants as event
use Rattle.object_graph.specs.declared.value.Rep.TheVariants as rep
use Rattle.object_graph.specs.Objects.{revalued}
use Rattle.object_graph.specs.Graphs.{Graph, PlainObject}
use Rattle.shape_tree.specs.Shapes.{shape_path}
use Rattle.shape_tree.specs.ShapeLayouts.{layout_of}
use Rattle.heap_model.specs.Types.{Kind, LayoutWord, Value, Rep, Path, PathField, Cell}
use Rattle.heap_model.specs.Heaps.{Heap, words_of_cell}
use Rattle.heap_model.specs.Needs.{box_words, word_at}
use Rattle.heap_model.proofs.PathLayouts.{layout_is}
use Rattle.write_barrier.specs.Marking.{MayPut}
use Rattle.write_barrier.specs.MutatorState.{Mutator, heap_of}
use Rattle.write_barrier.specs.Seats.{Seat, heap_words}
use Rattle.write_barrier.specs.Storing.{MayChange, StoresOn}
use Rattle.write_barrier.specs.SureStores.{StoresSurely}
use Rattle.write_barrier.proofs.StoresOn.{cell_may_change, next_is_young, stores_on_again}
use Rattle.object_cells.specs.declared.content.SlotContent.{SlotContent}
use Rattle.object_cells.specs.declared.content.SlotContent.TheVariants as content
use Rattle.object_cells.specs.declared.content.SlotWrite.{SlotWrite}
use Rattle.object_cells.specs.Contents.{AllocatesBox, IsBeforeLayouts, box_in, filled, filled_touch, filling_at}
use Rattle.object_cells.specs.Contents.{filling_of, next_at}
use Rattle.object_cells.proofs.ChangedPlaces.{numbered_may_change, quiet_may_put}
use Rattle.object_cells.proofs.ContentsHeld.{content_may_hold}
use Rattle.object_cells.proofs.FieldWords.{path_field, tagged_is_field}
use Rattle.object_cells.proofs.FilledTouches.{fills_before_layouts}
use Rattle.object_cells.proofs.FillsOn.{CanFill, allocates_on, fill_on, filled_surely}
use Rattle.object_cells.proofs.HeldContents.{HoldsValue, held_slot_word}
use Rattle.object_cells.proofs.HoldableWords.{young_may_hold}
use Rattle.object_cells.proofs.NumberedSlots.{IsNumbered}
use Rattle.object_cells.proofs.OwnPlaces.{box_size}
use Rattle.object_cells.proofs.PlainFields.{plain_sound}
use Rattle.object_cells.proofs.RestOfWords.{allocates_seat}
use Rattle.object_cells.proofs.SlotBoxes.{box_of_word}
use Rattle.object_cells.proofs.UnusedWords.{marks_fit, next_before_marks}
use Rattle.shape_change.proofs.FilledFields.{slot_below}
use Rattle.shape_change.proofs.FillsButRaw.{CanFillButRaw, RawMayPut, but_raw_stays, can_with_raw, no_raw_box}
use Rattle.shape_change.proofs.Settings.{Setting}
use Rattle.shape_change.proofs.SetShown.{FillsAt, held_slot, was_field_word}

-- a raw word is that of a wide field in the object itself
pub raw_is : {heap : Heap} {own : Bool} {was one : Rep} {what : Value} (put : ℕ)
    → HoldsValue heap own was one what (content.Raw put) → (own ≡ true) × (one ≡ rep.Wide)
raw_is put (HoldsValue.raw v own apart) = (own, refl)

-- what marking visits of a plain object a scavenge visits
visited : (cell : Cell) (offset : ℕ) → cell.layout.kind ≡ kind.Plain
    → Contains (tagged_offsets cell.layout cell.length) offset
    → Contains (scavenge_offsets cell.layout cell.length) offset
visited cell offset plain among =
    subst (λ (k : Kind). Contains (tagged_offsets_of k cell.layout cell.length) offset
    → Contains (scavenge_offsets_of k cell.layout cell.length) offset) (sym plain) (λ there. there) among

module _ {old : Mutator} {graph : Graph} {object slot : ℕ} {plain : PlainObject} {what : Value} {name : ℕ}
    (s : Setting old graph object slot plain what name) where
  -- the object's cell has no length
  short : has_length s.cell.layout.kind ≡ false
  short = ap has_length s.shown.of_kind

  -- a wide field in the object itself is in no tagged slot
  wide_not_tagged : slot < s.cell.layout.cap → s.field.rep ≡ rep.Wide
      → Contains (tagged_offsets s.cell.layout s.cell.length) (plain_head + slot) → ⊥
  wide_not_tagged below wide among =
      let whole = s.shows.shows.whole in
      let path : Path = shape_path old.paths s.cell.header.shape in
      let laid : s.cell.layout ≡ layout_of path =
      layout_is whole.sized s.has (plain_sound whole s.has s.shown.of_kind).shape in
      let within : slot < path.cap = subst (λ (layout : LayoutWord). slot < layout.cap) laid below in
      let of_path = tagged_is_field s.cell path slot laid (λ own. visited s.cell (plain_head + slot) s.shown.of_kind
      among) within in
      let there : slice_get path.fields slot ≡ Some (record { name = s.field.name; rep = s.field.rep }) =
      ap (λ (p : Path). slice_get p.fields slot) s.shown.path
      ∙ path_field s.cell.layout.cap plain.fields slot s.field s.there in
      of_path.apart (ap (λ (f : PathField). f.rep) (same_Some of_path.field _ (sym of_path.there ∙ there)) ∙ wide)

  -- so a raw word may be stored in its slot
  raw_may_put : (at put : ℕ) → IsNumbered (heap_of old) s.cell (words_of_cell (heap_of old) s.cell) slot at
      → nat_lt slot s.cell.layout.cap ≡ true → s.field.rep ≡ rep.Wide → MayPut old at (event.StoreOwned at put)
  raw_may_put at put (IsNumbered.own below is of_cell) own wide =
      subst (λ (a : ℕ). MayPut old a (event.StoreOwned a put)) (sym is)
      (quiet_may_put (plain_head + slot) put s.shows s.has short (omega arith) (omega (arith, of_cell.below, is))
      (wide_not_tagged below wide))
  raw_may_put at put (IsNumbered.beside store k other others holds refers of_kind counts is of_cell) own wide =
      let below : slot < s.cell.layout.cap = grind (arith, nat_tests, own) in
      absurd (omega (arith, below, counts))

  -- a box that is made or written for its slot ends before the layout words
  pub fill_room : {at word : ℕ} {holds : SlotContent} → FillsAt s at word holds → (between : Mutator)
      → AllocatesBox old between (filling_at old at holds) → IsBeforeLayouts old.seat.space (filling_at old at holds)
  fill_room {at} {word} {holds} fills between allocates =
      fills_before_layouts old between (word_at (heap_of old) at) holds
      (box_in (heap_of old) (word_at (heap_of old) at)) s.shows.tied s.shows.shows.whole (held_slot s fills) refl
      allocates

  module _ (within : AreWithin old.seat.space.sizes old.seat.space.variables) {at word : ℕ} where
    -- a box that the slot comes to refer to is young, or the one to which it refers
    boxed_can : (between : Mutator) (v : ℤ) (found : Option ℕ) → FillsAt s at word (content.Boxed v)
        → box_in (heap_of old) word ≡ found
        → AllocatesBox old between (filling_of found (next_at old) (content.Boxed v))
        → CanFillButRaw old at (filling_of found (next_at old) (content.Boxed v))
    boxed_can between v None fills is allocates =
        let young = next_is_young s.shows in
        let before = next_before_marks old box_words s.shows.tied allocates.0 in
        let fit = marks_fit old.seat.space within in (
          numbered_may_change s.shows s.has short fills.numbered,
          young,
          young_may_hold (next_at old) (omega (arith, before, fit)) young,
        )
    boxed_can between v (Some box) fills is allocates =
        let one = box_of_word word box s.shows.shows.whole.sized
        (held_slot_word word fills.comes (was_field_word s fills)) is in
        let may = cell_may_change s.shows one.refers.has in
        subst (λ (a : ℕ). MayChange old a 2 kind.Boxed) one.stands
        (subst (λ (k : Kind). MayChange old one.cell.at 2 k) one.box
        (subst (λ (n : ℕ). MayChange old one.cell.at n one.cell.layout.kind) (box_size one.refers.has one.box) may))

    -- so the slot can be filled, if a raw word may be stored in it
    pub can_fill : (between : Mutator) (holds : SlotContent) → FillsAt s at word holds
        → AllocatesBox old between (filling_at old at holds) → CanFillButRaw old at (filling_at old at holds)
    can_fill between (content.Tagged put) fills allocates = (
      numbered_may_change s.shows s.has short fills.numbered,
      content_may_hold put s.shows within s.value_reached fills.comes,
    )
    can_fill between (content.Raw put) fills allocates = tt
    can_fill between (content.Boxed v) fills allocates =
        boxed_can between v (box_in (heap_of old) (word_at (heap_of old) at)) fills
        (ap (box_in (heap_of old)) (sym fills.reads)) allocates

    -- where its representation stays it may
    raw_as_is : (between : Mutator) (holds : SlotContent) → FillsAt s at word holds
        → (revalued s.field what).rep ≡ s.field.rep → AllocatesBox old between (filling_at old at holds)
        → RawMayPut between at (filling_at old at holds)
    raw_as_is between (content.Tagged put) fills same allocates = tt
    raw_as_is between (content.Raw put) fills same allocates =
        let wide = raw_is put fills.comes in
        subst (λ (main : Mutator). MayPut main at (event.StoreOwned at put)) (sym allocates)
        (raw_may_put at put fills.numbered wide.0 (sym same ∙ wide.1))
    raw_as_is between (content.Boxed v) fills same allocates =
        no_raw_box between v (box_in (heap_of old) (word_at (heap_of old) at)) (next_at old) at

    module _ (between : Mutator) {holds : SlotContent} (fills : FillsAt s at word holds)
        (same : (revalued s.field what).rep ≡ s.field.rep) (allocates : AllocatesBox old between
        (filling_at old at holds))
      where
        -- so the slot can be filled once the words of a box are used
        pub as_it_is_can : CanFill between at (filling_at old at holds)
        as_it_is_can =
            let fill : SlotWrite = filling_at old at holds in
            can_with_raw between at fill
            (but_raw_stays old between at fill (allocates_on fill allocates)
            (can_fill between holds fills allocates))
            (raw_as_is between holds fills same allocates)

        -- where it is filled words are stored
        pub as_it_is_on : {new : Mutator} → new ≡ filled between at (filling_at old at holds) → StoresOn old new
        as_it_is_on is =
            let seat : between.seat ≡ old.seat = allocates_seat old between (filling_at old at holds) allocates in
            subst (StoresOn old) (sym is) (stores_on_again (allocates_on (filling_at old at holds) allocates)
            (fill_on at (filling_at old at holds) as_it_is_can
            (subst (λ (one : Seat). at < layouts_start one.space) (sym seat) (slot_below s at fills.numbered))
            (subst (λ (one : Seat). IsBeforeLayouts one.space (filling_at old at holds)) (sym seat)
            (fill_room fills between allocates))))

        -- and what is put as a slot's word is put surely
        pub as_it_is_surely : {new : Mutator} → new ≡ filled between at (filling_at old at holds)
            → StoresSurely new (filled_touch (filling_at old at holds) at)
        as_it_is_surely is =
            let fill : SlotWrite = filling_at old at holds in
            let seat : between.seat ≡ old.seat = allocates_seat old between fill allocates in
            let below : at < marks_start old.seat.space =
            omega (arith, slot_below s at fills.numbered, marks_start_is old.seat.space) in
            subst (λ (main : Mutator). StoresSurely main (filled_touch fill at)) (sym is) (filled_surely between at fill
            (subst (λ (one : Seat). length (heap_words one) ≡ marks_start one.space) (sym seat)
            s.shows.shows.whole.sized.words)
            (subst (λ (one : Seat). at < marks_start one.space) (sym seat) below)
            (subst (λ (one : Seat). IsBeforeLayouts one.space fill) (sym seat) (fill_room fills between allocates)))
