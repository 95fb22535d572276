-- A field that comes to an in-object slot is shown.
use Rattle.std.specs.Prelude.{slice_set}
use Rattle.std.proofs.lemmas.Bool.{lt-ltb}
use Rattle.heap_model.specs.Types.{Header, Value, Held, Field, Path}
use Rattle.tagged_word.specs.Cells.{plain_head}
use Rattle.object_graph.specs.declared.value.Rep.TheVariants as rep
use Rattle.object_graph.specs.Values.{rep_of}
use Rattle.object_graph.specs.Objects.{with_field}
use Rattle.object_graph.specs.Graphs.{Graph, PlainObject}
use Rattle.shape_tree.specs.Shapes.{shape_path, stepped}
use Rattle.write_barrier.specs.Seats.{heap_words}
use Rattle.heap_model.specs.Heaps.{words_of_cell}
use Rattle.heap_model.proofs.CellsApart.{IsOfCell, first_of_cell}
use Rattle.heap_model.proofs.BoundHeaps.{none_in}
use Rattle.write_barrier.specs.MutatorState.{Mutator, heap_of}
use Rattle.write_barrier.specs.Recording.{touched_one}
use Rattle.object_cells.specs.PlainObjects.{ShowsRefilled}
use Rattle.object_cells.specs.Contents.{next_at}
use Rattle.shape_change.specs.Additions.{AddsOwn, AddsPath, added_path, count_of, own_content, with_shape}
use Rattle.shape_change.specs.Shifts.{field_touch}
use Rattle.heap_model.specs.Needs.{capacity_at}
use Rattle.object_cells.specs.Capacities.{ChangesObjectUsing}
use Rattle.object_cells.proofs.OwnSteps.{written_places_stay}
use Rattle.object_cells.proofs.OwnerWrites.{plain_owns}
use Rattle.object_cells.proofs.HeldNeeds.{new_value_held}
use Rattle.shape_change.proofs.AddedContents.{content_shows, own_holds_no_box}
use Rattle.object_cells.proofs.ContentValues.{content_comes}
use Rattle.shape_change.proofs.TaggedBefore.{wide_not_tagged}
use Rattle.object_cells.specs.SlotChanges.{IsTaggedSlot, HasTagged}
use Rattle.object_cells.specs.CellWrites.{reshaped}
use Rattle.object_cells.specs.Made.{content_word, slot_touch}
use Rattle.heap_model.specs.Showing.{ShowsField}
use Rattle.std.proofs.lemmas.List.{length-map}
use Rattle.std.proofs.Common.{◌≡◌, ℕ, ◌+◌, ◌<◌, true, [], length, Some, refl, sym, ◌∙◌, ap, subst, arith, nat_lt}
use Rattle.shape_tree.specs.ShapeLayouts.{layout_of}
use Rattle.object_graph.specs.Paths.{path_of}
use Rattle.shape_change.proofs.OneAdded.{added_keeps, one_adds}
use Rattle.object_cells.proofs.MadeBoxes.{row_of_none}
use Rattle.shape_change.proofs.FullStores.{length-slots}
use Rattle.object_cells.proofs.NumberedSlots.{IsNumbered}
use Rattle.object_cells.proofs.OwnCells.{cell_below_layouts}
use Rattle.object_cells.proofs.SlotsNow.{plain_cell_size}
use Rattle.shape_change.proofs.AddedFields.{new_field, path_of-push}
use Rattle.shape_change.proofs.AddedWords.{PutsOver, over_last}
use Rattle.object_cells.proofs.FilledSlots.{reserved_none}
use Rattle.object_cells.proofs.NothingUsed.{room_for_none}
use Rattle.object_cells.proofs.TouchedFields.{TouchesObject}
use Rattle.shape_change.proofs.AddedShown.{Adding, added_shows}
use Rattle.shape_change.proofs.RunTouches.{TouchesSurely, touches_alone}
use Rattle.write_barrier.specs.SureStores.{StoresSurely}
use Rattle.shape_change.proofs.OneAdding.{OneAdding, one_adding, path_after}
use Rattle.shape_change.proofs.TouchedSlots.{content_touches}
use Rattle.shape_change.proofs.AddedTouches.{path_touches, one_remembered}

-- the address of the slot behind those of the fields, in the object
abbrev own_place : Mutator → ℕ → Header → ℕ
own_place old object header = object + (plain_head + count_of old.paths header.shape)

module _ {old : Mutator} {graph : Graph} {plain : PlainObject} {object : ℕ} {header : Header} {name : ℕ} {value : Held}
    {what : Value} (known : Adding old graph plain object header name value what)
    (own : count_of old.paths header.shape < (shape_path old.paths header.shape).cap) where
  -- where the object has the slot, its address is one of the object's cell
  own_of_cell : IsOfCell known.cell (own_place old object header)
  own_of_cell =
      let size = plain_cell_size known.has known.shown.of_kind in
      record { from = omega (arith, known.stands); below = omega (arith, known.stands, known.cap, own, size) }

  -- namely that of the slot of this number
  own_numbered : IsNumbered (heap_of old) known.cell (words_of_cell (heap_of old) known.cell) (length plain.fields)
      (own_place old object header)
  own_numbered =
      IsNumbered.own (omega (arith, known.count, known.cap, own)) (omega (arith, known.count, known.stands)) own_of_cell

  -- so the words that are put are one word and the header
  pub own_over : {new : Mutator} → (adds : AddsOwn old new object header name value)
      → PutsOver old adds.mid new (added_path old.paths header.shape name value) known.cell adds.next
      (own_place old object header) (content_word (own_content value) 0) 0
      (with_shape
      (slice_set (heap_words adds.mid.seat) (own_place old object header) (content_word (own_content value) 0)) object
      header adds.next)
  own_over adds =
      let whole = known.shows.shows.whole in
      let path = subst (λ main. AddsPath main adds.mid (added_path old.paths header.shape name value) adds.next)
      (reserved_none old) adds.path in
      over_last adds.next (own_place old object header) (content_word (own_content value) 0) 0 object
      (heap_words adds.mid.seat)
      known.can.tied (room_for_none old known.can.tied whole) path adds.words refl (λ a not_new. refl)
      known.stands known.headed
      (λ same. omega (arith, same, known.stands)) (cell_below_layouts whole known.has (first_of_cell known.has))
      (cell_below_layouts whole known.has own_of_cell)

  -- so the field is added
  own_adding : {new : Mutator} → (adds : AddsOwn old new object header name value)
      → OneAdding (heap_of old) (heap_of new) known.cell adds.next (own_place old object header)
      (content_word (own_content value) 0) [] plain.fields (new_field name what)
  own_adding {new} adds =
      one_adding [] known (own_over adds) (row_of_none (heap_of new) (next_at old)) own_numbered
      (omega (arith, known.count, known.cap, own, length-slots known.has known.shown.of_kind known.sound.has))

  -- where the field is wide, its slot is raw
  own_not_tagged : {new : Mutator} → (adds : AddsOwn old new object header name value)
      → IsTaggedSlot (reshaped new.paths known.cell adds.next) (length plain.fields) → rep_of what ≡ rep.Wide → ⊥
  own_not_tagged {new = new} adds tagged wide =
      let cap : ℕ = known.cell.layout.cap in
      let before : Path = path_of cap plain.fields in
      let path : shape_path new.paths adds.next ≡ stepped before name rep.Wide =
      path_after known (own_over adds) ∙ path_of-push cap plain.fields (new_field name what)
      ∙ ap (stepped before name) wide in
      wide_not_tagged (reshaped new.paths known.cell adds.next) before name (length plain.fields) (ap layout_of path)
      (sym (length-map plain.fields (λ (f : Field). record { name = f.name; rep = f.rep })))
      (omega (arith, known.count, known.cap, own)) tagged

  -- only the slot and the header were touched
  own_touches : {new : Mutator} → AddsOwn old new object header name value
      → TouchesObject old new known.cell.at
      (touched_one (field_touch (nat_lt (length plain.fields) known.cell.layout.cap)
      (Some (record { name = name; rep = rep_of what }))) (own_place old object header))
  own_touches {new} adds =
      let place : ℕ = own_place old object header in
      let slot : ℕ = length plain.fields in
      let test : nat_lt slot known.cell.layout.cap ≡ true =
      lt-ltb slot known.cell.layout.cap (omega (arith, known.count, known.cap, own)) in
      let how : slot_touch (own_content value)
      ≡ field_touch (nat_lt slot known.cell.layout.cap) (Some (record { name = name; rep = rep_of what })) =
      content_touches name (new_value_held true value what known.held.shows)
      ∙ ap (λ o. field_touch o (Some (record { name = name; rep = rep_of what }))) (sym test) in
      subst (λ a. TouchesObject old new a (touched_one (field_touch (nat_lt slot known.cell.layout.cap)
      (Some (record { name = name; rep = rep_of what }))) place)) (sym known.stands)
      (subst (λ h. TouchesObject old new object (touched_one h place)) how
      (path_touches 0 (own_over adds).adds known.shows.bounded adds.touches))

  -- surely
  own_touched : {new : Mutator} → AddsOwn old new object header name value
      → TouchesSurely old new known.cell.at
      (touched_one (field_touch (nat_lt (length plain.fields) known.cell.layout.cap)
      (Some (record { name = name; rep = rep_of what }))) (own_place old object header))
  own_touched {new} adds =
      let slot : ℕ = length plain.fields in
      let test : nat_lt slot known.cell.layout.cap ≡ true =
      lt-ltb slot known.cell.layout.cap (omega (arith, known.count, known.cap, own)) in
      let how : slot_touch (own_content value)
      ≡ field_touch (nat_lt slot known.cell.layout.cap) (Some (record { name = name; rep = rep_of what })) =
      content_touches name (new_value_held true value what known.held.shows)
      ∙ ap (λ o. field_touch o (Some (record { name = name; rep = rep_of what }))) (sym test) in
      record {
        touches = own_touches adds;
        surely = subst (λ h. StoresSurely new (touched_one h (own_place old object header))) how adds.surely;
      }

  -- and the graph is shown in which the object has it
  pub own_shown : {new : Mutator} → AddsOwn old new object header name value
      → ShowsRefilled new graph plain (with_field plain.fields name what)
  own_shown {new} adds =
      let one = own_adding adds in
      let over = own_over adds in
      let slot : ℕ = length plain.fields in
      let word : ℕ = content_word (own_content value) 0 in
      let places = written_places_stay plain_owns known.shows.shows.whole one.writes in
      let holds = new_value_held true value what known.held.shows in
      let below : slot < known.cell.layout.cap = omega (arith, known.count, known.cap, own) in
      let test : nat_lt slot known.cell.layout.cap ≡ true = lt-ltb slot known.cell.layout.cap below in
      let shows : ShowsField (heap_of new) true word (rep_of what) what =
      content_shows (length graph.objects) 0 holds places known.fits
      (λ v boxed. absurd (own_holds_no_box v holds boxed)) in
      added_shows 0 known over.room over.adds over.puts (row_of_none (heap_of new) (next_at old)) one.writes
      (one_adds one.adds (subst (λ o. ShowsField (heap_of new) o word (rep_of what) what) (sym test) shows)
      (λ tagged. content_comes (HasTagged known.cell one.adds.sound.slots) [] slot slot 0 holds places
      (λ is_own wide. own_not_tagged adds tagged wide) (λ v boxed. absurd (own_holds_no_box v holds boxed)))
      (λ other there. absurd (none_in other there)) (λ other there. absurd (none_in other there)))
      (one_remembered one.adds (touches_alone (own_touched adds))) adds.stores

  -- each property store has as many slots as before
  pub own_keeps : {new : Mutator} → AddsOwn old new object header name value
      → ChangesObjectUsing old new 0 known.cell.at (capacity_at (heap_of old) known.cell.at)
  own_keeps {new} adds =
      added_keeps (own_adding adds).adds (row_of_none (heap_of new) (next_at old))
      (λ other there. absurd (none_in other there))
