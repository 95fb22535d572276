-- Where a plain object can be reached, a field of it may be taken out in an open cycle.
use Rattle.std.proofs.Common.{◌≡◌, ℕ, ◌+◌, ◌^◌, ◌<◌, ◌≤◌, true, inl, refl, IsTrue, List, Option, Some, None, length}
use Rattle.std.proofs.Common.{slice_get}
use Rattle.std.proofs.Common.{sym, ◌∙◌, ap, subst, arith, length-drop}
use Rattle.tagged_word.specs.declared.layout.Kind.TheVariants as kind
use Rattle.tagged_word.specs.Cells.{plain_head, store_head}
use Rattle.page_space.specs.Extents.{marks_start}
use Rattle.object_graph.specs.declared.value.Rep.TheVariants as rep
use Rattle.object_graph.specs.Graphs.{Graph, PlainObject}
use Rattle.object_graph.specs.Reach.{is_marked, reach}
use Rattle.heap_model.specs.Types.{Cell, Path, PathField, Rep}
use Rattle.heap_model.specs.Heaps.{HasCell}
use Rattle.heap_model.specs.Kinds.{HasWord}
use Rattle.heap_model.specs.Remembered.{Touch}
use Rattle.heap_model.specs.Wholeness.{HasSlotAt}
use Rattle.heap_model.proofs.CellsApart.{one_at}
use Rattle.heap_model.proofs.CellWords.{words_are_size, words_by_kind}
use Rattle.heap_model.proofs.PathLayouts.{layout_is}
use Rattle.shape_tree.specs.Shapes.{shape_path}
use Rattle.shape_tree.specs.ShapeLayouts.{layout_of, raw_bit}
use Rattle.write_barrier.specs.MutatorState.{Mutator, heap_of, MainShows}
use Rattle.write_barrier.specs.Seats.{heap_words}
use Rattle.write_barrier.specs.Storing.{MayChange, MayHold}
use Rattle.write_barrier.proofs.StoresOn.{cell_may_change}
use Rattle.object_cells.specs.CellsAt.{HasField}
use Rattle.object_cells.specs.PlainObjects.{IsPlainAt}
use Rattle.object_cells.proofs.CalmCells.{slot_may_hold}
use Rattle.object_cells.proofs.ContentsHeld.{reached_born}
use Rattle.object_cells.proofs.PathOffsets.{field_has_slot}
use Rattle.object_cells.proofs.PlainFields.{plain_sound}
use Rattle.object_cells.proofs.SlotsNow.{plain_cell_size, word_at_offset}
use Rattle.object_cells.proofs.TouchedOffsets.{store_has_slot}
use Rattle.shape_change.specs.Deletions.{HasStoreAt, MayTakeOut}
use Rattle.shape_change.specs.Shifts.{MayChangeStore, field_touch, fields_beside, rep_touch}
use Rattle.shape_change.proofs.StoresFound.{beside_are, fields_counted}

-- a field whose slot is put as a slot
record IsTaggedField (found : Option PathField) : Type 0 where
  field : PathField
  is : found ≡ Some field
  tagged : raw_bit field.rep ≡ 0

-- a representation that is put as a slot is not wide
rep_tagged : (one : Rep) → rep_touch one ≡ Touch.Stored → raw_bit one ≡ 0
rep_tagged rep.Small stored = refl
rep_tagged rep.Wide stored = absurd (cc)
rep_tagged rep.Tagged stored = refl

-- an in-object slot that is put as a slot is a field's
tagged_field : (found : Option PathField) → field_touch true found ≡ Touch.Stored → IsTaggedField found
tagged_field None stored = absurd (cc)
tagged_field (Some field) stored = record { field = field; is = refl; tagged = rep_tagged field.rep stored }

module _ {main : Mutator} {graph : Graph} {plain : PlainObject} {object shape slot : ℕ}
    (fit : marks_start main.seat.space < 2 ^ 32) (shows : MainShows main graph)
    (is : IsPlainAt main graph object plain) (there : HasField (heap_of main) object shape slot) where
  -- the path of the shape
  abbrev path : Path
  path = shape_path main.paths shape

  -- a cell that stands there is the object's, which can be reached
  reached_there : {cell : Cell} {words : List ℕ} → HasCell (heap_of main) cell words → cell.at ≡ object
      → IsTrue (is_marked (reach graph) cell.header.object)
  reached_there {cell} has at =
      let same : is.place.cell ≡ cell = one_at is.place.has has (is.place.stands ∙ sym at) in
      subst (λ n. IsTrue (is_marked (reach graph) n))
      (sym (ap (λ (c : Cell). c.header.object) (sym same) ∙ is.place.carries)) is.reached

  -- its cell has the layout of the path
  laid : there.cell.layout ≡ layout_of path
  laid =
      layout_is shows.shows.whole.sized there.has (plain_sound shows.shows.whole there.has there.plain).shape
      ∙ ap (λ s. layout_of (shape_path main.paths s)) there.of_shape

  -- and as many in-object slots
  cap_is : there.cell.layout.cap ≡ path.cap
  cap_is = (fields_counted shows.shows.whole there).cap

  -- the word of an in-object slot may be held
  own_held : (one word : ℕ) → one < path.cap → field_touch true (slice_get path.fields one) ≡ Touch.Stored
      → slice_get (heap_words main.seat) (object + (plain_head + one)) ≡ Some word → MayHold main word
  own_held one word below stored stands =
      let tagged = tagged_field (slice_get path.fields one) stored in
      let of_cell = field_has_slot there.cell path one tagged.field laid below tagged.is tagged.tagged in
      let offset : of_cell.offset ≡ plain_head + one = omega (arith, of_cell.stands) in
      let size = plain_cell_size there.has there.plain in
      let holds : HasWord there.words of_cell.offset word =
      word_at_offset of_cell.offset there.has (omega (arith, offset, size, below, cap_is))
      ∙ ap (slice_get (heap_words main.seat)) (omega (arith, offset, there.stands)) ∙ stands in
      slot_may_hold shows fit there.has (inl there.plain) (reached_there there.has there.stands)
      (HasSlotAt.own of_cell.offset word of_cell.visited holds)

  -- the store has a slot for each field that does not stand in the object
  store_long : {store : ℕ} (stored : HasStoreAt (heap_of main) object store)
      → fields_beside path ≤ stored.other.length
  store_long stored =
      let counted = fields_counted shows.shows.whole there in
      let are = beside_are stored there.has there.stands counted.are in
      let words = words_by_kind kind.Store stored.refers.has stored.is_store in
      omega (arith, counted.room, counted.long, counted.cap, ap length are, length-drop store_head stored.others, words)

  -- its words may be changed
  store_may_change : (store : ℕ) → HasStoreAt (heap_of main) object store
      → MayChangeStore main store (fields_beside path)
  store_may_change store stored =
      let words = words_by_kind kind.Store stored.refers.has stored.is_store in
      record {
        size = stored.other.size;
        long = omega (arith, store_long stored, words, words_are_size stored.refers.has);
        may = subst (λ at. MayChange main at stored.other.size kind.Store) stored.at
            (subst (MayChange main stored.other.at stored.other.size) stored.is_store
            (cell_may_change shows stored.refers.has));
      }

  -- and the word of each slot of it may be held
  beside_held : (store one word : ℕ) → HasStoreAt (heap_of main) object store → one < fields_beside path
      → slice_get (heap_words main.seat) (store + (store_head + one)) ≡ Some word → MayHold main word
  beside_held store one word stored below stands =
      let long = store_long stored in
      let words = words_by_kind kind.Store stored.refers.has stored.is_store in
      let of_store = store_has_slot {cell = stored.other} {at = stored.other.at + (store_head + one)} stored.is_store
      (record {
        from = omega arith;
        below = omega (arith, below, long);
      }) in
      let offset : of_store.offset ≡ store_head + one = omega (arith, of_store.stands) in
      let holds : HasWord stored.others of_store.offset word =
      word_at_offset of_store.offset stored.refers.has
      (omega (arith, offset, below, long, words, words_are_size stored.refers.has))
      ∙ ap (slice_get (heap_words main.seat)) (omega (arith, offset, stored.at)) ∙ stands in
      slot_may_hold shows fit stored.has (inl stored.plain) (reached_there stored.has stored.stands)
      (HasSlotAt.beside stored.word stored.other stored.others of_store.offset word stored.slot stored.refers
      of_store.visited holds)

  -- so a field may be taken out
  pub shown_may_take_out : MayTakeOut main object shape
  shown_may_take_out = record {
    may = subst (λ at. MayChange main at (plain_head + path.cap) kind.Plain) there.stands
        (subst (λ size. MayChange main there.cell.at size kind.Plain)
        (plain_cell_size there.has there.plain ∙ ap (λ n. plain_head + n) cap_is)
        (subst (MayChange main there.cell.at there.cell.size) there.plain (cell_may_change shows there.has)));
    born = λ below mark. reached_born plain.number object shows is.reached is.place mark below;
    own = own_held;
    may_beside = store_may_change;
    beside = beside_held;
  }
