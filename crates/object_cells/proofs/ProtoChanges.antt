-- Where the word in the slot for the prototype of a plain object was put, the change of cells is the object's own, and
-- its cell shows the fields that it showed, and the prototype to which the word refers.
use Rattle.std.proofs.Common.{◌≡◌, ℕ, ◌+◌, List, [], ◌∷◌, Option, Some, None}
use Rattle.std.proofs.Common.{nat_lt, IsTrue, inl, refl, sym, ◌∙◌, ap, subst, arith}
use Rattle.std.proofs.lemmas.Option.{same_Some}
use Rattle.tagged_word.specs.declared.layout.Kind.TheVariants as kind
use Rattle.tagged_word.specs.Cells.{store_slot, proto_slot}
use Rattle.tagged_word.proofs.Members.{first_in}
use Rattle.tagged_word.proofs.Offsets.{plain_has_proto}
use Rattle.page_space.specs.Extents.{eden_start}
use Rattle.mark_world.specs.declared.event.Event.TheVariants as event
use Rattle.object_graph.specs.Graphs.{Graph}
use Rattle.object_graph.specs.Reach.{is_marked, reach}
use Rattle.shape_tree.specs.Shapes.{IsPathShape, shape_path}
use Rattle.heap_model.specs.Types.{Field, Cell}
use Rattle.heap_model.specs.Heaps.{Heap, words_of_cell}
use Rattle.heap_model.specs.Slots.{undefined_word, RefersToPlace}
use Rattle.heap_model.specs.Kinds.{HoldFields, IsProtoWord, IsPlainCell, IsSoundOf}
use Rattle.heap_model.specs.Showing.{ShowsPlain, ShowsProto}
use Rattle.heap_model.specs.Needs.{capacity_at}
use Rattle.heap_model.specs.Changes.{IsOwnChange}
use Rattle.heap_model.specs.Remembered.{IsSlotOf, Touch}
use Rattle.heap_model.proofs.BoundHeaps.{none_in}
use Rattle.heap_model.proofs.CellWords.{slots_by_kind}
use Rattle.heap_model.proofs.SlotWords.{proto_names_nothing}
use Rattle.heap_model.proofs.WordsStay.{BoxStays, field_stays, shown_field, refers_to_place_stays}
use Rattle.write_barrier.specs.MutatorState.{Mutator, heap_of, MainShows}
use Rattle.write_barrier.specs.Marking.{MayPut}
use Rattle.write_barrier.specs.Recording.{Touches, touched_one}
use Rattle.write_barrier.specs.Storing.{StoresOn}
use Rattle.write_barrier.specs.SureStores.{StoresSurely}
use Rattle.write_barrier.proofs.SlotStores.{slot_stores_on}
use Rattle.write_barrier.proofs.SureStores.{slot_surely}
use Rattle.write_barrier.proofs.Recording.{slot_touch}
use Rattle.object_cells.specs.Contents.{next_at}
use Rattle.object_cells.specs.CycleChanges.{KeepsOpenCycle}
use Rattle.object_cells.specs.SureCells.{RemembersSurely}
use Rattle.object_cells.specs.Capacities.{ChangesObjectUsing, WritesBeside}
use Rattle.object_cells.specs.OwnSlots.{ComesFrom, Refills}
use Rattle.object_cells.specs.SlotChanges.{HasTagged}
use Rattle.object_cells.specs.Refills.{RestsAgain}
use Rattle.object_cells.specs.Uses.{UsesMore}
use Rattle.object_cells.proofs.BesideSound.{came_sound}
use Rattle.object_cells.proofs.FittingCells.{slot_fits}
use Rattle.object_cells.proofs.MadeBoxes.{row_of_none}
use Rattle.object_cells.proofs.NothingUsed.{room_for_none, uses_none}
use Rattle.object_cells.proofs.NumberedSlots.{IsNumbered, ProtoNamesNone, slot_of_number, slot_kind, has_numbers}
use Rattle.object_cells.proofs.OwnCapacities.{object_keeps}
use Rattle.object_cells.proofs.OwnNames.{Renames, refills_rename, renamed_own}
use Rattle.object_cells.proofs.OwnersKeep.{own_cells_keep_cycle}
use Rattle.object_cells.proofs.OwnCells.{cell_below_layouts}
use Rattle.object_cells.proofs.SureCells.{remembers_surely, stores_keep_cells}
use Rattle.object_cells.proofs.OwnSteps.{own_places_stay, own_proto_stays, own_box_stays}
use Rattle.object_cells.proofs.OwnerWrites.{plain_owns, written_own_keeps_cells}
use Rattle.object_cells.proofs.PlainFields.{plain_sound}
use Rattle.object_cells.proofs.ReplacedObjects.{rests_again}
use Rattle.object_cells.proofs.TakenRuns.{takes_none}
use Rattle.object_cells.proofs.TouchedCells.{same_cells_touched, fits_one, none_made}
use Rattle.object_cells.proofs.WordsPut.{word_beside}
use Rattle.object_cells.proofs.ProtoWrites.{PutsProto, slot_in_cell, slot_before, word_put, others_stay, none_used}
use Rattle.object_cells.proofs.ProtoWrites.{proto_writes}
use Rattle.object_cells.proofs.ProtoWrites.{proto_step, now_stands, proto_stands, store_now, slots_stay}

-- the word in the slot for a prototype shows this one, or none
abbrev pub IsWordOf : Heap → ℕ → Option ℕ → Type 0
IsWordOf heap word None = word ≡ undefined_word
IsWordOf heap word (Some number) = RefersToPlace heap word number

module _ {old new : Mutator} {cell : Cell} {word : ℕ} (puts : PutsProto old new cell word) where
  -- its cell was sound
  was_sound : IsPlainCell (heap_of old) cell (words_of_cell (heap_of old) cell)
  was_sound = plain_sound puts.whole puts.has puts.plain

  -- the word is one of a prototype slot still
  proto_still : IsProtoWord (heap_of new) word
  proto_still = own_proto_stays (proto_step puts) word puts.proto

  -- each box stays
  boxes_stay : (held : ℕ) → BoxStays (heap_of old) (heap_of new) held
  boxes_stay held = own_box_stays (proto_step puts) held (λ other there. absurd (none_in other there))

  -- so the slots hold the fields of the path
  fields_hold : HoldFields (heap_of new) (shape_path old.paths cell.header.shape) was_sound.slots
  fields_hold = record {
    room = was_sound.hold.room;
    each = λ at field held there holds.
        field_stays field.rep held (own_places_stay (proto_step puts)) (λ not_raw. boxes_stay held)
        (was_sound.hold.each at field held there holds);
    rest = was_sound.hold.rest;
  }

  -- and the cell is sound
  object_sound : IsPlainCell (heap_of new) cell (words_of_cell (heap_of new) cell)
  object_sound = record {
    shape = subst (λ paths. IsPathShape paths cell.header.shape) (sym (word_put puts).paths) was_sound.shape;
    slots = was_sound.slots;
    has = slots_stay puts was_sound.slots was_sound.has;
    hold = subst (λ paths. HoldFields (heap_of new) (shape_path paths cell.header.shape) was_sound.slots)
        (sym (word_put puts).paths) fields_hold;
    proto = word;
    proto_has = proto_stands puts;
    proto_is = proto_still;
  }

  -- the slot for the prototype names nothing
  proto_names_none : ProtoNamesNone (heap_of new) (words_of_cell (heap_of new) cell)
  proto_names_none held there named words refers owned =
      let same : word ≡ held = same_Some word held (sym (proto_stands puts) ∙ there) in
      proto_names_nothing held (subst (IsProtoWord (heap_of new)) same proto_still) refers owned

  -- each other slot holds what it held
  slots_refill : Refills kind.Store (heap_of old) (heap_of new) cell cell [] [] (HasTagged cell was_sound.slots)
      (HasTagged cell was_sound.slots)
  slots_refill = record {
    origin = λ k. k;
    apart = λ k other held another there there_too same. same;
    one = 0;
    each_slot = λ k held there. ComesFrom.moved there;
    store = was_sound.has.store;
    has_store = store_now puts was_sound.has.store was_sound.has.slot;
    store_comes = inl was_sound.has.slot;
    belong = λ other there. absurd (none_in other there);
    kinds = λ other there. absurd (none_in other there);
    stores = λ other there. absurd (none_in other there);
    boxes = λ other there. absurd (none_in other there);
  }

  -- so the slots name what they named
  slots_rename : Renames (heap_of old) (heap_of new) cell cell [] [] [] (HasTagged cell was_sound.slots)
      (IsNumbered (heap_of old) cell (words_of_cell (heap_of old) cell)) (HasTagged cell was_sound.slots)
      (IsNumbered (heap_of new) cell (words_of_cell (heap_of new) cell))
  slots_rename =
      refills_rename plain_owns puts.whole (proto_writes puts) slots_refill
      (has_numbers puts.whole.rows puts.has (proto_step puts).object
      (λ k held there. slot_of_number k held puts.has puts.plain was_sound.has there.0 there.1)
      (λ at held slot names.
      slot_kind (now_stands puts) puts.plain (slots_stay puts was_sound.slots was_sound.has) proto_names_none slot
      names))

  -- and the change of cells is the object's own
  pub proto_own : IsOwnChange (heap_of old) (heap_of new) (cell ∷ []) (cell ∷ []) []
  proto_own =
      let sound : IsSoundOf cell.layout.kind (heap_of new) cell (words_of_cell (heap_of new) cell) =
      subst (λ k. IsSoundOf k (heap_of new) cell (words_of_cell (heap_of new) cell)) (sym puts.plain) object_sound in
      renamed_own slots_rename (came_sound [] [] sound (λ other there. absurd (none_in other there)))

  -- its cell shows the fields that it showed
  pub fields_shown : (cap : ℕ) (fields : List Field)
      → ShowsPlain (heap_of old) cell (words_of_cell (heap_of old) cell) cap fields
      → ShowsPlain (heap_of new) cell (words_of_cell (heap_of new) cell) cap fields
  fields_shown cap fields shown = record {
    of_kind = shown.of_kind;
    path = ap (λ paths. shape_path paths cell.header.shape) (word_put puts).paths ∙ shown.path;
    slots = shown.slots;
    has = slots_stay puts shown.slots shown.has;
    each = λ at field held there holds.
        shown_field (nat_lt at cap) held field.rep field.value (own_places_stay (proto_step puts))
        (λ not_raw. boxes_stay held) (shown.each at field held there holds);
  }

  -- and the prototype that the word is of
  pub proto_shown : (proto : Option ℕ) → IsWordOf (heap_of old) word proto
      → ShowsProto (heap_of new) (words_of_cell (heap_of new) cell) proto
  proto_shown None is = proto_stands puts ∙ ap (λ w. Some w) is
  proto_shown (Some number) refers =
      (word, proto_stands puts, refers_to_place_stays (own_places_stay (proto_step puts)) refers)

  -- a slot's word was put at one address
  proto_touches : Touches old new (touched_one Touch.Stored (cell.at + proto_slot))
  proto_touches =
      subst (λ (main : Mutator). Touches old main (touched_one Touch.Stored (cell.at + proto_slot))) (sym puts.is)
      (slot_touch old (cell.at + proto_slot) word puts.whole.sized.words (slot_before puts))

  -- so the change is remembered, and the word was put surely
  proto_remembered : RemembersSurely old new (cell ∷ []) (cell ∷ []) []
  proto_remembered =
      let touch = touched_one Touch.Stored (cell.at + proto_slot) in
      let of_slot : IsSlotOf cell (cell.at + proto_slot) = record {
        offset = proto_slot;
        visited = slots_by_kind cell kind.Plain proto_slot puts.plain (plain_has_proto cell.layout);
        stands = refl;
      } in
      remembers_surely touch proto_touches
      (same_cells_touched (eden_start old.seat.space) 0 0 (cell ∷ []) touch (λ at below beside.
      fits_one (cell ∷ []) (cell ∷ []) Touch.Stored (cell.at + proto_slot) at
      (slot_fits puts.has (first_in cell []) (first_in cell []) of_slot)))
      (none_made (heap_of old) touch)
      (subst (λ (main : Mutator). StoresSurely main touch) (sym puts.is)
      (slot_surely old (cell.at + proto_slot) word (omega (arith, slot_before puts, puts.whole.sized.words))))

  -- and the mutator rests again
  pub proto_rests : {graph : Graph} → MainShows old graph → RestsAgain old new []
  proto_rests shows =
      let kept = written_own_keeps_cells plain_owns puts.whole (proto_writes puts) in
      rests_again (cell ∷ []) (cell ∷ []) [] shows
      (takes_none (word_beside (word_put puts) (slot_before puts)) (room_for_none old puts.tied puts.whole)
      (none_used puts))
      (proto_writes puts).sized kept.0 kept.1 proto_remembered.remembers

  -- where the word may be stored, an open cycle is kept
  pub proto_keeps_cycle : {graph : Graph} (after : Graph) → MainShows old graph
      → IsTrue (is_marked (reach after) cell.header.object)
      → MayPut old (cell.at + proto_slot) (event.StoreSlot (cell.at + proto_slot) word)
      → KeepsOpenCycle old new after (cell ∷ []) (cell ∷ []) []
  proto_keeps_cycle after shows reached may =
      let before = cell_below_layouts puts.whole puts.has (slot_in_cell puts) in
      let stores : StoresOn old new =
      subst (StoresOn old) (sym puts.is) (slot_stores_on (cell.at + proto_slot) word before may) in
      own_cells_keep_cycle after (inl refl) plain_owns shows (proto_writes puts) slots_refill proto_own
      (proto_rests shows).takes reached
      (stores_keep_cells plain_owns shows (proto_writes puts) proto_remembered stores)

  -- no word more is used, and what stands beside the words stays
  pub proto_uses : UsesMore old new 0
  proto_uses = uses_none (word_beside (word_put puts) (slot_before puts)) (word_put puts).young proto_touches.free

  -- only a word of the object has changed, and each object keeps the capacity of its store
  pub proto_keeps : ChangesObjectUsing old new 0 cell.at (capacity_at (heap_of old) cell.at)
  proto_keeps =
      let beside : WritesBeside kind.Plain kind.Store (heap_of old) (heap_of new) cell cell [] [] = record {
        owns = plain_owns;
        whole = puts.whole;
        writes = proto_writes puts;
        belong = λ other there. absurd (none_in other there);
        kinds = λ other there. absurd (none_in other there);
        stores = λ other there. absurd (none_in other there);
      } in
      object_keeps beside (row_of_none (heap_of new) (next_at old))
      (others_stay puts (cell.at + store_slot) (λ same. omega (arith, same)))
