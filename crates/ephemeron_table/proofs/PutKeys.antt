-- What comes of a put where the key is there: its entry has the value, or there is no room.
use Rattle.std.proofs.Common.{◌≡◌, ℕ, ◌+◌, ◌<◌, Some, Err, length, sym, ◌∙◌, ap, subst, arith, false}
use Rattle.std.proofs.lemmas.Option.{none-some}
use Rattle.heap_model.specs.Types.{Value, Held}
use Rattle.object_graph.specs.Graphs.{Graph, WeakObject}
use Rattle.object_graph.specs.Invariants.{IsValue}
use Rattle.page_space.specs.Extents.{marks_start}
use Rattle.handle_roots.specs.Roots.{FitsHeld}
use Rattle.heap_model.specs.Slots.{IsSlotWord}
use Rattle.heap_model.specs.Needs.{word_at}
use Rattle.heap_model.specs.Rooms.{IsMapFull, room_put, wput_need}
use Rattle.write_barrier.specs.MutatorState.{Mutator, heap_of}
use Rattle.write_barrier.specs.declared.room.NoRoom.{NoRoom}
use Rattle.write_barrier.specs.Recording.{Touches, touched_one, touched_then}
use Rattle.object_cells.specs.Contents.{next_at, box_in, filling_at, filling_of, filling_need, HoldsSlotWord}
use Rattle.object_cells.specs.Contents.{LacksRoom}
use Rattle.object_cells.specs.HeldValues.{IsValueHeld}
use Rattle.object_cells.specs.Made.{content_need, content_touch, slot_touch, store_content}
use Rattle.object_cells.proofs.NothingUsed.{room_for_none}
use Rattle.object_cells.proofs.FilledSlots.{FilledBy, slot_filled, held_before, no_raw}
use Rattle.object_cells.proofs.FilledTouches.{fills_slot_touch}
use Rattle.object_cells.proofs.HeldNeeds.{held_is_value, new_value_held}
use Rattle.object_cells.proofs.SlotBoxes.{box_of_word, lacks_need}
use Rattle.ephemeron_table.specs.EntryChanges.{map_room, HasPutEntry, PutsEntry}
use Rattle.ephemeron_table.specs.declared.stop.TableStop.TheVariants as stop
use Rattle.ephemeron_table.specs.PairLaws.{WrittenEntriesShow}
use Rattle.ephemeron_table.specs.Puttings.{FillsValue}
use Rattle.heap_model.specs.Remembered.{Touch}
use Rattle.object_cells.specs.declared.content.SlotContent.{SlotContent}
use Rattle.weak_pairs.specs.Tables.{value_in, value_offset}
use Rattle.weak_pairs.specs.declared.table.Table.{Table}
use Rattle.ephemeron_table.proofs.BoxedMaps.{box_replaces}
use Rattle.ephemeron_table.proofs.EntriesPut.{entry_put}
use Rattle.ephemeron_table.proofs.EntryPairs.{HasEntryPair, known, entry_need, value_read, value_slot}
use Rattle.ephemeron_table.proofs.KnownTables.{cell}
use Rattle.ephemeron_table.proofs.PutPlaces.{puts_to_pair}
use Rattle.ephemeron_table.proofs.PutShown.{CountsPut, PutsShown}
use Rattle.ephemeron_table.proofs.ReplacedValues.{ReplacesValue, changes, filled_as_many, puts_one}
use Rattle.ephemeron_table.proofs.SlotValues.{slot_replaces}

module _ {old : Mutator} {graph : Graph} {map key : ℕ} {weak : WeakObject} {number place : ℕ} {table : Table}
    (has : HasEntryPair old graph map key weak number place table) where
  -- the map is not full for a key that is there
  pub not_full_there : IsMapFull (map_room old map weak) weak number → ⊥
  not_full_there lacks = none-some has.told.value (sym lacks.fresh ∙ has.told.is_entry)

  -- the word of its value may be filled
  pub value_before : (value : Held)
      → HoldsSlotWord (heap_of old) (value_in (heap_of old) table.at place) (store_content value)
  value_before value =
      held_before (heap_of old) (value_in (heap_of old) table.at place) (store_content value)
      (subst (IsSlotWord (heap_of old)) (sym (value_read has)) (value_slot has))

  -- where there is no room, putting it is refused
  pub value_refused : {new : Mutator} (value : Held) (what : Value) (full : NoRoom) → IsValueHeld old graph value what
      → LacksRoom old (filling_at old (table.at + value_offset place) (store_content value)) full → new ≡ old
      → PutsEntry old new graph map key weak number what (Err (stop.Full full))
  value_refused value what full held lacks same =
      let told = lacks_need old (filling_at old (table.at + value_offset place) (store_content value)) full lacks in
      (not_full_there, told.0 ∙ entry_need has value what held.shows, told.1, same)

-- so the pair of the entry came to have the value, by how it was put
replaces_by : {old new : Mutator} {graph : Graph} {map key : ℕ} {weak : WeakObject} {number place : ℕ} {table : Table}
    (value : Held) (what : Value) (has : HasEntryPair old graph map key weak number place table)
    → IsValue (length graph.objects) what → IsValueHeld old graph value what
    → FilledBy old new (table.at + value_offset place) (word_at (heap_of old) (table.at + value_offset place))
    (store_content value)
    → (filling_need (filling_at old (table.at + value_offset place) (store_content value))
    ≡ content_need (store_content value)
    → Touches old new (touched_then (content_touch (store_content value) (next_at old))
    (touched_one (slot_touch (store_content value)) (table.at + value_offset place))))
    → (need : ℕ) × ReplacesValue old new (known has) place key what need
    × (need ≡ wput_need (map_room old map weak) weak what number)
replaces_by value what has is_value held (FilledBy.slot room words needs) touches =
    let holds = new_value_held false value what held.shows in (
      _,
      slot_replaces value has holds is_value room words (touches needs),
      sym needs
          ∙ entry_need has value what held.shows,
    )
replaces_by {old} {place = place} {table} value what has is_value held (FilledBy.of_box box v boxed found same) touches
    =
    let heap = heap_of old in
    let holds = new_value_held false value what held.shows in
    let word : ℕ = word_at heap (table.at + value_offset place) in
    let box_of = box_of_word has.told.pair.value box has.shows.shows.whole.sized (value_slot has)
    (ap (box_in heap) (sym (value_read has)) ∙ found) in
    let none : filling_need (filling_of (box_in heap word) (next_at old) (store_content value)) ≡ 0 =
    ap (λ o. filling_need (filling_of o (next_at old) (store_content value))) found
    ∙ ap (λ put. filling_need (filling_of (Some box) (next_at old) put)) boxed in
    (0, box_replaces v value has box_of same holds is_value boxed, sym none ∙ entry_need has value what held.shows)

-- where the slot of a value was filled, it is as where others are
value_filled : {old filled new : Mutator} {at word : ℕ} {holds : SlotContent}
    → new ≡ record filled { cycle = old.cycle } → FilledBy old filled at word holds → FilledBy old new at word holds
value_filled {old} {at = at} {word} {holds} same (FilledBy.slot room words needs) =
    subst (λ (main : Mutator). FilledBy old main at word holds) (sym same) (FilledBy.slot room (record {
      beside = words.beside;
      paths = words.paths;
      young = words.young;
      heap = words.heap;
    }) needs)
value_filled {old} {at = at} {word} {holds} same (FilledBy.of_box box v boxed found put) =
    FilledBy.of_box box v boxed found (same ∙ ap (λ (main : Mutator). record main { cycle = old.cycle }) put)

-- and touched
value_touched : {old filled new : Mutator} {touch : ℕ → Touch} → new ≡ record filled { cycle = old.cycle }
    → Touches old filled touch → Touches old new touch
value_touched {old} {touch = touch} same touches =
    subst (λ (main : Mutator). Touches old main touch) (sym same)
    (record { free = touches.free; bound = touches.bound; records = touches.records })

-- so it does where its word was filled
replaces_value : {old new : Mutator} {graph : Graph} {map key : ℕ} {weak : WeakObject} {number place : ℕ}
    {table : Table} (value : Held) (what : Value) (has : HasEntryPair old graph map key weak number place table)
    → IsValue (length graph.objects) what → IsValueHeld old graph value what
    → FillsValue old new (table.at + value_offset place) (store_content value)
    → (need : ℕ) × ReplacesValue old new (known has) place key what need
    × (need ≡ wput_need (map_room old map weak) weak what number)
replaces_value {old} {new} {place = place} {table} value what has is_value held fills =
    let room = room_for_none old has.shows.tied has.shows.shows.whole in
    let below : table.at + value_offset place < marks_start old.seat.space =
    omega (arith, has.is_table.within, has.below) in
    replaces_by value what has is_value held
    (value_filled fills.same (slot_filled fills.fills has.shows.tied below room
    (λ w. no_raw w (new_value_held false value what held.shows))))
    (λ need. value_touched fills.same
    (fills_slot_touch fills.fills has.shows.tied has.shows.shows.whole below (value_before has value) need))

-- and so its pair was put
pub puts_value_pair : {old new : Mutator} {graph : Graph} {map key : ℕ} {weak : WeakObject} {number place : ℕ}
    {table : Table} (value : Held) (what : Value) (has : HasEntryPair old graph map key weak number place table)
    → FitsHeld value → IsValueHeld old graph value what
    → FillsValue old new (table.at + value_offset place) (store_content value)
    → PutsShown old new graph map key weak number value what
puts_value_pair {old} {new} {table = table} value what has fits held fills =
    let is_value = held_is_value value what has.shows fits held.shows in
    let by = replaces_value value what has is_value held fills in
    let replaces = by.1 in
    record {
      shows = has.shows;
      is = has.is;
      is_key = has.is_key;
      is_held = held;
      sizes = has.sizes;
      table = table;
      is_table = has.is_table;
      few = not_full_there has;
      puts = puts_to_pair has fills;
      cell = cell (known has);
      others = replaces.others;
      made = replaces.made;
      stands = (known has).there.stands;
      refills = replaces.refills;
      takes = replaces.takes;
      stores = fills.stores;
      remembers = replaces.remembers;
      one = puts_one has replaces;
      need = by.0;
      capacity = _;
      changes = changes has replaces;
      counted = CountsPut.there has.told.value has.told.is_entry (filled_as_many has replaces);
    }

-- and the entry has the value
pub has_put_value : {old new : Mutator} {graph : Graph} {map key : ℕ} {weak : WeakObject} {number place : ℕ}
    {table : Table} (value : Held) (what : Value) (has : HasEntryPair old graph map key weak number place table)
    → FitsHeld value → IsValueHeld old graph value what → WrittenEntriesShow
    → FillsValue old new (table.at + value_offset place) (store_content value)
    → HasPutEntry old new graph map key weak number what
unfolding puts_value_pair
has_put_value {old} {map = map} {weak = weak} value what has fits held entries_show fills =
    let is_value = held_is_value value what has.shows fits held.shows in
    let replaces = replaces_value value what has is_value held fills in
    entry_put (puts_value_pair value what has fits held fills) entries_show is_value replaces.2
    (ap (λ found. (room_put (map_room old map weak) found).capacity) (sym has.told.is_entry)) replaces.1.room
    replaces.1.beside replaces.1.young
