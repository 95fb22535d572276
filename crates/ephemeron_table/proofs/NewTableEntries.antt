-- A weak map that has an entry of a new key in a table that was made is shown with the entry; and where there is no
-- room.
use Rattle.std.proofs.Common.{◌≡◌, ℕ, ◌+◌, [], length, cond, Err, false, refl, sym, ◌∙◌, ap, subst, arith}
use Rattle.tagged_word.proofs.Members.{first_in}
use Rattle.nursery.specs.Young.{HasRoom}
use Rattle.heap_model.specs.Types.{Value, Held}
use Rattle.object_graph.specs.Graphs.{Graph, WeakObject}
use Rattle.object_graph.specs.Invariants.{IsValue}
use Rattle.handle_roots.specs.Roots.{FitsHeld}
use Rattle.heap_model.specs.Needs.{capacity_at, count_at, grown_table}
use Rattle.heap_model.specs.Rooms.{IsMapFull, room_put}
use Rattle.object_graph.specs.Objects.{entry_value}
use Rattle.write_barrier.specs.MutatorState.{Mutator, heap_of}
use Rattle.write_barrier.specs.declared.room.NoRoom.{NoRoom}
use Rattle.object_cells.specs.HeldValues.{IsValueHeld}
use Rattle.object_cells.specs.Capacities.{ChangesObjectUsing}
use Rattle.object_cells.specs.Made.{RefusesRoom}
use Rattle.object_cells.proofs.HeldNeeds.{held_is_value, new_value_held}
use Rattle.object_cells.proofs.FilledRuns.{filled_named, own_row}
use Rattle.object_cells.proofs.TakenRuns.{takes_run}
use Rattle.object_cells.proofs.UnusedWords.{marks_fit}
use Rattle.page_space.proofs.Starts.{marks_start_is}
use Rattle.ephemeron_table.proofs.KeptTables.{tables_grow}
use Rattle.ephemeron_table.specs.EntryChanges.{map_room, HasPutEntry, PutsEntry}
use Rattle.ephemeron_table.specs.declared.stop.TableStop.TheVariants as stop
use Rattle.ephemeron_table.specs.Rehashing.{PutsInNewTable, new_table_need}
use Rattle.ephemeron_table.specs.PairLaws.{WrittenEntriesShow}
use Rattle.weak_pairs.specs.declared.table.Table.{Table}
use Rattle.ephemeron_table.proofs.EntriesPut.{entry_put}
use Rattle.ephemeron_table.proofs.GrownMaps.{GrowsEntry, puts_one, all_made, boxes_made, refills_weak, table_made}
use Rattle.ephemeron_table.proofs.GrownPairs.{one_more}
use Rattle.ephemeron_table.proofs.GrownTouches.{grown_remembers}
use Rattle.ephemeron_table.proofs.GrownWords.{GrowsTable, filled, need, run}
use Rattle.ephemeron_table.proofs.KnownTables.{cell, count_is}
use Rattle.ephemeron_table.proofs.PutPlaces.{puts_to_new_table}
use Rattle.ephemeron_table.proofs.PutShown.{CountsPut, PutsShown}
use Rattle.std.proofs.Common.{◌≡◌, ℕ, suc, ◌+◌, ◌*◌, ◌<◌, true, false, cond, [], length}
use Rattle.std.proofs.Common.{refl, sym, ◌∙◌, ap, subst, arith, nat_lt}
use Rattle.std.proofs.lemmas.Bool.Decides.{nat_tests}
use Rattle.tagged_word.specs.Cells.{store_head}
use Rattle.heap_model.specs.Types.{Value, Held}
use Rattle.object_graph.specs.Objects.{entry_value}
use Rattle.heap_model.specs.Needs.{box_need, capacity_at, count_at, grown_table, table_need}
use Rattle.heap_model.specs.Rooms.{is_wide, wput_need, wput_need_by}
use Rattle.write_barrier.specs.MutatorState.{Mutator, heap_of}
use Rattle.object_cells.proofs.HeldNeeds.{content_need_is, wide_is}
use Rattle.ephemeron_table.specs.Rehashing.{CanGrow, new_table_need}
use Rattle.ephemeron_table.proofs.GrowableMaps.{can_grow}
use Rattle.ephemeron_table.proofs.KnownClaims.{known_map_may, shown_may_change}
use Rattle.write_barrier.proofs.StoresOn.{next_is_young}
use Rattle.ephemeron_table.specs.EntryChanges.{map_room}
use Rattle.ephemeron_table.proofs.NewKeys.{LacksKey, known, no_pair_refers, not_full_for}

-- The map is shown, and has no entry of the key: with one more than half of its pairs would be filled, and no more than
-- it may have entries.
pub record IsGrowing (old : Mutator) (graph : Graph) (map key : ℕ) (weak : WeakObject) (number : ℕ)
    (table : Table) : Type 0
  where
    pub lacks : LacksKey old graph map key weak number table
    pub few : count_at (heap_of old) map < 256
    pub over : table.capacity < 2 * (count_at (heap_of old) map + 1)

module _ {old : Mutator} {graph : Graph} {map key : ℕ} {weak : WeakObject} {number : ℕ} {table : Table}
    (growing : IsGrowing old graph map key weak number table) where
  -- so a table may be made
  pub growing_can : CanGrow old map table key (count_at (heap_of old) map)
  growing_can =
      can_grow (known growing.lacks) key (count_at (heap_of old) map) growing.lacks.is_key.place
      (next_is_young growing.lacks.shows)
      (known_map_may (known growing.lacks) (shown_may_change growing.lacks.shows)) growing.few growing.over

  -- twice the new count is over the pairs
  pub over_test : nat_lt (capacity_at (heap_of old) map) (2 * suc (count_at (heap_of old) map)) ≡ true
  over_test =
      let capacity : ℕ = capacity_at (heap_of old) map in
      let count : ℕ = count_at (heap_of old) map in
      let less : capacity < 2 * suc count = omega (arith, growing.lacks.is_table.capacity, growing.over) in
      grind (arith, nat_tests)

  -- so many words are needed
  pub growing_need : (value : Held) (what : Value) → IsValueHeld old graph value what
      → new_table_need table value ≡ wput_need (map_room old map weak) weak what number
  growing_need value what held =
      let wide = wide_is value what held.shows in
      let made : table_need (capacity_at (heap_of old) map) (count_at (heap_of old) map)
      ≡ store_head + 2 * grown_table table.capacity =
      ap (λ t. cond t (store_head + 2 * grown_table (capacity_at (heap_of old) map)) 0) over_test
      ∙ ap (λ n. store_head + 2 * grown_table n) growing.lacks.is_table.capacity in
      ap (λ n. store_head + 2 * grown_table table.capacity + n) (content_need_is value ∙ ap box_need wide)
      ∙ ap (λ n. n + box_need (is_wide what)) (sym made)
      ∙ ap (wput_need_by (map_room old map weak) what) (sym growing.lacks.fresh)

  -- the map is not full for the key
  pub growing_few : IsMapFull (map_room old map weak) weak number → ⊥
  growing_few = not_full_for growing.lacks growing.few

  -- where there is no room, putting it is refused
  pub growing_refused : {new : Mutator} (value : Held) (what : Value) (full : NoRoom)
      → IsValueHeld old graph value what → RefusesRoom old new (new_table_need table value) full
      → PutsEntry old new graph map key weak number what (Err (stop.Full full))
  growing_refused value what full held refuses = (
    growing_few,
    refuses.need_is ∙ growing_need value what held,
    λ room. refuses.lacks (subst (HasRoom old.young) refuses.need_is room),
    refuses.same,
  )

  module _ {new : Mutator} {value : Held} {what : Value} (fits : FitsHeld value)
      (held : IsValueHeld old graph value what)
      (puts : PutsInNewTable old new map table key (count_at (heap_of old) map + 1) value) where
    is_value : IsValue (length graph.objects) what
    is_value = held_is_value value what growing.lacks.shows fits held.shows

    -- a table is made, to which the entry comes
    abbrev grows : GrowsTable old new map key (count_at (heap_of old) map + 1) (count_at (heap_of old) map) table value
    grows = record { known = known growing.lacks; can = growing_can; puts = puts }

    abbrev entry : GrowsEntry old new map key (count_at (heap_of old) map + 1) (count_at (heap_of old) map) number table
        value what
    entry = record {
      grows = grows;
      objects = length graph.objects;
      key_place = growing.lacks.is_key.place;
      holds = new_value_held false value what held.shows;
      fits = is_value;
      counted = ap (λ n. n + 1) (count_is (known growing.lacks));
    }

    -- the map has as many pairs as the table that was made
    changes : ChangesObjectUsing old new (need grows) map (grown_table table.capacity)
    changes =
        subst (λ at. ChangesObjectUsing old new (need grows) at (grown_table table.capacity))
        (known growing.lacks).there.stands
        (tables_grow (refills_weak entry) (own_row (filled grows)).row (table_made entry)
        (first_in (table_made entry) (boxes_made entry)) refl
        (omega (arith, (run grows).within, marks_fit old.seat.space growing.lacks.sizes, marks_start_is old.seat.space))
        (filled_named (filled grows)))

    -- which is as many as the table has once an entry of the key was put
    capacity_is : grown_table table.capacity ≡ (room_put (map_room old map weak)
        (entry_value weak.entries number)).capacity
    capacity_is =
        let capacity : ℕ = capacity_at (heap_of old) map in
        ap grown_table (sym growing.lacks.is_table.capacity)
        ∙ ap (λ t. cond t (grown_table capacity) capacity) (sym (over_test))
        ∙ ap (λ found. (room_put (map_room old map weak) found).capacity) (sym growing.lacks.fresh)

    -- the pair was put
    pub grown_pair : PutsShown old new graph map key weak number value what
    grown_pair = record {
      shows = growing.lacks.shows;
      is = growing.lacks.is;
      is_key = growing.lacks.is_key;
      is_held = held;
      sizes = growing.lacks.sizes;
      table = table;
      is_table = growing.lacks.is_table;
      few = growing_few;
      puts = puts_to_new_table growing.lacks growing_can puts;
      cell = cell (known growing.lacks);
      others = [];
      made = all_made entry;
      stands = (known growing.lacks).there.stands;
      refills = refills_weak entry;
      takes = takes_run (need grows) (filled grows).beside puts.room (filled grows).young (own_row (filled grows)).row;
      stores = puts.stores;
      remembers = grown_remembers grows;
      one = puts_one entry (no_pair_refers growing.lacks);
      need = need grows;
      capacity = grown_table table.capacity;
      changes = changes;
      counted = CountsPut.fresh growing.lacks.fresh (omega (arith, one_more grows, count_is (known growing.lacks)));
    }

    -- so the entry has the value
    pub grown_entry : WrittenEntriesShow → HasPutEntry old new graph map key weak number what
    unfolding grown_pair
    grown_entry entries_show =
        entry_put grown_pair entries_show is_value (growing_need value what held) capacity_is puts.room
        (filled grows).beside (filled grows).young
