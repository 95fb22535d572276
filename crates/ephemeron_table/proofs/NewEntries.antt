-- The pair of a key that is new came to a free place of a weak map's table: so its entry is put.
use Rattle.std.proofs.Common.{◌≡◌, ℕ, suc, ◌+◌, ◌*◌, ◌<◌, ◌≤◌, false, nat_lt, List, length, None, Some}
use Rattle.std.proofs.Common.{Err, refl, sym, ◌∙◌, ap, subst, arith}
use Rattle.std.specs.Prelude.{slice_set}
use Rattle.std.proofs.lemmas.Bool.{cond-false}
use Rattle.std.proofs.lemmas.Bool.Decides.{nat_tests}
use Rattle.tagged_word.specs.Cells.{store_head}
use Rattle.nursery.specs.Young.{HasRoom}
use Rattle.heap_model.specs.Types.{Value, Held}
use Rattle.object_graph.specs.Graphs.{Graph, WeakObject}
use Rattle.object_graph.specs.Meaning.{weak_most}
use Rattle.object_graph.specs.Invariants.{IsValue}
use Rattle.page_space.specs.Sizes.{AreWithin}
use Rattle.write_barrier.specs.Seats.{heap_words}
use Rattle.heap_model.specs.Slots.{reference_word}
use Rattle.heap_model.specs.Kinds.{Pair}
use Rattle.heap_model.specs.Needs.{capacity_at, count_at, grown_table, box_need}
use Rattle.object_graph.specs.Objects.{entry_value}
use Rattle.heap_model.specs.Rooms.{Room, IsMapFull, is_wide, room_put, wput_need, wput_need_by}
use Rattle.write_barrier.specs.declared.room.NoRoom.{NoRoom}
use Rattle.write_barrier.specs.MutatorState.{Mutator, heap_of, MainShows}
use Rattle.object_cells.specs.Capacities.{ChangesObjectUsing}
use Rattle.object_cells.specs.HeldValues.{IsValueHeld}
use Rattle.object_cells.specs.Made.{store_content, content_need, RefusesRoom}
use Rattle.object_cells.proofs.HeldNeeds.{new_value_held, content_need_is, wide_is}
use Rattle.ephemeron_table.proofs.KeptTables.{tables_stay}
use Rattle.ephemeron_table.specs.EntryChanges.{map_room, HasPutEntry, PutsEntry}
use Rattle.ephemeron_table.specs.declared.stop.TableStop.TheVariants as stop
use Rattle.weak_pairs.specs.Pairs.{HasPairsAt}
use Rattle.ephemeron_table.specs.PairChanges.{PutsPair}
use Rattle.ephemeron_table.specs.PairLaws.{PutsOne, WrittenEntriesShow}
use Rattle.ephemeron_table.specs.WeakObjects.{IsKeyAt, IsWeakAt}
use Rattle.ephemeron_table.specs.Probes.{ProbingEnds, IsTableAt}
use Rattle.ephemeron_table.specs.declared.probing.End.TheVariants as probe_end
use Rattle.ephemeron_table.specs.Puttings.{PutsInTable}
use Rattle.weak_pairs.specs.Tables.{pairs_of}
use Rattle.weak_pairs.specs.declared.table.Table.{Table}
use Rattle.weak_pairs.proofs.CountedPairs.{count_filled}
use Rattle.ephemeron_table.proofs.EntriesPut.{entry_put}
use Rattle.ephemeron_table.proofs.FreeKeys.{ComesToFree, below, finds_put, counted_put, not_filled}
use Rattle.ephemeron_table.proofs.KnownTables.{KnownMap, cell}
use Rattle.ephemeron_table.proofs.MapTouches.{put_remembers}
use Rattle.ephemeron_table.proofs.NewKeys.{LacksKey, shown, known, no_pair_refers}
use Rattle.ephemeron_table.proofs.NewKeys.{not_full_for, is_full_for, lacks_where_free}
use Rattle.ephemeron_table.proofs.PairsByKey.{lacks_pair, pairs_shown}
use Rattle.ephemeron_table.proofs.PutMaps.{ComesToPlace, boxes_row, makes_box, puts_one, refills_weak}
use Rattle.ephemeron_table.proofs.PutMaps.{slot_stays, takes_run}
use Rattle.ephemeron_table.proofs.PutPairs.{put_words, pair, pairs_are_now, some}
use Rattle.ephemeron_table.proofs.PutPlaces.{puts_to_table}
use Rattle.ephemeron_table.proofs.PutShown.{CountsPut, PutsShown}

-- no table is needed where twice the filled pairs with one more are no more than there are
table_not_full : (capacity count : ℕ) → 2 * (count + 1) ≤ capacity → nat_lt capacity (2 * suc count) ≡ false
table_not_full capacity count fits = grind (arith, nat_tests, fits)

-- so what is needed is a box
pub need_in_table : (room : Room) (value : Value) → 2 * (room.entries + 1) ≤ room.capacity
    → wput_need_by room value None ≡ box_need (is_wide value)
need_in_table room value fits =
    let none = cond-false (nat_lt room.capacity (2 * suc room.entries)) (store_head + 2 * grown_table room.capacity) 0
    (table_not_full room.capacity room.entries fits) in
    omega (arith, none)

-- and the map keeps its pairs
pub capacity_in_table : (room : Room) → 2 * (room.entries + 1) ≤ room.capacity
    → (room_put room None).capacity ≡ room.capacity
capacity_in_table room fits =
    cond-false (nat_lt room.capacity (2 * suc room.entries)) (grown_table room.capacity) room.capacity
    (table_not_full room.capacity room.entries fits)

-- where a key is new and as many pairs are filled as the map may have entries, putting it is refused
pub refuses_entry : {old : Mutator} {graph : Graph} {map key : ℕ} {weak : WeakObject} {number : ℕ} {table : Table}
    (what : Value) (count : ℕ) → LacksKey old graph map key weak number table → count_at (heap_of old) map ≡ count
    → weak_most ≤ count → PutsEntry old old graph map key weak number what (Err (stop.TableFull count))
refuses_entry what count lacks counted many =
    (is_full_for lacks (omega (arith, counted, many)), sym counted, refl)

-- and then no pair has it
pub refuses_pair : {old : Mutator} {graph : Graph} {map key : ℕ} {weak : WeakObject} {number : ℕ} {table : Table}
    {before : List Pair} (value : Held) (count : ℕ) → LacksKey old graph map key weak number table
    → count_at (heap_of old) map ≡ count → weak_most ≤ count → HasPairsAt (heap_of old) map before
    → PutsPair old old map key value before (Err (stop.TableFull count))
refuses_pair value count lacks counted many has = (
  lacks_pair (shown lacks) lacks.is_key (pairs_shown (known lacks) (shown lacks) has) lacks.fresh,
  sym counted,
  omega (arith, counted, many),
  refl,
)

-- What is known of a weak map, of a key for which probing ends at a free place of its table, and of a value: the entry
-- is to be put there.
pub record EndsFree (old : Mutator) (graph : Graph) (map key : ℕ) (weak : WeakObject) (number count place : ℕ)
    (table : Table) (value : Held) (what : Value) : Type 0 where
  pub ends : ComesToFree old graph map key weak number place table
  pub held : IsValueHeld old graph value what
  pub is_value : IsValue (length graph.objects) what
  pub counted : count_at (heap_of old) map ≡ count
  pub few : count < weak_most
  pub fits : 2 * (count + 1) ≤ table.capacity

-- so it is where a graph is shown
pub ends_free : {old : Mutator} {graph : Graph} {map key : ℕ} {weak : WeakObject} {number count place : ℕ}
    {table : Table} {value : Held} {what : Value}
    → MainShows old graph → IsWeakAt old graph map weak → IsKeyAt old graph key number
    → IsValueHeld old graph value what → IsValue (length graph.objects) what
    → AreWithin old.seat.space.sizes old.seat.space.variables → IsTableAt (heap_of old) map table
    → ProbingEnds (heap_of old) table number (reference_word key) (probe_end.Free place)
    → count_at (heap_of old) map ≡ count → count < weak_most → 2 * (count + 1) ≤ table.capacity
    → EndsFree old graph map key weak number count place table value what
ends_free shows is is_key held is_value sizes is_table ends counted few fits = record {
  ends = record {
    lacks = lacks_where_free shows is is_key sizes is_table ends;
    comes = ends.0;
    free = ends.1;
  };
  held = held;
  is_value = is_value;
  counted = counted;
  few = few;
  fits = fits;
}

module _ {old : Mutator} {graph : Graph} {map key : ℕ} {weak : WeakObject} {number count place : ℕ} {table : Table}
    {value : Held} {what : Value} (free : EndsFree old graph map key weak number count place table value what) where
  abbrev ends : ComesToFree old graph map key weak number place table
  ends = free.ends

  stays : 2 * (count_at (heap_of old) map + 1) ≤ capacity_at (heap_of old) map
  stays = omega (arith, free.fits, free.counted, ends.lacks.is_table.capacity)

  not_full : IsMapFull (map_room old map weak) weak number → ⊥
  not_full = not_full_for ends.lacks (omega (arith, free.few, free.counted))

  -- so many words are needed
  need_is : content_need (store_content value) ≡ wput_need (map_room old map weak) weak what number
  need_is =
      content_need_is value ∙ ap box_need (wide_is value what free.held.shows)
      ∙ sym (need_in_table (map_room old map weak) what stays)
      ∙ ap (wput_need_by (map_room old map weak) what) (sym ends.lacks.fresh)

  -- the map keeps its pairs
  capacity_is : capacity_at (heap_of old) map
      ≡ (room_put (map_room old map weak) (entry_value weak.entries number)).capacity
  capacity_is =
      sym (capacity_in_table (map_room old map weak) stays)
      ∙ ap (λ found. (room_put (map_room old map weak) found).capacity) (sym ends.lacks.fresh)

  -- where there is no room, putting it is refused
  pub free_key_refused : {new : Mutator} (room : NoRoom)
      → RefusesRoom old new (content_need (store_content value)) room
      → PutsEntry old new graph map key weak number what (Err (stop.Full room))
  free_key_refused room refuses = (
    not_full,
    refuses.need_is ∙ need_is,
    λ has. refuses.lacks (subst (HasRoom old.young) refuses.need_is has),
    refuses.same,
  )

  module _ {new : Mutator} (puts : PutsInTable old new map table place key (count + 1) value) where
    abbrev map_known : KnownMap old map table
    map_known = known ends.lacks

    abbrev put : Pair
    put = pair map_known (below ends) (put_words puts)

    counted : count + 1 ≡ count_filled (slice_set (pairs_of (heap_words old.seat) table) place put)
    counted = ap (λ n. n + 1) (sym free.counted) ∙ counted_put ends put refl

    abbrev comes_there : ComesToPlace old new map place key (count + 1) number table value what
    comes_there = record {
      known = map_known;
      below = below ends;
      puts = put_words puts;
      objects = length graph.objects;
      key_place = ends.lacks.is_key.place;
      holds = new_value_held false value what free.held.shows;
      fits = free.is_value;
      all = finds_put ends put refl;
      counted = counted;
    }

    one : PutsOne (heap_of old) (heap_of new) (refills_weak comes_there).pairs number (Some what)
    one =
        puts_one comes_there (λ at other filled refers. absurd (no_pair_refers ends.lacks at other filled refers))
        (λ other filled. absurd (not_filled ends other filled))

    -- one more pair holds something
    filled_more : count_filled (pairs_of (heap_words new.seat) table) ≡ count_at (heap_of old) map + 1
    filled_more =
        omega (arith, ap count_filled (pairs_are_now map_known (below ends) (put_words puts)), counted, free.counted)

    -- only words of the map have changed, and its table stays
    changes : ChangesObjectUsing old new (content_need (store_content value)) map (capacity_at (heap_of old) map)
    changes =
        subst (λ at. ChangesObjectUsing old new (content_need (store_content value)) at (capacity_at (heap_of old) at))
        (shown ends.lacks).stands
        (tables_stay (refills_weak comes_there) (boxes_row comes_there) (slot_stays comes_there))

    -- the pair is put
    pub free_key_pair : PutsShown old new graph map key weak number value what
    free_key_pair = record {
      shows = ends.lacks.shows;
      is = ends.lacks.is;
      is_key = ends.lacks.is_key;
      is_held = free.held;
      sizes = ends.lacks.sizes;
      table = table;
      is_table = ends.lacks.is_table;
      few = not_full;
      puts = puts_to_table ends free.counted free.fits puts;
      cell = cell map_known;
      others = _;
      made = _;
      stands = (shown ends.lacks).stands;
      refills = refills_weak comes_there;
      takes = takes_run comes_there;
      stores = puts.stores;
      remembers = put_remembers map_known (some map_known (below ends) (put_words puts)) (below ends) puts
          (makes_box comes_there);
      one = one;
      need = content_need (store_content value);
      capacity = _;
      changes = changes;
      counted = CountsPut.fresh ends.lacks.fresh filled_more;
    }

    -- so the entry is
    pub free_key_put : WrittenEntriesShow → HasPutEntry old new graph map key weak number what
    unfolding free_key_pair
    free_key_put entries_show =
        entry_put free_key_pair entries_show free.is_value need_is capacity_is puts.room puts.words.beside
        puts.words.young
