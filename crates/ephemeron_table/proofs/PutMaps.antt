-- A weak map to whose table a pair came is refilled.
use Rattle.std.specs.Prelude.{slice_set}
use Rattle.std.proofs.Common.{◌≡◌, ◌≢◌, ℕ, ◌+◌, ◌<◌, inl, inr, List, [], ◌∷◌, length, Some, false, slice_get, refl, sym}
use Rattle.std.proofs.Common.{◌∙◌, ap, subst, arith}
use Rattle.std.proofs.lemmas.Bool.{cases_eq}
use Rattle.std.proofs.lemmas.Option.{same_Some, none-some}
use Rattle.tagged_word.specs.declared.layout.Kind.TheVariants as kind
use Rattle.tagged_word.specs.Cells.{store_slot}
use Rattle.tagged_word.proofs.Members.{first_in}
use Rattle.page_space.proofs.Starts.{marks_start_is}
use Rattle.linear_probing.specs.Tables.{FindsAll}
use Rattle.object_graph.specs.declared.value.Rep.TheVariants as rep
use Rattle.object_graph.specs.Values.{rep_of}
use Rattle.object_graph.specs.Invariants.{IsValue}
use Rattle.object_graph.proofs.Lists.{slice_get-set_same}
use Rattle.cell_layout.specs.Cells.{IsRow}
use Rattle.write_barrier.specs.Seats.{heap_words}
use Rattle.heap_model.specs.Types.{Value, Cell, Held}
use Rattle.heap_model.specs.Heaps.{words_of_cell}
use Rattle.heap_model.specs.Slots.{RefersToPlace, IsPlace}
use Rattle.heap_model.specs.Kinds.{HasWord, Pair, IsFilledPair, count_offset}
use Rattle.heap_model.specs.Showing.{ShowsEntry}
use Rattle.write_barrier.specs.MutatorState.{Mutator, heap_of}
use Rattle.object_cells.specs.Contents.{next_at}
use Rattle.object_cells.specs.Made.{store_content, with_content, content_word}
use Rattle.object_cells.specs.OwnSlots.{ComesFrom}
use Rattle.object_cells.specs.Uses.{TakesRun}
use Rattle.object_cells.proofs.HeldContents.{HoldsValue}
use Rattle.object_cells.proofs.MadeBoxes.{made_boxes, made_row, length-with_content}
use Rattle.object_cells.proofs.OwnerWrites.{weak_owns, written_own_keeps_cells}
use Rattle.object_cells.proofs.TakenRuns as taken_runs
use Rattle.object_cells.proofs.TakenRuns.{taken_run}
use Rattle.object_cells.proofs.TakenValues as taken
use Rattle.object_cells.proofs.TakenValues.{TakesValue}
use Rattle.object_cells.proofs.OwnCells.{cell_below_layouts}
use Rattle.object_cells.proofs.SlotsNow.{word_at_offset}
use Rattle.object_cells.proofs.FieldWords.{value_word}
use Rattle.object_cells.proofs.OwnContents as own
use Rattle.weak_pairs.specs.Pairs.{IsFilledAt}
use Rattle.weak_pairs.specs.Tables.{numbers, pairs_of, with_pair}
use Rattle.weak_pairs.specs.declared.table.Table.{Table}
use Rattle.weak_pairs.proofs.CountedPairs.{count_filled}
use Rattle.weak_pairs.proofs.PairsPut.{at_place, length-with_pair}
use Rattle.weak_pairs.proofs.FilledPairs.{filled_elsewhere, still_filled}
use Rattle.ephemeron_table.specs.PairWrites.{RefillsPairs, HasValue}
use Rattle.ephemeron_table.specs.PairLaws.{RefillsWeak, PutsOne}
use Rattle.ephemeron_table.proofs.MapTouches.{MakesBox}
use Rattle.ephemeron_table.proofs.PairComes.{PairComes, value_comes, pair_shows}
use Rattle.ephemeron_table.proofs.KnownTables.{table_is_no_box, are_before, KnownMap, cell, cell_has, sound, slot_there}
use Rattle.ephemeron_table.proofs.KnownTables.{of_map, other, pairs_long}
use Rattle.ephemeron_table.proofs.PutPairs.{PutsPairWords, need, pair, pairs_are_now, some, putting}
use Rattle.ephemeron_table.proofs.StayingTables as staying
use Rattle.ephemeron_table.proofs.StayingTables.{WritesMap, StaysTable}
use Rattle.ephemeron_table.proofs.KeysFound.{key_filled}

-- A pair came to a place of a map's table: the key's object, and the value.
pub record ComesToPlace (old new : Mutator) (map place key count number : ℕ) (table : Table) (value : Held)
    (what : Value) : Type 0 where
  pub known : KnownMap old map table
  pub below : place < table.capacity
  pub puts : PutsPairWords old new map table place key count value
  pub objects : ℕ
  pub key_place : IsPlace (heap_of old) number key
  pub holds : HoldsValue (heap_of old) false rep.Small (rep_of what) what (store_content value)
  pub fits : IsValue objects what
  pub all : FindsAll (numbers (heap_of old)
      (slice_set (pairs_of (heap_words old.seat) table) place (pair known below puts)))
  pub counted : count ≡ count_filled (slice_set (pairs_of (heap_words old.seat) table) place (pair known below puts))

module _ {old new : Mutator} {map place key count number : ℕ} {table : Table} {value : Held} {what : Value}
    (comes : ComesToPlace old new map place key count number table value what) where
  abbrev pub known : KnownMap old map table
  known = comes.known

  abbrev below : place < table.capacity
  below = comes.below

  abbrev puts : PutsPairWords old new map table place key count value
  puts = comes.puts

  -- the pair that was put
  abbrev pub put : Pair
  put = pair known below puts

  abbrev pub map_cell : Cell
  map_cell = cell known

  abbrev pub table_cell : Cell
  table_cell = other known (some known below puts)

  abbrev pub boxes_made : List Cell
  boxes_made = made_boxes (store_content value) (next_at old)

  abbrev pub before : List Pair
  before = pairs_of (heap_words old.seat) table

  abbrev pub after : List Pair
  after = pairs_of (heap_words new.seat) table

  -- the word of the map for its table stays
  pub slot_stays : slice_get (heap_words new.seat) (map_cell.at + store_slot)
      ≡ slice_get (heap_words old.seat) (map_cell.at + store_slot)
  slot_stays = own.slot_stays (putting known below puts)

  -- so the map takes the value, where the table is the one that it had
  pub takes : TakesValue kind.Weak kind.Table (heap_of old) (heap_of new) map_cell map_cell (table_cell ∷ []) []
      (store_content value) (next_at old) what (sound known).store
  takes = own.takes (putting known below puts) comes.objects comes.fits comes.holds

  -- the box that is made stands where the next cell is made
  pub boxes_row : IsRow new.seat.space (heap_words new.seat) (next_at old) (next_at old + need known below puts)
      boxes_made
  boxes_row = made_row (heap_of new) (store_content value) (next_at old) takes.writes.sized takes.stands

  -- so words were taken for it
  pub takes_run : TakesRun old new boxes_made
  takes_run = taken_runs.takes_run (need known below puts) puts.words.beside puts.room puts.words.young boxes_row

  abbrev pub makes_box : MakesBox old new (store_content value)
  makes_box = record {
    room = puts.room;
    run = taken_run new (need known below puts) known.tied puts.room puts.words.young puts.words.beside.space;
    rows = (written_own_keeps_cells weak_owns known.whole takes.writes).0;
    row = boxes_row;
    stand = taken.made_has takes;
  }

  -- and the table stays where it is
  abbrev stays : StaysTable old new map table known (some known below puts) (table_cell ∷ []) boxes_made
  stays = record {
    written = record { writes = takes.writes; belong = takes.belong; kinds = taken.made_kinds takes };
    among = first_in table_cell [];
    slot = slot_stays;
  }

  -- what refers to an object did so before
  pub refers_back : (word another : ℕ) → RefersToPlace (heap_of new) word another
      → RefersToPlace (heap_of old) word another
  refers_back = staying.refers_back known stays.written

  -- as many as the count says hold something
  pub count_after : HasWord (words_of_cell (heap_of new) map_cell) count_offset (count_filled after)
  count_after =
      let size = of_map known 2 (omega arith) in
      let within : map + count_offset < length (with_pair (with_content (heap_words old.seat) (store_content value)
      (next_at old)) table.at place put) =
      omega (
        arith,
        length-with_pair (with_content (heap_words old.seat) (store_content value) (next_at old)) table.at place
            put,
        length-with_content (heap_words old.seat) (store_content value) (next_at old),
        known.whole.sized.words,
        marks_start_is old.seat.space,
        cell_below_layouts known.whole (cell_has known) size,
      ) in
      word_at_offset count_offset (taken.came_has takes)
      (omega (arith, size.below, known.there.stands))
      ∙ ap (λ n. slice_get (heap_words new.seat) (n + count_offset)) known.there.stands
      ∙ ap (λ every. slice_get every (map + count_offset)) puts.words.heap
      ∙ slice_get-set_same (with_pair (with_content (heap_words old.seat) (store_content value) (next_at old)) table.at
      place put) (map + count_offset) count within
      ∙ ap (λ n. Some n) (comes.counted ∙ ap count_filled (sym (pairs_are_now known below puts)))

  -- probing finds all
  pub finds_after : FindsAll (numbers (heap_of old) after)
  finds_after = subst (λ pairs. FindsAll (numbers (heap_of old) pairs)) (sym (pairs_are_now known below puts)) comes.all

  -- the pair that was put shows a key and a value
  pair_filled : IsFilledPair (heap_of new) put number
  pair_filled = record {
    key = record { at = key; refers = refl; place = taken.places takes number key comes.key_place };
    value = value_word _ what (taken.value_shows takes);
  }

  -- each pair comes from where it may
  pub pair_comes : (at : ℕ) (one : Pair) → IsFilledAt after at one
      → PairComes (heap_of new) before (table_cell ∷ []) boxes_made at place at one
  pair_comes at one is =
      let now = subst (λ pairs. IsFilledAt pairs at one) (pairs_are_now known below puts) is in
      elim (cases_eq at place) [
        | inl same ↦
            let put_is : put ≡ one =
            at_place before place put one
            (ap (slice_get (slice_set before place put)) (sym same) ∙ now.stands) in
            subst (PairComes (heap_of new) before (table_cell ∷ []) boxes_made at place at) put_is
            (PairComes.put number same pair_filled
            (subst (λ n. ComesFrom (heap_of new) (HasValue before) boxes_made at n at
            (content_word (store_content value) (next_at old))) same
            (taken.value_comes takes (HasValue before) at at)))
        | inr apart ↦
            PairComes.kept (filled_elsewhere before place at put one apart now)
            (λ other among box same. table_is_no_box (takes.each other among).of_kind box)
      ]

  -- so the map is refilled
  abbrev pub refills : RefillsPairs (heap_of old) (heap_of new) map_cell (table_cell ∷ []) boxes_made
  refills = record {
    before = before;
    were = are_before known;
    now = after;
    are = staying.are_after known (some known below puts) stays;
    counted = count_after;
    refills = record {
      origin = λ at. at;
      apart = λ at other word another one two same. same;
      one = place;
      each_slot = λ at word there. subst (ComesFrom (heap_of new) (HasValue before) boxes_made at place at) there.2
          (value_comes (pair_comes at there.0 there.1));
      store = (sound known).store;
      has_store = staying.slot_now known (some known below puts) stays;
      store_comes = inl (slot_there known);
      belong = takes.belong;
      kinds = taken.made_kinds takes;
      stores = taken.stores_told takes;
      boxes = taken.boxes_told takes;
    };
    each_pair = λ at one is. pair_shows (pair_comes at one is);
    probed = staying.probed known stays.written after finds_after;
  }

  abbrev pub refills_weak : RefillsWeak (heap_of old) (heap_of new) map_cell (table_cell ∷ []) boxes_made
  refills_weak = record {
    whole = known.whole;
    writes = takes.writes;
    paths = puts.words.paths;
    pairs = refills;
  }

module _ {old new : Mutator} {map place key count number : ℕ} {table : Table} {value : Held} {what : Value}
    (comes : ComesToPlace old new map place key count number table value what)
    (once : (at : ℕ) (one : Pair) → IsFilledAt (before comes) at one → RefersToPlace (heap_of old) one.key number
    → at ≡ place)
    (its : (one : Pair) → IsFilledAt (before comes) place one → RefersToPlace (heap_of old) one.key number) where
  -- what is filled after is so with the pair put
  now_filled : (at : ℕ) (one : Pair) → IsFilledAt (after comes) at one
      → IsFilledAt (slice_set (before comes) place (put comes)) at one
  now_filled at one is = subst (λ pairs. IsFilledAt pairs at one) (pairs_are_now comes.known comes.below comes.puts) is

  after_filled : (at : ℕ) (one : Pair) → IsFilledAt (slice_set (before comes) place (put comes)) at one
      → IsFilledAt (after comes) at one
  after_filled at one is =
      subst (λ pairs. IsFilledAt pairs at one) (sym (pairs_are_now comes.known comes.below comes.puts)) is

  -- the pair stands at the place
  pair_stands : IsFilledAt (after comes) place (put comes)
  pair_stands =
      after_filled place (put comes) (record {
        stands = slice_get-set_same (before comes) place (put comes)
            (omega (arith, comes.below, pairs_long comes.known));
        filled = key_filled (put comes) key refl;
      })

  -- and shows the entry
  entry_shows : (one : Value) → ◌≡◌ {A = Value} what one
      → ShowsEntry (heap_of new) (put comes) (record { key = number; value = one })
  entry_shows one same =
      subst (λ v. ShowsEntry (heap_of new) (put comes) (record { key = number; value = v })) same (record {
        key = record {
          at = key;
          refers = refl;
          place = taken.places (takes comes) number key comes.key_place;
        };
        value = taken.value_shows (takes comes);
      })

  -- so all other pairs are kept, and this is the one of its key
  pub puts_one : PutsOne (heap_of old) (heap_of new)
      (refills_weak comes).pairs number (Some what)
  puts_one = record {
    kept = λ at one is other.
        let apart : at ≢ place = λ same. other (its one (subst (λ n. IsFilledAt (before comes) n one) same is)) in
        (at, after_filled at one (still_filled (before comes) place at (put comes) one apart is), refl, apart);
    own = λ at one is refers. elim (cases_eq at place) [
      | inl same ↦ (same, refl)
      | inr apart ↦
          let was = filled_elsewhere (before comes) place at (put comes) one apart (now_filled at one is) in (
            once at one was
                (refers_back comes one.key number refers),
            refl,
          )
    ];
    shown = λ one is. (put comes, pair_stands, entry_shows one (same_Some what one is));
    none_put = λ none. absurd (none-some what (sym none));
  }
