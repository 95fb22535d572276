-- The word of an entry's value becomes another: so the entry has the value.
use Rattle.std.proofs.Common.{◌≡◌, ◌≢◌, ℕ, ◌+◌, inl, inr, List, Some, false, slice_get, length, refl, sym, ◌∙◌, ap}
use Rattle.std.proofs.Common.{subst, arith}
use Rattle.std.specs.Prelude.{slice_set, option_map}
use Rattle.std.proofs.lemmas.List.{map-set}
use Rattle.std.proofs.lemmas.Option.{slice_get-map}
use Rattle.tagged_word.specs.declared.layout.Kind.TheVariants as kind
use Rattle.tagged_word.specs.Readings.{reference_in}
use Rattle.heap_model.specs.Types.{Value, Cell, Held}
use Rattle.object_graph.specs.declared.value.Rep.TheVariants as rep
use Rattle.object_graph.specs.Values.{rep_of}
use Rattle.object_graph.specs.Graphs.{Graph, WeakObject}
use Rattle.object_graph.specs.Invariants.{IsValue}
use Rattle.object_graph.proofs.Lists.{slice_get-set_other}
use Rattle.nursery.specs.Young.{HasRoom}
use Rattle.linear_probing.specs.Tables.{FindsAll}
use Rattle.write_barrier.specs.Seats.{heap_words}
use Rattle.heap_model.specs.Heaps.{Heap, HasCell}
use Rattle.heap_model.specs.Slots.{reference_word}
use Rattle.heap_model.specs.Kinds.{Pair, count_offset}
use Rattle.heap_model.proofs.CellsApart.{IsOfCell}
use Rattle.write_barrier.specs.MutatorState.{Mutator, heap_of, reserved}
use Rattle.write_barrier.specs.Recording.{Touches, touched_one, touched_then}
use Rattle.object_cells.specs.Contents.{next_at}
use Rattle.object_cells.specs.Made.{PutsWords, with_content, content_need, content_touch, content_word, slot_touch}
use Rattle.object_cells.specs.Made.{store_content}
use Rattle.object_cells.proofs.CellsRead.{word_stands}
use Rattle.object_cells.proofs.FilledSlots.{set_there, no_raw}
use Rattle.object_cells.proofs.HeldContents.{HoldsValue}
use Rattle.object_cells.proofs.MadeBoxes.{with_content_stays}
use Rattle.object_cells.proofs.UnusedWords.{next_apart}
use Rattle.weak_pairs.specs.Tables.{number_at, key_offset, value_offset, numbers, key_number, pairs_of}
use Rattle.weak_pairs.specs.declared.table.Table.{Table}
use Rattle.weak_pairs.proofs.CountedPairs.{count_filled, count_kept}
use Rattle.ephemeron_table.proofs.EntryPairs.{HasEntryPair, known, some, entry_filled, key_stands}
use Rattle.ephemeron_table.proofs.KeysFound.{key_filled}
use Rattle.ephemeron_table.proofs.KnownTables.{cell_has, sound, pairs_same, of_map, finds_all, found, other_has}
use Rattle.ephemeron_table.proofs.KnownTables.{other_long, map_beside, map_no_filler, table_no_filler}
use Rattle.ephemeron_table.proofs.MapTouches.{value_remembers}
use Rattle.ephemeron_table.proofs.PutMaps.{ComesToPlace, boxes_made, refills_weak, refers_back, slot_stays, takes}
use Rattle.ephemeron_table.proofs.PutMaps.{boxes_row, makes_box, takes_run}
use Rattle.object_cells.proofs.TakenValues as taken
use Rattle.ephemeron_table.proofs.PutPairs.{PutsPairWords, pair, pairs_are_now, some as in_table}
use Rattle.ephemeron_table.proofs.ReplacedValues.{ReplacesValue}

-- where a pair takes the place of one that has the same key, the numbers stay
numbers_stay : (heap : Heap) (pairs : List Pair) (place : ℕ) (was now : Pair) → slice_get pairs place ≡ Some was
    → was.key ≡ now.key → numbers heap (slice_set pairs place now) ≡ numbers heap pairs
numbers_stay heap pairs place was now there key =
    map-set (key_number heap) pairs place now
    ∙ set_there (numbers heap pairs) place (key_number heap now)
    (slice_get-map (key_number heap) pairs place ∙ ap (option_map (key_number heap)) there
    ∙ ap (λ k. Some (option_map (number_at heap) (reference_in k))) key)

module _ {old new : Mutator} {graph : Graph} {map key : ℕ} {weak : WeakObject} {number place : ℕ} {table : Table}
    {what : Value} (value : Held) (has : HasEntryPair old graph map key weak number place table)
    (holds : HoldsValue (heap_of old) false rep.Small (rep_of what) what (store_content value))
    (fits : IsValue (length graph.objects) what) (room : HasRoom old.young (content_need (store_content value)))
    (words : PutsWords (reserved old (content_need (store_content value))) new
    (slice_set (with_content (heap_words old.seat) (store_content value) (next_at old)) (table.at + value_offset place)
    (content_word (store_content value) (next_at old))))
    (touches : Touches old new (touched_then (content_touch (store_content value) (next_at old))
    (touched_one (slot_touch (store_content value)) (table.at + value_offset place)))) where
  abbrev boxed : List ℕ
  boxed = with_content (heap_words old.seat) (store_content value) (next_at old)

  abbrev word : ℕ
  word = content_word (store_content value) (next_at old)

  abbrev count : ℕ
  count = count_filled (sound (known has)).pairs

  -- a word of a cell that is no filler is none of a box that is made
  boxed_stays : {one : Cell} {all : List ℕ} (a : ℕ) → HasCell (heap_of old) one all → one.layout.kind ≢ kind.Filler
      → IsOfCell one a → slice_get boxed a ≡ slice_get (heap_words old.seat) a
  boxed_stays a stands no_filler of_one =
      with_content_stays (heap_words old.seat) (store_content value) (next_at old) a
      (next_apart (content_need (store_content value)) a (known has).tied (known has).whole.rows room no_filler stands
      of_one)

  -- the key stands there
  key_there : slice_get boxed (table.at + key_offset place) ≡ Some (reference_word key)
  key_there =
      let one = found (known has) (some has) in
      boxed_stays (table.at + key_offset place) (other_has (known has) (some has))
      (table_no_filler (known has) (some has)) (record {
        from = omega (arith, one.stands);
        below = omega (arith, one.stands, one.size, other_long (known has) (some has), has.below);
      })
      ∙ key_stands has

  -- and so does the count
  count_there : slice_get (slice_set boxed (table.at + value_offset place) word) (map + count_offset) ≡ Some count
  count_there =
      let beside = map_beside (known has) (some has) 2 (omega arith) in
      slice_get-set_other boxed (table.at + value_offset place) (map + count_offset) word (λ same. elim beside [
        | inl before ↦ omega (arith, before, same)
        | inr behind ↦ omega (arith, behind, same, has.below)
      ])
      ∙ boxed_stays (map + count_offset) (cell_has (known has)) (map_no_filler (known has))
      (of_map (known has) 2 (omega arith))
      ∙ ap (λ n. slice_get (heap_words old.seat) (n + count_offset)) (sym (known has).there.stands)
      ∙ word_stands count_offset count (known has).there.has (sound (known has)).counted

  -- so the pair came to the table, which had its key before
  puts : PutsPairWords old new map table place key count value
  puts =
      let keyed : List ℕ = slice_set boxed (table.at + key_offset place) (reference_word key) in
      let same : slice_set keyed (table.at + value_offset place) word
      ≡ slice_set boxed (table.at + value_offset place) word =
      ap (λ all. slice_set all (table.at + value_offset place) word)
      (set_there boxed (table.at + key_offset place) (reference_word key) key_there) in
      record {
        room = room;
        words = record {
          beside = words.beside;
          paths = words.paths;
          young = words.young;
          heap = words.heap
              ∙ sym (set_there (slice_set boxed (table.at + value_offset place) word) (map + count_offset) count
              count_there)
              ∙ ap (λ all. slice_set all (map + count_offset) count) (sym same);
        };
      }

  abbrev now : Pair
  now = pair (known has) has.below puts

  all : FindsAll (numbers (heap_of old) (slice_set (pairs_of (heap_words old.seat) table) place now))
  all =
      subst FindsAll (sym (numbers_stay (heap_of old) (pairs_of (heap_words old.seat) table) place has.told.pair now
      (entry_filled has).stands has.told.key_is)) (finds_all (known has))

  counted : count ≡ count_filled (slice_set (pairs_of (heap_words old.seat) table) place now)
  counted =
      ap count_filled (sym (pairs_same (known has)))
      ∙ sym (count_kept (pairs_of (heap_words old.seat) table) place has.told.pair now (entry_filled has).stands
      (entry_filled has).filled (key_filled now key refl))

  abbrev comes : ComesToPlace old new map place key count number table value what
  comes = record {
    known = known has;
    below = has.below;
    puts = puts;
    objects = length graph.objects;
    key_place = has.is_key.place;
    holds = holds;
    fits = fits;
    all = all;
    counted = counted;
  }

  -- and has another value
  pub slot_replaces : ReplacesValue old new (known has) place key what (content_need (store_content value))
  slot_replaces = record {
    others = _;
    made = boxes_made comes;
    refills = refills_weak comes;
    takes = takes_run comes;
    row = boxes_row comes;
    remembers = value_remembers (known has) (in_table (known has) has.below puts) place (store_content value) has.below
        (λ w. no_raw w holds) touches (makes_box comes);
    now = now;
    before_is = refl;
    now_is = pairs_are_now (known has) has.below puts;
    origin_is = λ at. refl;
    one_is = refl;
    key_is = refl;
    shows = taken.value_shows (takes comes);
    places = taken.places (takes comes);
    back = refers_back comes;
    slot_stays = slot_stays comes;
    room = room;
    beside = words.beside;
    young = words.young;
  }
