-- The words where an entry came to a table that was made: those of the map's own cell, and those of the run in which
-- the table was made.
use Rattle.std.proofs.Common.{◌≡◌, ◌≢◌, ℕ, ◌+◌, ◌*◌, ◌≤◌, ◌<◌, inl, inr, List, length, Some, slice_get, refl, sym, ◌∙◌}
use Rattle.std.proofs.Common.{ap}
use Rattle.std.proofs.Common.{arith, length-set}
use Rattle.std.specs.Prelude.{slice_set}
use Rattle.tagged_word.specs.declared.layout.Kind.TheVariants as kind
use Rattle.tagged_word.specs.Cells.{store_head, store_slot, cell_words_most}
use Rattle.page_space.specs.Extents.{marks_start}
use Rattle.page_space.proofs.Starts.{marks_start_is}
use Rattle.object_graph.proofs.Lists.{slice_get-set_same, slice_get-set_other}
use Rattle.heap_model.specs.Types.{Cell, Held}
use Rattle.write_barrier.specs.Seats.{heap_words, RestStays}
use Rattle.write_barrier.specs.Staying.{rest_stays_again}
use Rattle.heap_model.specs.Slots.{reference_word}
use Rattle.heap_model.specs.Kinds.{Pair, count_offset}
use Rattle.heap_model.specs.Needs.{grown_table}
use Rattle.write_barrier.specs.MutatorState.{Mutator, heap_of}
use Rattle.object_cells.specs.Contents.{next_at}
use Rattle.object_cells.specs.FilledRuns.{FillsRun}
use Rattle.object_cells.specs.Made.{store_content, content_need, content_word}
use Rattle.object_cells.proofs.RunCells.{bare_layout, size_is}
use Rattle.object_cells.proofs.FilledRuns.{FillsOwn}
use Rattle.object_cells.proofs.MadeBoxes.{with_content_box, with_content_stays}
use Rattle.object_cells.proofs.NewStores.{IsLongCell}
use Rattle.object_cells.proofs.UnusedWords.{IsUnusedRun, next_run, run_beside}
use Rattle.ephemeron_table.specs.Rehashing.{CanGrow, PutsInNewTable, new_table, new_table_need, box_behind}
use Rattle.ephemeron_table.specs.Puttings.{begun_table, table_header}
use Rattle.weak_pairs.specs.Tables.{IsOutsidePairs, made_pair, pairs_of}
use Rattle.weak_pairs.specs.declared.table.Table.{Table}
use Rattle.ephemeron_table.proofs.BegunTables.{begun_beside, begun_capacity, begun_header}
use Rattle.ephemeron_table.proofs.GrowingTables as growing
use Rattle.ephemeron_table.proofs.GrowingTables.{begun_words, begun_words_long, boxed_keys, boxed_within}
use Rattle.ephemeron_table.proofs.KnownTables.{KnownMap, cell, cell_has, map_no_filler, of_map}
use Rattle.weak_pairs.proofs.PairsPut.{beside_put}
use Rattle.weak_pairs.proofs.PairLists.{beside_run as pairs_beside_run}
use Rattle.weak_pairs.proofs.KeyedPairs.{HaveKeys}
use Rattle.weak_pairs.proofs.InsertedPairs.{inserted_below}

-- the cell of a table of so many pairs
abbrev pub table_cell : ℕ → ℕ → Cell
table_cell at capacity = record {
  at = at;
  header = table_header;
  layout = bare_layout kind.Table;
  length = capacity;
  size = store_head + 2 * capacity;
}

-- it has a length and no object
table_is_long : (at capacity : ℕ) → store_head + 2 * capacity ≤ cell_words_most → IsLongCell (table_cell at capacity)
table_is_long at capacity few = record {
  is_header = record { shape = omega arith; object = omega arith };
  known = omega arith;
  is_layout = record { cap = refl; used = refl; raw = refl };
  laid = λ paths. refl;
  long = refl;
  sized = size_is (store_head + 2 * capacity) (omega arith) few;
  some = omega arith;
  no_number = refl;
}

-- An entry comes to a table that is made in the place of the map's.
pub record GrowsTable (old new : Mutator) (map key count earlier : ℕ) (table : Table) (value : Held) : Type 0 where
  pub known : KnownMap old map table
  pub can : CanGrow old map table key earlier
  pub puts : PutsInNewTable old new map table key count value

module _ {old new : Mutator} {map key count earlier : ℕ} {table : Table} {value : Held}
    (grows : GrowsTable old new map key count earlier table value) where
  -- the table that is made, and the box
  abbrev pub made_table : Table
  made_table = new_table old table

  abbrev pub capacity : ℕ
  capacity = grown_table table.capacity

  abbrev pub other : Cell
  other = table_cell (next_at old) capacity

  abbrev pub box : ℕ
  box = box_behind old table

  abbrev pub need : ℕ
  need = new_table_need table value

  abbrev pub pair : Pair
  pair = made_pair (reference_word key) (content_word (store_content value) box)

  -- what was reserved is a run that no cell has but fillers, before the marks
  pub run : IsUnusedRun (heap_of old) (next_at old) need
  run = next_run old need grows.known.tied grows.known.whole.rows grows.puts.room

  counted : length (heap_words old.seat) ≡ marks_start old.seat.space
  counted = grows.known.whole.sized.words

  -- no word of the map's cell was reserved
  pub not_new : (k b : ℕ) → k < 3 → next_at old ≤ b → b < next_at old + need → b ≢ map + k
  not_new k b few from below same =
      run_beside (map + k) run (map_no_filler grows.known) (cell_has grows.known) (of_map grows.known k few)
      (omega (arith, from, same)) (omega (arith, below, same))

  -- the table's words with its box
  pub keys_boxed : HaveKeys (pairs_of (heap_words grows.puts.boxed.seat) made_table)
  keys_boxed =
      boxed_keys grows.can counted (content_need (store_content value)) grows.puts.room (λ some. refl) refl refl
      grows.puts.begins (store_content value) grows.puts.moves grows.puts.boxes

  pub fits_boxed : next_at old + (store_head + 2 * capacity) ≤ length (heap_words grows.puts.boxed.seat)
  fits_boxed =
      boxed_within grows.can counted (content_need (store_content value)) grows.puts.room (λ some. refl) refl refl
      grows.puts.begins (store_content value) grows.puts.moves grows.puts.boxes

  -- the new pair's place is one of the table
  pub place_below : grows.puts.inserts.place < capacity
  place_below = inserted_below fits_boxed keys_boxed grows.puts.inserts.first

  -- there are as many words at each step
  moved_long : length (heap_words grows.puts.moved.seat) ≡ length (heap_words old.seat)
  moved_long =
      grows.puts.moves.changes.long
      ∙ begun_words_long grows.can counted (content_need (store_content value)) grows.puts.room (λ some. refl) refl
      refl grows.puts.begins

  inserted_long : length (heap_words grows.puts.inserted.seat) ≡ length (heap_words old.seat)
  inserted_long =
      growing.inserted_long grows.can counted (content_need (store_content value)) grows.puts.room (λ some. refl) refl
      refl grows.puts.begins (store_content value) grows.puts.moves grows.puts.boxes grows.puts.inserts

  -- the words with the reference to it
  abbrev linked : List ℕ
  linked = slice_set (heap_words grows.puts.inserted.seat) (map + store_slot) (reference_word (next_at old))

  linked_long : length linked ≡ length (heap_words old.seat)
  linked_long =
      length-set (heap_words grows.puts.inserted.seat) (map + store_slot) (reference_word (next_at old)) ∙ inserted_long

  new_long : length (heap_words new.seat) ≡ length (heap_words old.seat)
  new_long = ap length grows.puts.words.heap ∙ length-set linked (map + count_offset) count ∙ linked_long

  pub inserted_as_long : length (heap_words grows.puts.inserted.seat) ≡ length (heap_words new.seat)
  inserted_as_long = inserted_long ∙ sym new_long

  -- the table ends in them
  fits_old : next_at old + (store_head + 2 * capacity) ≤ length (heap_words old.seat)
  fits_old = omega (arith, run.within, counted, marks_start_is old.seat.space)

  pub fits_new : next_at old + (store_head + 2 * capacity) ≤ length (heap_words new.seat)
  fits_new = omega (arith, fits_old, new_long)

  -- a word that is not of the map is that with the pair inserted
  beside_map : (a : ℕ) → a ≢ map + count_offset → a ≢ map + store_slot
      → slice_get (heap_words new.seat) a ≡ slice_get (heap_words grows.puts.inserted.seat) a
  beside_map a not_count not_slot =
      ap (λ all. slice_get all a) grows.puts.words.heap
      ∙ slice_get-set_other linked (map + count_offset) a count not_count
      ∙ slice_get-set_other (heap_words grows.puts.inserted.seat) (map + store_slot) a (reference_word (next_at old))
      not_slot

  -- one beside the pairs is that with the box
  beside_inserted : (a : ℕ) → IsOutsidePairs made_table a
      → slice_get (heap_words grows.puts.inserted.seat) a ≡ slice_get (heap_words grows.puts.boxed.seat) a
  beside_inserted a beside =
      ap (λ all. slice_get all a) grows.puts.inserts.words.heap
      ∙ beside_put (heap_words grows.puts.boxed.seat) made_table grows.puts.inserts.place a pair place_below beside

  -- one that is not the box's either is that of the table that holds nothing
  boxed_begun : (a : ℕ) → IsOutsidePairs made_table a
      → (box ≤ a → a < box + content_need (store_content value) → ⊥)
      → slice_get (heap_words grows.puts.boxed.seat) a ≡ slice_get (heap_words grows.puts.begun.seat) a
  boxed_begun a beside not_box =
      ap (λ all. slice_get all a) grows.puts.boxes.heap
      ∙ with_content_stays (heap_words grows.puts.moved.seat) (store_content value) box a not_box
      ∙ grows.puts.moves.changes.beside a beside

  begun_is : heap_words grows.puts.begun.seat ≡ begun_table (heap_words old.seat) made_table
  begun_is =
      begun_words grows.can counted (content_need (store_content value)) grows.puts.room (λ some. refl) refl refl
      grows.puts.begins

  -- and one that was not reserved is as before
  pub begun_stays : (a : ℕ) → (next_at old ≤ a → a < next_at old + need → ⊥)
      → slice_get (heap_words grows.puts.begun.seat) a ≡ slice_get (heap_words old.seat) a
  begun_stays a not_run =
      ap (λ all. slice_get all a) begun_is
      ∙ begun_beside (heap_words old.seat) made_table fits_old a (λ from below. not_run from (omega (arith, below)))

  outside_run : (a : ℕ) → (next_at old ≤ a → a < next_at old + need → ⊥) → IsOutsidePairs made_table a
  outside_run a not_run = pairs_beside_run made_table a (λ from below. not_run from (omega (arith, below)))

  pub boxed_stays : (a : ℕ) → (next_at old ≤ a → a < next_at old + need → ⊥)
      → slice_get (heap_words grows.puts.boxed.seat) a ≡ slice_get (heap_words old.seat) a
  boxed_stays a not_run =
      boxed_begun a (outside_run a not_run) (λ from below. not_run (omega (arith, from)) (omega (arith, below)))
      ∙ begun_stays a not_run

  -- a word that was reserved is that with the pair inserted
  pub run_word : (b : ℕ) → next_at old ≤ b → b < next_at old + need
      → slice_get (heap_words new.seat) b ≡ slice_get (heap_words grows.puts.inserted.seat) b
  run_word b from below =
      beside_map b (not_new 2 b (omega arith) from below) (not_new 1 b (omega arith) from below)

  -- one of the table's head
  head_word : (b : ℕ) → next_at old ≤ b → b < next_at old + store_head
      → slice_get (heap_words new.seat) b ≡ slice_get (begun_table (heap_words old.seat) made_table) b
  head_word b from below =
      run_word b from (omega (arith, below)) ∙ beside_inserted b (inl below)
      ∙ boxed_begun b (inl below) (λ high more. omega (arith, high, below)) ∙ ap (λ all. slice_get all b) begun_is

  -- one of the box
  box_word : (b : ℕ) → box ≤ b → b < next_at old + need
      → slice_get (heap_words new.seat) b ≡ slice_get (heap_words grows.puts.boxed.seat) b
  box_word b from below = run_word b (omega (arith, from)) below ∙ beside_inserted b (inr (omega (arith, from)))

  -- so the run is filled with the table and the box
  fills : FillsRun (heap_words old.seat) (heap_words new.seat) map (map + count_offset) other (store_content value)
  fills = record {
    long = new_long;
    header = head_word (next_at old) (omega arith) (omega arith)
        ∙ begun_header (heap_words old.seat) made_table fits_old;
    counted = head_word (next_at old + 1) (omega arith) (omega arith)
        ∙ begun_capacity (heap_words old.seat) made_table fits_old;
    box = λ v is.
        let two = ap content_need is in
        let stands = with_content_box (heap_words grows.puts.moved.seat) (store_content value) box v is
        (omega (arith, moved_long, counted, run.within, marks_start_is old.seat.space, two)) in
        let put = grows.puts.boxes.heap in
        record {
          header = box_word box (omega arith) (omega (arith, two)) ∙ ap (λ all. slice_get all box) put ∙ stands.header;
          raw = box_word (box + 1) (omega arith) (omega (arith, two)) ∙ ap (λ all. slice_get all (box + 1)) put
              ∙ stands.raw;
        };
    named = ap (λ all. slice_get all (map + store_slot)) grows.puts.words.heap
        ∙ slice_get-set_other linked (map + count_offset) (map + store_slot) count (λ same. omega (arith, same))
        ∙ slice_get-set_same (heap_words grows.puts.inserted.seat) (map + store_slot) (reference_word (next_at old))
        (omega (arith, inserted_long, counted, grows.can.map_within));
    stay = λ a not_slot not_count not_run.
        beside_map a not_count not_slot ∙ beside_inserted a (outside_run a not_run) ∙ boxed_stays a not_run;
  }

  -- the map counts so many
  pub count_word : slice_get (heap_words new.seat) (map + count_offset) ≡ Some count
  count_word =
      ap (λ all. slice_get all (map + count_offset)) grows.puts.words.heap
      ∙ slice_get-set_same linked (map + count_offset) count (omega (arith, linked_long, counted, grows.can.map_within))

  -- nothing but heap words was put
  grown_beside : RestStays old.seat new.seat
  grown_beside =
      let puts = grows.puts in
      rest_stays_again old.seat puts.inserted.seat new.seat
      (rest_stays_again old.seat puts.boxed.seat puts.inserted.seat
      (rest_stays_again old.seat puts.moved.seat puts.boxed.seat
      (rest_stays_again old.seat puts.begun.seat puts.moved.seat puts.begins.beside puts.moves.changes.rest)
      puts.boxes.beside) puts.inserts.words.beside) puts.words.beside

  -- so the run is filled for the map
  pub filled : FillsOwn kind.Weak kind.Table old new (cell grows.known) other map (map + count_offset)
      (store_content value)
  filled =
      let puts = grows.puts in
      record {
        tied = grows.known.tied;
        whole = grows.known.whole;
        has = cell_has grows.known;
        of_kind = grows.known.there.of_kind;
        of_object = refl;
        stands = grows.known.there.stands;
        room = puts.room;
        at = refl;
        long = table_is_long (next_at old) capacity (omega arith);
        beside = grown_beside;
        paths = puts.words.paths ∙ puts.inserts.words.paths ∙ puts.boxes.paths ∙ puts.moves.changes.paths
            ∙ puts.begins.paths;
        young = puts.words.young ∙ puts.inserts.words.young ∙ puts.boxes.young ∙ puts.moves.changes.young
            ∙ puts.begins.young;
        fills = fills;
        of_slot = of_map grows.known 1 (omega arith);
        of_own = of_map grows.known 2 (omega arith);
        not_header = λ same. omega (arith, same);
      }
