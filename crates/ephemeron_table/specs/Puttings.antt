-- Which words putting an entry writes.
use Rattle.std.specs.Prelude.{◌≡◌, ℕ, ◌+◌, ◌*◌, List, replicate, slice_set, Result, Ok, Err}
use Rattle.heap_model.specs.Types.{Header, Held}
use Rattle.tagged_word.specs.Cells.{store_head, length_offset}
use Rattle.tagged_word.specs.Headers.{header_bits}
use Rattle.tagged_word.specs.Shapes.{table_shape}
use Rattle.nursery.specs.Young.{HasRoom}
use Rattle.write_barrier.specs.Seats.{heap_words}
use Rattle.heap_model.specs.Slots.{reference_word, hole_word}
use Rattle.heap_model.specs.Kinds.{count_offset}
use Rattle.heap_model.specs.Remembered.{Touch}
use Rattle.write_barrier.specs.MutatorState.{Mutator, heap_of, reserved}
use Rattle.write_barrier.specs.Recording.{Touches, touched, touched_one, touched_then}
use Rattle.write_barrier.specs.Storing.{StoresOn}
use Rattle.write_barrier.specs.Values.{with_range}
use Rattle.write_barrier.specs.declared.room.NoRoom.{NoRoom}
use Rattle.object_cells.specs.declared.content.SlotContent.{SlotContent}
use Rattle.object_cells.specs.Contents.{FillsSlot, LacksRoom, filling_at, next_at}
use Rattle.object_cells.specs.Made.{PutsWords, with_content, content_need, content_touch, content_word, store_content}
use Rattle.object_cells.specs.Made.{store_touch}
use Rattle.weak_pairs.specs.Tables.{number_at, key_offset, value_offset, with_pair, made_pair}
use Rattle.weak_pairs.specs.declared.table.Table.{Table}
use Rattle.weak_pairs.specs.Probes.{IsFirstFree}

-- which addresses putting a pair at a place of the table at an address touches
abbrev pub pair_touch : ℕ → ℕ → ℕ → Touch
pair_touch table place = touched Touch.Stored (table + key_offset place) (table + (value_offset place + 1))

-- which addresses making a table of so many pairs touches: its head, and its slots
abbrev pub table_touch : Table → ℕ → Touch
table_touch table = store_touch (2 * table.capacity) table.at

-- The slot of a pair's value came to hold this, as other slots do. But what is known of a cycle of marking stays as it
-- was, since marking visits no pair.
pub record FillsValue (old new : Mutator) (at : ℕ) (content : SlotContent) : Type 0 where
  pub filled : Mutator
  pub fills : FillsSlot old filled at content
  pub same : new ≡ record filled { cycle = old.cycle }
  pub stores : StoresOn old new

-- it did; or there is no room, and nothing has changed
abbrev pub FillsValueOrRefuses : Mutator → Mutator → ℕ → SlotContent → Result Unit NoRoom → Type 0
FillsValueOrRefuses old new at content (Ok _) = FillsValue old new at content
FillsValueOrRefuses old new at content (Err full) = LacksRoom old (filling_at old at content) full × (new ≡ old)

-- The pair of a key and a value comes to a place of the map's table, and the map counts so many; a box that the
-- value needs is made.
pub record PutsInTable (old new : Mutator) (map : ℕ) (table : Table) (place key count : ℕ) (value : Held) : Type 0 where
  pub room : HasRoom old.young (content_need (store_content value))
  pub words : let boxed = with_content (heap_words old.seat) (store_content value) (next_at old) in
      let pair = made_pair (reference_word key) (content_word (store_content value) (next_at old)) in
      PutsWords (reserved old (content_need (store_content value))) new
      (slice_set (with_pair boxed table.at place pair) (map + count_offset) count)
  pub touches : let boxed = content_touch (store_content value) (next_at old) in
      let put = touched_then boxed (pair_touch table.at place) in
      Touches old new (touched_then put (touched_one Touch.Wiped (map + count_offset)))
  pub stores : StoresOn old new

-- the header of a table
abbrev pub table_header : Header
table_header = record { shape = table_shape; object = 0 }

-- the words with a table of pairs that hold nothing
abbrev pub begun_table : List ℕ → Table → List ℕ
begun_table words table =
    with_range (slice_set (slice_set words table.at (header_bits table_header))
    (table.at + length_offset) table.capacity)
    (table.at + store_head) (replicate (2 * table.capacity) hole_word)

-- the pair of a key and a value comes to the first free place on the way of the key's number
pub record InsertsRehashed (old new : Mutator) (table : Table) (key value : ℕ) : Type 0 where
  pub place : ℕ
  pub first : IsFirstFree (heap_of old) table (number_at (heap_of old) key) place
  pub words : PutsWords old new (with_pair (heap_words old.seat) table.at place (made_pair (reference_word key) value))
  pub touches : Touches old new (pair_touch table.at place)
  pub stores : StoresOn old new
