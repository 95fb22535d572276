-- How the pairs of a table come to another one, and to a map that has that then.
use Rattle.std.specs.Prelude.{◌≡◌, ℕ, ◌+◌, ◌*◌, ◌≤◌, ◌<◌, Some, slice_set}
use Rattle.tagged_word.specs.Cells.{store_head, store_slot}
use Rattle.tagged_word.specs.Readings.{reference_in}
use Rattle.page_space.specs.Extents.{marks_start}
use Rattle.nursery.specs.Young.{HasRoom}
use Rattle.object_graph.specs.Meaning.{weak_most}
use Rattle.heap_model.specs.Types.{Held}
use Rattle.linear_probing.specs.Tables.{FindsAll}
use Rattle.write_barrier.specs.Seats.{heap_words}
use Rattle.heap_model.specs.Slots.{reference_word}
use Rattle.heap_model.specs.Kinds.{Pair, count_offset}
use Rattle.heap_model.specs.Needs.{grown_table}
use Rattle.heap_model.specs.Remembered.{Touch}
use Rattle.heap_model.specs.Wholeness.{Whole}
use Rattle.write_barrier.specs.MutatorState.{Mutator, heap_of, IsTied, reserved}
use Rattle.write_barrier.specs.Recording.{Touches, touched_one, touched_then}
use Rattle.write_barrier.specs.Storing.{IsMadeYoung, StoresOn}
use Rattle.object_cells.specs.Contents.{next_at}
use Rattle.object_cells.specs.Made.{IsUsedRange, PutsWords, with_content, content_need, content_touch, content_word}
use Rattle.object_cells.specs.Made.{store_content}
use Rattle.weak_pairs.specs.Pairs.{IsFilledAt}
use Rattle.weak_pairs.specs.Tables.{TableIsWithin, numbers, pairs_of}
use Rattle.ephemeron_table.specs.MapClaims.{MayPutMap}
use Rattle.ephemeron_table.specs.Puttings.{InsertsRehashed, begun_table, table_touch}
use Rattle.ephemeron_table.specs.Removals.{ChangesPairs}
use Rattle.weak_pairs.specs.declared.table.Table.{Table}
use Rattle.weak_pairs.specs.Rehashing.{AreRehashed}

-- The pairs at so many first places of a table came to another one, which probing finds there.
pub record RehashesPairs (old new : Mutator) (from to : Table) (count : ℕ) : Type 0 where
  pub changes : ChangesPairs old new to
  pub moved : AreRehashed (pairs_of (heap_words old.seat) from) (pairs_of (heap_words new.seat) to) count
  pub found : FindsAll (numbers (heap_of old) (pairs_of (heap_words new.seat) to))

-- the address is that of a word of a cell that is no filler
pub record IsUsed (main : Mutator) (at : ℕ) : Type 0 where
  pub from : ℕ
  pub to : ℕ
  pub used : IsUsedRange (heap_of main) from to
  pub begins : from ≤ at
  pub ends : at < to

-- each pair that holds something has the word of an address as its key, which is one before the marks and that of a
-- word of a cell that is no filler
abbrev pub KeysUsed : Mutator → Table → Type 0
KeysUsed main table =
    (place : ℕ) (pair : Pair) → IsFilledAt (pairs_of (heap_words main.seat) table) place pair
    → (at : ℕ) × (reference_in pair.key ≡ Some at) × (at < marks_start main.seat.space) × IsUsed main at

-- A table may be made in the place of a map's, for the pair of this key: with it more than half of the pairs would be
-- filled, and no more than the map may have entries. The heap is whole, so what is made has no word of the map's table,
-- nor one of a key. Where a cycle is open, what is made is young.
pub record CanGrow (main : Mutator) (map : ℕ) (table : Table) (key count : ℕ) : Type 0 where
  pub tied : IsTied main
  pub young : IsMadeYoung main (next_at main)
  pub may : MayPutMap main map
  pub whole : Whole (heap_of main)
  pub within : TableIsWithin (heap_of main) table
  pub few : count < weak_most
  pub over : table.capacity < 2 * (count + 1)
  pub map_within : map + count_offset < marks_start main.seat.space
  pub pairs : (at : ℕ) → table.at + store_head ≤ at → at < table.at + (store_head + 2 * table.capacity) → IsUsed main at
  pub keys : KeysUsed main table
  pub key_within : key < marks_start main.seat.space
  pub key_used : IsUsed main key

-- the table that is made, where the next cell is made
abbrev pub new_table : Mutator → Table → Table
new_table main table = record { at = next_at main; capacity = grown_table table.capacity }

-- how many words it takes, with the box that a value needs
abbrev pub new_table_need : Table → Held → ℕ
new_table_need table value = store_head + 2 * grown_table table.capacity + content_need (store_content value)

-- where that box stands
abbrev pub box_behind : Mutator → Table → ℕ
box_behind main table = next_at main + (store_head + 2 * grown_table table.capacity)

-- The pair of a key and a value comes to a table that is made, behind those of the map's table. Then the map refers to
-- it, and counts so many.
pub record PutsInNewTable (old new : Mutator) (map : ℕ) (table : Table) (key count : ℕ) (value : Held) : Type 0 where
  pub room : HasRoom old.young (new_table_need table value)
  pub begun : Mutator
  pub begins : PutsWords (reserved old (new_table_need table value)) begun
      (begun_table (heap_words old.seat) (new_table old table))
  pub begin_touches : Touches old begun (table_touch (new_table old table))
  pub moved : Mutator
  pub moves : RehashesPairs begun moved table (new_table old table) table.capacity
  pub boxed : Mutator
  pub boxes : PutsWords moved boxed (with_content (heap_words moved.seat) (store_content value) (box_behind old table))
  pub box_touches : Touches moved boxed (content_touch (store_content value) (box_behind old table))
  pub inserted : Mutator
  pub inserts : InsertsRehashed boxed inserted (new_table old table) key
      (content_word (store_content value) (box_behind old table))
  pub words : PutsWords inserted new
      (slice_set (slice_set (heap_words inserted.seat) (map + store_slot) (reference_word (next_at old)))
      (map + count_offset)
      count)
  pub touches : let named = touched_one Touch.Stored (map + store_slot) in
      Touches inserted new (touched_then named (touched_one Touch.Wiped (map + count_offset)))
  pub stores : StoresOn old new
