-- A pair that was put at a place of a weak map's table refills the map.
use Rattle.std.specs.Prelude.{slice_set}
use Rattle.std.proofs.Common.{◌≡◌, ℕ, ◌+◌, ◌*◌, ◌≤◌, ◌<◌, List, length, ◌∙◌, ap, arith, length-set}
use Rattle.tagged_word.specs.declared.layout.Kind.TheVariants as kind
use Rattle.tagged_word.specs.Cells.{store_head}
use Rattle.object_graph.proofs.Lists.{slice_get-set_other}
use Rattle.nursery.specs.Young.{HasRoom}
use Rattle.write_barrier.specs.Seats.{heap_words}
use Rattle.heap_model.specs.Types.{Cell, Held}
use Rattle.heap_model.specs.Slots.{reference_word}
use Rattle.heap_model.specs.Kinds.{Pair, count_offset}
use Rattle.write_barrier.specs.MutatorState.{Mutator, reserved}
use Rattle.object_cells.specs.Contents.{next_at}
use Rattle.object_cells.specs.Made.{PutsWords, with_content, content_need, content_word, store_content}
use Rattle.object_cells.proofs.MadeBoxes.{made_boxes, length-with_content, with_content_stays}
use Rattle.object_cells.proofs.OwnContents.{PutsBeside, not_made}
use Rattle.weak_pairs.specs.Tables.{pairs_of, with_pair, made_pair}
use Rattle.weak_pairs.specs.declared.table.Table.{Table}
use Rattle.weak_pairs.proofs.PairsPut.{pairs_now, pairs_beside, beside_put, length-with_pair}
use Rattle.weak_pairs.proofs.PairLists.{pairs_stay}
use Rattle.ephemeron_table.specs.Puttings.{PutsInTable}
use Rattle.ephemeron_table.proofs.KnownTables.{KnownMap, cell, within_words, found, other, sound, puts_beside}
use Rattle.ephemeron_table.proofs.KnownTables.{other_has, other_long, map_beside, table_no_filler}

-- The words with a pair that comes to a place of the map's table, and with a count and a box that the value needs.
pub record PutsPairWords (old new : Mutator) (map : ℕ) (table : Table) (place key count : ℕ) (value : Held)
    : Type 0 where
  pub room : HasRoom old.young (content_need (store_content value))
  pub words : let boxed = with_content (heap_words old.seat) (store_content value) (next_at old) in
      let pair = made_pair (reference_word key) (content_word (store_content value) (next_at old)) in
      PutsWords (reserved old (content_need (store_content value))) new
      (slice_set (with_pair boxed table.at place pair) (map + count_offset) count)

-- putting the pair in the table puts these
abbrev pub put_words : {old new : Mutator} {map place key count : ℕ} {table : Table} {value : Held}
    → PutsInTable old new map table place key count value → PutsPairWords old new map table place key count value
put_words puts = record { room = puts.room; words = puts.words }

module _ {old new : Mutator} {map place key count : ℕ} {table : Table} {value : Held} (known : KnownMap old map table)
    (below : place < table.capacity) (puts : PutsPairWords old new map table place key count value) where
  abbrev pub some : 0 < table.capacity
  some = omega (arith, below)

  abbrev map_cell : Cell
  map_cell = cell known

  abbrev table_cell : Cell
  table_cell = other known some

  abbrev pub need : ℕ
  need = content_need (store_content value)

  abbrev pub pair : Pair
  pair = made_pair (reference_word key) (content_word (store_content value) (next_at old))

  abbrev pub boxed : List ℕ
  boxed = with_content (heap_words old.seat) (store_content value) (next_at old)

  abbrev pub put : List ℕ
  put = with_pair boxed table.at place pair

  abbrev pub final : List ℕ
  final = slice_set put (map + count_offset) count

  -- so words of the map's cell and of its table were put
  pub putting : PutsBeside kind.Weak kind.Table old new map_cell table_cell (sound known).store (store_content value)
      final
  putting =
      puts_beside known some puts.room puts.words
      (length-set put (map + count_offset) count ∙ length-with_pair boxed table.at place pair
      ∙ length-with_content (heap_words old.seat) (store_content value) (next_at old))
      (λ a beside not_count. slice_get-set_other put (map + count_offset) a count not_count
      ∙ beside_put boxed table place a pair below beside)

  -- the pairs are those with the one put
  pub pairs_are_now : pairs_of (heap_words new.seat) table ≡ slice_set (pairs_of (heap_words old.seat) table) place pair
  pairs_are_now =
      let within = within_words known in
      let within_boxed : table.at + (store_head + 2 * table.capacity) ≤ length boxed =
      omega (arith, within, length-with_content (heap_words old.seat) (store_content value) (next_at old)) in
      let one = found known some in
      ap (λ all. pairs_of all table) puts.words.heap
      ∙ pairs_beside put table (map + count_offset) count
      (omega (arith, within_boxed, length-with_pair boxed table.at place pair)) (map_beside known some 2 (omega arith))
      ∙ pairs_now boxed table place pair within_boxed below
      ∙ ap (λ pairs. slice_set pairs place pair) (pairs_stay (heap_words old.seat) boxed table within
      (length-with_content (heap_words old.seat) (store_content value) (next_at old)) (λ a from less.
      with_content_stays (heap_words old.seat) (store_content value) (next_at old) a
      (not_made putting a (table_no_filler known some) (other_has known some) (record {
        from = omega (arith, from, one.stands);
        below = omega (arith, less, one.stands, one.size, other_long known some);
      }))))

  -- the cells that are made
  abbrev pub made : List Cell
  made = made_boxes (store_content value) (next_at old)
