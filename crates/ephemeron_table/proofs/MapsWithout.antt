-- A pair that was removed from a weak map's table refills the map.
use Rattle.std.proofs.Common.{◌≡◌, ℕ, ◌+◌, ◌-◌, ◌<◌, inl, List, [], ◌∷◌, Some, slice_get, refl, sym, ◌∙◌, ap, arith}
use Rattle.std.proofs.Common.{Contains}
use Rattle.tagged_word.specs.declared.layout.Kind.TheVariants as kind
use Rattle.tagged_word.specs.Cells.{store_slot}
use Rattle.tagged_word.proofs.Members.{first_in}
use Rattle.write_barrier.specs.Seats.{heap_words}
use Rattle.heap_model.specs.Types.{Cell}
use Rattle.heap_model.specs.Heaps.{HasCell, words_of_cell}
use Rattle.heap_model.specs.Slots.{RefersToPlace, hole_word}
use Rattle.heap_model.specs.Kinds.{HasWord, Pair, count_offset}
use Rattle.heap_model.specs.Needs.{count_at}
use Rattle.heap_model.proofs.BoundHeaps.{none_in}
use Rattle.write_barrier.specs.MutatorState.{Mutator, heap_of}
use Rattle.object_cells.specs.OwnSlots.{ComesFrom}
use Rattle.object_cells.specs.declared.content.SlotContent.TheVariants as content
use Rattle.object_cells.proofs.SlotsNow.{word_at_offset}
use Rattle.object_cells.proofs.NothingUsed.{room_for_none}
use Rattle.object_cells.proofs.TakenRuns.{bumped_none}
use Rattle.object_cells.proofs.TakenValues.{IsItsStore, only_store}
use Rattle.object_cells.proofs.OwnContents as own
use Rattle.object_cells.proofs.OwnContents.{PutsBeside}
use Rattle.weak_pairs.specs.Pairs.{HasPairs, IsFilledAt}
use Rattle.weak_pairs.specs.Tables.{pairs_of}
use Rattle.weak_pairs.specs.declared.table.Table.{Table}
use Rattle.weak_pairs.proofs.CountedPairs.{count_filled}
use Rattle.ephemeron_table.specs.PairWrites.{RefillsPairs, ShowsPair}
use Rattle.ephemeron_table.specs.PairLaws.{RefillsWeak}
use Rattle.ephemeron_table.specs.Removals.{RemovesAt}
use Rattle.ephemeron_table.proofs.KnownTables.{KnownMap, cell, sound, slot_there, count_is, of_map, finds_all, other}
use Rattle.ephemeron_table.proofs.KnownTables.{are_before, known_store, table_is_no_box, puts_beside}
use Rattle.ephemeron_table.proofs.StayingTables as staying
use Rattle.ephemeron_table.proofs.StayingTables.{WritesMap, StaysTable}

module _ {old new : Mutator} {map place : ℕ} {table : Table} (known : KnownMap old map table)
    (some : 0 < table.capacity)
    (removes : RemovesAt old new map table place) (taken_one : Pair)
    (filled : IsFilledAt (pairs_of (heap_words old.seat) table) place taken_one) where
  -- the pairs before and after
  abbrev pub before : List Pair
  before = pairs_of (heap_words old.seat) table

  abbrev pub after : List Pair
  after = pairs_of (heap_words new.seat) table

  -- the cells of the map and of its table
  abbrev map_cell : Cell
  map_cell = cell known

  abbrev table_cell : Cell
  table_cell = other known some

  -- so words of both cells were put, and the place came to hold nothing
  pub putting : PutsBeside kind.Weak kind.Table old new map_cell table_cell (sound known).store
      (content.Tagged (record { 0 = hole_word })) (heap_words new.seat)
  putting =
      puts_beside known some (room_for_none old known.tied known.whole)
      (record {
        beside = removes.rest;
        paths = removes.paths;
        young = removes.young ∙ sym (bumped_none old.young);
        heap = refl;
      })
      removes.long removes.beside

  -- the word of the map for its table stays
  pub slot_stays : slice_get (heap_words new.seat) (map_cell.at + store_slot)
      ≡ slice_get (heap_words old.seat) (map_cell.at + store_slot)
  slot_stays = own.slot_stays putting

  -- so words of the map's own cells were written
  abbrev written : WritesMap old new map table known (table_cell ∷ []) []
  written = record {
    writes = own.writes putting;
    belong = own.belong putting;
    kinds = λ one among. absurd (none_in one among);
  }

  -- only the table is among them, and it is no box
  pub its_table : (one : Cell) → Contains (table_cell ∷ []) one → IsItsStore kind.Table (sound known).store one
  its_table = only_store (known_store known some)

  pub no_box : (one : Cell) → Contains (table_cell ∷ []) one → one.layout.kind ≡ kind.Boxed → ⊥
  no_box one among box = table_is_no_box (its_table one among).of_kind box

  -- and the table stays where it is
  abbrev stays : StaysTable old new map table known some (table_cell ∷ []) []
  stays = record { written = written; among = first_in table_cell []; slot = slot_stays }

  -- the map's cell stands in the new heap
  pub map_has : HasCell (heap_of new) map_cell (words_of_cell (heap_of new) map_cell)
  map_has = staying.map_has known written

  -- what refers to an object did so before
  pub refers_back : (word number : ℕ) → RefersToPlace (heap_of new) word number
      → RefersToPlace (heap_of old) word number
  refers_back = staying.refers_back known written

  -- the table has the pairs after
  abbrev pub are_after : HasPairs (heap_of new) (words_of_cell (heap_of new) map_cell) after
  are_after = staying.are_after known some stays

  -- as many as the count says hold something
  pub count_after : HasWord (words_of_cell (heap_of new) map_cell) count_offset (count_filled after)
  count_after =
      let size = of_map known 2 (omega arith) in
      let less : count_at (heap_of old) map - 1 ≡ count_filled after =
      omega (arith, count_is known, removes.removed.counted taken_one filled) in
      word_at_offset count_offset map_has (omega (arith, size.below, known.there.stands))
      ∙ ap (λ n. slice_get (heap_words new.seat) (n + count_offset)) known.there.stands ∙ removes.counted
      ∙ ap (λ n. Some n) less

  -- so the map is refilled
  abbrev pub refills : RefillsPairs (heap_of old) (heap_of new) map_cell (table_cell ∷ []) []
  refills = record {
    before = before;
    were = are_before known;
    now = after;
    are = are_after;
    counted = count_after;
    refills = record {
      origin = removes.removed.origin;
      apart = λ at other word another one two. removes.removed.apart at other one.0 two.0 one.1 two.1;
      one = removes.hole;
      each_slot = λ at word there. ComesFrom.moved (there.0, (removes.removed.from at there.0 there.1).0, there.2);
      store = (sound known).store;
      has_store = are_after.slot;
      store_comes = inl (slot_there known);
      belong = written.belong;
      kinds = written.kinds;
      stores = λ one among is. ((its_table one among).no_number, (its_table one among).refers);
      boxes = λ one among box. absurd (no_box one among box);
    };
    each_pair = λ at pair is. ShowsPair.kept (removes.removed.from at pair is).0
        (λ one among box same. no_box one among box);
    probed = staying.probed known written after (removes.found (finds_all known));
  }

  abbrev pub refills_weak : RefillsWeak (heap_of old) (heap_of new) map_cell (table_cell ∷ []) []
  refills_weak = record { whole = known.whole; writes = written.writes; paths = removes.paths; pairs = refills }
