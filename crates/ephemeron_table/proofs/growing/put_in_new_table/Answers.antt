-- The table and the box that are made stand in the words that were reserved.
use Rattle.std.proofs.Common.{◌≡◌, ℕ, ◌+◌, ◌*◌, ◌<◌, ◌≤◌, length, sym, ap, subst, ◌∙◌, arith, rules}
use Rattle.tagged_word.specs.Cells.{store_head}
use Rattle.page_space.specs.Extents.{Space, layouts_start, marks_start}
use Rattle.write_barrier.specs.Seats.{heap_words, RestStays}
use Rattle.write_barrier.specs.Staying.{rest_stays_itself, rest_stays_again}
use Rattle.heap_model.specs.Remembered.{Touch}
use Rattle.write_barrier.specs.MutatorState.{Mutator, reserved}
use Rattle.write_barrier.specs.Recording.{Touches, touched_one}
use Rattle.write_barrier.specs.Storing.{MayHold, StoresOn}
use Rattle.write_barrier.proofs.Recording.{slot_touch}
use Rattle.write_barrier.proofs.StoresOn.{made_young_stays, may_hold_stays, stores_on_again, stores_on_itself}
use Rattle.object_cells.specs.Made.{content_need}
use Rattle.object_cells.proofs.RestOfWords.{reserved_rest, put_rest}
use Rattle.object_cells.proofs.TouchedWords.{then_wiped}
use Rattle.ephemeron_table.proofs.ClaimedMaps.{count_may_put, count_stores_on, map_may_still, pairs_may_still}
use Rattle.ephemeron_table.proofs.ClaimedMaps.{table_may_put, table_stores_on, used_stores_on}
use Rattle.ephemeron_table.proofs.GrowingTables.{begun_touch, begun_within, boxed_free, grown_apart}
use Rattle.ephemeron_table.proofs.GrowingTables.{grown_before_layouts, grown_may, grown_named, grown_young}
use Rattle.ephemeron_table.proofs.GrowingTables.{grown_keys, grown_more, grown_nothing, inserted_long}
use Rattle.ephemeron_table.proofs.growing.put_in_new_table.Goals as goal

-- a map's slot stands before its count
slot_before : (map marks : ℕ) → map + 2 < marks → map + 1 < marks
slot_before map marks within = omega arith

-- where words were reserved, a table was begun and pairs came to it, a box was made and the new pair came too, words
-- were stored
inserted_on : {old between begun moved boxed inserted : Mutator} (need : ℕ) → between ≡ reserved old need
    → StoresOn between begun → StoresOn begun moved → StoresOn moved boxed → StoresOn boxed inserted
    → StoresOn old inserted
inserted_on need is begins moves boxes inserts =
    stores_on_again (used_stores_on need is (stores_on_again begins moves)) (stores_on_again boxes inserts)

pub begin_table-requires-clause-young : goal.begin_table-requires-clause-young
begin_table-requires-clause-young c =
    let need : ℕ = store_head + 2 * c.grown-capacity.result + c.need_of.result in
    let used : StoresOn c.args.main.now c.room_for.new.main =
    used_stores_on need c.in_ok-at.ensures.reserved (stores_on_itself c.room_for.new.main) in
    made_young_stays used
    (grown_young c.requires.can c.addresses_fit.ensures.heap_counted c.need_of.result c.in_ok-at.ensures.room
    c.in_ok-at.ensures.at c.grown-capacity.ensures c.in_ok-at.at (omega arith))

pub rehash-requires-clause-may : goal.rehash-requires-clause-may
rehash-requires-clause-may c =
    pairs_may_still (used_stores_on _ c.in_ok-at.ensures.reserved c.begin_table.ensures.stores)
    (grown_may c.requires.can c.addresses_fit.ensures.heap_counted c.need_of.result c.in_ok-at.ensures.room
    c.in_ok-at.ensures.at c.grown-capacity.ensures)

pub boxed_word-word-requires-clause-young : goal.boxed_word-word-requires-clause-young
boxed_word-word-requires-clause-young c v boxed =
    let need : ℕ = store_head + 2 * c.grown-capacity.result + c.need_of.result in
    let moved : StoresOn c.args.main.now c.rehash.new.main =
    used_stores_on need c.in_ok-at.ensures.reserved
    (stores_on_again c.begin_table.ensures.stores c.rehash.ensures.changes.stores) in
    made_young_stays moved
    (grown_young c.requires.can c.addresses_fit.ensures.heap_counted c.need_of.result c.in_ok-at.ensures.room
    c.in_ok-at.ensures.at c.grown-capacity.ensures
    (c.in_ok-at.at + (2 + 2 * c.grown-capacity.result)) (omega arith))

pub insert_rehashed-requires-clause-may : goal.insert_rehashed-requires-clause-may
insert_rehashed-requires-clause-may c =
    pairs_may_still (inserted_on _ c.in_ok-at.ensures.reserved c.begin_table.ensures.stores
    c.rehash.ensures.changes.stores c.boxed_word-word.ensures.stores
    (stores_on_itself c.boxed_word-word.new.main))
    (grown_may c.requires.can c.addresses_fit.ensures.heap_counted c.need_of.result c.in_ok-at.ensures.room
    c.in_ok-at.ensures.at c.grown-capacity.ensures)

pub store-requires-clause-may_store : goal.store-requires-clause-may_store
store-requires-clause-may_store c =
    let inserted = inserted_on _ c.in_ok-at.ensures.reserved c.begin_table.ensures.stores
    c.rehash.ensures.changes.stores c.boxed_word-word.ensures.stores c.insert_rehashed.ensures.stores in
    let named = grown_named c.requires.can c.addresses_fit.ensures.heap_counted c.need_of.result
    c.in_ok-at.ensures.room c.in_ok-at.ensures.at c.grown-capacity.ensures c.addresses_fit.ensures.within in
    table_may_put (map_may_still inserted c.requires.can.may)
    (subst (MayHold c.insert_rehashed.new.main) (sym c.reference.ensures) (may_hold_stays inserted named))

pub write_slot-requires-clause-may_store : goal.write_slot-requires-clause-may_store
write_slot-requires-clause-may_store c =
    let inserted = inserted_on _ c.in_ok-at.ensures.reserved c.begin_table.ensures.stores
    c.rehash.ensures.changes.stores c.boxed_word-word.ensures.stores c.insert_rehashed.ensures.stores in
    let named = grown_named c.requires.can c.addresses_fit.ensures.heap_counted c.need_of.result
    c.in_ok-at.ensures.room c.in_ok-at.ensures.at c.grown-capacity.ensures c.addresses_fit.ensures.within in
    count_may_put _ (map_may_still (table_stores_on _ c.requires.can.may
    (subst (MayHold c.args.main.now) (sym c.reference.ensures) named) inserted c.store.ensures.stored)
    c.requires.can.may)

pub begin_table-requires-clause-within : goal.begin_table-requires-clause-within
begin_table-requires-clause-within c =
    let space = ap (λ (main : Mutator). layouts_start main.seat.space) c.in_ok-at.ensures.reserved in
    let before = grown_before_layouts c.requires.can c.addresses_fit.ensures.heap_counted c.need_of.result
    c.in_ok-at.ensures.room
    c.in_ok-at.ensures.at c.grown-capacity.ensures in
    omega (arith, before, space)

pub rehash-requires-clause-to : goal.rehash-requires-clause-to
rehash-requires-clause-to c =
    begun_within c.requires.can c.addresses_fit.ensures.heap_counted c.need_of.result c.in_ok-at.ensures.room
    c.in_ok-at.ensures.at c.grown-capacity.ensures c.in_ok-at.ensures.reserved
    c.begin_table.ensures.puts

pub rehash-requires-clause-from : goal.rehash-requires-clause-from
rehash-requires-clause-from c =
    let space = c.begin_table.ensures.puts.beside.space
    ∙ ap (λ (main : Mutator). main.seat.space) c.in_ok-at.ensures.reserved in
    subst (λ (s : Space). c.args.table.at + (store_head + 2 * c.args.table.capacity) ≤ marks_start s) (sym space)
    c.requires.can.within

pub rehash-requires-clause-more : goal.rehash-requires-clause-more
rehash-requires-clause-more c =
    grown_more c.requires.can c.addresses_fit.ensures.heap_counted c.need_of.result c.in_ok-at.ensures.room
    c.in_ok-at.ensures.at c.grown-capacity.ensures

pub rehash-requires-clause-apart : goal.rehash-requires-clause-apart
rehash-requires-clause-apart c =
    grown_apart c.requires.can c.addresses_fit.ensures.heap_counted c.need_of.result c.in_ok-at.ensures.room
    c.in_ok-at.ensures.at c.grown-capacity.ensures

pub rehash-requires-clause-keys : goal.rehash-requires-clause-keys
rehash-requires-clause-keys c =
    grown_keys c.requires.can c.addresses_fit.ensures.heap_counted c.need_of.result c.in_ok-at.ensures.room
    c.in_ok-at.ensures.at c.grown-capacity.ensures c.in_ok-at.ensures.reserved
    c.begin_table.ensures.puts

pub rehash-requires-clause-empty : goal.rehash-requires-clause-empty
rehash-requires-clause-empty c =
    grown_nothing c.requires.can c.addresses_fit.ensures.heap_counted c.need_of.result c.in_ok-at.ensures.room
    c.in_ok-at.ensures.at c.grown-capacity.ensures c.in_ok-at.ensures.reserved
    c.begin_table.ensures.puts

pub boxed_word-word-requires-clause-within : goal.boxed_word-word-requires-clause-within
boxed_word-word-requires-clause-within c v boxed =
    let two : c.need_of.result ≡ 2 = c.need_of.ensures ∙ ap content_need boxed in
    let space = c.rehash.ensures.changes.rest.space ∙ c.begin_table.ensures.puts.beside.space
    ∙ ap (λ (main : Mutator). main.seat.space) c.in_ok-at.ensures.reserved in
    let before = grown_before_layouts c.requires.can c.addresses_fit.ensures.heap_counted c.need_of.result
    c.in_ok-at.ensures.room
    c.in_ok-at.ensures.at c.grown-capacity.ensures in
    omega (arith, before, two, ap (λ (s : Space). layouts_start s) space)

pub insert_rehashed-requires-clause-within : goal.insert_rehashed-requires-clause-within
insert_rehashed-requires-clause-within c =
    let within = begun_within c.requires.can c.addresses_fit.ensures.heap_counted c.need_of.result
    c.in_ok-at.ensures.room
    c.in_ok-at.ensures.at c.grown-capacity.ensures c.in_ok-at.ensures.reserved
    c.begin_table.ensures.puts in
    subst (λ (s : Space). c.in_ok-at.at + (store_head + 2 * c.grown-capacity.result) ≤ marks_start s)
    (sym (c.boxed_word-word.ensures.made.beside.space ∙ c.rehash.ensures.changes.rest.space)) within

pub insert_rehashed-requires-clause-key : goal.insert_rehashed-requires-clause-key
insert_rehashed-requires-clause-key c =
    let space = c.boxed_word-word.ensures.made.beside.space ∙ c.rehash.ensures.changes.rest.space
    ∙ c.begin_table.ensures.puts.beside.space ∙ ap (λ (main : Mutator). main.seat.space) c.in_ok-at.ensures.reserved in
    subst (λ (s : Space). c.args.key < marks_start s) (sym space) c.requires.can.key_within

pub store-requires-clause-within : goal.store-requires-clause-within
store-requires-clause-within c =
    let space = c.insert_rehashed.ensures.words.beside.space
    ∙ c.boxed_word-word.ensures.made.beside.space ∙ c.rehash.ensures.changes.rest.space
    ∙ c.begin_table.ensures.puts.beside.space ∙ ap (λ (main : Mutator). main.seat.space) c.in_ok-at.ensures.reserved in
    subst (λ (s : Space). c.args.map + 1 < marks_start s) (sym space) (slot_before _ _ c.requires.can.map_within)

pub write_slot-requires-clause-within : goal.write_slot-requires-clause-within
write_slot-requires-clause-within c =
    let space = ap (λ (main : Mutator). main.seat.space) c.store.ensures.stored
    ∙ c.insert_rehashed.ensures.words.beside.space
    ∙ c.boxed_word-word.ensures.made.beside.space ∙ c.rehash.ensures.changes.rest.space
    ∙ c.begin_table.ensures.puts.beside.space ∙ ap (λ (main : Mutator). main.seat.space) c.in_ok-at.ensures.reserved in
    subst (λ (s : Space). c.args.map + 2 < marks_start s) (sym space) c.requires.can.map_within

pub insert_rehashed-requires-clause-free : goal.insert_rehashed-requires-clause-free
insert_rehashed-requires-clause-free c =
    boxed_free c.requires.can c.addresses_fit.ensures.heap_counted c.need_of.result c.in_ok-at.ensures.room
    c.in_ok-at.ensures.at c.grown-capacity.ensures c.in_ok-at.ensures.reserved
    c.begin_table.ensures.puts c.content_for-content.result
    c.rehash.ensures c.boxed_word-word.ensures.made

pub returns-clause-ok : goal.returns-clause-ok
returns-clause-ok c =
    let old : Mutator = c.args.main.now in
    let begun : Mutator = c.begin_table.new.main in
    let moved : Mutator = c.rehash.new.main in
    let boxed : Mutator = c.boxed_word-word.new.main in
    let inserted : Mutator = c.insert_rehashed.new.main in
    let linked : Mutator = c.store.new.self in
    let reached : RestStays old.seat inserted.seat =
    rest_stays_again old.seat boxed.seat inserted.seat
    (rest_stays_again old.seat moved.seat boxed.seat
    (rest_stays_again old.seat begun.seat moved.seat
    (rest_stays_again old.seat c.room_for.new.main.seat begun.seat
    (reserved_rest old _ c.in_ok-at.ensures.reserved) c.begin_table.ensures.puts.beside)
    c.rehash.ensures.changes.rest) c.boxed_word-word.ensures.made.beside) c.insert_rehashed.ensures.words.beside in
    let still : RestStays inserted.seat inserted.seat = rest_stays_itself inserted.seat in
    let marks = ap (λ (s : Space). marks_start s) reached.space in
    let named : RestStays inserted.seat linked.seat =
    put_rest (c.args.map + 1) _ still (ap (λ (main : Mutator). main.seat) c.store.ensures.stored)
    (omega (arith, c.requires.can.map_within, marks, ap (λ (s : Space). marks_start s) still.space)) in
    let counted = c.addresses_fit.ensures.heap_counted in
    let long : length (heap_words inserted.seat) ≡ marks_start inserted.seat.space =
    inserted_long c.requires.can counted c.need_of.result c.in_ok-at.ensures.room c.in_ok-at.ensures.at
    c.grown-capacity.ensures c.in_ok-at.ensures.reserved c.begin_table.ensures.puts c.content_for-content.result
    c.rehash.ensures c.boxed_word-word.ensures.made c.insert_rehashed.ensures ∙ counted ∙ sym marks in
    let stored = c.store.ensures.stored in
    let named_new = grown_named c.requires.can counted c.need_of.result c.in_ok-at.ensures.room c.in_ok-at.ensures.at
    c.grown-capacity.ensures c.addresses_fit.ensures.within in
    let slot : Touches inserted linked (touched_one Touch.Stored (c.args.map + 1)) =
    subst (λ (main : Mutator). Touches inserted main (touched_one Touch.Stored (c.args.map + 1))) (sym stored)
    (slot_touch inserted (c.args.map + 1) c.reference.result.0 long
    (omega (arith, c.requires.can.map_within, marks))) in
    record {
      room = search rules;
      begun = begun;
      begins = search rules;
      begin_touches = begun_touch c.requires.can counted c.need_of.result c.in_ok-at.ensures.room
          c.in_ok-at.ensures.at c.grown-capacity.ensures c.in_ok-at.ensures.reserved c.begin_table.ensures.puts
          c.begin_table.ensures.touches;
      moved = moved;
      moves = search rules;
      boxed = boxed;
      boxes = search rules;
      box_touches = search rules;
      inserted = inserted;
      inserts = search rules;
      words = record {
        beside = put_rest (c.args.map + 2) _ named (ap (λ (main : Mutator). main.seat) c.write_slot.ensures.written)
            (omega (arith, c.requires.can.map_within, marks, ap (λ (s : Space). marks_start s) named.space));
        paths = search rules;
        young = search rules;
        heap = search rules;
      };
      touches = then_wiped (c.args.map + 2) (c.args.count + 1) slot c.write_slot.ensures.written
          (omega (arith, c.requires.can.map_within, marks, ap (λ (s : Space). marks_start s) named.space));
      stores = count_stores_on _ c.requires.can.may (table_stores_on _ c.requires.can.may
          (subst (MayHold c.args.main.now) (sym c.reference.ensures) named_new)
          (inserted_on _ c.in_ok-at.ensures.reserved c.begin_table.ensures.stores c.rehash.ensures.changes.stores
          c.boxed_word-word.ensures.stores c.insert_rehashed.ensures.stores) stored)
          c.write_slot.ensures.written;
    }
