-- The words behind the slots that stay are of the store, and all words are put one after another.
use Rattle.std.proofs.Common.{◌≡◌, ℕ, ◌+◌, ◌-◌, ◌<◌, ap, sym, subst, arith}
use Rattle.tagged_word.specs.Cells.{length_offset}
use Rattle.page_space.specs.Extents.{marks_start}
use Rattle.write_barrier.specs.Seats.{heap_words}
use Rattle.heap_model.specs.Remembered.{Touch}
use Rattle.write_barrier.specs.Marking.{with_blackened}
use Rattle.write_barrier.specs.MutatorState.{Mutator, heap_of, with_word}
use Rattle.write_barrier.proofs.StoresOn.{stores_on_again}
use Rattle.write_barrier.specs.Recording.{Touches, touched, touched_one}
use Rattle.write_barrier.proofs.Recording.{then_touch, word_touch}
use Rattle.object_cells.specs.ListObjects.{IsListReady}
use Rattle.object_cells.specs.Made.{IsStoreAt, PutsWords}
use Rattle.object_cells.specs.declared.stores.Store.{Store}
use Rattle.object_cells.proofs.ListsInCycle.{count_may_put}
use Rattle.object_cells.proofs.ListCells.{list_beside, count_within, store_has_room}
use Rattle.write_barrier.specs.FreeCells.{with_free_cell}
use Rattle.object_cells.proofs.TouchedWords.{then_wiped}
use Rattle.object_cells.proofs.WordsPut.{puts_no_slot}
use Rattle.array_trim.specs.TrimSteps.{MayTrim}
use Rattle.array_trim.specs.TrimWords.{truncated_touch, truncated_words}
use Rattle.array_trim.proofs.CoveredWords.{puts_none, puts_then, covers_then, marks, touches_from}
use Rattle.array_trim.proofs.OwnStores.{store_named, length_within, may_begin}
use Rattle.array_trim.proofs.TrimMoves.{MayBegin, Trims, blackened_trims, count_put_trims, free_put_on}
use Rattle.array_trim.proofs.TrimMoves.{own_may_put, own_may_put_free, own_put_trims}
use Rattle.array_trim.proofs.truncating.truncate_store.Goals as goal

-- what the first step may do
abbrev begins : {main : Mutator} {list count kept : ℕ} (store : Store) → IsListReady main list count
    → IsStoreAt (heap_of main) list store → MayTrim main list → kept < count
    → MayBegin main list store.at store.capacity
begins store ready is may fewer = may_begin store ready is (omega (arith, store_has_room store ready is, fewer)) may

-- the trim once the store is black
abbrev black_at : {old black : Mutator} {list count kept : ℕ} (store : Store) → IsListReady old list count
    → IsStoreAt (heap_of old) list store → MayTrim old list → kept < count → black ≡ with_blackened old store.at
    → Trims (with_blackened old store.at) black list store.at store.capacity
black_at {list = list} store ready is may fewer blackens =
    blackened_trims list store.at store.capacity (begins store ready is may fewer) blackens

-- once its length is put
abbrev shrunk_at : {old black shrunk : Mutator} {list count kept : ℕ} (store : Store) → IsListReady old list count
    → IsStoreAt (heap_of old) list store → MayTrim old list → kept < count → black ≡ with_blackened old store.at
    → shrunk ≡ with_word black (store.at + 1) kept
    → Trims (with_blackened old store.at) shrunk list store.at store.capacity
shrunk_at {kept = kept} store ready is may fewer blackens puts =
    own_put_trims (black_at store ready is may fewer blackens) (store.at + 1) kept (omega arith) (omega arith) puts

pub blacken-requires-clause-may_store : goal.blacken-requires-clause-may_store
blacken-requires-clause-may_store c =
    (begins c.store_of-store.result c.requires.ready c.store_of-store.ensures c.requires.may c.requires.fewer).black

pub write_slot-requires-clause-may_store : goal.write_slot-requires-clause-may_store
write_slot-requires-clause-may_store c =
    own_may_put (black_at c.store_of-store.result c.requires.ready c.store_of-store.ensures c.requires.may
    c.requires.fewer c.blacken.ensures.blackened) (c.store_of-store.result.at + 1) _ (omega arith) (omega arith)

pub write_slot-requires-2-clause-may_store : goal.write_slot-requires-2-clause-may_store
write_slot-requires-2-clause-may_store c =
    count_may_put c.args.list _
    (shrunk_at c.store_of-store.result c.requires.ready c.store_of-store.ensures c.requires.may c.requires.fewer
    c.blacken.ensures.blackened c.write_slot.ensures.written).of_list

pub put_free_cell-requires-clause-may_store : goal.put_free_cell-requires-clause-may_store
put_free_cell-requires-clause-may_store c =
    let store = c.store_of-store.result in
    let room = store_has_room store c.requires.ready c.store_of-store.ensures in
    let trims = shrunk_at store c.requires.ready c.store_of-store.ensures c.requires.may c.requires.fewer
    c.blacken.ensures.blackened c.write_slot.ensures.written in
    own_may_put_free (count_put_trims trims _ c.write_slot-2.ensures.written) (store.at + 2 + c.args.kept)
    (store.capacity - c.args.kept) (omega arith) (omega (arith, room, c.requires.fewer))

pub store_of-store-requires-clause-there : goal.store_of-store-requires-clause-there
store_of-store-requires-clause-there c = list_beside c.requires.ready.whole c.requires.ready.there

pub write_slot-requires-2-clause-within : goal.write_slot-requires-2-clause-within
write_slot-requires-2-clause-within c =
    omega (
      arith,
      count_within c.requires.ready.whole c.requires.ready.there,
      ap marks c.blacken.ensures.blackened,
      ap marks c.write_slot.ensures.written,
    )

pub overflow_add-store-2 : goal.overflow_add-store-2
overflow_add-store-2 c =
    let room = store_has_room c.store_of-store.result c.requires.ready c.store_of-store.ensures in
    omega (arith, room, c.requires.fewer, c.store_of-store.ensures.within, c.addresses_fit.ensures.fit)

pub overflow_sub-store : goal.overflow_sub-store
overflow_sub-store c =
    omega (arith, store_has_room c.store_of-store.result c.requires.ready c.store_of-store.ensures, c.requires.fewer)

pub put_free_cell-requires-clause-within : goal.put_free_cell-requires-clause-within
put_free_cell-requires-clause-within c =
    omega (
      arith,
      store_has_room c.store_of-store.result c.requires.ready c.store_of-store.ensures,
      c.requires.fewer,
      c.store_of-store.ensures.within,
      ap marks c.blacken.ensures.blackened,
      ap marks c.write_slot.ensures.written,
      ap marks c.write_slot-2.ensures.written,
    )

pub returns : goal.returns
returns c =
    let old = c.args.main.now in
    let new = c.put_free_cell.new.self in
    let store = c.store_of-store.result in
    let free : ℕ = store.capacity - c.args.kept in
    let count_before = count_within c.requires.ready.whole c.requires.ready.there in
    let length_before = length_within store c.requires.ready c.store_of-store.ensures in
    let black : Mutator = c.blacken.new.self in
    let same_seat : black.seat ≡ old.seat = ap (λ (main : Mutator). main.seat) c.blacken.ensures.blackened in
    let none : PutsWords old black (heap_words old.seat) = puts_none same_seat
    (ap (λ (main : Mutator). main.paths) c.blacken.ensures.blackened)
    (ap (λ (main : Mutator). main.young) c.blacken.ensures.blackened) in
    let shrunk = puts_then (store.at + 1) c.args.kept none (puts_no_slot c.write_slot.ensures.written)
    length_before in
    let counted = puts_then (c.args.list + 2) c.args.kept shrunk (puts_no_slot c.write_slot-2.ensures.written)
    (omega (arith, count_before)) in
    let some : 0 < store.capacity =
    omega (arith, store_has_room store c.requires.ready c.store_of-store.ensures, c.requires.fewer) in
    let at : ℕ = store.at + (2 + c.args.kept) in
    let same : store.at + 2 + c.args.kept ≡ at = omega arith in
    let all = covers_then at free counted
    (subst (λ n. PutsWords c.write_slot-2.new.self new
    (with_free_cell (heap_words c.write_slot-2.new.self.seat) n free)) same (record {
      beside = c.put_free_cell.ensures.beside;
      paths = c.put_free_cell.ensures.paths;
      young = c.put_free_cell.ensures.young;
      heap = c.put_free_cell.ensures.heap;
    })) in
    let long : Touches old c.write_slot.new.self (touched_one Touch.Wiped (store.at + length_offset)) =
    touches_from same_seat (ap (λ (main : Mutator). main.recorded) c.blacken.ensures.blackened)
    (ap (λ (main : Mutator). main.free) c.blacken.ensures.blackened)
    (subst (λ (main : Mutator). Touches black main (touched_one Touch.Wiped (store.at + length_offset)))
    (sym c.write_slot.ensures.written)
    (word_touch black (store.at + 1) c.args.kept (omega (arith, length_before, ap marks_start none.beside.space)))) in
    let wiped = then_wiped (c.args.list + 2) c.args.kept long c.write_slot-2.ensures.written
    (omega (arith, count_before, ap marks_start shrunk.beside.space)) in
    let given_up = then_touch wiped
    (subst (λ n. Touches c.write_slot-2.new.self new (touched Touch.Wiped n (n + free))) same
    c.put_free_cell.ensures.touches) in
    let capacity = sym c.store_of-store.ensures.capacity in
    let room = store_has_room store c.requires.ready c.store_of-store.ensures in
    let begin = begins store c.requires.ready c.store_of-store.ensures c.requires.may c.requires.fewer in
    let trims = shrunk_at store c.requires.ready c.store_of-store.ensures c.requires.may c.requires.fewer
    c.blacken.ensures.blackened c.write_slot.ensures.written in
    let count_put = count_put_trims trims c.args.kept c.write_slot-2.ensures.written in
    let free_on = free_put_on count_put (store.at + 2 + c.args.kept) free (omega arith)
    (omega (arith, room, c.requires.fewer)) c.put_free_cell.ensures.beside c.put_free_cell.ensures.paths
    c.put_free_cell.ensures.cycle c.put_free_cell.ensures.touches.bound c.put_free_cell.ensures.heap in
    record {
      store = store.at;
      has = store_named store c.requires.ready c.store_of-store.ensures some;
      puts = subst
          (λ slots. PutsWords old new
          (truncated_words (heap_words old.seat) c.args.list store.at slots c.args.kept)) capacity all;
      touches = subst (λ slots. Touches old new (truncated_touch c.args.list store.at slots c.args.kept)) capacity
          given_up;
      marks = record { may_black = begin.black; after = stores_on_again count_put.stores free_on };
    }
