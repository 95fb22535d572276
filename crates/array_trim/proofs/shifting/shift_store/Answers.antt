-- The store that begins later ends where the old one ends, and its words are put one after another.
use Rattle.std.proofs.Common.{◌≡◌, ℕ, ◌+◌, ◌-◌, ◌<◌, ◌≤◌, ◌∙◌, ap, sym, subst, arith}
use Rattle.tagged_word.specs.Headers.{header_bits}
use Rattle.tagged_word.specs.Cells.{store_head}
use Rattle.page_space.specs.Extents.{eden_start, marks_start}
use Rattle.mark_world.specs.declared.event.Event.TheVariants as event
use Rattle.write_barrier.specs.Seats.{heap_words}
use Rattle.heap_model.specs.Remembered.{Touch}
use Rattle.heap_model.specs.Slots.{reference_word}
use Rattle.write_barrier.specs.Marking.{MayPut, with_blackened, with_published}
use Rattle.write_barrier.specs.MutatorState.{Mutator}
use Rattle.write_barrier.specs.Storing.{MayHold, StoresOn}
use Rattle.write_barrier.proofs.StoresOn.{may_hold_stays, stores_on_again}
use Rattle.write_barrier.specs.Recording.{Touches, touched}
use Rattle.write_barrier.proofs.Recording.{then_touch}
use Rattle.object_cells.specs.Formats.{store_header}
use Rattle.object_cells.specs.Made.{PutsWords}
use Rattle.object_cells.proofs.ListsInCycle.{count_may_put, link_may_put}
use Rattle.object_cells.proofs.ListCells.{list_beside, slot_within, count_within, store_has_room}
use Rattle.object_cells.proofs.TouchedWords.{rest_counted, then_stored, then_wiped}
use Rattle.object_cells.proofs.WipedRanges.{two_wiped}
use Rattle.object_cells.proofs.WordsPut.{puts_no_slot, puts_slot}
use Rattle.array_trim.specs.TrimWords.{shifted_words}
use Rattle.array_trim.proofs.CoveredWords.{puts_none, puts_then, covers_then, marks, touches_from}
use Rattle.array_trim.proofs.OwnStores.{store_named, head_within, list_beside_store, may_begin}
use Rattle.array_trim.proofs.TrimMoves.{blackened_trims, cell_may_begin, count_put_trims, free_put_on}
use Rattle.array_trim.proofs.TrimMoves.{link_put_trims, linked_surely, own_may_put, own_may_put_free}
use Rattle.array_trim.proofs.TrimMoves.{own_may_put_header, own_put_trims, published_may_hold, published_trims}
use Rattle.array_trim.proofs.ShiftSteps.{begins, published_at, headed_at, moved_at, may_link, linked_at}
use Rattle.array_trim.proofs.shifting.shift_store.Goals as goal

pub store_of-store-requires-clause-there : goal.store_of-store-requires-clause-there
store_of-store-requires-clause-there c = list_beside c.requires.ready.whole c.requires.ready.there

pub blacken-requires-clause-may_store : goal.blacken-requires-clause-may_store
blacken-requires-clause-may_store c =
    (begins c.store_of-store.result c.requires.ready c.store_of-store.ensures c.requires.may c.requires.some
    c.requires.few).black

pub publish-requires-clause-may_store : goal.publish-requires-clause-may_store
publish-requires-clause-may_store c =
    let store = c.store_of-store.result in
    let begin = begins store c.requires.ready c.store_of-store.ensures c.requires.may c.requires.some c.requires.few in
    let black = blackened_trims c.args.list store.at store.capacity begin c.blacken.ensures.blackened in
    let room = store_has_room store c.requires.ready c.store_of-store.ensures in
    cell_may_begin black (store.at + c.args.gone) (omega arith) (omega (arith, room, c.requires.few))

pub set_header-requires-clause-may_store : goal.set_header-requires-clause-may_store
set_header-requires-clause-may_store c =
    let store = c.store_of-store.result in
    let room = store_has_room store c.requires.ready c.store_of-store.ensures in
    own_may_put_header (published_at store c.requires.ready c.store_of-store.ensures c.requires.may c.requires.some
    c.requires.few c.blacken.ensures.blackened c.publish.ensures.published) (store.at + c.args.gone) _ (omega arith)
    (omega (arith, room, c.requires.few))

pub write_slot-requires-clause-may_store : goal.write_slot-requires-clause-may_store
write_slot-requires-clause-may_store c =
    let store = c.store_of-store.result in
    let room = store_has_room store c.requires.ready c.store_of-store.ensures in
    own_may_put (headed_at store c.requires.ready c.store_of-store.ensures c.requires.may c.requires.some
    c.requires.few c.blacken.ensures.blackened c.publish.ensures.published c.set_header.ensures.written)
    (store.at + c.args.gone + 1) _ (omega arith) (omega (arith, room, c.requires.few))

pub overflow_add-start : goal.overflow_add-start
overflow_add-start c =
    omega (
      arith,
      head_within c.store_of-store.result c.args.gone c.requires.ready c.store_of-store.ensures c.requires.few,
      c.addresses_fit.ensures.fit,
    )

pub publish-requires-clause-within : goal.publish-requires-clause-within
publish-requires-clause-within c =
    omega (
      arith,
      head_within c.store_of-store.result c.args.gone c.requires.ready c.store_of-store.ensures c.requires.few,
      ap marks c.blacken.ensures.blackened,
    )

pub set_header-requires-clause-within : goal.set_header-requires-clause-within
set_header-requires-clause-within c =
    omega (
      arith,
      head_within c.store_of-store.result c.args.gone c.requires.ready c.store_of-store.ensures c.requires.few,
      ap marks c.publish.ensures.published,
      ap marks c.blacken.ensures.blackened,
    )

pub overflow_sub-store : goal.overflow_sub-store
overflow_sub-store c =
    omega (arith, store_has_room c.store_of-store.result c.requires.ready c.store_of-store.ensures, c.requires.few)

pub write_slot-requires-clause-within : goal.write_slot-requires-clause-within
write_slot-requires-clause-within c =
    omega (
      arith,
      head_within c.store_of-store.result c.args.gone c.requires.ready c.store_of-store.ensures c.requires.few,
      ap marks c.publish.ensures.published,
      ap marks c.blacken.ensures.blackened,
      ap marks c.set_header.ensures.written,
    )

pub store-requires-clause-may_store : goal.store-requires-clause-may_store
store-requires-clause-may_store c =
    let store = c.store_of-store.result in
    let ready = c.requires.ready in
    let is = c.store_of-store.ensures in
    let trims = moved_at store _ ready is c.requires.may c.requires.some c.requires.few c.blacken.ensures.blackened
    c.publish.ensures.published c.set_header.ensures.written c.write_slot.ensures.written in
    let within = head_within store c.args.gone ready is c.requires.few in
    link_may_put c.args.list _ trims.of_list
    (subst (MayHold c.write_slot.new.self) (sym c.reference.ensures)
    (may_link store _ ready is c.requires.may c.requires.some c.requires.few c.blacken.ensures.blackened
    c.publish.ensures.published c.set_header.ensures.written c.write_slot.ensures.written
    (omega (arith, within, c.addresses_fit.ensures.fit))))

pub store-requires-clause-within : goal.store-requires-clause-within
store-requires-clause-within c =
    omega (
      arith,
      slot_within c.requires.ready.whole c.requires.ready.there,
      ap marks c.publish.ensures.published,
      ap marks c.blacken.ensures.blackened,
      ap marks c.set_header.ensures.written,
      ap marks c.write_slot.ensures.written,
    )

pub write_slot-requires-2-clause-within : goal.write_slot-requires-2-clause-within
write_slot-requires-2-clause-within c =
    omega (
      arith,
      count_within c.requires.ready.whole c.requires.ready.there,
      ap marks c.publish.ensures.published,
      ap marks c.blacken.ensures.blackened,
      ap marks c.set_header.ensures.written,
      ap marks c.write_slot.ensures.written,
      ap marks c.store.ensures.stored,
    )

pub write_slot-requires-2-clause-may_store : goal.write_slot-requires-2-clause-may_store
write_slot-requires-2-clause-may_store c =
    let store = c.store_of-store.result in
    let ready = c.requires.ready in
    let is = c.store_of-store.ensures in
    let within = head_within store c.args.gone ready is c.requires.few in
    let named = rw c.reference.ensures at c.store.ensures.stored in
    count_may_put c.args.list _
    (linked_at store _ ready is c.requires.may c.requires.some c.requires.few c.blacken.ensures.blackened
    c.publish.ensures.published c.set_header.ensures.written c.write_slot.ensures.written
    (omega (arith, within, c.addresses_fit.ensures.fit)) named).of_list

pub put_free_cell-requires-clause-may_store : goal.put_free_cell-requires-clause-may_store
put_free_cell-requires-clause-may_store c =
    let store = c.store_of-store.result in
    let ready = c.requires.ready in
    let is = c.store_of-store.ensures in
    let within = head_within store c.args.gone ready is c.requires.few in
    let named = rw c.reference.ensures at c.store.ensures.stored in
    let trims = linked_at store _ ready is c.requires.may c.requires.some c.requires.few c.blacken.ensures.blackened
    c.publish.ensures.published c.set_header.ensures.written c.write_slot.ensures.written
    (omega (arith, within, c.addresses_fit.ensures.fit)) named in
    own_may_put_free (count_put_trims trims _ c.write_slot-2.ensures.written) store.at c.args.gone (omega arith)
    (omega (arith, store_has_room store ready is, c.requires.few))

pub put_free_cell-requires-clause-within : goal.put_free_cell-requires-clause-within
put_free_cell-requires-clause-within c =
    omega (
      arith,
      head_within c.store_of-store.result c.args.gone c.requires.ready c.store_of-store.ensures c.requires.few,
      ap marks c.publish.ensures.published,
      ap marks c.blacken.ensures.blackened,
      ap marks c.set_header.ensures.written,
      ap marks c.write_slot.ensures.written,
      ap marks c.store.ensures.stored,
      ap marks c.write_slot-2.ensures.written,
    )

pub returns : goal.returns
returns c =
    let old = c.args.main.now in
    let store = c.store_of-store.result in
    let start : ℕ = store.at + c.args.gone in
    let ready = c.requires.ready in
    let is = c.store_of-store.ensures in
    let first : Mutator = c.blacken.new.self in
    let begun : Mutator = c.publish.new.self in
    let linking : Mutator = c.write_slot.new.self in
    let put : Mutator = c.store.new.self in
    let last : Mutator = c.put_free_cell.new.self in
    let room = store_has_room store ready is in
    let some : 0 < store.capacity = omega (arith, room, c.requires.some, c.requires.few) in
    let within = head_within store c.args.gone ready is c.requires.few in
    let slot_before = slot_within ready.whole ready.there in
    let count_before = count_within ready.whole ready.there in
    let same_seat : begun.seat ≡ old.seat =
    ap (λ (main : Mutator). main.seat) c.publish.ensures.published
    ∙ ap (λ (main : Mutator). main.seat) c.blacken.ensures.blackened in
    let none : PutsWords old begun (heap_words old.seat) = puts_none same_seat
    (ap (λ (main : Mutator). main.paths) c.publish.ensures.published
    ∙ ap (λ (main : Mutator). main.paths) c.blacken.ensures.blackened)
    (ap (λ (main : Mutator). main.young) c.publish.ensures.published
    ∙ ap (λ (main : Mutator). main.young) c.blacken.ensures.blackened) in
    let named = rw c.reference.ensures at c.store.ensures.stored in
    let headed = puts_then start (header_bits store_header) none (puts_no_slot c.set_header.ensures.written)
    (omega (arith, within)) in
    let moved = puts_then (start + 1) _ headed (puts_no_slot c.write_slot.ensures.written) (omega (arith, within)) in
    let linked = puts_then (c.args.list + 1) (reference_word start) moved (puts_slot named)
    (omega (arith, slot_before)) in
    let counted = puts_then (c.args.list + 2) _ linked (puts_no_slot c.write_slot-2.ensures.written)
    (omega (arith, count_before)) in
    let all : PutsWords old last (shifted_words (heap_words old.seat) c.args.list store.at store.capacity c.args.count
    c.args.gone) = covers_then store.at c.args.gone counted (record {
      beside = c.put_free_cell.ensures.beside;
      paths = c.put_free_cell.ensures.paths;
      young = c.put_free_cell.ensures.young;
      heap = c.put_free_cell.ensures.heap;
    }) in
    let head : Touches old linking (touched Touch.Wiped start (start + store_head)) =
    touches_from same_seat
    (ap (λ (main : Mutator). main.recorded) c.publish.ensures.published
    ∙ ap (λ (main : Mutator). main.recorded) c.blacken.ensures.blackened)
    (ap (λ (main : Mutator). main.free) c.publish.ensures.published
    ∙ ap (λ (main : Mutator). main.free) c.blacken.ensures.blackened)
    (two_wiped start (header_bits store_header) (store.capacity - c.args.gone) c.set_header.ensures.written
    c.write_slot.ensures.written (omega (arith, within, ap marks_start none.beside.space))) in
    let stored = then_stored (c.args.list + 1) (reference_word start) head named
    (rest_counted moved.beside c.addresses_fit.ensures.heap_counted)
    (omega (arith, slot_before, ap marks_start moved.beside.space)) in
    let wiped = then_wiped (c.args.list + 2) _ stored c.write_slot-2.ensures.written
    (omega (arith, count_before, ap marks_start linked.beside.space)) in
    let from : store.at ≤ start = omega arith in
    let below : start + 1 < store.at + (store_head + store.capacity) = omega (arith, room, c.requires.few) in
    let begin = may_begin store ready is some c.requires.may in
    let black = blackened_trims c.args.list store.at store.capacity begin c.blacken.ensures.blackened in
    let published = published_trims black start from (omega (arith, below)) c.publish.ensures.published in
    let header_put = own_put_trims published start (header_bits store_header) from (omega (arith, below))
    c.set_header.ensures.written in
    let length_put = own_put_trims header_put (start + 1) _ (omega arith) below c.write_slot.ensures.written in
    let holds = may_hold_stays length_put.stores (published_may_hold black start from
    (omega (arith, within, c.addresses_fit.ensures.fit))) in
    let link_put = link_put_trims length_put (reference_word start) holds named in
    let count_put = count_put_trims link_put (c.args.count - c.args.gone) c.write_slot-2.ensures.written in
    let free_on = free_put_on count_put store.at c.args.gone (omega arith) (omega (arith, room, c.requires.few))
    c.put_free_cell.ensures.beside c.put_free_cell.ensures.paths c.put_free_cell.ensures.cycle
    c.put_free_cell.ensures.touches.bound c.put_free_cell.ensures.heap in
    let done : StoresOn (with_published first start) last = stores_on_again count_put.stores free_on in
    let first_is : first ≡ with_blackened old store.at = c.blacken.ensures.blackened in
    record {
      store = store.at;
      has = store_named store ready is some;
      puts = subst
          (λ capacity. PutsWords old last
          (shifted_words (heap_words old.seat) c.args.list store.at capacity c.args.count c.args.gone))
          (sym is.capacity) all;
      touches = then_touch wiped c.put_free_cell.ensures.touches;
      marks = record {
        may_black = begin.black;
        may_begin = subst (λ (main : Mutator). MayPut main start (event.NewBlack start)) first_is
            (cell_may_begin black start from (omega (arith, below)));
        after = subst (λ (main : Mutator). StoresOn (with_published main start) last) first_is done;
        linked = λ mark page. linked_surely linking put c.write_slot-2.new.self last (reference_word start)
            (c.args.count - c.args.gone) c.args.gone
            (rest_counted moved.beside c.addresses_fit.ensures.heap_counted)
            (omega (arith, slot_before, ap marks_start moved.beside.space)) named link_put
            c.write_slot-2.ensures.written (omega (arith, count_before, ap marks_start linked.beside.space)) free_on
            c.put_free_cell.ensures.touches
            (λ behind inside. list_beside_store store (c.args.list + 1) ready is some (omega arith) (omega arith) behind
            (omega (arith, inside, room, c.requires.few))) mark page
            ((then_touch wiped c.put_free_cell.ensures.touches).bound ∙ c.addresses_fit.ensures.bounded
            ∙ sym (ap eden_start all.beside.space));
      };
    }
