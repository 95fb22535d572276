-- One slot more has moved.
use Rattle.std.proofs.Common.{◌≡◌, ◌+◌, ◌<◌, ◌∙◌, sym, ap, arith, length}
use Rattle.tagged_word.specs.Cells.{store_head}
use Rattle.page_space.specs.Extents.{layouts_start, marks_start}
use Rattle.write_barrier.specs.Seats.{heap_words}
use Rattle.write_barrier.proofs.StoresOn.{stores_on_again, stores_on_itself}
use Rattle.shape_change.specs.Shifts.{beside_touch}
use Rattle.shape_change.proofs.MayMove.{beside_slot_may, beside_slot_on, slot_put_surely, store_stays, word_holds}
use Rattle.shape_change.proofs.SlotTouches.{slot_put}
use Rattle.shape_change.proofs.WordsMoved.{moved_more, none_moved, rest_slot}
use Rattle.shape_change.proofs.shift_slots.move_beside.Goals as goal

pub loop-slot-init : goal.loop-slot-init
loop-slot-init c = record {
  stores = stores_on_itself c.args.main.now;
  moves = none_moved c.args.main.now (c.args.store + (store_head + c.args.from)) beside_touch;
}

pub store-requires-clause-may_store : goal.store-requires-clause-may_store
store-requires-clause-may_store c =
    beside_slot_may c.loop-slot.slot c.slot-word.result (store_stays c.loop-slot.invariant.stores c.requires.may)
    (omega arith) (word_holds c.args.store c.args.from c.args.to c.loop-slot.slot c.slot-word.result c.requires.held
    c.loop-slot.invariant.stores
    c.loop-slot.invariant.moves.beside (omega arith) (omega arith) c.slot-word.ensures.of_heap)

pub loop-slot-preserved : goal.loop-slot-preserved
loop-slot-preserved c =
    let mid = c.loop-slot.main in
    let moves = c.loop-slot.invariant.moves in
    let at = c.args.store + (store_head + c.loop-slot.slot) in
    let rest = moves.rest in
    let space = ap marks_start rest.beside.space in
    let layouts = ap layouts_start rest.beside.space in
    let counted : length (heap_words mid.seat) ≡ marks_start mid.seat.space =
    rest.count ∙ c.addresses_fit.ensures.heap_counted ∙ sym space in
    let before : at < layouts_start mid.seat.space = omega (arith, c.requires.laid, layouts) in
    let marks : at < marks_start mid.seat.space = omega (arith, c.requires.within, space) in
    let stores = beside_slot_on c.loop-slot.slot c.slot-word.result c.store.ensures.stored
    (store_stays c.loop-slot.invariant.stores c.requires.may) (omega arith)
    (word_holds c.args.store c.args.from c.args.to c.loop-slot.slot c.slot-word.result c.requires.held
    c.loop-slot.invariant.stores
    c.loop-slot.invariant.moves.beside (omega arith) (omega arith) c.slot-word.ensures.of_heap) before in
    record {
      stores = stores_on_again c.loop-slot.invariant.stores stores;
      moves = moved_more c.slot-word.result moves (rest_slot at c.slot-word.result c.store.ensures.stored marks)
          c.store.ensures.heap (slot_put at c.slot-word.result c.store.ensures.stored counted marks) stores
          (slot_put_surely mid at c.slot-word.result c.store.ensures.stored counted before) (omega arith)
          (omega (arith, c.requires.within, c.addresses_fit.ensures.heap_counted)) c.slot-word.ensures.of_heap
          (omega arith);
    }
