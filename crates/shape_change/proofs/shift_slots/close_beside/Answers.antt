-- The hole closes the gap.
use Rattle.std.proofs.Common.{◌≡◌, ◌+◌, ◌<◌, ap, subst, arith, rules}
use Rattle.tagged_word.specs.Cells.{store_head}
use Rattle.page_space.specs.Extents.{layouts_start, marks_start}
use Rattle.write_barrier.proofs.StoresOn.{stores_on_again}
use Rattle.shape_change.proofs.MayMove.{beside_slot_may, beside_slot_on, odd_hole_may, slot_put_surely, store_fewer}
use Rattle.shape_change.proofs.MayMove.{store_stays}
use Rattle.heap_model.specs.Slots.{hole_word}
use Rattle.shape_change.specs.Shifts.{ClosesGap, beside_touch}
use Rattle.shape_change.proofs.SlotTouches.{slot_put}
use Rattle.shape_change.proofs.WordsMoved.{gap_closed, rest_slot}
use Rattle.shape_change.proofs.shift_slots.close_beside.Goals as goal

pub move_beside-requires-clause-may : goal.move_beside-requires-clause-may
move_beside-requires-clause-may c = store_fewer (omega arith) c.requires.may

pub store-requires-clause-may_store : goal.store-requires-clause-may_store
store-requires-clause-may_store c =
    beside_slot_may c.args.last c.odd.result.0 (store_stays c.move_beside.ensures.stores c.requires.may) (omega arith)
    (odd_hole_may c.move_beside.new.main c.odd.result (search rules))

pub returns-clause-stores : goal.returns-clause-stores
returns-clause-stores c =
    stores_on_again c.move_beside.ensures.stores
    (beside_slot_on c.args.last c.odd.result.0 c.store.ensures.stored
    (store_stays c.move_beside.ensures.stores c.requires.may) (omega arith)
    (odd_hole_may c.move_beside.new.main c.odd.result (search rules))
    (omega (arith, c.requires.laid, ap layouts_start c.move_beside.ensures.moves.rest.beside.space)))

pub returns-clause-closes : goal.returns-clause-closes
returns-clause-closes c =
    let moved = c.move_beside.ensures.moves in
    let mid = c.move_beside.new.main in
    let at = c.args.store + (store_head + c.args.last) in
    let space = ap marks_start moved.rest.beside.space in
    let counted = c.addresses_fit.ensures.heap_counted in
    let before : at < marks_start mid.seat.space = omega (arith, c.requires.within, space) in
    let hole : c.odd.result.0 ≡ hole_word = search rules in
    subst (λ word. ClosesGap c.args.main.now c.store.new.self (c.args.store + (store_head + c.args.from)) at word
    beside_touch) hole
    (gap_closed c.odd.result.0 moved (rest_slot at c.odd.result.0 c.store.ensures.stored before) c.store.ensures.heap
    (slot_put at c.odd.result.0 c.store.ensures.stored counted before)
    (beside_slot_on c.args.last c.odd.result.0 c.store.ensures.stored
    (store_stays c.move_beside.ensures.stores c.requires.may) (omega arith)
    (odd_hole_may mid c.odd.result (search rules))
    (omega (arith, c.requires.laid, ap layouts_start moved.rest.beside.space)))
    (slot_put_surely mid at c.odd.result.0 c.store.ensures.stored counted
    (omega (arith, c.requires.laid, ap layouts_start moved.rest.beside.space))) (omega (arith, c.requires.order))
    (omega (arith, c.requires.within, counted, moved.rest.count, space)))
