-- One slot more has moved.
use Rattle.std.proofs.Common.{◌≡◌, ◌+◌, inr, slice_get, sym, ◌∙◌, ap, subst, arith, true}
use Rattle.tagged_word.specs.Cells.{plain_head}
use Rattle.page_space.specs.Extents.{layouts_start}
use Rattle.shape_tree.specs.Shapes.{shape_path}
use Rattle.write_barrier.specs.Seats.{heap_words}
use Rattle.write_barrier.proofs.StoresOn.{may_hold_stays, stores_on_again, stores_on_itself}
use Rattle.shape_change.specs.Shifts.{MayRefill, field_touch}
use Rattle.shape_change.proofs.MayMove.{refill_stays}
use Rattle.shape_change.proofs.SlotTouches.{own_put, own_surely, own_touch_at}
use Rattle.shape_change.proofs.WordsMoved.{moved_more, none_moved}
use Rattle.shape_change.proofs.shift_slots.move_own.Goals as goal

pub loop-slot-init : goal.loop-slot-init
loop-slot-init c = record {
  stores = stores_on_itself c.args.main.now;
  moves = none_moved c.args.main.now (c.args.object + (plain_head + c.args.from)) _;
}

pub put_own-requires-clause-may : goal.put_own-requires-clause-may
put_own-requires-clause-may c =
    let mid = c.loop-slot.main in
    subst (λ paths. MayRefill mid c.args.object (shape_path paths c.args.shape).cap)
    (sym c.loop-slot.invariant.moves.rest.paths) (refill_stays c.loop-slot.invariant.stores c.requires.may)

pub put_own-requires-clause-held : goal.put_own-requires-clause-held
put_own-requires-clause-held c stored =
    let at = c.args.object + (plain_head + c.loop-slot.slot) in
    let next : c.args.object + (plain_head + (c.loop-slot.slot + 1)) ≡ at + 1 = omega arith in
    let stands = ap (slice_get (heap_words c.args.main.now.seat)) (sym next)
    ∙ sym (c.loop-slot.invariant.moves.beside (c.args.object + (plain_head + (c.loop-slot.slot + 1)))
    (inr (omega arith)))
    ∙ c.slot-word.ensures.of_heap in
    may_hold_stays c.loop-slot.invariant.stores (c.requires.held.holds at c.slot-word.result (omega arith) (omega arith)
    (own_touch_at (shape_path c.args.main.now.paths c.args.shape) c.args.object c.loop-slot.slot
    ∙ ap (λ paths. field_touch true (slice_get (shape_path paths c.args.shape).fields c.loop-slot.slot))
    (sym c.loop-slot.invariant.moves.rest.paths) ∙ stored) stands)

pub put_own-requires-clause-own : goal.put_own-requires-clause-own
put_own-requires-clause-own c =
    omega (
      arith,
      c.requires.own,
      ap (λ paths. (shape_path paths c.args.shape).cap) c.loop-slot.invariant.moves.rest.paths,
    )

pub put_own-requires-clause-laid : goal.put_own-requires-clause-laid
put_own-requires-clause-laid c =
    omega (arith, c.requires.laid, ap layouts_start c.loop-slot.invariant.moves.rest.beside.space)

pub loop-slot-preserved : goal.loop-slot-preserved
loop-slot-preserved c =
    let moves = c.loop-slot.invariant.moves in
    record {
      stores = stores_on_again c.loop-slot.invariant.stores c.put_own.ensures.stores;
      moves = moved_more c.slot-word.result moves c.put_own.ensures.rest c.put_own.ensures.heap
          (own_put c.args.shape c.args.object c.loop-slot.slot moves.rest.paths c.put_own.ensures.touches)
          c.put_own.ensures.stores
          (own_surely c.args.shape c.args.object c.loop-slot.slot moves.rest.paths c.put_own.ensures.surely)
          (omega arith) (omega (arith, c.requires.within, c.addresses_fit.ensures.heap_counted))
          c.slot-word.ensures.of_heap (omega arith);
    }
