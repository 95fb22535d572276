-- The word that comes into the object closes the gap.
use Rattle.std.proofs.Common.{ap, arith, sym, ◌∙◌, subst, slice_get, true}
use Rattle.page_space.specs.Extents.{layouts_start, marks_start}
use Rattle.shape_tree.specs.Shapes.{shape_path}
use Rattle.write_barrier.proofs.StoresOn.{may_hold_stays, stores_on_again}
use Rattle.shape_change.specs.Shifts.{MayRefill, field_touch}
use Rattle.shape_change.proofs.MayMove.{refill_stays}
use Rattle.shape_change.proofs.SlotTouches.{own_put, own_surely}
use Rattle.shape_change.proofs.WordsMoved.{gap_closed}
use Rattle.shape_change.proofs.shift_slots.draw_in.Goals as goal

pub put_own-requires-clause-may : goal.put_own-requires-clause-may
put_own-requires-clause-may c =
    subst (λ paths. MayRefill c.move_own.new.main c.args.object (shape_path paths c.args.shape).cap)
    (sym c.move_own.ensures.moves.rest.paths) (refill_stays c.move_own.ensures.stores c.requires.may)

pub put_own-requires-clause-held : goal.put_own-requires-clause-held
put_own-requires-clause-held c stored =
    may_hold_stays c.move_own.ensures.stores
    (c.requires.drawn (ap (λ paths. field_touch true (slice_get (shape_path paths c.args.shape).fields c.args.last))
    (sym c.move_own.ensures.moves.rest.paths) ∙ stored))

pub put_own-requires-clause-own : goal.put_own-requires-clause-own
put_own-requires-clause-own c =
    omega (
      arith,
      c.requires.own,
      ap (λ paths. (shape_path paths c.args.shape).cap) c.move_own.ensures.moves.rest.paths,
    )

pub put_own-requires-clause-laid : goal.put_own-requires-clause-laid
put_own-requires-clause-laid c =
    omega (arith, c.requires.laid, ap layouts_start c.move_own.ensures.moves.rest.beside.space)

pub returns-clause-stores : goal.returns-clause-stores
returns-clause-stores c = stores_on_again c.move_own.ensures.stores c.put_own.ensures.stores

pub returns-clause-closes : goal.returns-clause-closes
returns-clause-closes c =
    let moved = c.move_own.ensures.moves in
    let space = ap marks_start moved.rest.beside.space in
    gap_closed c.args.word moved c.put_own.ensures.rest c.put_own.ensures.heap
    (own_put c.args.shape c.args.object c.args.last moved.rest.paths c.put_own.ensures.touches)
    c.put_own.ensures.stores
    (own_surely c.args.shape c.args.object c.args.last moved.rest.paths c.put_own.ensures.surely)
    (omega (arith, c.requires.order))
    (omega (arith, c.requires.within, c.addresses_fit.ensures.heap_counted, moved.rest.count, space))
