-- The hole closes the gap.
use Rattle.std.proofs.Common.{◌≡◌, ℕ, ◌+◌, ◌<◌, length, ◌∙◌, ap, sym, subst, arith, rules, List}
use Rattle.tagged_word.specs.Cells.{plain_head}
use Rattle.page_space.specs.Extents.{layouts_start, marks_start}
use Rattle.write_barrier.proofs.StoresOn.{stores_on_again}
use Rattle.shape_change.proofs.MayMove.{own_word_may, own_word_on, refill_stays}
use Rattle.heap_model.specs.Types.{Path}
use Rattle.shape_tree.specs.Shapes.{shape_path}
use Rattle.heap_model.specs.Slots.{hole_word}
use Rattle.write_barrier.specs.MutatorState.{Mutator}
use Rattle.shape_change.specs.Shifts.{ClosesGap, MayMoveDown, own_touch}
use Rattle.shape_change.proofs.SlotTouches.{past_put, past_surely, word_put}
use Rattle.shape_change.proofs.WordsMoved.{gap_closed, rest_word}
use Rattle.shape_change.proofs.shift_slots.close_own.Goals as goal

pub move_own-requires-clause-held : goal.move_own-requires-clause-held
move_own-requires-clause-held c =
    let path : Path = shape_path c.args.main.now.paths c.args.shape in
    let counted = c.fields-last.ensures.counted
    ∙ ap (λ (paths : List Path). length (shape_path paths c.args.shape).fields) c.shapes.ensures in
    subst (λ n. MayMoveDown c.args.main.now (c.args.object + (plain_head + c.args.from))
    (c.args.object + (plain_head + n)) (own_touch path c.args.object)) (sym counted) c.requires.held

pub move_own-requires-clause-own : goal.move_own-requires-clause-own
move_own-requires-clause-own c =
    let counted = c.fields-last.ensures.counted
    ∙ ap (λ (paths : List Path). length (shape_path paths c.args.shape).fields) c.shapes.ensures in
    omega (arith, counted, c.requires.own)

pub move_own-requires-clause-laid : goal.move_own-requires-clause-laid
move_own-requires-clause-laid c =
    let counted = c.fields-last.ensures.counted
    ∙ ap (λ (paths : List Path). length (shape_path paths c.args.shape).fields) c.shapes.ensures in
    omega (arith, counted, c.requires.laid)

pub write_slot-requires-clause-may_store : goal.write_slot-requires-clause-may_store
write_slot-requires-clause-may_store c =
    let counted = c.fields-last.ensures.counted
    ∙ ap (λ (paths : List Path). length (shape_path paths c.args.shape).fields) c.shapes.ensures in
    own_word_may c.fields-last.result c.odd.result.0 (refill_stays c.move_own.ensures.stores c.requires.may)
    (omega (arith, counted, c.requires.own))

pub returns-clause-stores : goal.returns-clause-stores
returns-clause-stores c =
    let counted = c.fields-last.ensures.counted
    ∙ ap (λ (paths : List Path). length (shape_path paths c.args.shape).fields) c.shapes.ensures in
    stores_on_again c.move_own.ensures.stores
    (own_word_on c.fields-last.result c.odd.result.0 c.write_slot.ensures.written
    (refill_stays c.move_own.ensures.stores c.requires.may) (omega (arith, counted, c.requires.own))
    (omega (arith, counted, c.requires.laid, ap layouts_start c.move_own.ensures.moves.rest.beside.space)))

pub returns-clause-closes : goal.returns-clause-closes
returns-clause-closes c =
    let old : Mutator = c.args.main.now in
    let new : Mutator = c.write_slot.new.self in
    let from : ℕ = c.args.object + (plain_head + c.args.from) in
    let moved = c.move_own.ensures.moves in
    let space = ap marks_start moved.rest.beside.space in
    let counted = c.fields-last.ensures.counted
    ∙ ap (λ (paths : List Path). length (shape_path paths c.args.shape).fields) c.shapes.ensures in
    let hole : c.odd.result.0 ≡ hole_word = search rules in
    let path : Path = shape_path old.paths c.args.shape in
    let at : ℕ = c.args.object + (plain_head + c.fields-last.result) in
    let before : at < marks_start c.move_own.new.main.seat.space =
    omega (arith, counted, c.requires.within, space) in
    let touches = past_put path c.args.object c.fields-last.result (omega (arith, counted))
    (word_put at c.odd.result.0 c.write_slot.ensures.written before) in
    subst (λ n. ClosesGap old new from (c.args.object + (plain_head + n)) hole_word (own_touch path c.args.object))
    counted
    (subst (λ word. ClosesGap old new from at word (own_touch path c.args.object)) hole
    (gap_closed c.odd.result.0 moved (rest_word at c.odd.result.0 c.write_slot.ensures.written before)
    c.write_slot.ensures.heap touches (own_word_on c.fields-last.result c.odd.result.0 c.write_slot.ensures.written
    (refill_stays c.move_own.ensures.stores c.requires.may) (omega (arith, counted, c.requires.own))
    (omega (arith, counted, c.requires.laid, ap layouts_start moved.rest.beside.space)))
    (past_surely path c.args.object c.fields-last.result (omega (arith, counted)) new)
    (omega (arith, counted, c.requires.order))
    (omega (arith, counted, c.requires.within, c.addresses_fit.ensures.heap_counted, moved.rest.count, space))))
