-- The gaps are closed in the object and in the store.
use Rattle.std.specs.Prelude.{nat_lt}
use Rattle.std.proofs.lemmas.Bool.{lt-ltb}
use Rattle.page_space.specs.Extents.{layouts_start, marks_start}
use Rattle.page_space.proofs.Starts.{layouts_start_is, marks_start_is}
use Rattle.write_barrier.proofs.StoresOn.{stores_on_again}
use Rattle.shape_change.proofs.MayMove.{beside_moves, beside_moves_then, own_moves, store_fewer, store_stays}
use Rattle.std.proofs.Common.{◌≡◌, ℕ, ◌-◌, slice_get, true, sym, ◌∙◌, ap, subst, arith, length, List}
use Rattle.heap_model.specs.Types.{Path}
use Rattle.shape_tree.specs.Shapes.{shape_path}
use Rattle.write_barrier.specs.MutatorState.{Mutator}
use Rattle.shape_change.specs.Shifts.{ClosesSlots, MayCloseSlots, field_touch}
use Rattle.shape_change.proofs.SlotsClosed.{both_closed, beside_closed, RangesDisjoint}
use Rattle.shape_change.proofs.shift_slots.close_both.Goals as goal

-- the cap and the number of fields are those of the path
by_counts : {old new : Mutator} {object store slot first cap last : ℕ} (path : Path) → cap ≡ path.cap
    → last ≡ length path.fields → ClosesSlots old new object cap store slot last first path
    → ClosesSlots old new object path.cap store slot (length path.fields) first path
by_counts {old} {new} {object} {store} {slot} {first} {cap} path caps lasts closes =
    subst (λ n. ClosesSlots old new object n store slot (length path.fields) first path) caps
    (subst (λ n. ClosesSlots old new object cap store slot n first path) lasts closes)

-- the slots may be closed by the counts that were read
may_by_counts : {main : Mutator} {object store slot first cap last : ℕ} (path : Path) → cap ≡ path.cap
    → last ≡ length path.fields → MayCloseSlots main object path.cap store slot (length path.fields) first path
    → MayCloseSlots main object cap store slot last first path
may_by_counts {main} {object} {store} {slot} {first} {cap} path caps lasts may =
    subst (λ n. MayCloseSlots main object cap store slot n first path) (sym lasts)
    (subst (λ n. MayCloseSlots main object n store slot (length path.fields) first path) (sym caps) may)

-- the counts are those of the path
record AreCounts (path : Path) (cap last : ℕ) : Type 0 where
  caps : cap ≡ path.cap
  lasts : last ≡ length path.fields

-- so they are as they were read
counts_are : {paths all : List Path} {cap last : ℕ} (shape : ℕ) → all ≡ paths → cap ≡ (shape_path all shape).cap
    → last ≡ length (shape_path all shape).fields → AreCounts (shape_path paths shape) cap last
counts_are shape same caps lasts = record {
  caps = caps ∙ ap (λ (paths : List Path). (shape_path paths shape).cap) same;
  lasts = lasts ∙ ap (λ (paths : List Path). length (shape_path paths shape).fields) same;
}

pub draw_in-requires-clause-held : goal.draw_in-requires-clause-held
draw_in-requires-clause-held c =
    let path : Path = shape_path c.args.main.now.paths c.args.shape in
    let are = counts_are c.args.shape c.shapes-shapes.ensures c.cap-cap.ensures.cap c.fields-last.ensures.counted in
    own_moves (c.cap-cap.result - 1) (may_by_counts path are.caps are.lasts c.requires.held)
    (omega (arith, c.if-slot-cap.true)) (omega (arith, are.caps, are.lasts, c.requires.beside))

pub draw_in-requires-clause-drawn : goal.draw_in-requires-clause-drawn
draw_in-requires-clause-drawn c stored =
    let path : Path = shape_path c.args.main.now.paths c.args.shape in
    let are = counts_are c.args.shape c.shapes-shapes.ensures c.cap-cap.ensures.cap c.fields-last.ensures.counted in
    let one : ℕ = c.cap-cap.result - 1 in
    let below : nat_lt one path.cap ≡ true =
    lt-ltb one path.cap (omega (arith, are.caps, c.if-slot-cap.true)) in
    c.requires.held.drawn one (omega (arith, c.if-slot-cap.true))
    (omega (arith, are.caps, are.lasts, c.requires.beside, c.if-slot-cap.true))
    (omega (arith, are.caps, c.if-slot-cap.true))
    (ap (λ test. field_touch test (slice_get path.fields one)) below ∙ stored)

pub draw_in-requires-clause-laid : goal.draw_in-requires-clause-laid
draw_in-requires-clause-laid c =
    let are = counts_are c.args.shape c.shapes-shapes.ensures c.cap-cap.ensures.cap c.fields-last.ensures.counted in
    omega (arith, are.caps, c.if-slot-cap.true, c.requires.within.own)

pub draw_in-requires-clause-within : goal.draw_in-requires-clause-within
draw_in-requires-clause-within c =
    let are = counts_are c.args.shape c.shapes-shapes.ensures c.cap-cap.ensures.cap c.fields-last.ensures.counted in
    let space = c.args.main.now.seat.space in
    omega (arith, are.caps, c.if-slot-cap.true, c.requires.within.own, layouts_start_is space, marks_start_is space)

pub close_beside-requires-clause-may : goal.close_beside-requires-clause-may
close_beside-requires-clause-may c =
    let are = counts_are c.args.shape c.shapes-shapes.ensures c.cap-cap.ensures.cap c.fields-last.ensures.counted in
    store_fewer (omega (arith, are.caps, are.lasts)) (store_stays c.draw_in.ensures.stores c.requires.may_beside)

pub close_beside-requires-clause-held : goal.close_beside-requires-clause-held
close_beside-requires-clause-held c =
    let path : Path = shape_path c.args.main.now.paths c.args.shape in
    let are = counts_are c.args.shape c.shapes-shapes.ensures c.cap-cap.ensures.cap c.fields-last.ensures.counted in
    beside_moves_then (may_by_counts path are.caps are.lasts c.requires.held) c.if-slot-cap.true
    (omega (arith, are.caps, are.lasts, c.requires.beside))
    (subst (λ n. RangesDisjoint c.args.object n c.args.store c.fields-last.result) (sym are.caps)
    (subst (λ n. RangesDisjoint c.args.object path.cap c.args.store n) (sym are.lasts) c.requires.within.apart))
    c.draw_in.ensures.stores c.draw_in.ensures.closes

pub close_beside-requires-clause-laid : goal.close_beside-requires-clause-laid
close_beside-requires-clause-laid c =
    let are = counts_are c.args.shape c.shapes-shapes.ensures c.cap-cap.ensures.cap c.fields-last.ensures.counted in
    omega (
      arith,
      are.caps,
      are.lasts,
      c.requires.within.beside,
      ap layouts_start c.draw_in.ensures.closes.rest.beside.space,
    )

pub close_beside-requires-clause-within : goal.close_beside-requires-clause-within
close_beside-requires-clause-within c =
    let are = counts_are c.args.shape c.shapes-shapes.ensures c.cap-cap.ensures.cap c.fields-last.ensures.counted in
    let space = c.args.main.now.seat.space in
    omega (
      arith,
      are.caps,
      are.lasts,
      c.requires.within.beside,
      ap marks_start c.draw_in.ensures.closes.rest.beside.space,
      layouts_start_is space,
      marks_start_is space,
    )

pub close_beside-requires-else-slot-cap-clause-may : goal.close_beside-requires-else-slot-cap-clause-may
close_beside-requires-else-slot-cap-clause-may c =
    let are = counts_are c.args.shape c.shapes-shapes.ensures c.cap-cap.ensures.cap c.fields-last.ensures.counted in
    store_fewer (omega (arith, are.caps, are.lasts)) c.requires.may_beside

pub close_beside-requires-else-slot-cap-clause-held : goal.close_beside-requires-else-slot-cap-clause-held
close_beside-requires-else-slot-cap-clause-held c =
    let path : Path = shape_path c.args.main.now.paths c.args.shape in
    let are = counts_are c.args.shape c.shapes-shapes.ensures c.cap-cap.ensures.cap c.fields-last.ensures.counted in
    beside_moves (c.args.slot - c.cap-cap.result) (may_by_counts path are.caps are.lasts c.requires.held)
    (omega (arith, c.if-slot-cap.false)) (omega (arith, are.caps, are.lasts, c.requires.beside))

pub close_beside-requires-else-slot-cap-clause-laid : goal.close_beside-requires-else-slot-cap-clause-laid
close_beside-requires-else-slot-cap-clause-laid c =
    let are = counts_are c.args.shape c.shapes-shapes.ensures c.cap-cap.ensures.cap c.fields-last.ensures.counted in
    omega (arith, are.caps, are.lasts, c.requires.within.beside)

pub close_beside-requires-else-slot-cap-clause-within : goal.close_beside-requires-else-slot-cap-clause-within
close_beside-requires-else-slot-cap-clause-within c =
    let are = counts_are c.args.shape c.shapes-shapes.ensures c.cap-cap.ensures.cap c.fields-last.ensures.counted in
    let space = c.args.main.now.seat.space in
    omega (arith, are.caps, are.lasts, c.requires.within.beside, layouts_start_is space, marks_start_is space)

pub returns-then-slot-cap-clause-stores : goal.returns-then-slot-cap-clause-stores
returns-then-slot-cap-clause-stores c = stores_on_again c.draw_in.ensures.stores c.close_beside.ensures.stores

pub returns-then-slot-cap-clause-closes : goal.returns-then-slot-cap-clause-closes
returns-then-slot-cap-clause-closes c =
    let object : ℕ = c.args.object in
    let store : ℕ = c.args.store in
    let path : Path = shape_path c.args.main.now.paths c.args.shape in
    let cap = c.cap-cap.ensures.cap
    ∙ ap (λ (paths : List Path). (shape_path paths c.args.shape).cap) c.shapes-shapes.ensures in
    let last = c.fields-last.ensures.counted
    ∙ ap (λ (paths : List Path). length (shape_path paths c.args.shape).fields) c.shapes-shapes.ensures in
    let apart = subst (λ n. RangesDisjoint object n store c.fields-last.result) (sym cap)
    (subst (λ n. RangesDisjoint object path.cap store n) (sym last) c.requires.within.apart) in
    by_counts path cap last
    (both_closed c.args.main.now c.draw_in.new.main c.close_beside.new.main path object c.cap-cap.result store
    c.args.slot c.fields-last.result c.args.first c.if-slot-cap.true (omega (arith, cap, last, c.requires.beside))
    c.close_beside.ensures.stores
    apart c.draw_in.ensures.closes c.close_beside.ensures.closes)

pub returns-else-slot-cap-clause-closes : goal.returns-else-slot-cap-clause-closes
returns-else-slot-cap-clause-closes c =
    let path : Path = shape_path c.args.main.now.paths c.args.shape in
    let cap = c.cap-cap.ensures.cap
    ∙ ap (λ (paths : List Path). (shape_path paths c.args.shape).cap) c.shapes-shapes.ensures in
    let last = c.fields-last.ensures.counted
    ∙ ap (λ (paths : List Path). length (shape_path paths c.args.shape).fields) c.shapes-shapes.ensures in
    by_counts path cap last
    (beside_closed c.args.main.now c.close_beside-else-slot-cap.new.main path c.args.object c.cap-cap.result
    c.args.store c.args.slot c.fields-last.result c.args.first c.if-slot-cap.false
    (omega (arith, last, c.requires.order)) c.close_beside-else-slot-cap.ensures.closes)
