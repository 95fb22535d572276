-- Eden and pages end at their limits, and a walk comes to the end of a segment's row.
use Rattle.std.proofs.Common.{ℕ, ◌+◌, refl, sym, ◌∙◌, ap, subst, arith}
use Rattle.page_space.proofs.Starts.{layouts_start_is, marks_start_is}
use Rattle.heap_model.proofs.RegionRows.{region_is}
use Rattle.write_barrier.specs.MutatorState.{heap_of}
use Rattle.heap_walk.specs.declared.cells.Cells.{Cells}
use Rattle.heap_walk.proofs.RowLimits.{told_inside}
use Rattle.heap_walk.proofs.RowWalks.{Walking, walk_begins, walk_goes_on, walk_ends, end_below_roots}
use Rattle.heap_walk.proofs.rows.row_end.Goals as goal

pub loop-init : goal.loop-init
loop-init c =
    let heap = heap_of c.args.main.now in
    let is_limit = c.between-cells.ensures.limit heap refl refl c.requires.rows in
    let Walks : ℕ → Type 0 = λ at. Walking heap c.args.start c.args.end c.between-cells.result.limit at in
    record {
      walking = subst Walks (sym c.between-cells.ensures.starts)
          (walk_begins c.requires.rows c.requires.stands is_limit);
      within = is_limit.within;
    }

pub next-requires-clause-ahead : goal.next-requires-clause-ahead
next-requires-clause-ahead c =
    let walking = c.loop.invariant.walking in
    (walking.row.end, walking.left, walking.ahead)

pub next-requires-clause-within : goal.next-requires-clause-within
next-requires-clause-within c =
    let space = c.args.main.now.seat.space in
    omega (
      arith,
      c.loop.invariant.within,
      end_below_roots c.loop.invariant.walking,
      layouts_start_is space,
      marks_start_is space,
    )

pub loop-preserved : goal.loop-preserved
loop-preserved c =
    let heap = heap_of c.args.main.now in
    let walking = c.loop.invariant.walking in
    let steps = c.in-Some.ensures.steps in
    let next = c.in-Some.ensures.next walking.row.end walking.left walking.ahead in
    let Limited : ℕ → Type 0 = λ limit.
    Walking heap c.args.start c.args.end limit (c.loop.cells.at + c.in-Some.field-0.size) in
    let Walks : ℕ → Type 0 = λ at. Walking heap c.args.start c.args.end c.next.new.self.limit at in
    record {
      walking = subst Walks (sym steps.at) (subst Limited (sym steps.limit) (walk_goes_on walking next));
      within = omega (arith, steps.limit, c.loop.invariant.within);
    }

pub returns-in-Segment : goal.returns-in-Segment
returns-in-Segment c row is =
    let walking = c.loop.invariant.walking in
    let over = c.in_default-next.ensures.over refl walking.row.end walking.left walking.ahead in
    walk_ends walking c.regions.ensures.within over row is
    ∙ ap (λ (cells : Cells). cells.at) (sym (c.in_default-next.ensures.stays refl))

pub returns : goal.returns
returns c row is =
    let limits = c.regions.ensures.within in
    let inside = told_inside c.args.main.now.seat.space c.regions.result c.args.start c.args.end c.region.result limits
    c.requires.stands c.regions.ensures.regions c.region.ensures.inside in
    (c.between-cells.ensures.limit (heap_of c.args.main.now) refl refl c.requires.rows).exact row is
    (λ half worker segment. c.in_default.not-Segment half worker (region_is c.region.result limits inside is ∙ segment))
