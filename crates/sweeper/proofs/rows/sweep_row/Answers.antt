-- The walk goes from cell to cell of the row, to its end, and then to the end of the region.
use Rattle.std.proofs.Common.{◌≡◌, ℕ, ◌+◌, refl, sym, ◌∙◌, ap, subst, arith}
use Rattle.nursery.specs.Young.{Young}
use Rattle.page_space.specs.Extents.{Space, roots_start}
use Rattle.heap_model.specs.RegionRows.{StandsBetween}
use Rattle.write_barrier.specs.MutatorState.{heap_of}
use Rattle.heap_walk.specs.declared.cells.Cells.{Cells}
use Rattle.sweeper.specs.Sweeping.{InRow, Sweeping}
use Rattle.sweeper.proofs.RowSteps.{end_below_roots, roots_below_marks, same_roots}
use Rattle.sweeper.proofs.RowWalks.{walk_begins, rest_ahead, may_pass, walk_ends}
use Rattle.sweeper.proofs.rows.sweep_row.Goals as goal

pub between-cells-requires-clause-stands : goal.between-cells-requires-clause-stands
between-cells-requires-clause-stands c =
    let may = c.requires.may.1 in
    let Stands : Space → Type 0 = λ space. StandsBetween space c.args.start c.args.end in
    subst Stands (sym may.sweeping.seat.space) may.stands

pub between-cells-requires-clause-few : goal.between-cells-requires-clause-few
between-cells-requires-clause-few c =
    let may = c.requires.may.1 in
    omega (
      arith,
      may.begun.whole.rows.few,
      ap (λ (young : Young). young.used) may.sweeping.young,
      ap (λ (space : Space). space.sizes.young) may.sweeping.seat.space,
    )

pub cells-init : goal.cells-init
cells-init c = record {
  in_row = λ first may.
      let is_limit = c.between-cells.ensures.limit (heap_of first) (sym may.sweeping.seat.space)
      (ap (λ (young : Young). young.used) (sym may.sweeping.young)) may.begun.whole.rows in
      let In : ℕ → Type 0 = λ at. InRow first c.args.main.now c.args.marked.now.addresses c.args.start c.args.end
      c.between-cells.result.limit c.args.start at in
      subst In (sym c.between-cells.ensures.starts) (walk_begins may is_limit);
}

pub next-requires-clause-ahead : goal.next-requires-clause-ahead
next-requires-clause-ahead c =
    let (first, may) = c.requires.may in
    let state = c.cells.invariant.in_row first may in
    (state.row.end, state.rest, rest_ahead state)

pub next-requires-clause-within : goal.next-requires-clause-within
next-requires-clause-within c =
    let (first, may) = c.requires.may in
    let state = c.cells.invariant.in_row first may in
    omega (arith, state.limit_within, end_below_roots state, same_roots state, roots_below_marks state)

pub pass-from-requires-clause-may : goal.pass-from-requires-clause-may
pass-from-requires-clause-may c =
    let (first, may) = c.requires.may in
    let state = c.cells.invariant.in_row first may in
    let next = c.in-Some.ensures.next state.row.end state.rest (rest_ahead state) in
    (first, c.args.start, c.args.end, c.cells.cells.limit, may_pass state next)

pub pass-from-requires-clause-bound : goal.pass-from-requires-clause-bound
pass-from-requires-clause-bound c =
    let (first, may) = c.requires.may in
    let state = c.cells.invariant.in_row first may in
    c.requires.bound
    ∙ ap (λ (space : Space). roots_start space) (may.sweeping.seat.space ∙ sym state.sweeping.seat.space)

pub cells-preserved : goal.cells-preserved
cells-preserved c = record {
  in_row = λ first may.
      let state = c.cells.invariant.in_row first may in
      let next = c.in-Some.ensures.next state.row.end state.rest (rest_ahead state) in
      let steps = c.in-Some.ensures.steps in
      let passed = c.pass-from.ensures first c.args.start c.args.end c.cells.cells.limit (may_pass state next) in
      let after : c.in-Some.cell.at + c.in-Some.cell.size ≡ c.next.new.self.at =
      omega (arith, next.stands.stands, steps.at) in
      let In : ℕ → Type 0 = λ at. InRow first c.pass-from.new.main c.args.marked.now.addresses c.args.start c.args.end
      c.cells.cells.limit c.pass-from.result at in
      let Limited : ℕ → Type 0 = λ limit. InRow first c.pass-from.new.main c.args.marked.now.addresses c.args.start
      c.args.end limit c.pass-from.result c.next.new.self.at in
      subst Limited (sym steps.limit) (subst In after passed);
}

pub end_stretch-requires : goal.end_stretch-requires
end_stretch-requires c =
    let (first, may) = c.requires.may in
    let state = c.cells.invariant.in_row first may in
    let In : Cells → Type 0 = λ cells. InRow first c.cells.main c.args.marked.now.addresses c.args.start c.args.end
    cells.limit c.cells.from cells.at in
    record {
      row = (
        first,
        c.args.marked.now.addresses,
        c.args.start,
        c.args.end,
        c.next.new.self.limit,
        subst In (sym (c.in_default.ensures.stays refl)) state,
      );
    }

pub returns : goal.returns
returns c first may =
    let state = c.cells.invariant.in_row first may in
    let In : Cells → Type 0 = λ cells. InRow first c.cells.main c.args.marked.now.addresses c.args.start c.args.end
    cells.limit c.cells.from cells.at in
    let stays = c.in_default.ensures.stays refl in
    let swept = c.end_stretch.ensures first c.args.marked.now.addresses c.args.start c.args.end c.next.new.self.limit
    (subst In (sym stays) state) in
    let Swept : Cells → Type 0 = λ cells. Sweeping first c.end_stretch.new.main c.args.marked.now.addresses cells.at in
    walk_ends state (c.in_default.ensures.over refl state.row.end state.rest (rest_ahead state))
    (subst Swept stays swept)
