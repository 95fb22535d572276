-- The places of a page are put cell by cell.
use Rattle.std.proofs.Common.{◌≡◌, ℕ, ◌+◌, ◌*◌, refl, sym, ◌∙◌, subst, arith}
use Rattle.page_space.specs.Sizes.{page_words}
use Rattle.heap_model.specs.RegionRows.{StandsBetween}
use Rattle.write_barrier.specs.MutatorState.{heap_of}
use Rattle.heap_walk.specs.Limits.{IsLimit}
use Rattle.compactor.specs.Sliding.{CountsBefore, PlacesTo, page_start}
use Rattle.compactor.proofs.CountedCells.{counts_more}
use Rattle.compactor.proofs.PageRows.{page_between, page_below_eden, page_below_marks, page_row_ends}
use Rattle.compactor.proofs.PlacedPages.{places_begin, places_ahead, places_within, next_has, next_within, cell_placed}
use Rattle.compactor.proofs.PlacedPages.{page_placed}
use Rattle.compactor.proofs.places.place_page.Goals as goal

pub between-cells-requires-clause-stands : goal.between-cells-requires-clause-stands
between-cells-requires-clause-stands c =
    let start : page_start c.args.page ≡ c.args.page * page_words = omega arith in
    subst (λ (at : ℕ). StandsBetween c.args.main.now.seat.space at (at + page_words)) start
    (page_between c.args.main.now.seat.space c.args.page c.requires.there)

pub cells-init : goal.cells-init
cells-init c =
    let heap = heap_of c.args.main.now in
    let start : c.args.page * page_words ≡ page_start c.args.page = omega arith in
    let is_limit = subst (λ (at : ℕ). IsLimit heap at (at + page_words) c.between-cells.result.limit) start
    (c.between-cells.ensures.limit heap refl refl c.requires.rows) in
    let begins = places_begin c.args.page c.between-cells.result.limit c.addresses_fit.ensures.within c.requires.rows
    c.requires.there is_limit in
    let table = c.args.moves.now in
    let At : ℕ → Type 0 = λ at. PlacesTo heap table table c.args.page c.between-cells.result.limit at at in
    record {
      to = subst (λ (at : ℕ). PlacesTo heap table table c.args.page c.between-cells.result.limit
          (c.args.page * page_words) at) (sym c.between-cells.ensures.starts) (subst At (sym start) begins);
      counted = subst (λ (at : ℕ). CountsBefore heap table at c.args.before)
          (sym (c.between-cells.ensures.starts ∙ start)) c.requires.counted;
    }

pub next-requires-clause-ahead : goal.next-requires-clause-ahead
next-requires-clause-ahead c =
    let state = c.cells.invariant.to in
    (state.row.end, state.back, places_ahead c.addresses_fit.ensures.within state)

pub next-requires-clause-within : goal.next-requires-clause-within
next-requires-clause-within c =
    let state = c.cells.invariant.to in
    let ends = page_row_ends c.addresses_fit.ensures.within state.is in
    omega (arith, state.ends, ends, page_below_marks c.args.main.now.seat.space c.args.page c.requires.there)

pub place_cell-next-requires-clause-below : goal.place_cell-next-requires-clause-below
place_cell-next-requires-clause-below c =
    let state = c.cells.invariant.to in
    let limits = c.addresses_fit.ensures.within in
    let is_next = c.in-Some.ensures.next state.row.end state.back (places_ahead limits state) in
    omega (
      arith,
      state.bound,
      c.requires.before.bound,
      next_within limits state is_next,
      page_below_eden c.args.main.now.seat.space c.args.page c.requires.there,
      c.in-Some.ensures.steps.some,
    )

pub place_cell-next-requires-clause-fits : goal.place_cell-next-requires-clause-fits
place_cell-next-requires-clause-fits c =
    let state = c.cells.invariant.to in
    let limits = c.addresses_fit.ensures.within in
    let is_next = c.in-Some.ensures.next state.row.end state.back (places_ahead limits state) in
    omega (
      arith,
      state.before,
      is_next.stands.stands,
      next_within limits state is_next,
      page_below_marks c.args.main.now.seat.space c.args.page c.requires.there,
      c.addresses_fit.ensures.fit,
    )

pub cells-preserved : goal.cells-preserved
cells-preserved c =
    let heap = heap_of c.args.main.now in
    let state = c.cells.invariant.to in
    let limits = c.addresses_fit.ensures.within in
    let is_next = c.in-Some.ensures.next state.row.end state.back (places_ahead limits state) in
    let steps = c.in-Some.ensures.steps in
    let put = c.place_cell-next.ensures in
    let placed = cell_placed limits state is_next put.bound put.next put.own put.others in
    let after : c.in-Some.cell.at + c.in-Some.cell.size ≡ c.next.new.self.at =
    omega (arith, is_next.stands.stands, steps.at) in
    let At : ℕ → Type 0 = λ at. PlacesTo heap c.args.moves.now c.place_cell-next.new.moves c.args.page
    c.cells.cells.limit c.place_cell-next.result at in
    let Limited : ℕ → Type 0 = λ limit. PlacesTo heap c.args.moves.now c.place_cell-next.new.moves c.args.page
    limit c.place_cell-next.result c.next.new.self.at in
    let At_cell : ℕ → Type 0 = λ at. CountsBefore heap c.cells.moves at c.cells.moving in
    let counted = counts_more c.requires.rows (next_has limits state is_next)
    (subst At_cell (sym is_next.stands.stands) c.cells.invariant.counted) put.others put.own
    c.count_cell-moving.ensures.moves c.count_cell-moving.ensures.stays in
    record {
      to = subst Limited (sym steps.limit) (subst At after placed);
      counted = subst (λ (at : ℕ). CountsBefore heap c.place_cell-next.new.moves at c.count_cell-moving.result) after
          counted;
    }

pub returns : goal.returns
returns c =
    let state = c.cells.invariant.to in
    let limits = c.addresses_fit.ensures.within in
    let over = c.in_default.ensures.over refl state.row.end state.back (places_ahead limits state) in
    record {
      placed = page_placed limits state over c.requires.rows c.requires.before;
      counted = subst (λ (at : ℕ). CountsBefore (heap_of c.args.main.now) c.cells.moves at c.cells.moving)
          (over ∙ page_row_ends limits state.is) c.cells.invariant.counted;
    }

pub count_cell-moving-requires : goal.count_cell-moving-requires
count_cell-moving-requires c =
    let state = c.cells.invariant.to in
    let limits = c.addresses_fit.ensures.within in
    omega (
      arith,
      c.cells.invariant.counted.few,
      places_within limits state,
      page_below_marks c.args.main.now.seat.space c.args.page c.requires.there,
      c.addresses_fit.ensures.fit,
    )
