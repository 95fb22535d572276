-- One cell of the page after another is passed by, and what is left of it becomes free.
use Rattle.std.proofs.Common.{◌≡◌, ℕ, ◌+◌, ◌*◌, refl, sym, ◌∙◌, ap, subst, arith}
use Rattle.nursery.specs.Young.{Young}
use Rattle.page_space.specs.Sizes.{page_words}
use Rattle.page_space.specs.Extents.{Space, marks_start}
use Rattle.heap_model.specs.RegionRows.{StandsBetween}
use Rattle.write_barrier.specs.MutatorState.{heap_of}
use Rattle.heap_walk.specs.Limits.{IsLimit}
use Rattle.compactor.specs.Sliding.{InPage, page_start}
use Rattle.compactor.proofs.PageRows.{page_between, page_below_marks}
use Rattle.compactor.proofs.PassedPages.{page_begins, back_ahead, may_pass, ends_there, next_from, comes_within}
use Rattle.compactor.proofs.PageEnds.{page_ends}
use Rattle.compactor.proofs.pages.pack_page.Goals as goal

pub between-cells-requires-clause-stands : goal.between-cells-requires-clause-stands
between-cells-requires-clause-stands c =
    let (first, may) = c.requires.may in
    let start : page_start c.args.page ≡ c.args.page * page_words = omega arith in
    let pages = ap (λ (space : Space). space.sizes.pages) may.slid.rest.seat.space in
    subst (λ (at : ℕ). StandsBetween c.args.main.now.seat.space at (at + page_words)) start
    (page_between c.args.main.now.seat.space c.args.page (omega (arith, may.there, pages)))

pub between-cells-requires-clause-few : goal.between-cells-requires-clause-few
between-cells-requires-clause-few c =
    let (first, may) = c.requires.may in
    omega (
      arith,
      may.begun.whole.rows.few,
      ap (λ (young : Young). young.used) may.slid.rest.young,
      ap (λ (space : Space). space.sizes.young) may.slid.rest.seat.space,
    )

pub cells-init : goal.cells-init
cells-init c = record {
  in_page = λ first may.
      let heap = heap_of first in
      let start : c.args.page * page_words ≡ page_start c.args.page = omega arith in
      let is_limit = subst (λ (at : ℕ). IsLimit heap at (at + page_words) c.between-cells.result.limit) start
      (c.between-cells.ensures.limit heap (sym may.slid.rest.seat.space)
      (ap (λ (young : Young). young.used) (sym may.slid.rest.young)) may.begun.whole.rows) in
      let begins = page_begins may is_limit in
      let At : ℕ → Type 0 = λ at. InPage first c.args.main.now c.args.moves.now c.args.page
      c.between-cells.result.limit at at in
      subst (λ (at : ℕ). InPage first c.args.main.now c.args.moves.now c.args.page c.between-cells.result.limit
      (c.args.page * page_words) at) (sym c.between-cells.ensures.starts) (subst At (sym start) begins);
}

pub next-requires-clause-ahead : goal.next-requires-clause-ahead
next-requires-clause-ahead c =
    let (first, may) = c.requires.may in
    let state = c.cells.invariant.in_page first may in
    (state.row.end, state.back, back_ahead state)

pub next-requires-clause-within : goal.next-requires-clause-within
next-requires-clause-within c =
    let (first, may) = c.requires.may in
    let state = c.cells.invariant.in_page first may in
    let marks = ap (λ (space : Space). marks_start space) state.rest.seat.space in
    omega (
      arith,
      state.ends,
      ends_there state,
      page_below_marks first.seat.space c.args.page may.there,
      marks,
    )

pub pass-next-requires : goal.pass-next-requires
pass-next-requires c =
    let (first, may) = c.requires.may in
    let state = c.cells.invariant.in_page first may in
    let is_next = c.in-Some.ensures.next state.row.end state.back (back_ahead state) in
    record { may = (first, c.args.page, c.cells.cells.limit, may_pass state is_next) }

pub cells-preserved : goal.cells-preserved
cells-preserved c = record {
  in_page = λ first may.
      let state = c.cells.invariant.in_page first may in
      let is_next = c.in-Some.ensures.next state.row.end state.back (back_ahead state) in
      let steps = c.in-Some.ensures.steps in
      let passed = c.pass-next.ensures first c.args.page c.cells.cells.limit (may_pass state is_next) in
      let after : c.in-Some.cell.at + c.in-Some.cell.size ≡ c.next.new.self.at =
      omega (arith, is_next.stands.stands, steps.at) in
      let At : ℕ → Type 0 = λ at. InPage first c.pass-next.new.main c.args.moves.now c.args.page
      c.cells.cells.limit c.pass-next.result at in
      let Limited : ℕ → Type 0 = λ limit. InPage first c.pass-next.new.main c.args.moves.now c.args.page limit
      c.pass-next.result c.next.new.self.at in
      subst Limited (sym steps.limit) (subst At after passed);
}

pub end_page-requires-clause-quiet : goal.end_page-requires-clause-quiet
end_page-requires-clause-quiet c mark =
    let (first, may) = c.requires.may in
    let state = c.cells.invariant.in_page first may in
    state.begun.quiet (sym state.rest.seat.phase ∙ mark)

pub end_page-requires-clause-there : goal.end_page-requires-clause-there
end_page-requires-clause-there c =
    let (first, may) = c.requires.may in
    let state = c.cells.invariant.in_page first may in
    omega (arith, may.there, ap (λ (space : Space). space.sizes.pages) state.rest.seat.space)

pub end_page-requires-clause-rows : goal.end_page-requires-clause-rows
end_page-requires-clause-rows c =
    let (first, may) = c.requires.may in
    let state = c.cells.invariant.in_page first may in
    state.rows ∙ state.begun.rows ∙ sym (ap (λ (space : Space). space.sizes.pages) state.rest.seat.space)

pub end_page-requires-clause-from : goal.end_page-requires-clause-from
end_page-requires-clause-from c =
    let (first, may) = c.requires.may in
    next_from (c.cells.invariant.in_page first may)

pub end_page-requires-clause-to : goal.end_page-requires-clause-to
end_page-requires-clause-to c =
    let (first, may) = c.requires.may in
    let state = c.cells.invariant.in_page first may in
    omega (arith, state.before, comes_within state)

pub returns : goal.returns
returns c first may =
    let state = c.cells.invariant.in_page first may in
    page_ends state (c.in_default.ensures.over refl state.row.end state.back (back_ahead state)) c.end_page.ensures
