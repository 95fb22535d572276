-- A free cell goes; any other comes to its place.
use Rattle.std.proofs.Common.{ℕ, sym, ◌∙◌, ap, arith, not}
use Rattle.page_space.specs.Extents.{Space, marks_start}
use Rattle.compactor.proofs.PageRows.{page_below_marks}
use Rattle.compactor.proofs.PassedPages.{cell_ends, free_passed, kept_passed}
use Rattle.compactor.proofs.pages.pass.Goals as goal

pub returns-then-is_free : goal.returns-then-is_free
returns-then-is_free c first page limit may =
    free_passed may (ap not (sym c.is_free.ensures ∙ c.if-is_free.true))

pub copy_cell-requires-clause-quiet : goal.copy_cell-requires-clause-quiet
copy_cell-requires-clause-quiet c mark =
    let may = c.requires.may.3 in
    may.in_page.begun.quiet (sym may.in_page.rest.seat.phase ∙ mark)

pub copy_cell-requires-clause-within : goal.copy_cell-requires-clause-within
copy_cell-requires-clause-within c =
    let may = c.requires.may.3 in
    let page : ℕ = c.requires.may.1 in
    let first = c.requires.may.0 in
    let marks = ap (λ (space : Space). marks_start space) may.in_page.rest.seat.space in
    omega (arith, cell_ends may, page_below_marks first.seat.space page may.in_page.is.0, marks)

pub copy_cell-requires-clause-front : goal.copy_cell-requires-clause-front
copy_cell-requires-clause-front c = c.requires.may.3.in_page.before

pub overflow_add-result : goal.overflow_add-result
overflow_add-result c =
    let may = c.requires.may.3 in
    let page : ℕ = c.requires.may.1 in
    let first = c.requires.may.0 in
    let marks = ap (λ (space : Space). marks_start space) may.in_page.rest.seat.space in
    omega (
      arith,
      may.in_page.before,
      cell_ends may,
      page_below_marks first.seat.space page may.in_page.is.0,
      marks,
      c.addresses_fit.ensures.fit,
    )

pub returns : goal.returns
returns c first page limit may =
    kept_passed may (ap not (sym c.is_free.ensures ∙ c.if-is_free.false)) c.copy_cell.ensures
