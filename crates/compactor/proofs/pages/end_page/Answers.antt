-- The page has no free run, a free cell is put, and it is the page's only free run.
use Rattle.std.proofs.Common.{ℕ, ◌+◌, ◌-◌, ◌*◌, ap, arith}
use Rattle.page_space.specs.Sizes.{page_words}
use Rattle.page_space.specs.Extents.{marks_start}
use Rattle.write_barrier.specs.MutatorState.{Mutator}
use Rattle.compactor.proofs.PageRows.{page_below_eden, page_below_marks}
use Rattle.compactor.proofs.PageEnds.{calls_end}
use Rattle.compactor.proofs.pages.end_page.Goals as goal

pub put_free_cell-requires-clause-within : goal.put_free_cell-requires-clause-within
put_free_cell-requires-clause-within c =
    let marks = ap (λ (main : Mutator). marks_start main.seat.space) c.clear_free.ensures in
    omega (
      arith,
      c.requires.to,
      marks,
      page_below_marks c.args.main.now.seat.space c.args.page c.requires.there,
    )

pub returns-then-words-gt0 : goal.returns-then-words-gt0
returns-then-words-gt0 c =
    let count : ℕ = (c.args.page + 1) * page_words - c.args.next in
    let put = c.put_free_cell.ensures in
    calls_end c.args.page c.args.next count (omega (arith, c.requires.to)) (omega arith)
    (omega (
      arith,
      page_below_eden c.args.main.now.seat.space c.args.page c.requires.there,
      c.addresses_fit.ensures.bounded,
    )) (omega (arith, c.requires.there, c.requires.rows)) c.clear_free.ensures put.beside put.paths put.cycle put.young
    put.heap put.touches c.add_free.ensures
