-- A cycle with cells that were checked may begin on the seat.
use Rattle.std.proofs.Common.{◌≡◌, ℕ, true, List, take, sym, ap, subst, ◌∙◌}
use Rattle.page_space.specs.Extents.{Space, eden_start}
use Rattle.heap_table.specs.Overviews.{overview}
use Rattle.heap_table.specs.Seats.{Seat}
use Rattle.table_tests.specs.CellPages.{are_cells, these_cells}
use Rattle.table_tests.proofs.BareCells.{cells_fresh}
use Rattle.table_tests.proofs.barrier.begin.Goals as goal

pub open_cycle-requires-clause-chosen : goal.open_cycle-requires-clause-chosen
open_cycle-requires-clause-chosen c =
    let seat : Seat = c.fill_shapes.new.seat in
    let starts : List ℕ = c.args.starts.now in
    let page : eden_start seat.space ≡ 2048 =
    ap (λ (s : Space). eden_start s) (c.fill_shapes.ensures.space ∙ c.fill_page.ensures.space) ∙ c.requires.page in
    let words : c.in-Some.page.now ≡ take 2048 seat.table =
    c.in-Some.ensures.lookup.0.2
    ∙ ap (λ (ws : List ℕ). take 2048 ws) (c.as_slice.ensures ∙ c.own.ensures.words) in
    let checked : are_cells 2048 c.in-Some.page.now c.args.layouts.now starts ≡ true =
    sym c.are_cells.ensures ∙ c.if-not-are_cells.false in (
      these_cells starts,
      ap these_cells c.requires.three,
      cells_fresh (overview seat) starts c.fill_shapes.ensures.bare.bare
          (subst (λ (ls : List ℕ). are_cells (eden_start seat.space) (take (eden_start seat.space) seat.table) ls starts
          ≡ true) (sym c.fill_shapes.ensures.layouts)
          (subst (λ (n : ℕ). are_cells n (take n seat.table) c.args.layouts.now starts ≡ true) (sym page)
          (subst (λ (ws : List ℕ). are_cells 2048 ws c.args.layouts.now starts ≡ true) words checked))),
    )
