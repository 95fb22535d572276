-- A cycle with cells that were checked may begin on the heap.
use Rattle.std.proofs.Common.{◌≡◌, ◌+◌, take, refl, sym, ap, ◌∙◌, arith}
use Rattle.page_space.specs.Extents.{Space, layouts_start}
use Rattle.page_space.proofs.Starts.{marks_start_is}
use Rattle.cell_layout.specs.Cells.{layouts_in}
use Rattle.write_barrier.specs.MutatorState.{Mutator}
use Rattle.write_barrier.specs.Seats.{heap_words}
use Rattle.table_tests.specs.CellPages.{these_cells}
use Rattle.table_tests.specs.OpenMains.{four_starts}
use Rattle.table_tests.proofs.BareCells.{cells_fresh}
use Rattle.table_tests.proofs.OpenMains.{bare_overview, before_marks, layouts_read, quiet_cells}
use Rattle.table_tests.proofs.open_mains.begin.Goals as goal

pub words_from-requires : goal.words_from-requires
words_from-requires c =
    omega (arith, before_marks c.args.main.now.seat.space 2048 c.requires.bare.space (omega arith))

pub words_from-requires-2 : goal.words_from-requires-2
words_from-requires-2 c =
    let space : Space = c.args.main.now.seat.space in
    let at : c.layout_at.result ≡ layouts_start space + 0 =
    c.layout_at.ensures.at ∙ ap (λ (s : Space). layouts_start s + 0) c.regions-regions.ensures.regions in
    omega (arith, at, marks_start_is space)

pub open_cycle-requires-clause-chosen : goal.open_cycle-requires-clause-chosen
open_cycle-requires-clause-chosen c = λ any quiet.
    let main : Mutator = c.args.main.now in
    let at : c.layout_at.result ≡ layouts_start main.seat.space + 0 =
    c.layout_at.ensures.at ∙ ap (λ (s : Space). layouts_start s + 0) c.regions-regions.ensures.regions in
    let words : c.as_slice.result.now ≡ take 2048 (heap_words main.seat) =
    c.as_slice.ensures.value ∙ c.in_ok-words.ensures in
    let counted = c.regions-regions.ensures.heap_counted in
    let layouts : c.as_slice-2.result.now ≡ layouts_in main.seat.space (heap_words main.seat) =
    c.as_slice-2.ensures.value
    ∙ (c.in_ok-layouts.ensures ∙ layouts_read main.seat.space (heap_words main.seat) c.layout_at.result
    (omega (arith, at))) in (
      these_cells four_starts,
      (
        refl,
        cells_fresh any four_starts (bare_overview main any c.requires.bare counted quiet)
            (quiet_cells main any c.as_slice.result.now c.as_slice-2.result.now c.requires.bare.space quiet words
            layouts (sym c.are_cells.ensures ∙ c.if-not-are_cells.false)),
      ),
    )
