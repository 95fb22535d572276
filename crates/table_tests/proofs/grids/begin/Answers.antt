-- A cycle with the cells that pages are cut into may begin.
use Rattle.std.proofs.Common.{◌≡◌, ◌∙◌, ℕ, List, true, ap, sym, subst}
use Rattle.shared_table.specs.Seats.{Side}
use Rattle.table_tests.specs.CellPages.{are_cells, these_cells}
use Rattle.table_tests.specs.Grids.{AreCutPages, IsWholeGrid, PageLists}
use Rattle.table_tests.specs.OneCell.{IsBare}
use Rattle.table_tests.proofs.BareCells.{cells_fresh}
use Rattle.table_tests.proofs.Cutting.{begun_whole, cells_cut, filled, filled_bare, filled_cells}
use Rattle.table_tests.proofs.grids.begin.Goals as goal

pub open_cycle-requires-clause-chosen : goal.open_cycle-requires-clause-chosen
open_cycle-requires-clause-chosen c =
    let side : Side = c.args.side.now in
    let pages : PageLists = record {
      words = c.args.pages.words.now;
      layouts = c.args.pages.layouts.now;
      starts = c.args.pages.starts.now;
    } in
    let starts : List ℕ = c.args.pages.starts.now in
    let is : c.fill_layouts.new.side ≡ record side { main = filled side.main pages } =
    c.fill_layouts.ensures ∙ ap (λ (v : Side). record v { main = record v.main { layouts = c.args.pages.layouts.now } })
    c.fill_words.ensures in (
      these_cells starts,
      cells_cut starts c.args.count c.requires.cut.starts c.requires.cut.cut,
      cells_fresh c.fill_layouts.new.side.main starts
          (subst (λ (v : Side). IsBare v.main) (sym is)
          (filled_bare side.main pages c.args.count c.requires.bare c.requires.cut))
          (subst (λ (v : Side). are_cells v.main.old v.main.words v.main.layouts starts ≡ true) (sym is)
          (filled_cells side.main pages c.args.count c.requires.cut)),
    )

pub returns-clause-whole : goal.returns-clause-whole
returns-clause-whole c =
    let side : Side = c.args.side.now in
    let pages : PageLists = record {
      words = c.args.pages.words.now;
      layouts = c.args.pages.layouts.now;
      starts = c.args.pages.starts.now;
    } in
    let is : c.fill_layouts.new.side ≡ record side { main = filled side.main pages } =
    c.fill_layouts.ensures ∙ ap (λ (v : Side). record v { main = record v.main { layouts = c.args.pages.layouts.now } })
    c.fill_words.ensures in
    let (cycle, fits, fresh, opens) = c.open_cycle.ensures.opened in
    subst (λ (v : Side). IsWholeGrid v.main c.args.count 0) (sym opens)
    (begun_whole c.fill_layouts.new.side.main cycle pages c.args.count
    (subst (λ (v : Side). AreCutPages pages v.main.old c.args.count) (sym is) c.requires.cut) fits
    (ap (λ (v : Side). v.main.words) is) (ap (λ (v : Side). v.main.layouts) is))
