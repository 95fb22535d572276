-- The cell is a free start, its change is a safe one, and the target of its new slot is sure.
use Rattle.std.proofs.Common.{◌<◌, ◌+◌, ◌*◌, ◌^◌, ℕ, Contains, slice_index, subst, sym, inl, arith}
use Rattle.tagged_word.proofs.Readings.{reference_to}
use Rattle.shared_table.specs.declared.overview.Overview.{Overview}
use Rattle.shared_table.specs.Seats.{Side}
use Rattle.table_tests.specs.Grids.{IsWholeGrid}
use Rattle.table_tests.proofs.CellSteps.{widened_whole}
use Rattle.table_tests.proofs.Heads.{of_reference}
use Rattle.table_tests.proofs.Widened.{are_sure, is_safe}
use Rattle.table_tests.proofs.grids.widen.Goals as goal

pub store_header-requires-clause-may : goal.store_header-requires-clause-may
store_header-requires-clause-may c =
    let main : Overview = c.store-was_white.new.side.main in
    let whole : IsWholeGrid main c.args.count c.args.trimmed = c.store-was_white.ensures.whole in
    let at : ℕ = 4 * c.args.cell in
    let fits : 4 * c.args.to < 2 ^ 32 = omega (
      arith,
      c.requires.whole.grid.room,
      c.requires.among,
      c.counts-counts.ensures.old,
    ) in
    λ mark. inl (record {
      place = inl (whole.free c.args.cell c.requires.open c.requires.within);
      safe = is_safe main.layouts whole.one_raw whole.none_raw (slice_index main.words at)
          (whole.heads c.args.cell c.requires.open c.requires.within);
      sure = λ free.
          are_sure main.layouts whole.one_raw whole.none_raw main.old main.words main.view at
          (whole.heads c.args.cell c.requires.open c.requires.within)
          (of_reference main.old (slice_index main.words (at + 3)) (4 * c.args.to) (Contains main.view.sure)
          (reference_to (slice_index main.words (at + 3)) (4 * c.args.to) fits c.store-was_white.ensures.word)
          c.store-was_white.ensures.sure);
    })

pub returns-clause-whole : goal.returns-clause-whole
returns-clause-whole c =
    subst (λ (side : Side). IsWholeGrid side.main c.args.count c.args.trimmed) (sym c.store_header.ensures.put)
    (widened_whole c.store-was_white.new.side.main c.args.count c.args.trimmed c.args.cell
    c.requires.open c.requires.within c.store-was_white.ensures.whole)
