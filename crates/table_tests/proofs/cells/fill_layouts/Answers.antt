-- One layout word more is put after each turn.
use Rattle.std.proofs.Common.{◌≡◌, ◌∙◌, ◌<◌, ℕ, List, length, refl, ap, sym, arith}
use Rattle.mark_laws.specs.Types.{Spot}
use Rattle.shared_table.specs.declared.phase.Phase.TheVariants.{Quiet}
use Rattle.shared_table.specs.Seats.{Side}
use Rattle.shared_table.specs.Spots.{with_spot}
use Rattle.table_tests.proofs.Filled.{filled_all, filled_more, length-filled, with_layouts}
use Rattle.table_tests.proofs.cells.fill_layouts.Goals as goal

pub loop-shape-init : goal.loop-shape-init
loop-shape-init c = refl

pub put_layout-requires-clause-idle : goal.put_layout-requires-clause-idle
put_layout-requires-clause-idle c = λ marks.
    let quiet : c.loop-shape.side.main.phase ≡ Quiet =
    ap (λ (v : Side). v.main.phase) c.loop-shape.invariant ∙ c.requires.bare.phase in
    absurd cc

pub put_layout-requires-clause-within : goal.put_layout-requires-clause-within
put_layout-requires-clause-within c =
    let entry : Side = c.args.side.now in
    let shape : ℕ = c.loop-shape.shape in
    let layouts : List ℕ = c.args.layouts.now in
    let same : length layouts ≡ length entry.main.layouts = c.requires.count ∙ sym c.requires.bare.layouts in
    let inside : shape < length layouts = omega (
      arith,
      c.counts-counts.ensures.layouts,
      same,
      c.loop-shape-test.true,
    ) in
    omega (
      arith,
      inside,
      ap (λ (v : Side). length v.main.layouts) c.loop-shape.invariant,
      length-filled shape layouts entry.main.layouts same,
    )

pub loop-shape-preserved : goal.loop-shape-preserved
loop-shape-preserved c =
    let entry : Side = c.args.side.now in
    let shape : ℕ = c.loop-shape.shape in
    let layouts : List ℕ = c.args.layouts.now in
    let same : length layouts ≡ length entry.main.layouts = c.requires.count ∙ sym c.requires.bare.layouts in
    let inside : shape < length layouts = omega (
      arith,
      c.counts-counts.ensures.layouts,
      same,
      c.loop-shape-test.true,
    ) in
    c.put_layout.ensures.put
    ∙ ap (λ (v : Side). record v { main = with_spot v.main (Spot.Layout shape) c.word_at.result })
    c.loop-shape.invariant
    ∙ ap (λ (ws : List ℕ). record entry { main = record entry.main { layouts = ws } })
    (filled_more shape layouts entry.main.layouts c.word_at.result c.word_at.ensures inside same)

pub returns : goal.returns
returns c =
    let entry : Side = c.args.side.now in
    let layouts : List ℕ = c.args.layouts.now in
    let same : length layouts ≡ length entry.main.layouts = c.requires.count ∙ sym c.requires.bare.layouts in
    let end : c.loop-shape.shape ≡ length layouts = omega (
      arith,
      c.counts-counts.ensures.layouts,
      same,
      c.loop-shape-test.false,
      c.loop-shape.auto.shape-end,
    ) in
    c.loop-shape.invariant
    ∙ ap (λ (i : ℕ). with_layouts i layouts entry) end
    ∙ ap (λ (ws : List ℕ). record entry { main = record entry.main { layouts = ws } })
    (filled_all layouts entry.main.layouts same)
