-- One layout word more is put after each turn.
use Rattle.std.proofs.Common.{◌≡◌, ◌<◌, ℕ, List, length, slice_set, refl, sym, ap, subst, ◌∙◌, arith}
use Rattle.shared_table.specs.declared.phase.Phase.TheVariants.{Quiet}
use Rattle.heap_table.specs.Seats.{Seat}
use Rattle.heap_table.specs.Overviews.{overview}
use Rattle.table_tests.specs.BareSeats.{IsBareSeat}
use Rattle.table_tests.proofs.Filled.{filled_all, filled_more, filled_to}
use Rattle.table_tests.proofs.PutSeats.{bare_layout, read_layouts}
use Rattle.table_tests.proofs.barrier.fill_shapes.Goals as goal

pub loop-shape-init : goal.loop-shape-init
loop-shape-init c = record { bare = c.requires.bare; space = refl; layouts = refl }

pub put_layout-requires-clause-idle : goal.put_layout-requires-clause-idle
put_layout-requires-clause-idle c = λ marks.
    let quiet : c.loop-shape.seat.phase ≡ Quiet = c.loop-shape.invariant.bare.bare.phase in
    absurd cc

pub loop-shape-preserved : goal.loop-shape-preserved
loop-shape-preserved c =
    let seat : Seat = c.loop-shape.seat in
    let shape : ℕ = c.loop-shape.shape in
    let layouts : List ℕ = c.args.layouts.now in
    let before : List ℕ = (overview c.args.seat.now).layouts in
    let same : length layouts ≡ length before = c.requires.count ∙ sym c.requires.bare.bare.layouts in
    let inside : shape < length layouts = omega (arith, c.requires.count, c.loop-shape-test.true) in
    record {
      bare = subst IsBareSeat (sym c.put_layout.ensures.put) (bare_layout seat shape c.word_at.result
          c.loop-shape.invariant.bare);
      space = ap (λ (s : Seat). s.space) c.put_layout.ensures.put ∙ c.loop-shape.invariant.space;
      layouts = ap (λ (s : Seat). (overview s).layouts) c.put_layout.ensures.put
          ∙ read_layouts seat shape c.word_at.result c.loop-shape.invariant.bare
          ∙ ap (λ (ls : List ℕ). slice_set ls shape c.word_at.result) c.loop-shape.invariant.layouts
          ∙ filled_more shape layouts before c.word_at.result c.word_at.ensures inside same;
    }

pub returns-clause-layouts : goal.returns-clause-layouts
returns-clause-layouts c =
    let layouts : List ℕ = c.args.layouts.now in
    let before : List ℕ = (overview c.args.seat.now).layouts in
    let same : length layouts ≡ length before = c.requires.count ∙ sym c.requires.bare.bare.layouts in
    let end : c.loop-shape.shape ≡ length layouts =
    omega (arith, c.requires.count, c.loop-shape-test.false, c.loop-shape.auto.shape-end) in
    c.loop-shape.invariant.layouts ∙ ap (λ (i : ℕ). filled_to i layouts before) end ∙ filled_all layouts before same
