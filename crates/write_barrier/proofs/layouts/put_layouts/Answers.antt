-- One layout word more.
use Rattle.std.proofs.Common.{◌<◌, arith}
use Rattle.tagged_word.specs.Shapes.{shapes_most}
use Rattle.shape_tree.specs.ShapeLayouts.{layout_word}
use Rattle.write_barrier.proofs.PutLayouts.{both_all, both_more, puts_more, puts_none, read_unused}
use Rattle.write_barrier.proofs.layouts.put_layouts.Goals as goal

pub loop-shape-init : goal.loop-shape-init
loop-shape-init c = record { changes = puts_none c.args.seat.now; layouts = c.requires.layouts }

pub put_layout-requires-clause-unused : goal.put_layout-requires-clause-unused
put_layout-requires-clause-unused c =
    read_unused c.loop-shape.seat.shared c.args.shapes.now c.loop-shape.shape
    (omega (arith, c.paths-paths.ensures.counted, c.paths-paths.ensures.good.few)) c.loop-shape.invariant.layouts.read

pub loop-shape-preserved : goal.loop-shape-preserved
loop-shape-preserved c =
    let paths = c.args.shapes.now in
    let old = c.loop-shape.seat in
    let new = c.put_layout.new.seat in
    let shape = c.loop-shape.shape in
    let few : shape < shapes_most =
    omega (arith, c.paths-paths.ensures.counted, c.paths-paths.ensures.good.few) in
    record {
      changes = puts_more c.args.seat.now old new shape (layout_word paths shape) few c.loop-shape.invariant.changes
          c.put_layout.ensures;
      layouts = both_more old new paths shape few c.put_layout.ensures c.loop-shape.invariant.layouts;
    }

pub returns-clause-layouts : goal.returns-clause-layouts
returns-clause-layouts c =
    both_all c.loop-shape.seat c.args.shapes.now c.loop-shape.shape c.loop-shape.invariant.layouts
    (omega (arith, c.paths-paths.ensures.counted))
