-- Where runs, layout words and root words stand among the words before the marks.
use Rattle.std.proofs.Common.{◌≡◌, ℕ, ◌+◌, ◌<◌, ◌≤◌, refl, arith}
use Rattle.page_space.specs.Extents.{Space, eden_start, segments_start, layouts_start, marks_start}
use Rattle.std.proofs.lemmas.Bool.Decides.{nat_tests}
use Rattle.page_space.proofs.Starts.{roots_start_is, layouts_start_is, marks_start_is}
use Rattle.nursery.specs.Young.{Young, IsYoung, HasRoom, next_of}
use Rattle.shape_tree.specs.Shapes.{AreShapes}
use Rattle.shape_tree.specs.ShapeLayouts.{IsInUse}
use Rattle.std.specs.Prelude.{List}
use Rattle.heap_model.specs.Types.{Path}
use Rattle.write_barrier.specs.MutatorState.{IsNextRun}

-- words that there is room for end before the segments, so before the marks
pub next_run : (young : Young) (n at : ℕ) → IsYoung young → at ≡ next_of young → HasRoom young n
    → IsNextRun young n (record { at = at; words = n })
next_run young n at is_young is room =
    let in_cells : at + n ≤ segments_start young.space =
    grind (arith, nat_tests, is_young.granted, is_young.fits, is, room) in
    record {
      at = is;
      words = refl;
      in_cells = in_cells;
      before_marks = omega (
        arith,
        in_cells,
        roots_start_is young.space,
        layouts_start_is young.space,
        marks_start_is young.space,
      );
    }

-- what ends where eden begins, or before, ends before the marks
pub page_run : (space : Space) (end : ℕ) → end ≤ eden_start space → end ≤ marks_start space
page_run space end below =
    omega (arith, below, roots_start_is space, layouts_start_is space, marks_start_is space)

-- the layout word of a shape in use stands before the marks
pub layout_before_marks : (space : Space) (paths : List Path) (shape : ℕ) → AreShapes paths → IsInUse paths shape
    → layouts_start space + shape < marks_start space
layout_before_marks space paths shape are in_use = omega (arith, marks_start_is space, are.few, in_use.below)

-- the layout words begin among the words of the table
pub layouts_within : (space : Space) → layouts_start space ≤ marks_start space
layouts_within space = omega (arith, marks_start_is space)
