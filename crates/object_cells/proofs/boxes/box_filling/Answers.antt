-- A box that stands, or is made, has two words before the layout words.
use Rattle.std.proofs.Common.{arith}
use Rattle.heap_model.specs.Needs.{box_words}
use Rattle.object_cells.proofs.RestOfWords.{layouts_before_marks}
use Rattle.object_cells.proofs.UnusedWords.{next_before_layouts}
use Rattle.object_cells.proofs.boxes.box_filling.Goals as goal

pub box_in-requires : goal.box_in-requires
box_in-requires c at refers =
    omega (arith, c.requires.within at refers, layouts_before_marks c.args.main.now.seat.space)

pub returns-clause-in_cells : goal.returns-clause-in_cells
returns-clause-in_cells c =
    omega (
      arith,
      next_before_layouts c.args.main.now box_words c.requires.tied c.in_ok-run.ensures.room,
      c.in_ok-run.ensures.run.at,
    )
