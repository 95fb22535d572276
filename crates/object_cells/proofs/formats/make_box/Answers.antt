-- Both words of a box stand before the layout words.
use Rattle.std.proofs.Common.{ap, arith}
use Rattle.page_space.specs.Extents.{marks_start}
use Rattle.write_barrier.specs.MutatorState.{Mutator}
use Rattle.object_cells.proofs.RestOfWords.{layouts_before_marks}
use Rattle.object_cells.proofs.formats.make_box.Goals as goal

pub set_header-requires-clause-within : goal.set_header-requires-clause-within
set_header-requires-clause-within c =
    omega (arith, c.requires.within, layouts_before_marks c.args.main.now.seat.space)

pub write_slot-requires-clause-within : goal.write_slot-requires-clause-within
write_slot-requires-clause-within c =
    omega (
      arith,
      c.requires.within,
      layouts_before_marks c.args.main.now.seat.space,
      ap (λ (main : Mutator). marks_start main.seat.space) c.set_header.ensures.written,
    )
