use Rattle.std.proofs.Common.{ap, refl, sym, ◌∙◌}
use Rattle.std.proofs.lemmas.Bool.{false≢true}
use Rattle.heap_model.specs.Types.{Cell}
use Rattle.heap_model.specs.Images.{image_heap}
use Rattle.heap_model.specs.Heaps.{words_of_cell}
use Rattle.heap_moves.specs.Moved.{moved_to}
use Rattle.slow_check.specs.Moves.{to_of}
use Rattle.slow_check.proofs.CellsMoved.{stands_there, there_is_alike, there_are_moved}
use Rattle.slow_check.proofs.moved_cells.stands_moved.Goals as goal

-- no cell stands at the address
pub returns-in_default : goal.returns-in_default
returns-in_default c = (
  λ wrong. absurd (false≢true wrong),
  λ moved. absurd (c.in_default.ensures (moved_to c.args.cell c.args.now) moved.others moved.has refl),
)

-- the cell there is another one
pub returns-then-not-is_alike : goal.returns-then-not-is_alike
returns-then-not-is_alike c =
    let words = words_of_cell (image_heap c.args.old.now) c.args.cell in
    let found = c.in-Some.ensures in (
      λ wrong. absurd (false≢true wrong),
      λ moved. sym c.if-not-is_alike.true ∙ c.is_alike.ensures.1
          (there_is_alike (image_heap c.args.new.now) (to_of c.args.moves.now) c.args.cell c.in-Some.other words
          c.args.now found.0 found.1 moved),
    )

pub are_moved-requires-clause-long : goal.are_moved-requires-clause-long
are_moved-requires-clause-long c =
    ap (λ (one : Cell). one.size) (c.is_alike.ensures.0 c.if-not-is_alike.false)

pub returns : goal.returns
returns c =
    let new = image_heap c.args.new.now in
    let to = to_of c.args.moves.now in
    let cell = c.args.cell in
    let words = words_of_cell (image_heap c.args.old.now) cell in
    let found = c.in-Some.ensures in (
      λ yes. stands_there new to cell c.in-Some.other words c.args.now found.0 found.1
          (c.is_alike.ensures.0 c.if-not-is_alike.false) (c.are_moved.ensures.0 yes),
      λ moved. c.are_moved.ensures.1
          (there_are_moved new to cell c.in-Some.other words c.args.now found.0 found.1 moved),
    )
