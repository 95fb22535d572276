use Rattle.std.proofs.Common.{sym, ◌∙◌}
use Rattle.std.proofs.lemmas.Bool.{false≢true}
use Rattle.heap_model.specs.Images.{image_heap}
use Rattle.slow_check.specs.Moves.{to_of}
use Rattle.slow_check.proofs.ComersFound.{from_found}
use Rattle.slow_check.proofs.moved_cells.is_from.Goals as goal

pub returns : goal.returns
returns c =
    rw c.is_some.ensures
    (from_found (image_heap c.args.old.now) (to_of c.args.moves.now) c.args.cell c.comer_from.result
    (λ unused. false≢true (sym c.if-is_unused.false ∙ c.is_unused.ensures.1 unused)) c.comer_from.ensures)
