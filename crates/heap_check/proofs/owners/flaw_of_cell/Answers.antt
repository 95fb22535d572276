-- A cell whose slots name nothing is passed by.
use Rattle.std.proofs.Common.{sym, ◌∙◌, arith}
use Rattle.std.proofs.lemmas.Bool.{false≢true}
use Rattle.heap_check.proofs.NamedSlots.{names_further, none_in_cell}
use Rattle.heap_check.proofs.owners.flaw_of_cell.Goals as goal

pub flaw_of_names-requires-clause-namer : goal.flaw_of_names-requires-clause-namer
flaw_of_names-requires-clause-namer c = c.is_namer.ensures.0 c.if-is_namer.true

pub returns-else-is_namer-clause-owned : goal.returns-else-is_namer-clause-owned
returns-else-is_namer-clause-owned c =
    names_further (omega arith)
    (none_in_cell c.requires.rows c.requires.stands
    (λ namer. false≢true (sym c.if-is_namer.false ∙ c.is_namer.ensures.1 namer))) c.requires.names
