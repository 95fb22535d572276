use Rattle.mark_laws.proofs.CellsAfter.{cells_stay, headers_keep_sizes}
use Rattle.mark_laws.proofs.FreeStarts.{free_before}
use Rattle.mark_laws.proofs.Reading.{store_keeps}
use Rattle.mark_laws.proofs.steadiness.laws_of_cells.Goals as goal

pub returns-clause-store : goal.returns-clause-store
returns-clause-store c = store_keeps

pub returns-clause-stay : goal.returns-clause-stay
returns-clause-stay c = cells_stay

pub returns-clause-headers : goal.returns-clause-headers
returns-clause-headers c = headers_keep_sizes

pub returns-clause-free : goal.returns-clause-free
returns-clause-free c = free_before
