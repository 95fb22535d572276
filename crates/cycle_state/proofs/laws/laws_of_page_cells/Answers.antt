use Rattle.cycle_state.proofs.PageCells.{page_cells_are_read, page_words_are_read}
use Rattle.cycle_state.proofs.laws.laws_of_page_cells.Goals as goal

pub returns-clause-cells : goal.returns-clause-cells
returns-clause-cells c = page_cells_are_read

pub returns-clause-words : goal.returns-clause-words
returns-clause-words c = page_words_are_read
