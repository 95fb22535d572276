use Rattle.tagged_word.proofs.Readings.{layout_from, layout_to}
use Rattle.tagged_word.proofs.CellReadings.{cell_from, cell_to}
use Rattle.tagged_word.proofs.reading.laws_of_readings.Goals as goal

pub returns-clause-layout : goal.returns-clause-layout
returns-clause-layout c = λ word layout. (layout_from word layout, λ h. layout_to word layout h.0 h.1)

pub returns-clause-cell : goal.returns-clause-cell
returns-clause-cell c =
    λ words layouts at bound reading. (cell_from words layouts at bound reading, cell_to words layouts at bound reading)
