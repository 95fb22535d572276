-- The law, as it was proved.
use Rattle.ephemeron_table.proofs.WrittenEntries.{written_entries_show}
use Rattle.ephemeron_table.proofs.laws.laws_of_entries.Goals as goal

pub returns : goal.returns
returns c = record { show = written_entries_show }
