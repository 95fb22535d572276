-- The law, as it was proved.
use Rattle.ephemeron_table.proofs.PairNames.{written_pairs_are_own}
use Rattle.ephemeron_table.proofs.laws.laws_of_pairs.Goals as goal

pub returns : goal.returns
returns c = record { own = written_pairs_are_own }
