-- Both laws are proved for all heaps.
use Rattle.lent_eden.proofs.Lending.{begun_may_be_lent, shown_heaps_may_be_lent}
use Rattle.lent_eden.proofs.laws.laws_of_lending.Goals as goal

pub returns : goal.returns
returns c = record { begun = begun_may_be_lent; shown = shown_heaps_may_be_lent }
