-- The laws, as they were proved.
use Rattle.array_trim.proofs.ShiftedLists.{shifted_list_shows}
use Rattle.array_trim.proofs.TruncatedLists.{truncated_list_shows}
use Rattle.array_trim.proofs.laws.laws_of_trims.Goals as goal

pub returns : goal.returns
returns c = record { shift = shifted_list_shows; truncate = truncated_list_shows }
