use Rattle.scav_copy.proofs.Reading.{copies_end, copies_read}
use Rattle.scav_copy.proofs.laws.laws_of_home_copies.Goals as goal

pub returns : goal.returns
returns c = record { ends = copies_end; read = copies_read }
