use Rattle.scavenger.proofs.FollowSlots.{renaming_goes_on}
use Rattle.scavenger.proofs.Following.{copying_goes_on}
use Rattle.scavenger.proofs.laws.laws_of_following.Goals as goal

pub returns : goal.returns
returns c = record { copying = copying_goes_on; renaming = renaming_goes_on }
