use Rattle.mark_laws.proofs.SoundWorlds.{sound_stays}
use Rattle.mark_laws.proofs.soundness.laws_of_soundness.Goals as goal

pub returns : goal.returns
returns c = sound_stays
