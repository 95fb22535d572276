use Rattle.script_laws.proofs.Begins as begins
use Rattle.script_laws.proofs.versions_stand_first.Goals as goal

pub returns : goal.returns
returns c = begins.versions_stand_first
