use Rattle.mark_laws.proofs.MainStays.{main_sound_stays}
use Rattle.mark_laws.proofs.PagesTell.{pages_tell, whole_main}
use Rattle.mark_laws.proofs.cycles.laws_of_pages.Goals as goal

pub returns-clause-main : goal.returns-clause-main
returns-clause-main c = whole_main

pub returns-clause-alike : goal.returns-clause-alike
returns-clause-alike c = pages_tell

pub returns-clause-stays : goal.returns-clause-stays
returns-clause-stays c = main_sound_stays
