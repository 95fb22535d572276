use Rattle.mark_laws.proofs.ChangeSteps.{words_are_stored}
use Rattle.mark_laws.proofs.Changes.{apart_is_spared}
use Rattle.mark_laws.proofs.ChangesEnd.{changes_keep, changes_settle, layout_changes_settle, stored_is_sure}
use Rattle.mark_laws.proofs.between.laws_of_changes.Goals as goal

pub returns-clause-words : goal.returns-clause-words
returns-clause-words c = words_are_stored

pub returns-clause-spared : goal.returns-clause-spared
returns-clause-spared c = apart_is_spared

pub returns-clause-keep : goal.returns-clause-keep
returns-clause-keep c = changes_keep

pub returns-clause-settle : goal.returns-clause-settle
returns-clause-settle c = changes_settle

pub returns-clause-layouts : goal.returns-clause-layouts
returns-clause-layouts c = layout_changes_settle

pub returns-clause-stored : goal.returns-clause-stored
returns-clause-stored c = stored_is_sure
