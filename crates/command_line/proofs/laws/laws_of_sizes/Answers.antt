use Rattle.command_line.proofs.AskedSizes.{asked_sizes_are_within}
use Rattle.command_line.proofs.AskedForms.{asked_forms_are_few}
use Rattle.command_line.proofs.AskedSoaks.{soaked_sizes_are_within, soaked_forms_are_few}
use Rattle.command_line.proofs.laws.laws_of_sizes.Goals as goal

pub returns-clause-sizes : goal.returns-clause-sizes
returns-clause-sizes c = asked_sizes_are_within

pub returns-clause-soaked_sizes : goal.returns-clause-soaked_sizes
returns-clause-soaked_sizes c = soaked_sizes_are_within

pub returns-clause-forms : goal.returns-clause-forms
returns-clause-forms c = asked_forms_are_few

pub returns-clause-soaked_forms : goal.returns-clause-soaked_forms
returns-clause-soaked_forms c = soaked_forms_are_few
