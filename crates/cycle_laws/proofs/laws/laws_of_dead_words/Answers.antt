use Rattle.cycle_laws.proofs.DeadWords.{opens_avoiding_dead, changes_avoid_dead, bindings_avoid_dead}
use Rattle.cycle_laws.proofs.DeadWords.{new_objects_avoid_dead, scavenges_avoid_dead, live_has_no_dead_word}
use Rattle.cycle_laws.proofs.LostWords.{lost_words_are_listed}
use Rattle.cycle_laws.proofs.laws.laws_of_dead_words.Goals as goal

pub returns-clause-lost : goal.returns-clause-lost
returns-clause-lost c = lost_words_are_listed

pub returns-clause-open : goal.returns-clause-open
returns-clause-open c = opens_avoiding_dead

pub returns-clause-changes : goal.returns-clause-changes
returns-clause-changes c = changes_avoid_dead

pub returns-clause-bindings : goal.returns-clause-bindings
returns-clause-bindings c = bindings_avoid_dead

pub returns-clause-objects : goal.returns-clause-objects
returns-clause-objects c = new_objects_avoid_dead

pub returns-clause-scavenges : goal.returns-clause-scavenges
returns-clause-scavenges c = scavenges_avoid_dead

pub returns-clause-live : goal.returns-clause-live
returns-clause-live c = live_has_no_dead_word
