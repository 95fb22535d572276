use Rattle.cycle_laws.proofs.LastMarking.{coloured_is_kept, black_slots_lead_on, black_slots_lead_to_starts}
use Rattle.cycle_laws.proofs.LastMarking.{free_pages_are_white}
use Rattle.cycle_laws.proofs.laws.laws_of_ends.Goals as goal

pub returns-clause-coloured : goal.returns-clause-coloured
returns-clause-coloured c = coloured_is_kept

pub returns-clause-black : goal.returns-clause-black
returns-clause-black c = black_slots_lead_on

pub returns-clause-pages : goal.returns-clause-pages
returns-clause-pages c = free_pages_are_white

pub returns-clause-starts : goal.returns-clause-starts
returns-clause-starts c = black_slots_lead_to_starts
