use Rattle.mark_laws.proofs.BlackLeads.{black_leads_on}
use Rattle.mark_laws.proofs.Led.{led_is_black, sure_is_black}
use Rattle.mark_laws.proofs.RestartSettles.{restarts_stay_settled}
use Rattle.mark_laws.proofs.WholeAgain.{restarts_stay_whole}
use Rattle.mark_laws.proofs.cycles.laws_of_cycles.Goals as goal

pub returns-clause-led : goal.returns-clause-led
returns-clause-led c = led_is_black

pub returns-clause-sure : goal.returns-clause-sure
returns-clause-sure c = sure_is_black

pub returns-clause-black : goal.returns-clause-black
returns-clause-black c = black_leads_on

pub returns-clause-restart : goal.returns-clause-restart
returns-clause-restart c = restarts_stay_whole

pub returns-clause-settled : goal.returns-clause-settled
returns-clause-settled c = restarts_stay_settled
