use Rattle.std.proofs.Common.{sym}
use Rattle.slow_check.proofs.Young.{young_if_no_page}
use Rattle.slow_check.proofs.remembered.refers_to_young.Goals as goal

pub returns-in-Some-address : goal.returns-in-Some-address
returns-in-Some-address c =
    let image = c.args.image.now in
    young_if_no_page image.regions image.words c.args.at c.in-Some.word c.in-Some-address.cell c.is_page.result
    (sym c.in-Some.ensures) (sym c.in-Some-address.ensures) c.is_page.ensures
