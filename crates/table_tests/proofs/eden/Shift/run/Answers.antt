-- No slot is recorded, so no way leads to another cell than the list.
use Rattle.std.proofs.Common.{ℕ, List, sym, ap, subst}
use Rattle.remembered_set.specs.Recorded.{Recorded}
use Rattle.eden_copies.specs.Eden.{deal_of, MayCopy}
use Rattle.table_tests.proofs.EdenLists.{may_copy}
use Rattle.table_tests.proofs.eden.Shift.run.Goals as goal

pub run-requires-clause-may : goal.run-requires-clause-may
run-requires-clause-may g c =
    let shift = c.args.self in
    subst (λ (slots : List ℕ). MayCopy shift.words.now (deal_of slots c.args.first 2))
    (sym (ap (λ (recorded : Recorded). recorded.slots) shift.none))
    (may_copy shift.words.now c.args.first 2 shift.list)
