-- The cell was listed, or passed over.
use Rattle.std.proofs.Common.{sym, subst}
use Rattle.std.specs.Prelude.{MatchOption}
use Rattle.cell_list.specs.Listing.{Listing}
use Rattle.mark_barrier.specs.Waiting.{IsEmpty, TakesOff, Waiting}
use Rattle.mark_barrier.proofs.Popped.{off_list, off_other}
use Rattle.mark_barrier.proofs.grey_cells.GreyCells.next.Goals as goal

pub returns-in-Some-clause-taken : goal.returns-in-Some-clause-taken
returns-in-Some-clause-taken c =
    let now : Waiting = record { list = c.pop.new.self; passed = c.self.inside.passed } in
    subst (λ (w : Waiting). TakesOff w now c.in-Some.at) c.self.view_is
    (off_list c.self.inside.list c.pop.new.self c.in-Some.at c.in-Some.ensures.last c.self.inside.passed
    c.pop.ensures.bound)

pub returns-in-None-clause-taken : goal.returns-in-None-clause-taken
returns-in-None-clause-taken c =
    let list : Listing = c.self.inside.list in
    let rest : Listing = c.pop-in-None.new.self in
    subst (λ (w : Waiting). MatchOption c.pop-in-None.result (IsEmpty w)
    (TakesOff w (record { list = c.pop.new.self; passed = rest }))) c.self.view_is
    (subst (λ (l : Listing). MatchOption c.pop-in-None.result
    (IsEmpty (record { list = list; passed = c.self.inside.passed }))
    (TakesOff (record { list = list; passed = c.self.inside.passed }) (record { list = l; passed = rest })))
    (sym c.in-None.ensures.unchanged)
    (off_other c.self.inside.passed rest list c.pop-in-None.result c.in-None.ensures.last c.pop-in-None.ensures.last
    c.pop-in-None.ensures.bound))
