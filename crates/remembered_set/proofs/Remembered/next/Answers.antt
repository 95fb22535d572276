use Rattle.std.proofs.Common.{◌≡◌, ◌*◌, length, subst, arith}
use Rattle.page_space.specs.Sizes.{page_words}
use Rattle.remembered_set.specs.Recorded.{IsRecorded}
use Rattle.remembered_set.proofs.Bounds.{bound_is}
use Rattle.remembered_set.proofs.Turns.{none_more, none_from, least_from}
use Rattle.remembered_set.proofs.Remembered.next.Goals as goal

pub returns-in-Some-clause-next : goal.returns-in-Some-clause-next
returns-in-Some-clause-next c =
    least_from c.args.self.now c.args.from c.loop-page.page c.in-Some.slot c.loop-page.invariant c.in-Some.ensures

pub loop-page-preserved : goal.loop-page-preserved
loop-page-preserved c =
    none_more c.args.self.now c.args.from c.loop-page.page c.loop-page.invariant c.in_default.ensures

pub returns-clause-next : goal.returns-clause-next
returns-clause-next c =
    let bound : c.args.self.now.bound ≡ page_words * length c.self.inside.counts.items =
    bound_is c.self.inside c.args.self.now c.self.view_is c.self.invariant in
    none_from c.args.self.now c.args.from c.loop-page.page (subst IsRecorded c.self.view_is c.self.invariant.recorded)
    (omega arith) c.loop-page.invariant

pub overflow_cast-page-end : goal.overflow_cast-page-end
overflow_cast-page-end c =
    let bound = bound_is c.self.inside c.args.self.now c.self.view_is c.self.invariant in
    let is_recorded = subst IsRecorded c.self.view_is c.self.invariant.recorded in
    omega (arith, bound, is_recorded.within)

pub next_in_page-requires : goal.next_in_page-requires
next_in_page-requires c =
    let bound = bound_is c.self.inside c.args.self.now c.self.view_is c.self.invariant in
    omega (arith, bound)
