use Rattle.std.proofs.Common.{◌≡◌, ◌*◌, length, subst, ◌∙◌, arith}
use Rattle.page_space.specs.Sizes.{page_words}
use Rattle.remembered_set.specs.Recorded.{IsRecorded}
use Rattle.remembered_set.proofs.Ascending.{is_forgotten}
use Rattle.remembered_set.proofs.Bounds.{bound_is}
use Rattle.remembered_set.proofs.Turns.{forgotten_more, forgotten_all}
use Rattle.remembered_set.proofs.Remembered.forget_range.Goals as goal

pub loop-page-preserved : goal.loop-page-preserved
loop-page-preserved c = record {
  forgotten = forgotten_more c.args.self.now c.loop-page.self c.forget_in_page.new.self c.args.from c.args.to
      c.loop-page.page c.loop-page.invariant.forgotten c.forget_in_page.ensures.forgotten;
  bound = c.forget_in_page.ensures.bound ∙ c.loop-page.invariant.bound;
  recorded = c.forget_in_page.ensures.own;
}

pub returns-clause-forgotten : goal.returns-clause-forgotten
returns-clause-forgotten c =
    let bound : c.args.self.now.bound ≡ page_words * length c.self.inside.counts.items =
    bound_is c.self.inside c.args.self.now c.self.view_is c.self.invariant in
    forgotten_all c.args.self.now c.loop-page.self c.args.from c.args.to (length c.self.inside.counts.items)
    c.loop-page.page (subst IsRecorded c.self.view_is c.self.invariant.recorded) bound (omega arith)
    c.loop-page.invariant.forgotten

pub returns-clause-value : goal.returns-clause-value
returns-clause-value c =
    is_forgotten c.args.self.now c.loop-page.self c.args.from c.args.to
    (subst IsRecorded c.self.view_is c.self.invariant.recorded) c.loop-page.invariant.recorded
    c.loop-page.invariant.bound (returns-clause-forgotten c)

pub overflow_cast-len : goal.overflow_cast-len
overflow_cast-len c =
    let bound = bound_is c.self.inside c.args.self.now c.self.view_is c.self.invariant in
    let is_recorded = subst IsRecorded c.self.view_is c.self.invariant.recorded in
    omega (arith, bound, is_recorded.within)

pub forget_in_page-requires : goal.forget_in_page-requires
forget_in_page-requires c =
    let bound = bound_is c.self.inside c.args.self.now c.self.view_is c.self.invariant in
    omega (arith, bound, c.loop-page.invariant.bound)
