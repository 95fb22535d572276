use Rattle.std.proofs.Common.{ap, length, arith, ◌≡◌, ◌∙◌, MatchOption}
use Rattle.free_runs.specs.Standing.{FitsIn, FitsInNone}
use Rattle.free_runs.proofs.Pages.{else_before}
use Rattle.free_runs.proofs.FreeRuns.page_for.Goals as goal

pub returns : goal.returns
returns c =
    let same : c.deref.result.now ≡ c.args.self.now = c.deref.ensures.value ∙ c.self.view_is in
    let again : c.deref-2.result.now ≡ c.args.self.now = c.deref-2.ensures.value ∙ c.self.view_is in
    let behind : FitsInNone c.args.self.now c.args.n c.self.inside.cursor (length c.args.self.now) =
    λ page from below. rw (← same)
    (c.in_default.ensures page from (omega (arith, below, c.len.ensures, c.deref.ensures.len, ap length same)))
    in
    let before : MatchOption c.page_among-2.result (FitsInNone c.args.self.now c.args.n 0 c.self.inside.cursor)
    (λ page. FitsIn c.args.self.now c.args.n page) =
    rw (← again) c.page_among-2.ensures
    in
    else_before c.args.self.now c.args.n c.self.inside.cursor c.page_among-2.result behind before
