use Rattle.std.proofs.Common.{◌≡◌, ◌∙◌, ap, List}
use Rattle.std.proofs.Math.ListN.{set}
use Rattle.std.proofs.lemmas.List.{set-set}
use Rattle.tagged_word.proofs.Cells.{some_same}
use Rattle.mark_laws.specs.Types.{HelperView}
use Rattle.mark_world.specs.Steps.{helper_learns}
use Rattle.mark_core.proofs.steps.step_view.Goals as goal

pub returns : goal.returns
returns c = λ view there.
    let same : c.replace-view.result ≡ view = some_same c.replace-view.ensures.view there in
    let learned = c.in_ok-learn_helper.ensures in
    c.set.ensures
    ∙ ap (λ (views : List HelperView). set views c.args.helper c.learn_helper.new.view) c.replace-view.ensures.views
    ∙ set-set _ _ _ _
    ∙ ap (λ (v : HelperView). set c.args.views.now c.args.helper v) learned
    ∙ ap (λ (v : HelperView). set c.args.views.now c.args.helper
    (helper_learns c.args.old v c.args.event c.args.found)) same
