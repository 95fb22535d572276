-- Where there is no target nothing happens.
use Rattle.std.proofs.Common.{◌≡◌, ℕ, None, sym, ap, subst, ◌∙◌}
use Rattle.page_space.specs.Extents.{Space, eden_start}
use Rattle.mark_world.specs.Pages.{target}
use Rattle.mark_barrier.proofs.Steps.{none_shaded}
use Rattle.mark_barrier.proofs.shading.shade_target.Goals as goal

pub returns-in_default-clause-steps : goal.returns-in_default-clause-steps
returns-in_default-clause-steps c =
    let old : c.pages_end.result ≡ eden_start c.args.seat.now.space =
    c.pages_end.ensures ∙ ap (λ (space : Space). eden_start space) c.regions.ensures.regions in
    none_shaded c.args.seat.now c.args.word.0 c.colours_fit.ensures.shared
    (subst (λ (n : ℕ). target n c.args.word.0 ≡ None) old (sym c.target.ensures ∙ c.in_default.is))
