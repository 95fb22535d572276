-- The limit of eden is behind its used words, and that of any other region is its end.
use Rattle.std.proofs.Common.{ℕ, ◌+◌, sym, ◌∙◌, subst, arith}
use Rattle.page_space.specs.Extents.{Space, IsIn}
use Rattle.page_space.specs.RegionLaws.{IsSpace}
use Rattle.page_space.proofs.Limits.{words_count_most}
use Rattle.heap_model.specs.RegionRows.{StandsBetween}
use Rattle.heap_model.proofs.RegionRows.{start_inside}
use Rattle.heap_walk.specs.Limits.{IsLimit}
use Rattle.heap_walk.proofs.RowLimits.{told_inside, end_is_limit, used_is_limit}
use Rattle.heap_walk.proofs.rows.row_limit.Goals as goal

pub overflow_add-result : goal.overflow_add-result
overflow_add-result c =
    let space = c.args.main.now.seat.space in
    let limits = c.regions.ensures.within in
    omega (
      arith,
      start_inside space c.args.start c.args.end limits c.requires.stands,
      words_count_most space limits,
      c.requires.few,
      c.used.ensures.used,
      limits.young,
    )

pub returns-in-Eden : goal.returns-in-Eden
returns-in-Eden c heap space used rows =
    let limits = c.regions.ensures.within in
    let inside = told_inside c.args.main.now.seat.space c.regions.result c.args.start c.args.end c.region.result limits
    c.requires.stands c.regions.ensures.regions c.region.ensures.inside in
    let back = sym space in
    let Limit : ℕ → Type 0 = λ words. IsLimit heap c.args.start c.args.end (c.args.start + words) in
    subst Limit (used ∙ sym c.used.ensures.used)
    (used_is_limit heap c.args.start c.args.end c.region.result (subst (λ (one : Space). IsSpace one) back limits) rows
    (subst (λ (one : Space). StandsBetween one c.args.start c.args.end) back c.requires.stands)
    (subst (λ (one : Space). IsIn one c.args.start c.region.result) back inside) c.in-Eden.is)

pub returns-in_default : goal.returns-in_default
returns-in_default c heap space used rows =
    let limits = c.regions.ensures.within in
    let inside = told_inside c.args.main.now.seat.space c.regions.result c.args.start c.args.end c.region.result limits
    c.requires.stands c.regions.ensures.regions c.region.ensures.inside in
    let back = sym space in
    end_is_limit heap c.args.start c.args.end c.region.result (subst (λ (one : Space). IsSpace one) back limits)
    (subst (λ (one : Space). StandsBetween one c.args.start c.args.end) back c.requires.stands)
    (subst (λ (one : Space). IsIn one c.args.start c.region.result) back inside) c.in_default.not-Eden
