-- The cell that the variable refers to is shaded, if it is one of a page.
use Rattle.std.proofs.Common.{◌∙◌, ◌<◌, Contains, ap, sym, subst}
use Rattle.std.proofs.lemmas.Bool.{false≢true}
use Rattle.page_space.specs.Extents.{eden_start}
use Rattle.write_barrier.specs.MutatorState.{Mutator}
use Rattle.cycle_opening.proofs.Shaded.{of_page_by, in_page_by, one_target, grows_nothing, shaded_grows, target_shaded}
use Rattle.cycle_opening.proofs.shading.shade_root.Goals as goal

pub shade-requires-clause-born : goal.shade-requires-clause-born
shade-requires-clause-born c =
    let told = c.regions.ensures.regions ∙ ap (λ (one : Mutator). one.seat.space) c.referred.ensures.same in
    subst (λ (one : Mutator). Contains one.cycle.born c.in-Some.at) (sym c.referred.ensures.same)
    (c.requires.born c.in-Some.at (record {
      holds = c.in-Some.ensures.refers;
      of_page = of_page_by told (c.is_page.ensures.0 c.if-is_page.true);
    }))

pub returns-then-is_page-clause-grows : goal.returns-then-is_page-clause-grows
returns-then-is_page-clause-grows c = shaded_grows c.in-Some.at c.referred.ensures.same c.shade.ensures

pub returns-then-is_page-clause-shaded : goal.returns-then-is_page-clause-shaded
returns-then-is_page-clause-shaded c at refers =
    target_shaded c.in-Some.at c.referred.ensures.same c.shade.ensures c.in-Some.ensures.refers at refers

pub returns-else-is_page-clause-grows : goal.returns-else-is_page-clause-grows
returns-else-is_page-clause-grows c = grows_nothing c.referred.ensures.same

pub returns-else-is_page-clause-shaded : goal.returns-else-is_page-clause-shaded
returns-else-is_page-clause-shaded c at refers =
    let told = c.regions.ensures.regions ∙ ap (λ (one : Mutator). one.seat.space) c.referred.ensures.same in
    let same = one_target at c.in-Some.at refers.holds c.in-Some.ensures.refers in
    let below = subst (λ one. one < eden_start c.args.main.now.seat.space) same refers.of_page in
    absurd (false≢true (sym c.if-is_page.false ∙ c.is_page.ensures.1 (in_page_by told below)))

pub returns-in_default-clause-grows : goal.returns-in_default-clause-grows
returns-in_default-clause-grows c = grows_nothing c.referred.ensures.same
