-- Variables are gone through by their numbers.
use Rattle.std.proofs.Common.{Contains, refl, sym, ◌∙◌, ap, subst, arith}
use Rattle.page_space.specs.Extents.{Space}
use Rattle.write_barrier.specs.MutatorState.{Mutator}
use Rattle.cycle_opening.proofs.Shaded.{all_shaded, grows_again, grows_nothing, next_shaded, refers_same}
use Rattle.cycle_opening.proofs.shading.shade_roots.Goals as goal

pub loop-variable-init : goal.loop-variable-init
loop-variable-init c = record {
  grows = grows_nothing refl;
  shaded = λ variable at below. absurd (omega (arith, below));
}

pub shade_root-requires-clause-born : goal.shade_root-requires-clause-born
shade_root-requires-clause-born c at refers =
    let grows = c.loop-variable.invariant.grows in
    let many = ap (λ (one : Space). one.variables) c.regions.ensures.regions in
    subst (λ (one : Mutator). Contains one.cycle.born at) (sym grows.is)
    (c.requires.born c.loop-variable.variable at
    (omega (arith, c.loop-variable-test.true, c.variables-variable-end.ensures, many)) (refers_same grows refers))

pub loop-variable-preserved : goal.loop-variable-preserved
loop-variable-preserved c = record {
  grows = grows_again c.loop-variable.invariant.grows c.shade_root.ensures.grows;
  shaded = next_shaded c.loop-variable.variable c.loop-variable.invariant.grows c.shade_root.ensures.grows
      c.loop-variable.invariant.shaded c.shade_root.ensures.shaded;
}

pub returns-clause-shaded : goal.returns-clause-shaded
returns-clause-shaded c =
    let many = ap (λ (one : Space). one.variables) c.regions.ensures.regions in
    all_shaded c.loop-variable.invariant.grows (c.variables-variable-end.ensures ∙ many)
    (λ variable at below. c.loop-variable.invariant.shaded variable at
    (omega (arith, below, c.loop-variable-test.false)))
