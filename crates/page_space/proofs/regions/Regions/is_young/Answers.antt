use Rattle.std.proofs.Common.{arith}
use borrow.Author.Tests.{ltb-true, leb-true}
use Rattle.std.proofs.lemmas.Bool.{lt-ltb}
use Rattle.page_space.proofs.CellAddresses.{young_are}
use Rattle.page_space.proofs.Computed.{computed_for}
use Rattle.page_space.proofs.regions.Regions.is_young.Goals as goal

pub returns-then-self-a : goal.returns-then-self-a
returns-then-self-a c =
    let is = computed_for c.self.inside c.args.self.now c.self.view_is c.self.invariant in
    let young = young_are c.args.self.now c.args.a is.numbers.within in (
      λ holds. young.0 (record { from = omega arith; below = omega (arith, ltb-true _ _ holds) }),
      λ inside. let place = young.1 inside in lt-ltb _ _ (omega (arith, place.below)),
    )

pub returns-else-self-a : goal.returns-else-self-a
returns-else-self-a c =
    let is = computed_for c.self.inside c.args.self.now c.self.view_is c.self.invariant in
    let young = young_are c.args.self.now c.args.a is.numbers.within in (
      λ holds. absurd (omega (arith, leb-true _ _ holds)),
      λ inside. let place = young.1 inside in absurd (omega (arith, place.from)),
    )
