-- A new round keeps the rule.
use Rattle.std.proofs.Common.{◌≡◌, ◌∙◌, ap, arith, rules}
use Rattle.claims.specs.Changes.{owner_of}
use Rattle.claims.specs.Sides.{OwnerSide}
use Rattle.claims.proofs.OwnerSteps.{begin_may}
use Rattle.claims.proofs.owner.Owner.begin.Goals as goal

pub load-requires : goal.load-requires
load-requires c =
    let s = c.self.inside in
    let inv = c.self.invariant in
    let home : (owner_of s.seat.me.0).out ≡ 0 = ap (λ (v : OwnerSide). v.out) c.self.view_is ∙ c.requires.home in (
      search rules,
      omega (arith, c.claims.invariant),
      begin_may _ _ s.seat.id 0 s.seat.me (owner_of s.seat.me.0) inv.id inv.me home,
    )
