-- The rule says what was claimed.
use Rattle.std.proofs.Common.{◌≡◌, ◌∙◌, ap, subst, arith, rules}
use Rattle.claims.specs.Claimed.{AreApart, AreAmong, together}
use Rattle.claims.specs.Changes.{owner_of}
use Rattle.claims.specs.Sides.{OwnerSide}
use Rattle.claims.proofs.OwnerSteps.{end_may}
use Rattle.claims.proofs.owner.Owner.end.Goals as goal

pub load-requires : goal.load-requires
load-requires c =
    let s = c.self.inside in
    let inv = c.self.invariant in
    let home : (owner_of s.seat.me.0).out ≡ 0 = ap (λ (v : OwnerSide). v.out) c.self.view_is ∙ c.requires.home in (
      search rules,
      omega (arith, c.claims.invariant),
      end_may _ _ s.seat.id 0 s.seat.me (owner_of s.seat.me.0) inv.id inv.me home,
    )

pub returns-clause-once : goal.returns-clause-once
returns-clause-once c = subst (λ (v : OwnerSide). AreApart (together v.made)) c.self.view_is c.load.ensures.2.1

pub returns-clause-seen : goal.returns-clause-seen
returns-clause-seen c = subst (λ (v : OwnerSide). AreAmong v.seen (together v.made)) c.self.view_is c.load.ensures.2.2
