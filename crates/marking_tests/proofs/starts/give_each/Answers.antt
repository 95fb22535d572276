-- One cell more is given at each place.
use Rattle.std.proofs.Common.{ℕ, ◌<◌, inl, inr, List, Contains, length, refl, sym, ◌∙◌, subst, arith}
use Rattle.marking_tests.proofs.GivenCells.{read_is_in}
use Rattle.marking_tests.proofs.starts.give_each.Goals as goal

pub loop-place-init : goal.loop-place-init
loop-place-init c = record { stand = c.requires.stand; seen = λ at there. inl there; bound = refl }

pub give-requires-clause-bound : goal.give-requires-clause-bound
give-requires-clause-bound c = c.loop-place.invariant.bound ∙ c.requires.bound

pub loop-place-preserved : goal.loop-place-preserved
loop-place-preserved c =
    let given : List ℕ = c.args.given.now in
    let within : c.loop-place.place < length given = omega (arith, c.loop-place-test.true) in
    record {
      stand = c.give.ensures.stand;
      seen = λ at there. elim (c.give.ensures.seen at there) [
        | inl before ↦ c.loop-place.invariant.seen at before
        | inr both ↦ inr (both.0, subst (Contains given) (sym both.1) (read_is_in given c.loop-place.place within))
      ];
      bound = c.give.ensures.bound ∙ c.loop-place.invariant.bound;
    }

pub returns-then-not-give-clause-seen : goal.returns-then-not-give-clause-seen
returns-then-not-give-clause-seen c =
    let given : List ℕ = c.args.given.now in
    let within : c.loop-place.place < length given = omega (arith, c.loop-place-test.true) in
    λ at there. elim (c.give.ensures.seen at there) [
      | inl before ↦ c.loop-place.invariant.seen at before
      | inr both ↦ inr (both.0, subst (Contains given) (sym both.1) (read_is_in given c.loop-place.place within))
    ]

pub returns-then-not-give-clause-bound : goal.returns-then-not-give-clause-bound
returns-then-not-give-clause-bound c = c.give.ensures.bound ∙ c.loop-place.invariant.bound
