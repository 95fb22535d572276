-- The seen cells are those that were looked at.
use Rattle.std.proofs.Common.{ℕ, inl, inr, List, Contains, ◌∙◌, ap, subst, arith}
use Rattle.std.proofs.lemmas.Bool.{false≢true}
use Rattle.ephemeron_mark.specs.Marked.{Marked}
use Rattle.marking_tests.proofs.starts.give_all.Goals as goal

pub give_each-requires-clause-bound : goal.give_each-requires-clause-bound
give_each-requires-clause-bound c = ap (λ (one : Marked). one.bound) c.begin.ensures ∙ c.requires.bound

pub give_each-requires-clause-stand : goal.give_each-requires-clause-stand
give_each-requires-clause-stand c at there =
    let none = subst (λ (all : List ℕ). Contains all at) (ap (λ (one : Marked). one.cells) c.begin.ensures) there in
    absurd (omega (arith, none.1))

pub returns-clause-seen : goal.returns-clause-seen
returns-clause-seen c listed from to there weak slot =
    elim (c.give_each-2.ensures.seen from there) [
      | inl before ↦ elim (c.give_each.ensures.seen from before) [
        | inl earlier ↦
            let none = subst (λ (all : List ℕ). Contains all from) (ap (λ (one : Marked). one.seen) c.begin.ensures)
            earlier in
            absurd (omega (arith, none.1))
        | inr both ↦ subst (λ (all : List ℕ). Contains all to) c.cells.ensures.cells
            (c.lead_on.ensures listed from to both.1 weak slot)
      ]
      | inr both ↦ absurd (false≢true both.0)
    ]
