-- The cell is given, and what was is still.
use Rattle.std.proofs.Common.{◌≡◌, ℕ, ◌⊎◌, ◌↔◌, ◌∙◌, List, Contains, ap, subst}
use Rattle.ephemeron_mark.specs.Marked.{Marked}
use Rattle.ephemeron_mark.proofs.SeenCells.{given_pushed, first_stay}
use Rattle.ephemeron_mark.proofs.marking.Marking.give.Goals as goal

pub returns-clause-given : goal.returns-clause-given
returns-clause-given c =
    subst (λ (all : List ℕ). (other : ℕ) → Contains c.push.new.self.addresses other
    ↔ (Contains all other ⊎ (other ≡ c.args.at))) (ap (λ (one : Marked). one.cells) c.self.view_is)
    (given_pushed c.self.inside.cells c.push.new.self c.args.at c.push.result c.push.ensures.was_new
    c.push.ensures.value)

pub returns-clause-seen : goal.returns-clause-seen
returns-clause-seen c =
    first_stay c.self.inside.cells c.push.new.self c.self.inside.seen c.args.at c.push.result c.self.invariant.seen
    c.push.ensures.value
    ∙ ap (λ (one : Marked). one.seen) c.self.view_is
