-- The cell stands behind those that were given as seen, if it was not given before.
use Rattle.std.proofs.Common.{◌≡◌, ℕ, ◌⊎◌, ◌↔◌, ◌∙◌, ◌-◌, inl, inr, List, [], ◌∷◌, ◌++◌, Contains, slice_get}
use Rattle.std.proofs.Common.{length, sym, ap, subst, arith}
use Rattle.std.proofs.lemmas.List.{length-append}
use Rattle.cell_list.specs.Listing.{Listing}
use Rattle.cell_list.proofs.Flags.{listed_are_few}
use Rattle.ephemeron_mark.specs.Marked.{Marked}
use Rattle.ephemeron_mark.proofs.AddedWaits.{push_of_new}
use Rattle.ephemeron_mark.proofs.LastPairs.{last_there}
use Rattle.ephemeron_mark.proofs.SeenCells.{given_pushed, first_pushed}
use Rattle.ephemeron_mark.proofs.marking.Marking.give_seen.Goals as goal

pub overflow_add-self : goal.overflow_add-self
overflow_add-self c =
    let is = push_of_new c.self.inside.cells c.push.new.self c.args.at c.push.result c.if-push.true
    c.push.ensures.value in
    omega (
      arith,
      c.self.invariant.fits,
      c.self.invariant.seen,
      listed_are_few c.bring.new.self c.bring.ensures.own,
      c.bring.ensures.count,
      c.bring.ensures.bound,
      c.push.ensures.bound,
      ap (λ (one : Listing). length one.addresses) is,
      length-append c.self.inside.cells.addresses (c.args.at ∷ []),
    )

pub returns-then-push-clause-given : goal.returns-then-push-clause-given
returns-then-push-clause-given c =
    let given = given_pushed c.self.inside.cells c.push.new.self c.args.at c.push.result c.push.ensures.was_new
    c.push.ensures.value in
    subst (λ (all : List ℕ). (other : ℕ) → Contains c.bring.new.self.addresses other
    ↔ (Contains all other ⊎ (other ≡ c.args.at))) (ap (λ (one : Marked). one.cells) c.self.view_is)
    (λ other. (
      λ there. (given other).0 ((c.bring.ensures.members other).0 there),
      λ either. (c.bring.ensures.members other).1 ((given other).1 either),
    ))

pub returns-else-push-clause-given : goal.returns-else-push-clause-given
returns-else-push-clause-given c =
    subst (λ (all : List ℕ). (other : ℕ) → Contains c.push.new.self.addresses other
    ↔ (Contains all other ⊎ (other ≡ c.args.at))) (ap (λ (one : Marked). one.cells) c.self.view_is)
    (given_pushed c.self.inside.cells c.push.new.self c.args.at c.push.result c.push.ensures.was_new
    c.push.ensures.value)

pub returns-then-push-clause-seen : goal.returns-then-push-clause-seen
returns-then-push-clause-seen c =
    let at : ℕ = c.args.at in
    let seen : ℕ = c.self.inside.seen in
    let before : List ℕ = c.self.inside.cells.addresses in
    let mid : List ℕ = c.push.new.self.addresses in
    let is = push_of_new c.self.inside.cells c.push.new.self at c.push.result c.if-push.true c.push.ensures.value in
    let pushed : mid ≡ before ++ at ∷ [] = ap (λ (one : Listing). one.addresses) is in
    let last : length mid - 1 ≡ length before = omega (arith, ap length pushed, length-append before (at ∷ [])) in
    let here = c.bring.ensures.brought ∙ ap (slice_get mid) last
    ∙ ap (λ (all : List ℕ). slice_get all (length before)) pushed ∙ last_there before at in
    let first = first_pushed before mid c.bring.new.self.addresses seen at c.self.invariant.seen pushed
    c.bring.ensures.before here in
    let same_seen = ap (λ (one : Marked). one.seen) c.self.view_is in
    let same_cells = ap (λ (one : Marked). one.cells) c.self.view_is in
    λ other. (
      λ there. elim ((first other).0 there) [
        | inl earlier ↦ inl (subst (λ (all : List ℕ). Contains all other) same_seen earlier)
        | inr same ↦ inr (
          same,
          λ was. c.push.ensures.was_new.0 c.if-push.true
              (subst (λ (all : List ℕ). Contains all at) (sym same_cells) was),
        )
      ],
      λ either. (first other).1 (elim either [
        | inl earlier ↦ inl (subst (λ (all : List ℕ). Contains all other) (sym same_seen) earlier)
        | inr both ↦ inr both.0
      ]),
    )
