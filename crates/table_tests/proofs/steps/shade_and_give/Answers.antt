-- Both cells are born, and one that was white waits once it is shaded.
use Rattle.std.proofs.Common.{inl, inr, ℕ, List, [], ◌∷◌, Contains, refl, ap, sym, subst, arith}
use Rattle.core_parts.proofs.Joining.{joined_in}
use Rattle.mark_world.specs.Steps.{joined_if_white}
use Rattle.shared_table.specs.Colours.{number_of}
use Rattle.shared_table.specs.Seats.{Side}
use Rattle.table_tests.proofs.steps.shade_and_give.Goals as goal

pub shade-colour-requires-clause-within : goal.shade-colour-requires-clause-within
shade-colour-requires-clause-within c = elim c.requires.one [
  | inl list ↦ omega (arith, list, c.requires.two.page)
  | inr store ↦ omega (arith, store, c.requires.two.page)
]

pub shade-colour-requires-clause-may : goal.shade-colour-requires-clause-may
shade-colour-requires-clause-may c =
    subst (λ (all : List ℕ). Contains all c.args.at) (sym c.requires.two.born) (elim c.requires.one [
      | inl list ↦ subst (Contains (0 ∷ 3 ∷ [])) (sym list) (0, omega arith, refl)
      | inr store ↦ subst (Contains (0 ∷ 3 ∷ [])) (sym store) (1, omega arith, refl)
    ])

pub give_board-requires-clause-may : goal.give_board-requires-clause-may
give_board-requires-clause-may c =
    let before : Side = c.args.side.now in
    let at : ℕ = c.args.at in
    record {
      on_board = c.requires.on_board;
      had = subst (λ (side : Side). Contains side.main.view.grey at) (sym c.shade-colour.ensures.shaded)
          (subst (λ (colour : ℕ). Contains (joined_if_white before.main.view.grey colour at) at)
          (sym (ap number_of c.in-White.is)) (joined_in before.main.view.grey at));
    }
