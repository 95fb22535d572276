-- The cell is passed over, where it is black.
use Rattle.std.proofs.Common.{inl, inr, ℕ, refl, sym, ap, subst, ◌∙◌, Contains, slice_index}
use Rattle.shared_table.specs.Colours.{number_of}
use Rattle.shared_table.proofs.ColourNumbers.{black_is}
use Rattle.heap_table.specs.Overviews.{overview}
use Rattle.heap_table.specs.Seats.{Seat}
use Rattle.mark_barrier.specs.Waiting.{Waiting}
use Rattle.mark_barrier.proofs.grey_cells.GreyCells.passes.Goals as goal

pub returns-in-Black-clause-told : goal.returns-in-Black-clause-told
returns-in-Black-clause-told c = (λ _. (c.add.ensures.members c.args.at).1 (inr refl), λ _. refl)

pub returns-in-Black-clause-others : goal.returns-in-Black-clause-others
returns-in-Black-clause-others c one other = (
  λ on. subst (λ (w : Waiting). Contains w.passed.addresses one) c.self.view_is
      (elim ((c.add.ensures.members one).0 on) [ inl was ↦ was | inr is ↦ absurd (other is) ]),
  λ on. (c.add.ensures.members one).1
      (inl (subst (λ (w : Waiting). Contains w.passed.addresses one) (sym c.self.view_is) on)),
)

pub returns-in_default-clause-not_black : goal.returns-in_default-clause-not_black
returns-in_default-clause-not_black c other home is =
    c.in_default.not-Black (black_is c.colour.result (c.colour.ensures.home home ∙ is))

pub returns-in-Black-clause-black : goal.returns-in-Black-clause-black
returns-in-Black-clause-black c one on home =
    let seat : Seat = c.args.seat.now in
    elim ((c.add.ensures.members one).0 on) [
      | inl was ↦ c.requires.black one
          (subst (λ (w : Waiting). Contains w.passed.addresses one) c.self.view_is was) home
      | inr is ↦
          ap (λ (a : ℕ). slice_index (overview seat).colours a) is
          ∙ sym (c.colour.ensures.home home) ∙ ap number_of c.in-Black.is
    ]
