-- What a helper is to visit, and what a cell is that it has visited.
use Rattle.std.proofs.Common.{ℕ, ◌≡◌, ◌≢◌, ◌∙◌, inl, inr, [], Option, Some, All, Contains}
use Rattle.std.proofs.Common.{slice_get, slice_index, sym, subst, arith}
use Rattle.std.proofs.lemmas.Bool.Decides.{nat_tests}
use Rattle.std.proofs.lemmas.List.Elements.{All-contains}
use Rattle.mark_world.specs.declared.event.Event.TheVariants as event
use Rattle.mark_laws.specs.Types.{Snap, HelperView, World}
use Rattle.mark_world.specs.Naming.{read_words}
use Rattle.mark_world.specs.Steps.{grey, shaded, snap_settled, white}
use Rattle.mark_world.specs.AfterEvents.{MayStep, Possible, after, after_helper}
use Rattle.mark_world.specs.Coverage.{colour_of}
use Rattle.mark_world.specs.Soundness.{Sound}
use Rattle.mark_world.specs.BornCells.{Born}
use Rattle.mark_laws.specs.Visits.{VisitsTargets}
use Rattle.mark_laws.proofs.Joins.{of_get, some_and, targets_from, targets_there}
use Rattle.mark_laws.proofs.Slots.{put_there}
use Rattle.mark_laws.proofs.Starts.{start_old}

-- a helper that finds the cell of its snap grey is to visit the targets of what it read
pub settling_visits : (old number : ℕ) (view : HelperView) (snap : Snap) → view.snap ≡ Some snap
    → VisitsTargets old number view snap
settling_visits old number view snap e = record {
  each = λ at read. subst (λ (o : Option Snap). Contains (snap_settled old view grey o).visit at) (sym e)
      (targets_there old [] (read_words snap) read.0 at read.1 read.2);
  alone = λ at there.
      elim (targets_from old [] (read_words snap) at
      (subst (λ (o : Option Snap). Contains (snap_settled old view grey o).visit at) e there)) [
        | inl none ↦ absurd (omega (arith, none.1))
        | inr read ↦ read
      ];
}

-- a colour that is shaded is not white
shaded_coloured : (colour : ℕ) → shaded colour ≢ white
shaded_coloured colour is_white = absurd (grind (arith, nat_tests))

-- a cell that was shaded is not white
pub shaded_is_coloured : (world : World) (number at : ℕ) → Sound world → Born world
    → Possible world (event.ShadeHelper number at) → colour_of (after world (event.ShadeHelper number at)) at ≢ white
shaded_is_coloured world number at sound born may =
    let v = some_and (MayStep world (event.ShadeHelper number at)) (slice_get world.helpers number) may in
    let visits = of_get (λ (view : HelperView). All (λ a. Contains world.main.born a) view.visit) world.helpers number
    v.0 v.1 born.visits in
    let is_born : Contains world.main.born at =
    All-contains (λ (a : ℕ). Contains world.main.born a) v.0.visit at visits v.2.may in
    let within = start_old world sound.sizes sound.cells at
    (All-contains (Contains world.main.starts) world.main.born at sound.cells.born is_born) in
    subst (λ (o : Option HelperView).
    colour_of (after_helper world number (event.ShadeHelper number at) o) at ≢ white) (sym v.1)
    (λ is_white. shaded_coloured (slice_index world.colours at)
    (sym (put_there world.colours at (shaded (slice_index world.colours at)) at (omega arith) within) ∙ is_white))
