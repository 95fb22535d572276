-- What waits is published and not white, and stays so through every event.
use Rattle.std.proofs.Common.{ℕ, IsTrue, [], ◌∷◌, slice_get, Option, Some, None, IfSome, IsSomeAnd, refl, sym, subst}
use Rattle.std.proofs.Common.{arith}
use Rattle.std.specs.Option.{option_map}
use Rattle.std.proofs.lemmas.List.Elements.{All-append, All-set}
use Rattle.tagged_word.specs.Readings.{reference_in}
use Rattle.mark_laws.specs.Types.{Event, Actor, Snap, HelperView, World}
use Rattle.mark_world.specs.Steps.{actor, all_joined, lent, returned}
use Rattle.mark_world.specs.AfterEvents.{after, after_return, after_step, IsMarked, Possible, PossibleStep}
use Rattle.mark_world.specs.Soundness.{HasCells, HasLists, HasSizes, HasViewLists}
use Rattle.mark_world.specs.BornCells.{Born}
use Rattle.mark_laws.proofs.Joins.{of_get, some_and}
use Rattle.mark_laws.proofs.Sureness.{target_joins}
use Rattle.mark_laws.proofs.Listing.{all_join, all_weaker, some_weaker, reached_stays, view_lists_stay, all_one}
use Rattle.mark_laws.proofs.MainListing.{main_lists}
use Rattle.mark_laws.proofs.HelperListing.{step_of_helper}

-- lending a seat leaves them right
lend_lists : (world : World) (of : Event) → HasSizes world → HasLists world → HasLists (after_step world of Actor.Lends)
lend_lists world of sizes lists =
    let later : World = after_step world of Actor.Lends in
    let keeps : (a : ℕ) → IsMarked world a → IsMarked later a = reached_stays world of Actor.Lends sizes in
    record {
      main = all_weaker (IsMarked world) (IsMarked later) world.main.grey keeps lists.main;
      helpers = All-append (HasViewLists later) world.helpers (lent ∷ [])
          (all_weaker (HasViewLists world) (HasViewLists later) world.helpers
          (λ view. view_lists_stay world later view keeps) lists.helpers)
          (all_one (HasViewLists later) lent record {
            grey = λ k d l. absurd (omega (arith, l));
            snap = tt;
            one_at_once = λ some. refl;
            in_hand = λ out. cc;
          });
      board = all_weaker (λ (w : ℕ). IfSome (reference_in w) (IsMarked world))
          (λ (w : ℕ). IfSome (reference_in w) (IsMarked later)) world.board
          (λ w. some_weaker (IsMarked world) (IsMarked later) (reference_in w) keeps) lists.board;
      coloured = lists.coloured;
    }

-- the lists of a view that was taken back
returned_lists : (later : World) → HasViewLists later returned
returned_lists later = record {
  grey = λ k d l. absurd (omega (arith, l));
  snap = tt;
  one_at_once = λ some. refl;
  in_hand = λ out. record { snap = refl; last = refl; visit = refl; grey = refl; log = refl };
}

-- the cell of a snap that may join
snap_joins : (R : ℕ → Type 0) (snap : Option Snap) → IfSome snap (λ s. R s.cell)
    → IfSome (option_map (λ s. s.cell) snap) R
snap_joins R None h = tt
snap_joins R (Some snap) h = h

-- taking a seat back leaves them right
return_lists : (world : World) (number : ℕ) (view : HelperView) → HasLists world → HasViewLists world view
    → ((a : ℕ) → IsMarked world a → IsMarked (after_return world number (Some view)) a)
    → HasLists (after_return world number (Some view))
return_lists world number view lists has keeps =
    let later : World = after_return world number (Some view) in
    record {
      main = target_joins (IsMarked later) (all_joined world.main.grey view.grey)
          (option_map (λ (s : Snap). s.cell) view.snap)
          (all_join (IsMarked later) world.main.grey view.grey
          (all_weaker (IsMarked world) (IsMarked later) world.main.grey keeps lists.main)
          (all_weaker (IsMarked world) (IsMarked later) view.grey keeps has.grey))
          (snap_joins (IsMarked later) view.snap
          (some_weaker (λ (s : Snap). IsMarked world s.cell) (λ (s : Snap). IsMarked later s.cell) view.snap
          (λ s. keeps s.cell) has.snap));
      helpers = All-set (HasViewLists later) world.helpers number returned (returned_lists later)
          (all_weaker (HasViewLists world) (HasViewLists later) world.helpers (λ v. view_lists_stay world later v keeps)
          lists.helpers);
      board = all_weaker (λ (w : ℕ). IfSome (reference_in w) (IsMarked world))
          (λ (w : ℕ). IfSome (reference_in w) (IsMarked later)) world.board
          (λ w. some_weaker (IsMarked world) (IsMarked later) (reference_in w) keeps) lists.board;
      coloured = lists.coloured;
    }

-- a seat that is taken back
step_of_return : (world : World) (number : ℕ) (of : Event) → HasSizes world → HasLists world
    → IsSomeAnd (slice_get world.helpers number) (λ view. IsTrue view.out)
    → HasLists (after_return world number (slice_get world.helpers number))
step_of_return world number of sizes lists may =
    let v = some_and (λ (view : HelperView). IsTrue view.out) (slice_get world.helpers number) may in
    let keeps = reached_stays world of (Actor.Returns number) sizes in
    subst (λ (o : Option HelperView). HasLists (after_return world number o)) (sym v.1)
    (return_lists world number v.0 lists (of_get (HasViewLists world) world.helpers number v.0 v.1 lists.helpers)
    (subst (λ (o : Option HelperView). (a : ℕ) → IsMarked world a → IsMarked (after_return world number o) a) v.1
    keeps))

-- every step
step_lists : (world : World) (of : Event) (by : Actor) → HasSizes world → HasCells world → HasLists world → Born world
    → PossibleStep world of by → HasLists (after_step world of by)
step_lists world of Actor.Mutator sizes cells lists born may = main_lists world of sizes cells lists may
step_lists world of (Actor.Helper number) sizes cells lists born may =
    step_of_helper world number of sizes cells lists born may
step_lists world of Actor.Lends sizes cells lists born may = lend_lists world of sizes lists
step_lists world of (Actor.Returns number) sizes cells lists born may = step_of_return world number of sizes lists may

-- a possible event leaves the lists right
pub lists_stay : (world : World) (of : Event) → HasSizes world → HasCells world → HasLists world → Born world
    → Possible world of
    → HasLists (after world of)
lists_stay world of = step_lists world of (actor of)
