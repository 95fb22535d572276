-- What is born stays so through every step.
use Rattle.std.proofs.Common.{ℕ, [], ◌∷◌, slice_get, Option, Some, None, IsSomeAnd}
use Rattle.std.proofs.Common.{sym, subst, arith}
use Rattle.std.proofs.lemmas.List.Elements.{All-append, All-set}
use Rattle.mark_laws.specs.Types.{Event, Actor, HelperView, World}
use Rattle.mark_world.specs.Steps.{actor, lent, returned}
use Rattle.mark_world.specs.AfterEvents.{after, after_helper, after_return, after_step, MayStep, Possible, PossibleStep}
use Rattle.mark_world.specs.Soundness.{AreIn, HasCells, HasLists, HasSizes, HasSnaps, HasSure, HasViewLists}
use Rattle.mark_world.specs.BornCells.{Born}
use Rattle.mark_laws.proofs.BornHelper.{helper_born}
use Rattle.mark_laws.proofs.BornMain.{main_born}
use Rattle.mark_laws.proofs.BornSlots.{ViewBorn}
use Rattle.mark_laws.proofs.Colours.{helper_rises}
use Rattle.mark_laws.proofs.Joins.{of_get, some_and}
use Rattle.mark_laws.proofs.Listing.{all_one}
use Rattle.mark_laws.proofs.TrueSnaps.{ViewTrue}

-- a step of a helper that may make it
step_of_helper : (world : World) (number : ℕ) (of : Event) → HasCells world → HasLists world → HasSnaps world
    → Born world
    → IsSomeAnd (slice_get world.helpers number) (MayStep world of)
    → Born (after_helper world number of (slice_get world.helpers number))
step_of_helper world number of cells lists snaps born may =
    let v = some_and (MayStep world of) (slice_get world.helpers number) may in
    subst (λ (o : Option HelperView). Born (after_helper world number of o)) (sym v.1)
    (helper_born world number v.0 of cells lists snaps born
    (of_get (HasViewLists world) world.helpers number v.0 v.1 lists.helpers)
    (of_get (ViewTrue world) world.helpers number v.0 v.1 snaps)
    (of_get (ViewBorn world) world.helpers number v.0 v.1 born.snaps)
    (of_get (λ (w : HelperView). AreIn world.main.born w.visit) world.helpers number v.0 v.1 born.visits) v.2.may
    (helper_rises world number of (Some v.0)))

-- a seat that is lent has nothing
lend_born : (world : World) (of : Event) → Born world → Born (after_step world of Actor.Lends)
lend_born world of born =
    let later : World = after_step world of Actor.Lends in
    record {
      reached = λ at reached. born.reached at record { start = reached.start; coloured = reached.coloured };
      slots = born.slots;
      snaps = All-append (ViewBorn later) world.helpers (lent ∷ []) born.snaps (all_one (ViewBorn later) lent tt);
      visits = All-append (λ (view : HelperView). AreIn world.main.born view.visit) world.helpers
          (lent ∷ []) born.visits
          (all_one (λ (view : HelperView). AreIn world.main.born view.visit) lent (λ k d l. absurd (omega (arith, l))));
    }

-- a seat that is taken back has nothing
return_born : (world : World) (number : ℕ) (view : Option HelperView) → Born world
    → Born (after_return world number view)
return_born world number None born = born
return_born world number (Some view) born =
    let later : World = after_return world number (Some view) in
    record {
      reached = λ at reached. born.reached at record { start = reached.start; coloured = reached.coloured };
      slots = born.slots;
      snaps = All-set (ViewBorn later) world.helpers number returned tt born.snaps;
      visits = All-set (λ (v : HelperView). AreIn world.main.born v.visit) world.helpers number returned
          (λ k d l. absurd (omega (arith, l))) born.visits;
    }

-- every step
step_born : (world : World) (of : Event) (by : Actor) → HasSizes world → HasCells world → HasLists world → HasSure world
    → HasSnaps world → Born world → PossibleStep world of by → Born (after_step world of by)
step_born world of Actor.Mutator sizes cells lists sure snaps born may =
    main_born world of sizes cells lists sure born may
step_born world of (Actor.Helper number) sizes cells lists sure snaps born may =
    step_of_helper world number of cells lists snaps born may
step_born world of Actor.Lends sizes cells lists sure snaps born may = lend_born world of born
step_born world of (Actor.Returns number) sizes cells lists sure snaps born may =
    return_born world number (slice_get world.helpers number) born

-- after a possible event all is born that should be
pub born_stays : (world : World) (of : Event) → HasSizes world → HasCells world → HasLists world → HasSure world
    → HasSnaps world → Born world → Possible world of → Born (after world of)
born_stays world of = step_born world of (actor of)
