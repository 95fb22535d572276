-- Snaps of grey cells stay true through every step.
use Rattle.std.proofs.Common.{ℕ, [], ◌∷◌, slice_get, Option, Some, None, IsSomeAnd, sym, subst}
use Rattle.std.proofs.lemmas.List.Elements.{All-append, All-set}
use Rattle.mark_laws.specs.Types.{Event, Actor, HelperView, World}
use Rattle.mark_world.specs.Steps.{actor, lent, returned}
use Rattle.mark_world.specs.AfterEvents.{after, after_helper, after_return, after_step, MayStep, Possible, PossibleStep}
use Rattle.mark_world.specs.Soundness.{HasCells, HasLists, HasSizes, HasSnaps, HasSure, HasViewLists}
use Rattle.mark_world.specs.BornCells.{Born}
use Rattle.mark_laws.proofs.Colours.{helper_rises}
use Rattle.mark_laws.proofs.Coverage.{step_covers}
use Rattle.mark_laws.proofs.Joins.{of_get, some_and}
use Rattle.mark_laws.proofs.Listing.{all_one, all_weaker, some_weaker}
use Rattle.mark_laws.proofs.SnapsHelper.{helper_snaps}
use Rattle.mark_laws.proofs.SnapsMain.{main_snaps}
use Rattle.mark_laws.proofs.TrueSnaps.{Covers, GreyTrue, ViewTrue, kept_true}

-- a step of a helper that may make it
step_of_helper : (world : World) (number : ℕ) (of : Event) → HasSizes world → HasCells world → HasLists world
    → HasSnaps world
    → IsSomeAnd (slice_get world.helpers number) (MayStep world of)
    → Covers world (after_helper world number of (slice_get world.helpers number))
    → HasSnaps (after_helper world number of (slice_get world.helpers number))
step_of_helper world number of sizes cells lists snaps may covers =
    let v = some_and (MayStep world of) (slice_get world.helpers number) may in
    subst (λ (o : Option HelperView). HasSnaps (after_helper world number of o)) (sym v.1)
    (helper_snaps world number v.0 of sizes cells lists snaps
    (of_get (HasViewLists world) world.helpers number v.0 v.1 lists.helpers)
    (of_get (ViewTrue world) world.helpers number v.0 v.1 snaps) v.2.may (helper_rises world number of (Some v.0))
    (subst (λ (o : Option HelperView). Covers world (after_helper world number of o)) v.1 covers))

-- a seat that is lent has no snap
lend_snaps : (world : World) (of : Event) → HasSnaps world → Covers world (after_step world of Actor.Lends)
    → HasSnaps (after_step world of Actor.Lends)
lend_snaps world of snaps covers =
    let later : World = after_step world of Actor.Lends in
    All-append (ViewTrue later) world.helpers (lent ∷ [])
    (all_weaker (ViewTrue world) (ViewTrue later) world.helpers (λ view.
    some_weaker (GreyTrue world) (GreyTrue later) view.snap (λ snap is_true is_grey.
    kept_true world world.colours world.board world.main later.helpers snap covers (is_true is_grey))) snaps)
    (all_one (ViewTrue later) lent tt)

-- a seat that is taken back has none
return_snaps : (world : World) (number : ℕ) (view : Option HelperView) → HasSnaps world
    → Covers world (after_return world number view) → HasSnaps (after_return world number view)
return_snaps world number None snaps covers = snaps
return_snaps world number (Some view) snaps covers =
    let later : World = after_return world number (Some view) in
    All-set (ViewTrue later) world.helpers number returned tt
    (all_weaker (ViewTrue world) (ViewTrue later) world.helpers (λ v.
    some_weaker (GreyTrue world) (GreyTrue later) v.snap (λ snap is_true is_grey.
    kept_true world world.colours world.board later.main later.helpers snap covers (is_true is_grey))) snaps)

-- every step
step_snaps : (world : World) (of : Event) (by : Actor) → HasSizes world → HasCells world → HasLists world
    → HasSure world
    → HasSnaps world → PossibleStep world of by → Covers world (after_step world of by)
    → HasSnaps (after_step world of by)
step_snaps world of Actor.Mutator sizes cells lists sure snaps may covers =
    main_snaps world of sizes cells lists sure snaps may covers
step_snaps world of (Actor.Helper number) sizes cells lists sure snaps may covers =
    step_of_helper world number of sizes cells lists snaps may covers
step_snaps world of Actor.Lends sizes cells lists sure snaps may covers = lend_snaps world of snaps covers
step_snaps world of (Actor.Returns number) sizes cells lists sure snaps may covers =
    return_snaps world number (slice_get world.helpers number) snaps covers

-- after a possible event each snap of a grey cell is true to it
pub snaps_stay : (world : World) (of : Event) → HasSizes world → HasCells world → HasLists world → HasSure world
    → HasSnaps world → Born world → Possible world of → HasSnaps (after world of)
snaps_stay world of sizes cells lists sure snaps born may =
    step_snaps world of (actor of) sizes cells lists sure snaps may
    (step_covers world of (actor of) sizes cells lists born may)
