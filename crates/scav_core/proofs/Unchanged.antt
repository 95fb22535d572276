-- What no event changes.
use Rattle.std.proofs.Common.{ℕ, ◌≡◌, List, [], ◌∷◌, slice_get, Option, Some, None, refl, ◌∙◌}
use Rattle.scav_core.specs.declared.event.Event.{Event}
use Rattle.scav_core.specs.declared.event.Event.TheVariants as event
use Rattle.scav_core.specs.declared.workers.WorkerView.{WorkerView}
use Rattle.scav_core.specs.declared.world.World.{World}
use Rattle.scav_core.specs.Worlds.{fixed_of}
use Rattle.scav_core.specs.Steps.{stepped_by, after}
use Rattle.scav_core.specs.Runs.{after_all}
use Rattle.scav_core.specs.WorldLaws.{FixedStays}

-- no event of a worker changes what is fixed
fixed_by : (world : World) (worker : ℕ) (event : Event) (view : Option WorkerView)
    → fixed_of (stepped_by world worker event view) ≡ fixed_of world
fixed_by world worker event None = refl
fixed_by world worker event (Some view) = refl

-- nor does any other
pub fixed_stays : FixedStays
fixed_stays world event.Look = refl
fixed_stays world event.Lend = refl
fixed_stays world (event.Return worker) = fixed_by world worker (event.Return worker) (slice_get world.workers worker)
fixed_stays world (event.LoadSlot worker slot) = fixed_by world worker (event.LoadSlot worker slot)
    (slice_get world.workers worker)
fixed_stays world (event.LoadHeader worker) = fixed_by world worker (event.LoadHeader worker)
    (slice_get world.workers worker)
fixed_stays world (event.LoadBody worker) = fixed_by world worker (event.LoadBody worker)
    (slice_get world.workers worker)
fixed_stays world (event.CopyWord worker at word) =
    fixed_by world worker (event.CopyWord worker at word) (slice_get world.workers worker)
fixed_stays world (event.Forward worker to) = fixed_by world worker (event.Forward worker to)
    (slice_get world.workers worker)
fixed_stays world (event.Redirect worker) = fixed_by world worker (event.Redirect worker)
    (slice_get world.workers worker)
fixed_stays world (event.Give worker place at) =
    fixed_by world worker (event.Give worker place at) (slice_get world.workers worker)
fixed_stays world (event.Take worker place) = fixed_by world worker (event.Take worker place)
    (slice_get world.workers worker)

-- nor does a list of them
pub fixed_after : (world : World) (events : List Event) → fixed_of (after_all world events) ≡ fixed_of world
fixed_after world [] = refl
fixed_after world (event ∷ events) = fixed_after (after world event) events ∙ fixed_stays world event
