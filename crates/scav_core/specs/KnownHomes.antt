-- How a worker knows the homes that it made.
use Rattle.std.specs.Prelude.{◌≡◌, ◌≢◌, ℕ, ◌<◌, true, List, [], ◌∷◌, length, Contains}
use Rattle.scav_copy.specs.declared.places.Home.{Home}
use Rattle.scav_core.specs.declared.event.Event.{Event}
use Rattle.scav_core.specs.declared.event.Event.TheVariants.{Lend, Forward}
use Rattle.scav_core.specs.declared.workers.Job.{Job}
use Rattle.scav_core.specs.declared.workers.WorkerView.{WorkerView}
use Rattle.scav_core.specs.declared.world.World.{World}
use Rattle.scav_core.specs.Worlds.{IsFresh}
use Rattle.scav_core.specs.Steps.{after}
use Rattle.scav_core.specs.Possible.{is_possible}
use Rattle.scav_core.specs.Underway.{Underway}
use Rattle.scav_core.specs.WorkerGuarantees.{IsOutAt}
use Rattle.scav_core.specs.OwnHomes.{IsOwnHome}

-- each home lies in a room of a worker that has begun
abbrev pub HasMakers : World → Type 0
HasMakers world = (worker : ℕ) (home : Home) → IsOwnHome world worker home → worker < length world.workers

-- the list has each home that lies in a room of the worker's
abbrev pub KnowsHomes : World → ℕ → List Home → Type 0
KnowsHomes world worker known = (home : Home) → IsOwnHome world worker home → Contains known home

-- a fresh world has no home
abbrev pub FreshHasMakers : Type 0
FreshHasMakers = (world : World) → IsFresh world → HasMakers world

-- each home lies in a room of a worker that has begun, also after an event
abbrev pub EventsKeepMakers : Type 0
EventsKeepMakers =
    (world : World) (event : Event) → Underway world → is_possible world event ≡ true → HasMakers world
    → HasMakers (after world event)

-- a worker that begins has no home
abbrev pub LentKnowsNone : Type 0
LentKnowsNone = (world : World) → HasMakers world → KnowsHomes (after world Lend) (length world.workers) []

-- a list of a worker's homes stays one, but for its own exchange
abbrev pub EventsKeepKnown : Type 0
EventsKeepKnown =
    (world : World) (event : Event) (worker : ℕ) (known : List Home) → Underway world
    → is_possible world event ≡ true → KnowsHomes world worker known → ((to : ℕ) → event ≢ Forward worker to)
    → KnowsHomes (after world event) worker known

-- by its own exchange it has at most one home more: that of the cell of its job
abbrev pub ExchangesAreKnown : Type 0
ExchangesAreKnown =
    (world : World) (worker : ℕ) (view : WorkerView) (job : Job) (to : ℕ) (known : List Home) → Underway world
    → IsOutAt world worker view job → is_possible world (Forward worker to) ≡ true → KnowsHomes world worker known
    → KnowsHomes (after world (Forward worker to)) worker (record { from = job.cell; to = to } ∷ known)
