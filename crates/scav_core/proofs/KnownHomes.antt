-- How a worker knows the homes that it made.
use Rattle.std.proofs.Common.{ℕ, ◌<◌, ◌≤◌, ◌≡◌, ◌≢◌, ◌⊎◌, inl, inr, List, [], ◌∷◌, length}
use Rattle.std.proofs.Common.{slice_get, Option, Some, None, arith, refl, sym, ap, subst, ◌∙◌, length-append}
use Rattle.std.specs.List.{Contains}
use Rattle.std.proofs.lemmas.List.{length-set}
use Rattle.std.proofs.lemmas.Option.{slice_get_within}
use Rattle.tagged_word.proofs.Cells.{some_same}
use Rattle.tagged_word.proofs.Members.{first_in, rest_in}
use Rattle.scav_copy.specs.declared.places.Home.{Home}
use Rattle.scav_copy.proofs.Spots.{none_in}
use Rattle.scav_core.specs.declared.event.Event.{Event}
use Rattle.scav_core.specs.declared.event.Event.TheVariants as variant
use Rattle.scav_core.specs.declared.workers.Job.{Job}
use Rattle.scav_core.specs.declared.workers.WorkerView.{WorkerView}
use Rattle.scav_core.specs.declared.world.World.{World}
use Rattle.scav_core.specs.Worlds.{lent_view}
use Rattle.scav_core.specs.Views.{touched, view_after}
use Rattle.scav_core.specs.Steps.{worker_of, word_found, stepped_by, after}
use Rattle.scav_core.specs.WorkerGuarantees.{IsOutAt, IsForwarded}
use Rattle.scav_core.specs.OwnHomes.{IsOwnHome}
use Rattle.scav_core.specs.KnownHomes.{FreshHasMakers, EventsKeepMakers, LentKnowsNone, EventsKeepKnown}
use Rattle.scav_core.specs.KnownHomes.{ExchangesAreKnown}
use Rattle.scav_core.proofs.OwnHomes.{own_homes_stay}

-- an event of a worker leaves as many workers
as_many : (world : World) (worker : ℕ) (event : Event) (view : Option WorkerView)
    → length (stepped_by world worker event view).workers ≡ length world.workers
as_many world worker event None = refl
as_many world worker event (Some view) =
    length-set world.workers worker (view_after world.cells view event (word_found world (touched view event)))

-- no event leaves fewer
no_fewer : (world : World) (event : Event) → length world.workers ≤ length (after world event).workers
no_fewer world variant.Look = omega arith
no_fewer world variant.Lend = omega (arith, length-append world.workers (lent_view ∷ []))
no_fewer world (variant.Return worker) =
    let e = as_many world worker (variant.Return worker) (slice_get world.workers worker) in omega (arith, e)
no_fewer world (variant.LoadSlot worker slot) =
    let e = as_many world worker (variant.LoadSlot worker slot) (slice_get world.workers worker) in omega (arith, e)
no_fewer world (variant.LoadHeader worker) =
    let e = as_many world worker (variant.LoadHeader worker) (slice_get world.workers worker) in omega (arith, e)
no_fewer world (variant.LoadBody worker) =
    let e = as_many world worker (variant.LoadBody worker) (slice_get world.workers worker) in omega (arith, e)
no_fewer world (variant.CopyWord worker at word) =
    let e = as_many world worker (variant.CopyWord worker at word) (slice_get world.workers worker) in omega (arith, e)
no_fewer world (variant.Forward worker to) =
    let e = as_many world worker (variant.Forward worker to) (slice_get world.workers worker) in omega (arith, e)
no_fewer world (variant.Redirect worker) =
    let e = as_many world worker (variant.Redirect worker) (slice_get world.workers worker) in omega (arith, e)
no_fewer world (variant.Give worker place at) =
    let e = as_many world worker (variant.Give worker place at) (slice_get world.workers worker) in omega (arith, e)
no_fewer world (variant.Take worker place) =
    let e = as_many world worker (variant.Take worker place) (slice_get world.workers worker) in omega (arith, e)

-- an exchange is by the worker whose event it is
same_worker : {world : World} {event : Event} {home : Home} (worker : ℕ) (made : IsForwarded world event home)
    → worker_of event ≡ Some worker → made.worker ≡ worker
same_worker worker made of = some_same (ap worker_of made.exchange) of

-- a fresh world has no home
pub fresh_has_makers : FreshHasMakers
fresh_has_makers world fresh worker home own =
    absurd (none_in home (subst (λ (all : List Home). Contains all home) fresh.homes own.among))

-- a home of after an event lies in a room of a worker that has begun
made_by : {world : World} {event : Event} (worker : ℕ) (home : Home)
    → (IsOwnHome world worker home → worker < length world.workers)
    → IsOwnHome world worker home ⊎ (IsForwarded world event home × (worker_of event ≡ Some worker))
    → worker < length world.workers
made_by worker home makers (inl old) = makers old
made_by {world} worker home makers (inr (made, of)) =
    let within : made.worker < length world.workers =
    slice_get_within world.workers made.worker made.view made.by.stood in
    subst (λ (k : ℕ). k < length world.workers) (same_worker worker made of) within

-- so it stays
pub events_keep_makers : EventsKeepMakers
events_keep_makers world event underway t makers worker home own =
    let old : worker < length world.workers =
    made_by worker home (makers worker home) (own_homes_stay world event worker home underway t own) in
    let more : length world.workers ≤ length (after world event).workers = no_fewer world event in
    omega (arith, old, more)

-- a worker that begins has no home
pub lent_knows_none : LentKnowsNone
lent_knows_none world makers home own =
    let old : IsOwnHome world (length world.workers) home =
    record { among = own.among; room = own.room; own = own.own; lies = own.lies } in
    let less : length world.workers < length world.workers = makers (length world.workers) home old in
    absurd (omega (arith, less))

-- an own home of after an event is known, where no exchange is its worker's
still_known : {world : World} {event : Event} (worker : ℕ) (known : List Home) (home : Home)
    → (IsOwnHome world worker home → Contains known home) → ((to : ℕ) → event ≢ variant.Forward worker to)
    → IsOwnHome world worker home ⊎ (IsForwarded world event home × (worker_of event ≡ Some worker))
    → Contains known home
still_known worker known home knows other (inl old) = knows old
still_known worker known home knows other (inr (made, of)) =
    absurd (other home.to
    (made.exchange ∙ ap (λ (k : ℕ). variant.Forward k home.to) (same_worker worker made of)))

-- a list of a worker's homes stays one, but for its own exchange
pub events_keep_known : EventsKeepKnown
events_keep_known world event worker known underway t knows other home own =
    still_known worker known home (knows home) other (own_homes_stay world event worker home underway t own)

-- the address of an exchange
abbrev address_of : Event → ℕ
address_of (variant.Forward worker to) = to
address_of other = 0

-- the home of these parts
abbrev home_of : ℕ → ℕ → Home
home_of from to = record { from = from; to = to }

-- a home is that of its parts
same_home : (from to : ℕ) (home : Home) → from ≡ home.from → to ≡ home.to
    → home_of from to ≡ home
same_home from to home e f = ap (λ (a : ℕ). home_of a to) e ∙ ap (λ (b : ℕ). home_of home.from b) f

-- an own home of after an own exchange is known, or that of the cell of the job
then_known : {world : World} (worker : ℕ) (view : WorkerView) (job : Job) (to : ℕ) (known : List Home) (home : Home)
    → IsOutAt world worker view job → (IsOwnHome world worker home → Contains known home)
    → IsOwnHome world worker home
    ⊎ (IsForwarded world (variant.Forward worker to) home × (worker_of (variant.Forward worker to) ≡ Some worker))
    → Contains (record { from = job.cell; to = to } ∷ known) home
then_known worker view job to known home out knows (inl old) = rest_in _ known home (knows old)
then_known {world} worker view job to known home out knows (inr (made, of)) =
    let by : made.worker ≡ worker = same_worker worker made of in
    let views : made.view ≡ view =
    some_same made.by.stood (ap (λ (k : ℕ). slice_get world.workers k) by ∙ out.stood) in
    let jobs : made.job ≡ job =
    some_same made.by.at (ap (λ (v : WorkerView). v.job) views ∙ out.at) in
    let from : job.cell ≡ home.from = sym (made.cell ∙ ap (λ (j : Job). j.cell) jobs) in
    let place : to ≡ home.to = ap address_of made.exchange in
    let new : Home = record { from = job.cell; to = to } in
    let is : new ≡ home = same_home job.cell to home from place in
    subst (Contains (new ∷ known)) is (first_in new known)

-- by its own exchange a worker has at most one home more
pub exchanges_are_known : ExchangesAreKnown
exchanges_are_known world worker view job to known underway out t knows home own =
    then_known worker view job to known home out (knows home)
    (own_homes_stay world (variant.Forward worker to) worker home underway t own)
