-- Where a new home comes from: the exchange of a worker, for the cell of its job.
use Rattle.std.proofs.Common.{ℕ, ◌≡◌, ◌⊎◌, inl, inr, Bool, true, false, List, slice_get}
use Rattle.std.proofs.Common.{Option, Some, None, if◌then◌else◌, refl, sym, ap, subst, ◌∙◌}
use Rattle.std.specs.List.{Contains}
use Rattle.std.proofs.lemmas.Bool.{and_parts}
use Rattle.tagged_word.proofs.Cells.{some_same}
use Rattle.scav_copy.specs.declared.places.Home.{Home}
use Rattle.scav_copy.specs.declared.places.Room.{Room}
use Rattle.scav_copy.specs.Places.{size_of}
use Rattle.scav_copy.specs.Copies.{LiesInRoom}
use Rattle.scav_copy.proofs.Ascending.{joined_is}
use Rattle.scav_core.specs.declared.event.Event.{Event}
use Rattle.scav_core.specs.declared.event.Event.TheVariants as variant
use Rattle.scav_core.specs.declared.workers.Job.{Job}
use Rattle.scav_core.specs.declared.workers.WorkerView.{WorkerView}
use Rattle.scav_core.specs.declared.world.World.{World}
use Rattle.scav_core.specs.Worlds.{fixed_of}
use Rattle.scav_core.specs.Views.{touched, is_as_read, home_at, home_made}
use Rattle.scav_core.specs.Steps.{worker_of, word_found, homes_after, stepped_by, after}
use Rattle.scav_core.specs.Possible.{may, may_by, is_possible}
use Rattle.scav_core.specs.WorkerGuarantees.{IsOutAt, IsForwarded}
use Rattle.scav_core.proofs.Keeping.{IsChange}

-- a new home is made by the worker in whose room it lies
new_by : {world : World} {words : List ℕ} {homes : List Home} {worker : ℕ} (home : Home)
    → IsChange world words homes worker
    → Contains homes home → Contains world.homes home
    ⊎ ((room : Room) × (room.worker ≡ worker)
    × LiesInRoom (fixed_of world) room home.to (size_of (fixed_of world) home.from))
new_by home (IsChange.unchanged e f) there = inl (subst (λ (all : List Home). Contains all home) f there)
new_by home (IsChange.storing at word room e f among own inside free) there =
    inl (subst (λ (all : List Home). Contains all home) f there)
new_by home (IsChange.renaming slot place one e f stood refers among) there =
    inl (subst (λ (all : List Home). Contains all home) f there)
new_by {world} home (IsChange.moving new room e f is none own lies) there =
    elim (joined_is world.homes new home (subst (λ (all : List Home). Contains all home) f there)) [
      | inl same ↦ inr (
        room,
        own,
        subst (λ (one : Home).
            LiesInRoom (fixed_of world) room one.to (size_of (fixed_of world) one.from)) same lies,
      )
      | inr old ↦ inl old
    ]

-- an event of a worker that is no exchange makes no home
no_home : (world : World) (worker : ℕ) (event : Event) (view : Option WorkerView)
    → ((view : WorkerView) (found : ℕ) → home_made view event found ≡ None)
    → (stepped_by world worker event view).homes ≡ world.homes
no_home world worker event None none = refl
no_home world worker event (Some view) none =
    ap (homes_after world.homes) (none view (word_found world (touched view event)))

-- an event makes no home, or is an exchange
pub no_home_or : (world : World) (event : Event) → ((after world event).homes ≡ world.homes)
    ⊎ ((worker : ℕ) × (to : ℕ) × (event ≡ variant.Forward worker to))
no_home_or world variant.Look = inl refl
no_home_or world variant.Lend = inl refl
no_home_or world (variant.Return worker) = inl
    (no_home world worker (variant.Return worker) (slice_get world.workers worker) (λ view found. refl))
no_home_or world (variant.LoadSlot worker slot) =
    inl (no_home world worker (variant.LoadSlot worker slot) (slice_get world.workers worker) (λ view found. refl))
no_home_or world (variant.LoadHeader worker) =
    inl (no_home world worker (variant.LoadHeader worker) (slice_get world.workers worker) (λ view found. refl))
no_home_or world (variant.LoadBody worker) = inl
    (no_home world worker (variant.LoadBody worker) (slice_get world.workers worker) (λ view found. refl))
no_home_or world (variant.CopyWord worker at word) =
    inl (no_home world worker (variant.CopyWord worker at word) (slice_get world.workers worker) (λ view found. refl))
no_home_or world (variant.Forward worker to) = inr (worker, to, refl)
no_home_or world (variant.Redirect worker) =
    inl (no_home world worker (variant.Redirect worker) (slice_get world.workers worker) (λ view found. refl))
no_home_or world (variant.Give worker place at) =
    inl (no_home world worker (variant.Give worker place at) (slice_get world.workers worker) (λ view found. refl))
no_home_or world (variant.Take worker place) =
    inl (no_home world worker (variant.Take worker place) (slice_get world.workers worker) (λ view found. refl))

-- a home that a job gets is that of its cell, and stands where it is said to
abbrev IsOfJob : Option Job → ℕ → Home → Type 0
IsOfJob job to home = (one : Job) × (job ≡ Some one) × (home.from ≡ one.cell) × (home.to ≡ to)

-- so is each home that is there then and was not before
home_at_of : (homes : List Home) (job : Option Job) (to : ℕ) (home : Home)
    → Contains (homes_after homes (home_at job to)) home → Contains homes home ⊎ IsOfJob job to home
home_at_of homes None to home there = inl there
home_at_of homes (Some job) to home there = elim (joined_is homes (record { from = job.cell; to = to }) home there) [
  | inl same ↦ inr (job, refl, ap (λ (h : Home). h.from) (sym same), ap (λ (h : Home). h.to) (sym same))
  | inr old ↦ inl old
]

-- so it is where the job gets one only by a test
home_if_of : (is : Bool) (homes : List Home) (job : Option Job) (to : ℕ) (home : Home)
    → Contains (homes_after homes (if is then home_at job to else None)) home → Contains homes home
    ⊎ IsOfJob job to home
home_if_of false homes job to home there = inl there
home_if_of true homes job to home there = home_at_of homes job to home there

-- a worker that is out exchanged for this address, and the home is that of the cell of its job
record IsExchanged (world : World) (worker to : ℕ) (home : Home) : Type 0 where
  view : WorkerView
  job : Job
  by : IsOutAt world worker view job
  cell : home.from ≡ job.cell
  place : home.to ≡ to

-- so it is with each home that an exchange makes
exchanged_of : (world : World) (worker to : ℕ) (home : Home) (view : Option WorkerView)
    → slice_get world.workers worker ≡ view → may_by world (variant.Forward worker to) view ≡ true
    → Contains (stepped_by world worker (variant.Forward worker to) view).homes home
    → Contains world.homes home ⊎ IsExchanged world worker to home
exchanged_of world worker to home None stood may there = inl there
exchanged_of world worker to home (Some view) stood may_it there =
    let event : Event = variant.Forward worker to in
    let out : view.out ≡ true = (and_parts view.out (may world event view) may_it).0 in
    elim (home_if_of (is_as_read view.job (word_found world (touched view event))) world.homes view.job to home there) [
      | inl old ↦ inl old
      | inr (job, at, cell, place) ↦
          inr (record {
            view = view;
            job = job;
            by = record { stood = stood; is_out = out; at = at };
            cell = cell;
            place = place;
          })
    ]

-- what an exchange of a worker makes lies in its room, and is that of the cell of its job
made_by : {world : World} {words : List ℕ} {homes : List Home} (worker to : ℕ) (home : Home)
    → is_possible world (variant.Forward worker to) ≡ true → IsChange world words homes worker → Contains homes home
    → Contains (after world (variant.Forward worker to)).homes home
    → Contains world.homes home ⊎ IsForwarded world (variant.Forward worker to) home
made_by {world} worker to home may change there made =
    elim (new_by home change there) [
      | inl old ↦ inl old
      | inr (room, own, lies) ↦
          elim (exchanged_of world worker to home (slice_get world.workers worker) refl may made) [
            | inl old ↦ inl old
            | inr is ↦ inr (record {
              worker = worker;
              exchange = ap (λ (k : ℕ). variant.Forward worker k) (sym is.place);
              view = is.view;
              job = is.job;
              by = is.by;
              cell = is.cell;
              room = room;
              own = own;
              lies = lies;
            })
          ]
    ]

-- so it is for any event that is possible and makes a home
pub forwarded_by : {world : World} {words : List ℕ} {homes : List Home} (event : Event) (worker : ℕ) (home : Home)
    → is_possible world event ≡ true → worker_of event ≡ Some worker → homes ≡ (after world event).homes
    → IsChange world words homes worker → Contains homes home
    → ((after world event).homes ≡ world.homes) ⊎ ((worker : ℕ) × (to : ℕ) × (event ≡ variant.Forward worker to))
    → Contains world.homes home ⊎ IsForwarded world event home
forwarded_by event worker home may of e change there (inl none) =
    inl (subst (λ (all : List Home). Contains all home) (e ∙ none) there)
forwarded_by {world} {words} {homes} event worker home may of e change there (inr (other, to, is)) =
    let same : worker ≡ other = some_same of (ap worker_of is) in
    subst (λ (one : Event). Contains world.homes home ⊎ IsForwarded world one home) (sym is)
    (made_by other to home (subst (λ (one : Event). is_possible world one ≡ true) is may)
    (subst (IsChange world words homes) same change) there
    (subst (λ (one : Event). Contains (after world one).homes home) is
    (subst (λ (all : List Home). Contains all home) e there)))
