-- Events that a worker knows to be possible by its own view, the rooms, and the homes that it made.
use Rattle.std.proofs.Common.{ℕ, ◌<◌, ◌≤◌, ◌+◌, ◌≡◌, ◌&&◌, ◌⊎◌, inl, inr, Bool, true, List, length}
use Rattle.std.proofs.Common.{slice_get, Option, Some, is_none, IsSome, nat_lt, nat_le, arith, refl, sym, ap}
use Rattle.std.proofs.Common.{subst, ◌∙◌}
use Rattle.std.specs.List.{Contains, list_any}
use Rattle.std.proofs.lemmas.Bool.{and_from, or_left, true≢false}
use Rattle.std.proofs.lemmas.Bool.Decides.{nat_tests}
use Rattle.tagged_word.specs.Readings.{reference_in}
use Rattle.tagged_word.proofs.Cells.{some_same}
use Rattle.tagged_word.proofs.Readings.{reference_to}
use Rattle.core_parts.specs.Lists.{is_in}
use Rattle.core_parts.proofs.Joining.{found_in}
use Rattle.scav_copy.specs.declared.places.Home.{Home}
use Rattle.scav_copy.specs.declared.places.Room.{Room}
use Rattle.scav_copy.specs.Places.{Fixed, size_of, IsInCopy}
use Rattle.scav_copy.specs.Copies.{LiesInRoom}
use Rattle.scav_copy.proofs.Spots.{cell_within, from_is, some_words, home_fits}
use Rattle.scav_core.specs.declared.event.Event.{Event}
use Rattle.scav_core.specs.declared.event.Event.TheVariants.{LoadSlot, CopyWord, Forward}
use Rattle.scav_core.specs.declared.workers.Job.{Job}
use Rattle.scav_core.specs.declared.workers.WorkerView.{WorkerView}
use Rattle.scav_core.specs.declared.world.World.{World}
use Rattle.scav_core.specs.Worlds.{fixed_of}
use Rattle.scav_core.specs.Steps.{worker_of, after}
use Rattle.scav_core.specs.Possible.{is_copied_slot, is_live, is_free, is_in_own_room, words_wanted, is_whole}
use Rattle.scav_core.specs.Possible.{stands_at, is_copy, header_is, may, may_by, may_forward}
use Rattle.scav_core.specs.Underway.{HasReadCell, IsJob, Underway}
use Rattle.scav_core.specs.WorkerGuarantees.{IsForwarded}
use Rattle.scav_core.specs.OwnHomes.{IsOwnHome, OfferedMayBeLoaded, WordsMayBeStored, CellsMayBeForwarded}
use Rattle.scav_core.specs.OwnHomes.{OwnHomesStay, IsOfSize, JobsGoOn, WholeHasSize}
use Rattle.scav_core.proofs.Enabling.{job_of, by_job, in_words}
use Rattle.scav_core.proofs.Events.{events_keep}
use Rattle.scav_core.proofs.Loading.{none_wanted}
use Rattle.scav_core.proofs.OwnRooms.{beside_or, free_of_own, own_room_found}
use Rattle.scav_core.proofs.Relying.{events_stay}
use Rattle.scav_core.proofs.Unchanged.{fixed_stays}
use Rattle.scav_core.proofs.Wanted.{IsWanted, wanted, whole_size}

-- an event of a worker that is out is possible, where what its view may do is
by_view : (world : World) (worker : ℕ) (view : WorkerView) (event : Event) → slice_get world.workers worker ≡ Some view
    → view.out ≡ true → may world event view ≡ true → may_by world event (slice_get world.workers worker) ≡ true
by_view world worker view event stood out t =
    ap (may_by world event) stood ∙ and_from view.out (may world event view) out t

-- each of `slots` may be read
pub offered_may : OfferedMayBeLoaded
offered_may world worker view slot underway stood out idle there =
    let fixed : Fixed = fixed_of world in
    by_view world worker view (LoadSlot worker slot) stood out
    (and_from (is_none view.job && is_live fixed world.homes slot) (nat_lt slot (length world.words))
    (and_from (is_none view.job) (is_live fixed world.homes slot) (ap (λ (o : Option Job). is_none o) idle)
    (or_left (is_in world.slots slot) (list_any (λ home. is_copied_slot fixed slot home) world.homes)
    (found_in world.slots slot there)))
    (in_words slot underway (underway.laid.slots_there slot there)))

-- a word of a room may be stored
pub words_may : WordsMayBeStored
words_may world worker view room at word underway stood out there own inside beside =
    let fixed : Fixed = fixed_of world in
    let lies : LiesInRoom fixed room at 1 =
    record { among = there; from = inside.from; ends = omega (arith, inside.below) }
    in
    let free : is_free fixed world.homes at 1 ≡ true =
    free_of_own world worker room at 1 underway (omega arith) own lies (λ home is.
    elim (beside_or fixed at 1 home (omega arith)
    (some_words home.from underway.laid (from_is home underway.copying is.among))) [
      | inl t ↦ t
      | inr shared ↦
          let same : shared.at ≡ at = omega (arith, shared.from, shared.below) in
          absurd (beside home is (subst (IsInCopy fixed home) same shared.has))
    ]) in
    by_view world worker view (CopyWord worker at word) stood out
    (and_from (is_in_own_room world.rooms worker at 1 && is_free fixed world.homes at 1)
    (nat_lt at (length world.words))
    (and_from (is_in_own_room world.rooms worker at 1) (is_free fixed world.homes at 1)
    (own_room_found world.rooms worker room at 1 there own lies.from lies.ends) free)
    (in_words at underway (underway.laid.rooms_there at (room, there, inside))))

-- a copy that stands in a room of the worker's is found to be one
copy_found : (world : World) (worker to header : ℕ) (body : List ℕ) (room : Room) → Underway world
    → is_whole (words_wanted world.layouts header body) (1 + length body) ≡ true → room.worker ≡ worker
    → LiesInRoom (fixed_of world) room to (1 + length body) → stands_at world.words to header body ≡ true
    → is_free (fixed_of world) world.homes to (1 + length body) ≡ true → is_copy world worker to header body ≡ true
copy_found world worker to header body room underway whole own lies stands free =
    let fixed : Fixed = fixed_of world in
    let many : ℕ = 1 + length body in
    let last : ℕ = to + length body in
    let inside : last < length world.before =
    underway.laid.rooms_there last
    (room, lies.among, record { from = omega (arith, lies.from); below = omega (arith, lies.ends) }) in
    let long : length world.words ≡ length world.before = underway.copying.long in
    let ends : to + many ≤ length world.words = omega (arith, inside, long) in
    let there : nat_le (to + many) (length world.words) ≡ true = grind (arith, nat_tests) in
    let a : Bool = is_whole (words_wanted world.layouts header body) many in
    let b : Bool = nat_le (to + many) (length world.words) in
    let c : Bool = is_in_own_room world.rooms worker to many in
    let d : Bool = is_free fixed world.homes to many in
    and_from (a && b && c && d) (stands_at world.words to header body)
    (and_from (a && b && c) d
    (and_from (a && b) c (and_from a b whole there)
    (own_room_found world.rooms worker room to many lies.among own lies.from lies.ends)) free) stands

-- the header may be exchanged
pub cells_may : CellsMayBeForwarded
cells_may world worker view job header room to underway out e whole own lies stands beside =
    let has = job_of underway out in
    let free : is_free (fixed_of world) world.homes to (1 + length job.body) ≡ true =
    free_of_own world worker room to (1 + length job.body) underway (omega arith) own lies beside in
    let test : ℕ → Bool = λ head. is_copy world worker to head job.body in
    by_job (Forward worker to) (may_forward world worker to) out refl
    (and_from (header_is job.header test) (nat_lt job.cell (length world.words))
    (ap (λ (o : Option ℕ). header_is o test) e
    ∙ copy_found world worker to header job.body room underway whole own lies stands free)
    (in_words job.cell underway (cell_within (fixed_of world) job.cell (underway.laid.cells_are job.cell has.among))))

-- a home that is a worker's own is so by the room in which it lies
own_by : {world : World} (event : Event) (worker : ℕ) (home : Home) (room : Room) → Underway world
    → Underway (after world event) → Contains (after world event).homes home → room.worker ≡ worker
    → LiesInRoom (fixed_of world) room home.to (size_of (fixed_of world) home.from)
    → Contains world.homes home ⊎ IsForwarded world event home
    → IsOwnHome world worker home ⊎ (IsForwarded world event home × (worker_of event ≡ Some worker))
own_by event worker home room underway next there own lies (inl old) =
    inl (record { among = old; room = room; own = own; lies = lies })
own_by {world} event worker home room underway next there own lies (inr new) =
    let fixed : Fixed = fixed_of world in
    let words : 1 ≤ size_of fixed home.from =
    subst (λ (f : Fixed). 1 ≤ size_of f home.from) (fixed_stays world event)
    (some_words home.from next.laid (from_is home next.copying there)) in
    let same : new.room ≡ room =
    underway.laid.one_room new.room room home.to new.lies.among lies.among
    (record { from = new.lies.from; below = omega (arith, words, new.lies.ends) })
    (record { from = lies.from; below = omega (arith, words, lies.ends) }) in
    inr (
      new,
      ap worker_of new.exchange
          ∙ ap (λ (k : ℕ). Some k) (sym new.own ∙ ap (λ (r : Room). r.worker) same ∙ own),
    )

-- a worker has a home more only by its own exchange
pub own_homes_stay : OwnHomesStay
own_homes_stay world event worker home underway t is =
    own_by event worker home is.room underway (events_keep world event underway t) is.among is.own
    (subst (λ (f : Fixed). LiesInRoom f is.room home.to (size_of f home.from)) (fixed_stays world event) is.lies)
    ((events_stay world event underway t).new_homes home is.among)

-- no fewer words are wanted than were read
size_by : (world : World) (job : Job) (header size : ℕ) → 1 + length job.body ≤ size
    → IsWanted (words_wanted world.layouts header job.body) size job.body → IsOfSize world job header
size_by world job header size within (IsWanted.all e) = record { wanted = size; names = e; within = within }
size_by world job header size within (IsWanted.short e none two) =
    let few : length job.body ≡ 0 = ap (λ (xs : List ℕ). length xs) none in
    record { wanted = 2; names = e; within = omega (arith, few) }

-- what a job has read of its cell tells how it goes on
goes_on : {world : World} (job : Job) (header : ℕ) → Underway world → IsJob (fixed_of world) world.homes job
    → job.header ≡ Some header → HasReadCell (fixed_of world) world.homes job
    → IsSome (reference_in header) ⊎ IsOfSize world job header
goes_on job header underway has e (HasReadCell.nothing none empty) =
    absurd (true≢false (sym (ap (λ (o : Option ℕ). is_none o) none) ∙ ap (λ (o : Option ℕ). is_none o) e))
goes_on {world} job header underway has e (HasReadCell.some is within same) =
    inr (size_by world job header (size_of (fixed_of world) job.cell) within
    (wanted (fixed_of world) job.cell header job.body (underway.laid.cells_are job.cell has.among) (some_same e is)
    same))
goes_on {world} job header underway has e (HasReadCell.forwarded home there of is) =
    let refers : reference_in header ≡ Some home.to =
    reference_to header home.to (home_fits home underway.laid underway.copying there) (some_same e is) in
    inl (subst (λ (o : Option ℕ). IsSome o) (sym refers) refl)

-- the header of a job is a reference, or names a size
pub jobs_go_on : JobsGoOn
jobs_go_on world worker view job header underway out e =
    let has = job_of underway out in goes_on job header underway has e has.read

-- what a job has read, where it is whole, has the size of the cell
whole_by : {world : World} (job : Job) (header : ℕ) → Underway world → IsJob (fixed_of world) world.homes job
    → job.header ≡ Some header → is_whole (words_wanted world.layouts header job.body) (1 + length job.body) ≡ true
    → HasReadCell (fixed_of world) world.homes job → 1 + length job.body ≡ size_of (fixed_of world) job.cell
whole_by job header underway has e t (HasReadCell.nothing none empty) =
    absurd (true≢false (sym (ap (λ (o : Option ℕ). is_none o) none) ∙ ap (λ (o : Option ℕ). is_none o) e))
whole_by {world} job header underway has e t (HasReadCell.some is within same) =
    let fixed : Fixed = fixed_of world in
    whole_size (words_wanted world.layouts header job.body) (size_of fixed job.cell) job.body
    (wanted fixed job.cell header job.body (underway.laid.cells_are job.cell has.among) (some_same e is) same) t
whole_by {world} job header underway has e t (HasReadCell.forwarded home there of is) =
    absurd (true≢false (sym t
    ∙ ap (λ (word : ℕ). is_whole (words_wanted world.layouts word job.body) (1 + length job.body)) (some_same e is)
    ∙ ap (λ (o : Option ℕ). is_whole o (1 + length job.body)) (none_wanted world.layouts home.to job.body)))

-- a whole cell that a worker has read has the size of the cell
pub whole_has_size : WholeHasSize
whole_has_size world worker view job header underway out e t =
    let has = job_of underway out in whole_by job header underway has e t has.read
