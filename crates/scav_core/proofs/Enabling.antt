-- Events that a worker knows to be possible by its own view.
use Rattle.std.proofs.Common.{ℕ, ◌<◌, ◌≤◌, ◌+◌, ◌-◌, ◌≡◌, ◌==◌, ◌&&◌, Bool, true, length}
use Rattle.std.proofs.Common.{slice_get}
use Rattle.std.proofs.Common.{Option, Some, is_none, nat_lt, nat_le, arith, refl, sym, ap, subst, ◌∙◌, eq-eqb, eqb-true}
use Rattle.std.specs.List.{Contains, list_any}
use Rattle.std.proofs.lemmas.Bool.{and_from, or_right, true≢false}
use Rattle.std.proofs.lemmas.Bool.Decides.{nat_tests}
use Rattle.std.proofs.lemmas.List.Folds.{list_any_at}
use Rattle.tagged_word.specs.declared.word.Class.TheVariants.{Ref}
use Rattle.tagged_word.specs.Words.{bits_of}
use Rattle.tagged_word.specs.Readings.{reference_in}
use Rattle.tagged_word.proofs.Cells.{some_same}
use Rattle.tagged_word.proofs.Readings.{reference_to}
use Rattle.core_parts.specs.Lists.{is_in}
use Rattle.core_parts.proofs.Joining.{found_in}
use Rattle.core_parts.proofs.Tested.{nat_lt-yes}
use Rattle.scav_copy.specs.declared.places.Home.{Home}
use Rattle.scav_copy.specs.Places.{size_of, offsets_of, StoodAt}
use Rattle.scav_copy.proofs.Spots.{cell_ends, cell_within, home_fits, live_is_there}
use Rattle.scav_core.specs.declared.event.Event.{Event}
use Rattle.scav_core.specs.declared.event.Event.TheVariants.{LoadSlot, LoadHeader, LoadBody, Redirect}
use Rattle.scav_core.specs.declared.workers.Job.{Job}
use Rattle.scav_core.specs.declared.workers.WorkerView.{WorkerView}
use Rattle.scav_core.specs.declared.world.World.{World}
use Rattle.scav_core.specs.Worlds.{fixed_of}
use Rattle.scav_core.specs.Possible.{is_copied_slot, is_live, is_part, words_wanted, job_is, header_is, may, may_by}
use Rattle.scav_core.specs.Possible.{may_load_header}
use Rattle.scav_core.specs.Possible.{may_load_body, may_redirect, is_home}
use Rattle.scav_core.specs.Underway.{times, todo_times, board_times, home_times, HasReadCell, IsJob, HasJob, Underway}
use Rattle.scav_core.specs.WorkerGuarantees.{IsOutAt, HeadersMayBeLoaded, BodiesMayBeLoaded, SlotsMayBeRedirected}
use Rattle.scav_core.specs.WorkerGuarantees.{TodoMayBeLoaded}
use Rattle.scav_core.proofs.Counting.{todo_one, is_counted, counted}
use Rattle.scav_core.proofs.Redirecting.{header_no_reference}
use Rattle.scav_core.proofs.Keeping.{view_in}
use Rattle.scav_core.proofs.Loading.{none_wanted}
use Rattle.scav_core.proofs.Wanted.{wanted, part_within}

-- the job of a worker that is out is one
pub job_of : {world : World} {worker : ℕ} {view : WorkerView} {job : Job} → Underway world
    → IsOutAt world worker view job → IsJob (fixed_of world) world.homes job
job_of {world} {worker} {view} {job} underway out =
    subst (HasJob (fixed_of world) world.homes) out.at
    (underway.jobs view (view_in world.workers worker view out.stood) out.is_out)

-- an event of a job is possible, where the job's test holds
pub by_job : {world : World} {worker : ℕ} {view : WorkerView} {job : Job} (event : Event) (test : Job → Bool)
    → IsOutAt world worker view job → may world event view ≡ job_is view.job test → test job ≡ true
    → may_by world event (slice_get world.workers worker) ≡ true
by_job {world} {worker} {view} {job} event test out is t =
    ap (may_by world event) out.stood
    ∙ and_from view.out (may world event view) out.is_out
    (is ∙ ap (λ (o : Option Job). job_is o test) out.at ∙ t)

-- a place in the words before is one in the words
pub in_words : {world : World} (at : ℕ) → Underway world → at < length world.before
    → nat_lt at (length world.words) ≡ true
in_words {world} at underway less =
    nat_lt-yes at (length world.words) (subst (λ (long : ℕ). at < long) (sym underway.copying.long) less)

-- the header of a job that has none may be read
pub headers_may : HeadersMayBeLoaded
headers_may world worker view job underway out none =
    let has = job_of underway out in
    by_job (LoadHeader worker) (may_load_header world) out refl
    (and_from (is_none job.header) (nat_lt job.cell (length world.words)) (ap (λ (o : Option ℕ). is_none o) none)
    (in_words job.cell underway (cell_within (fixed_of world) job.cell (underway.laid.cells_are job.cell has.among))))

-- the next word of a cell is there, if more are wanted
next_there : {world : World} (job : Job) (header : ℕ) → Underway world → IsJob (fixed_of world) world.homes job
    → job.header ≡ Some header → is_part (words_wanted world.layouts header job.body) (1 + length job.body) ≡ true
    → HasReadCell (fixed_of world) world.homes job → job.cell + 1 + length job.body < length world.before
next_there job header underway has e t (HasReadCell.nothing none empty) =
    absurd (true≢false (sym (ap (λ (o : Option ℕ). is_none o) none) ∙ ap (λ (o : Option ℕ). is_none o) e))
next_there {world} job header underway has e t (HasReadCell.some is within same) =
    let fixed = fixed_of world in
    let some = underway.laid.cells_are job.cell has.among in
    let less : 1 + length job.body < size_of fixed job.cell =
    part_within (words_wanted world.layouts header job.body) (size_of fixed job.cell) job.body
    (wanted fixed job.cell header job.body some (some_same e is) same) t in
    let ends : job.cell + size_of fixed job.cell ≤ length world.before = cell_ends fixed job.cell some in
    omega (arith, less, ends)
next_there {world} job header underway has e t (HasReadCell.forwarded home there of is) =
    absurd (true≢false (sym t
    ∙ ap (λ (word : ℕ). is_part (words_wanted world.layouts word job.body) (1 + length job.body)) (some_same e is)
    ∙ ap (λ (o : Option ℕ). is_part o (1 + length job.body)) (none_wanted world.layouts home.to job.body)))

-- the next word may be read
pub bodies_may : BodiesMayBeLoaded
bodies_may world worker view job header underway out e t =
    let has = job_of underway out in
    let test : ℕ → Bool = λ head. is_part (words_wanted world.layouts head job.body) (1 + length job.body) in
    by_job (LoadBody worker) (may_load_body world) out refl
    (and_from (header_is job.header test) (nat_lt (job.cell + 1 + length job.body) (length world.words))
    (ap (λ (o : Option ℕ). header_is o test) e ∙ t)
    (in_words (job.cell + 1 + length job.body) underway (next_there job header underway has e t has.read)))

-- the reference to a home is found to be one
home_is : {world : World} (home : Home) → Underway world → Contains world.homes home
    → is_home world.homes (reference_in (bits_of (Ref home.to))) ≡ true
home_is {world} home underway there =
    let (k, less, e) = there in
    ap (is_home world.homes)
    (reference_to (bits_of (Ref home.to)) home.to (home_fits home underway.laid underway.copying there) refl)
    ∙ list_any_at (λ (one : Home). one.to == home.to) world.homes k home less
    (eq-eqb _ _ (ap (λ (one : Home). one.to) e))

-- a header that is a reference is one to a home
header_is_home : {world : World} (job : Job) (header address : ℕ) → Underway world
    → IsJob (fixed_of world) world.homes job → job.header ≡ Some header → reference_in header ≡ Some address
    → HasReadCell (fixed_of world) world.homes job → is_home world.homes (reference_in header) ≡ true
header_is_home job header address underway has e refers (HasReadCell.nothing none empty) =
    absurd (true≢false (sym (ap (λ (o : Option ℕ). is_none o) none) ∙ ap (λ (o : Option ℕ). is_none o) e))
header_is_home job header address underway has e refers (HasReadCell.some is within same) =
    absurd (header_no_reference job.cell address underway has.among
    (subst (λ (word : ℕ). reference_in word ≡ Some address) (some_same e is) refers))
header_is_home {world} job header address underway has e refers (HasReadCell.forwarded home there of is) =
    ap (λ (word : ℕ). is_home world.homes (reference_in word)) (some_same e is) ∙ home_is home underway there

-- the slot may be redirected
pub redirects_may : SlotsMayBeRedirected
redirects_may world worker view job header address underway out e refers =
    let has = job_of underway out in
    let test : ℕ → Bool = λ head. is_home world.homes (reference_in head) in
    by_job (Redirect worker) (may_redirect world) out refl
    (and_from (header_is job.header test) (nat_lt job.slot (length world.words))
    (ap (λ (o : Option ℕ). header_is o test) e ∙ header_is_home job header address underway has e refers has.read)
    (in_words job.slot underway (live_is_there job.slot has.place underway.laid underway.copying has.stood)))

-- a slot of a home copy is found live
slot_is_live : (world : World) (home : Home) (at offset : ℕ) → Contains world.homes home → home.to ≡ at
    → Contains (offsets_of (fixed_of world) home.from) offset → is_live (fixed_of world) world.homes (at + offset)
    ≡ true
slot_is_live world home at offset (k, less, e) to is =
    let fixed = fixed_of world in
    let behind : nat_le home.to (at + offset) ≡ true = grind (arith, nat_tests) in
    let same : offset ≡ at + offset - home.to = omega arith in
    let found : is_in (offsets_of fixed home.from) (at + offset - home.to) ≡ true =
    subst (λ (k : ℕ). is_in (offsets_of fixed home.from) k ≡ true) same
    (found_in (offsets_of fixed home.from) offset is) in
    or_right (is_in world.slots (at + offset)) (list_any (λ home. is_copied_slot fixed (at + offset) home) world.homes)
    (list_any_at (λ (one : Home). is_copied_slot fixed (at + offset) one) world.homes k home less
    (ap (λ (one : Home). is_copied_slot fixed (at + offset) one) e
    ∙ and_from (nat_le home.to (at + offset))
    (is_in (offsets_of fixed home.from) (at + offset - home.to)) behind found))

-- what a worker has to do is a home copy
todo_is_home : {world : World} (worker : ℕ) (view : WorkerView) (at : ℕ) → Underway world
    → slice_get world.workers worker ≡ Some view → Contains view.todo at
    → (home : Home) × Contains world.homes home × ((home.to == at) ≡ true)
todo_is_home {world} worker view at underway stood there =
    let some : 1 ≤ times at view.todo = is_counted (λ x. x == at) view.todo at there (eq-eqb at at refl) in
    let part : times at view.todo ≤ todo_times at world.workers = todo_one at world.workers worker view stood in
    let whole : todo_times at world.workers + board_times at world.board
    ≡ home_times at world.homes = underway.work at in
    counted (λ (home : Home). home.to == at) world.homes (omega (arith, some, part, whole))

-- each of its slots may be read
pub todo_may : TodoMayBeLoaded
todo_may world worker view at underway stood out idle there =
    let found = todo_is_home worker view at underway stood there in
    let home : Home = found.0 in
    let to : home.to ≡ at = eqb-true _ _ found.2 in (
      home,
      found.1,
      to,
      λ offset is.
          let slot : ℕ = at + offset in
          let stands : StoodAt (fixed_of world) world.homes slot (home.from + offset) =
          StoodAt.in_cell home offset found.1 is (ap (λ (a : ℕ). a + offset) to) refl in
          ap (may_by world (LoadSlot worker slot)) stood
          ∙ and_from view.out (may world (LoadSlot worker slot) view) out
          (and_from (is_none view.job && is_live (fixed_of world) world.homes slot) (nat_lt slot (length world.words))
          (and_from (is_none view.job) (is_live (fixed_of world) world.homes slot)
          (ap (λ (o : Option Job). is_none o) idle)
          (slot_is_live world home at offset found.1 to is))
          (in_words slot underway (live_is_there slot (home.from + offset) underway.laid underway.copying stands))),
    )
