-- The exchange of a header for the reference to a copy.
use Rattle.std.proofs.Common.{ℕ, ◌≤◌, ◌+◌, ◌≡◌, ◌≢◌, ◌==◌, Bool}
use Rattle.std.proofs.Common.{true, false, List, length, get_or}
use Rattle.std.proofs.Common.{set, slice_get, Option, Some, None, nat_lt, if◌then◌else◌, arith, refl, sym, ap, subst}
use Rattle.std.proofs.Common.{◌∙◌, eq-eqb}
use Rattle.std.specs.List.{Contains}
use Rattle.std.proofs.lemmas.Bool.{and_parts, true≢false, false_from_ne_true}
use Rattle.std.proofs.lemmas.List.{set-get_or}
use Rattle.tagged_word.specs.declared.word.Class.TheVariants.{Ref}
use Rattle.tagged_word.specs.Words.{bits_of}
use Rattle.core_parts.specs.declared.note.Note.{Note}
use Rattle.core_parts.specs.Lists.{joined}
use Rattle.core_parts.proofs.Tested.{not_equal}
use Rattle.scav_copy.specs.declared.places.Home.{Home}
use Rattle.scav_copy.specs.Places.{size_of, IsInCopy, IsOfCell}
use Rattle.scav_copy.specs.Copies.{HasHeader, HasNoHome, with_home}
use Rattle.scav_copy.proofs.Moving.{cells_may_move, stay_live}
use Rattle.scav_copy.proofs.Ascending.{new_in, old_in}
use Rattle.scav_copy.proofs.Redirecting.{origin_reached}
use Rattle.scav_copy.proofs.Spots.{live_in_no_cell, cell_itself, home_itself, some_words}
use Rattle.scav_core.specs.declared.workers.Job.{Job}
use Rattle.scav_core.specs.declared.workers.WorkerView.{WorkerView}
use Rattle.scav_core.specs.declared.world.World.{World}
use Rattle.scav_core.specs.Worlds.{fixed_of}
use Rattle.scav_core.specs.Views.{is_header, home_at}
use Rattle.scav_core.specs.Steps.{homes_after}
use Rattle.scav_core.specs.Possible.{is_copy, header_is, may_forward}
use Rattle.scav_core.specs.Underway.{times, todo_times, board_times, home_times, IsShared, HasReadCell, IsJob}
use Rattle.scav_core.specs.Underway.{Underway}
use Rattle.scav_core.proofs.Counting.{one, todo_set, todo_one, times_joined, homes_joined, none_counted}
use Rattle.scav_core.proofs.Keeping.{Stays, IsChange, Keeps, still_read, still_job}
use Rattle.scav_core.proofs.Loading.{made, same_slot, read_on, reading}
use Rattle.scav_core.proofs.Moving.{quiet_elsewhere, Copied, copied_by, copy_at, not_reference, whole_of}

-- a worker that is at an exchange
record Exchange (world : World) (worker to : ℕ) (out : Bool) (job : Job) (todo : List ℕ)
    (log : List Note) : Type 0 where
  underway : Underway world
  stood : slice_get world.workers worker ≡ Some (made out (Some job) todo log)
  inside : Contains world.workers (made out (Some job) todo log)
  is_out : out ≡ true
  is_job : IsJob (fixed_of world) world.homes job
  copied : Copied world worker to job

-- the home of the job's cell
abbrev home_of : Job → ℕ → Home
home_of job to = record { from = job.cell; to = to }

-- no home stands where the copy does
none_there : {world : World} {worker to : ℕ} {out : Bool} {job : Job} {todo : List ℕ} {log : List Note}
    → Exchange world worker to out job todo log → home_times to world.homes ≡ 0
none_there {world} {worker} {to} {job = job} exchange =
    let fixed = fixed_of world in
    let underway = exchange.underway in
    let some : 1 ≤ size_of fixed job.cell = some_words job.cell underway.laid exchange.is_job.among in
    let own : IsInCopy fixed (home_of job to) to = record { from = omega arith; below = omega (arith, some) } in
    none_counted (λ (home : Home). home.to == to) world.homes (λ home there. not_equal home.to to (λ same.
    (copy_at worker to job exchange.copied).apart home to there
    (subst (IsInCopy fixed home) same (home_itself home underway.laid underway.copying there)) own))

-- what is to be done has the new copy once
work_won : {world : World} {worker to : ℕ} {out : Bool} {job : Job} {todo : List ℕ} {log : List Note} (new : Option Job)
    → Exchange world worker to out job todo log
    → IsShared (set world.workers worker (made out new (joined todo to) log)) world.board
    (with_home world.homes (home_of job to))
work_won {world} {worker} {to} {out} {job} {todo} {log} new exchange a =
    let old : WorkerView = made out (Some job) todo log in
    let view : WorkerView = made out new (joined todo to) log in
    let homes : List Home = with_home world.homes (home_of job to) in
    let all : todo_times a (set world.workers worker view) + times a todo ≡ todo_times a world.workers + times a
    (joined todo to) =
    todo_set a world.workers worker old view exchange.stood in
    let part : times to todo ≤ todo_times to world.workers = todo_one to world.workers worker old exchange.stood in
    let whole : todo_times to world.workers + board_times to world.board ≡ home_times to world.homes =
    exchange.underway.work to in
    let zero : home_times to world.homes ≡ 0 = none_there exchange in
    let none : times to todo ≡ 0 = omega (arith, part, whole, zero) in
    let more : times a (joined todo to) ≡ times a todo + one (to == a) = times_joined a todo to none in
    let after : home_times a homes
    ≡ home_times a world.homes + one (to == a) = homes_joined a world.homes (home_of job to) in
    let before : todo_times a world.workers + board_times a world.board
    ≡ home_times a world.homes = exchange.underway.work a in
    omega (arith, all, more, after, before)

-- the header is as read: the copy counts
won : {world : World} {worker to : ℕ} {out : Bool} {job : Job} {todo : List ℕ} {log : List Note}
    → Exchange world worker to out job todo log → HasNoHome world.homes job.cell
    → Keeps world (set world.words job.cell (bits_of (Ref to)))
    (with_home world.homes (home_of job to)) world.board worker
    (made out (Some job) todo log)
    (made out (Some (record job { header = Some (bits_of (Ref to)) })) (joined todo to) log)
won {world} {worker} {to} {out} {job} {todo} {log} exchange none =
    let fixed = fixed_of world in
    let underway = exchange.underway in
    let has = exchange.is_job in
    let new : Home = home_of job to in
    let word : ℕ = bits_of (Ref to) in
    let header : Job = record job { header = Some word } in
    let stays : Stays fixed world.words (set world.words job.cell word) world.homes
    (with_home world.homes new) = record {
      homes_stay = old_in world.homes new;
      live = stay_live fixed world.homes new;
      quiet = λ slot place live quiet.
          let other : slot ≢ job.cell = λ same.
          live_in_no_cell slot place underway.laid underway.copying live (
            job.cell,
            has.among,
            subst (IsOfCell fixed job.cell) (sym same)
                (cell_itself job.cell underway.laid has.among),
          ) in
          quiet_elsewhere fixed world.words job.cell word slot other quiet;
    } in
    record {
      stood = exchange.stood;
      change = IsChange.moving new exchange.copied.own.room refl refl has.among none exchange.copied.own.own
          (record {
            among = exchange.copied.own.among;
            from = exchange.copied.own.from;
            ends = omega (arith, exchange.copied.own.ends, exchange.copied.many);
          });
      copying = cells_may_move fixed world.words world.homes job.cell to underway.laid underway.copying
          (origin_reached job.slot has.place job.cell underway.copying has.stood has.referred has.among) none
          (copy_at worker to job exchange.copied);
      board_is = underway.board;
      work = work_won (Some header) exchange;
      stays = stays;
      logs = λ slot there.
          same_slot (λ at. at) (still_read stays
          (underway.logs (made out (Some job) todo log) exchange.inside slot there));
      jobs = λ is. read_on (Some word) job.body (still_job (Some job) stays has)
          (HasReadCell.forwarded new (new_in world.homes new) refl refl);
    }

-- the header is another: that of another copy, and stays
lost : {world : World} {worker to : ℕ} {out : Bool} {job : Job} {todo : List ℕ} {log : List Note}
    → Exchange world worker to out job todo log → (home : Home) → Contains world.homes home → home.from ≡ job.cell
    → get_or world.words job.cell 0 ≡ bits_of (Ref home.to)
    → Keeps world (set world.words job.cell (get_or world.words job.cell 0)) world.homes world.board worker
    (made out (Some job) todo log)
    (made out (Some (record job { header = Some (get_or world.words job.cell 0) })) todo log)
lost {world} {worker} {to} {out} {job} {todo} {log} exchange home there of is =
    let found : ℕ = get_or world.words job.cell 0 in
    let old : WorkerView = made out (Some job) todo log in
    let new : WorkerView = made out (Some (record job { header = Some found })) todo log in
    subst (λ (words : List ℕ). Keeps world words world.homes world.board worker old new)
    (sym (set-get_or world.words job.cell 0))
    (reading exchange.underway exchange.stood refl
    (λ slot loaded. same_slot (λ at. at) (exchange.underway.logs old exchange.inside slot loaded))
    (λ still. read_on (Some found) job.body exchange.is_job
    (HasReadCell.forwarded home there of (ap (λ (x : ℕ). Some x) is))))

-- what an exchange owes, won or lost
abbrev Exchanged : World → ℕ → ℕ → Bool → Job → List ℕ → List Note → Bool → Type 0
Exchanged world worker to out job todo log b =
    Keeps world (set world.words job.cell (if b then bits_of (Ref to) else get_or world.words job.cell 0))
    (homes_after world.homes (if b then home_at (Some job) to else None)) world.board worker
    (made out (Some job) todo log)
    (made out (Some (record job { header = Some (if b then bits_of (Ref to) else get_or world.words job.cell 0) }))
    (if b then joined todo to else todo) log)

-- from where the exchange comes to
by_header : {world : World} {worker to : ℕ} {out : Bool} {job : Job} {todo : List ℕ} {log : List Note} (b : Bool)
    → Exchange world worker to out job todo log
    → (b ≡ (get_or world.before job.cell 0 == get_or world.words job.cell 0))
    → ((at : ℕ) → get_or world.before job.cell 0 ≢ bits_of (Ref at))
    → HasHeader (fixed_of world) world.words world.homes job.cell → Exchanged world worker to out job todo log b
by_header true exchange e plain (HasHeader.unmoved none is) = won exchange none
by_header false exchange e plain (HasHeader.unmoved none is) =
    absurd (true≢false (sym (eq-eqb _ _ (sym is)) ∙ sym e))
by_header true exchange e plain (HasHeader.forwarded home there of is) =
    absurd (true≢false (e ∙ not_equal _ _ (λ same. plain home.to (same ∙ is))))
by_header false exchange e plain (HasHeader.forwarded home there of is) = lost exchange home there of is

-- no copy is one by a reference
no_copy : (world : World) (worker to at : ℕ) (body : List ℕ) → is_copy world worker to (bits_of (Ref at)) body ≡ false
no_copy world worker to at body =
    false_from_ne_true (is_copy world worker to (bits_of (Ref at)) body) (λ t.
    not_reference world.layouts (bits_of (Ref at)) at (1 + length body) body
    (whole_of world worker to (bits_of (Ref at)) body t) refl)

-- a header is exchanged by what the job has read
exchanged : {world : World} (worker to : ℕ) (out : Bool) (job : Job) (todo : List ℕ) (log : List Note)
    → Underway world → slice_get world.workers worker ≡ Some (made out (Some job) todo log)
    → Contains world.workers (made out (Some job) todo log) → out ≡ true
    → header_is job.header (λ header. is_copy world worker to header job.body) ≡ true
    → IsJob (fixed_of world) world.homes job → HasReadCell (fixed_of world) world.homes job
    → Exchanged world worker to out job todo log (is_header job.header (get_or world.words job.cell 0))
exchanged {world} worker to out job todo log underway stood inside is may has (HasReadCell.nothing none empty) =
    absurd (true≢false (sym may
    ∙ ap (λ (o : Option ℕ). header_is o (λ header. is_copy world worker to header job.body)) none))
exchanged {world} worker to out job todo log underway stood inside is may has
    (HasReadCell.forwarded home there of header) =
    absurd (true≢false (sym may
    ∙ ap (λ (o : Option ℕ). header_is o (λ head. is_copy world worker to head job.body)) header
    ∙ no_copy world worker to home.to job.body))
exchanged {world} worker to out job todo log underway stood inside is may has (HasReadCell.some header within same) =
    let found : ℕ = get_or world.words job.cell 0 in
    let head : ℕ = get_or world.before job.cell 0 in
    let t : is_copy world worker to head job.body ≡ true =
    ap (λ (o : Option ℕ). header_is o (λ head. is_copy world worker to head job.body)) (sym header) ∙ may in
    by_header (is_header job.header found)
    (record {
      underway = underway;
      stood = stood;
      inside = inside;
      is_out = is;
      is_job = has;
      copied = copied_by worker to job underway has.among same t;
    })
    (ap (λ (o : Option ℕ). is_header o found) header)
    (λ at. not_reference world.layouts head at (1 + length job.body) job.body
    (whole_of world worker to head job.body t))
    (underway.copying.headers job.cell has.among)

-- a header is exchanged
pub forwarded : {world : World} (worker to : ℕ) (out : Bool) (job : Job) (todo : List ℕ) (log : List Note)
    → Underway world → slice_get world.workers worker ≡ Some (made out (Some job) todo log)
    → Contains world.workers (made out (Some job) todo log) → out ≡ true → may_forward world worker to job ≡ true
    → Exchanged world worker to out job todo log (is_header job.header (get_or world.words job.cell 0))
forwarded {world} worker to out job todo log underway stood inside is may =
    let has : IsJob (fixed_of world) world.homes job = underway.jobs (made out (Some job) todo log) inside is in
    exchanged worker to out job todo log underway stood inside is
    (and_parts (header_is job.header (λ header. is_copy world worker to header job.body))
    (nat_lt job.cell (length world.words)) may).0 has has.read
