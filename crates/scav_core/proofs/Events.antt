-- Each event keeps a scavenge underway, and so does each list of them.
use Rattle.std.proofs.Common.{ℕ, ◌<◌, ◌+◌, ◌≡◌, inl, inr, Bool, true, false, List, [], ◌∷◌, ◌++◌}
use Rattle.std.proofs.Common.{length, get_or, set}
use Rattle.std.proofs.Common.{slice_get, Option, Some, None, nat_lt, arith, refl, sym, ap, subst, ◌∙◌}
use Rattle.std.specs.List.{Contains}
use Rattle.std.proofs.lemmas.Bool.{and_parts, true≢false}
use Rattle.std.proofs.lemmas.Bool.Decides.{nat_tests}
use Rattle.std.proofs.lemmas.List.{set-get_or, length-append, get_or_append_left}
use Rattle.std.proofs.lemmas.Option.{slice_get-get_or}
use Rattle.std.proofs.lemmas.List.Elements.{Contains-push_cases, All-contains, All-replicate}
use Rattle.std.proofs.lemmas.List.Sums.{sum_by-append}
use Rattle.page_space.specs.Extents.{board_words}
use Rattle.core_parts.specs.declared.note.Note.{Note}
use Rattle.core_parts.specs.Boards.{IsBoard, empty_board}
use Rattle.core_parts.specs.Lists.{is_in}
use Rattle.tagged_word.specs.Readings.{reference_in}
use Rattle.scav_copy.specs.declared.places.Home.{Home}
use Rattle.scav_copy.specs.Copies.{Copying}
use Rattle.scav_copy.proofs.Spots.{none_in}
use Rattle.scav_core.proofs.Counting.{none_counted}
use Rattle.core_parts.proofs.Handing.{empty_is_board}
use Rattle.core_parts.proofs.Joining.{in_found}
use Rattle.scav_copy.proofs.Filling.{start_is_copying}
use Rattle.scav_core.specs.declared.event.Event.{Event}
use Rattle.scav_core.specs.declared.event.Event.TheVariants as event
use Rattle.scav_core.specs.declared.workers.Job.{Job}
use Rattle.scav_core.specs.declared.workers.WorkerView.{WorkerView}
use Rattle.scav_core.specs.declared.world.World.{World}
use Rattle.scav_core.specs.Worlds.{fixed_of, lent_view}
use Rattle.scav_core.specs.Views.{touched, loaded_view, with_header, with_body_word}
use Rattle.scav_core.specs.Steps.{word_found, stepped, stepped_by, worker_of, after}
use Rattle.scav_core.specs.Possible.{may, may_by, is_possible, is_place}
use Rattle.scav_core.specs.Underway.{times, todo_times, board_times, home_times, is_address, IsLogged, HasJob, Underway}
use Rattle.scav_core.specs.WorldLaws.{FreshIsUnderway, EventsKeepUnderway, ListsKeepUnderway}
use Rattle.scav_core.proofs.Exchanging.{forwarded}
use Rattle.scav_core.proofs.Redirecting.{redirected}
use Rattle.scav_core.proofs.Handing.{given_away, taken}
use Rattle.scav_core.proofs.Keeping.{Keeps, kept, changed, view_in}
use Rattle.scav_core.proofs.Loading.{made, reading, slot_loaded, header_loaded, body_loaded}
use Rattle.scav_core.proofs.Moving.{word_copied}

-- what an event of a worker came to
pub record Owes (world next : World) (worker : ℕ) : Type 0 where
  pub words : List ℕ
  pub homes : List Home
  pub board : List ℕ
  pub old : WorkerView
  pub new : WorkerView
  pub keeps : Keeps world words homes board worker old new
  pub is : next ≡ changed world words homes board worker new

-- an event of a worker pays what it owes, if it does so for each view that the worker may have
by_view : (world : World) (worker : ℕ) (event : Event) (view : Option WorkerView) → slice_get world.workers worker
    ≡ view
    → may_by world event view ≡ true
    → ((view : WorkerView) → slice_get world.workers worker ≡ Some view → view.out ≡ true
    → may world event view ≡ true
    → Owes world (stepped world worker event view (word_found world (touched view event))) worker)
    → Owes world (stepped_by world worker event view) worker
by_view world worker event None e t keeps = cc
by_view world worker event (Some view) e t keeps =
    let parts = and_parts view.out (may world event view) t in keeps view e parts.0 parts.1

-- what is paid is paid
paid : {world : World} {words : List ℕ} {homes : List Home} {board : List ℕ} {worker : ℕ} {old new : WorkerView}
    → Keeps world words homes board worker old new → Owes world (changed world words homes board worker new) worker
paid {words = words} {homes} {board} {old = old} {new} keeps =
    record { words = words; homes = homes; board = board; old = old; new = new; keeps = keeps; is = refl }

-- a word that is stored as it was found changes nothing
same_words : (world : World) (worker : ℕ) (old new : WorkerView) (at : ℕ)
    → Keeps world world.words world.homes world.board worker old new
    → Owes world (changed world (set world.words at (get_or world.words at 0)) world.homes world.board worker new)
    worker
same_words world worker old new at keeps =
    paid (subst (λ (words : List ℕ). Keeps world words world.homes world.board worker old new)
    (sym (set-get_or world.words at 0)) keeps)

-- the event of a worker that has this view pays what it owes
abbrev Steps : World → ℕ → Event → WorkerView → Type 0
Steps world worker event view = Owes world
    (stepped world worker event view (word_found world (touched view event))) worker

-- a worker ends
returned : {world : World} (worker : ℕ) (view : WorkerView) → Underway world → slice_get world.workers worker
    ≡ Some view
    → Steps world worker (event.Return worker) view
returned {world} worker view underway stood =
    paid (reading {new = record view { out = false }} underway stood refl
    (underway.logs view (view_in world.workers worker view stood)) (λ out. absurd (true≢false (sym out))))

-- a worker reads a header
header_step : {world : World} (worker : ℕ) (out : Bool) (job : Option Job) (todo : List ℕ) (log : List Note)
    → Underway world
    → slice_get world.workers worker ≡ Some (made out job todo log) → out ≡ true
    → may world (event.LoadHeader worker) (made out job todo log) ≡ true
    → Steps world worker (event.LoadHeader worker) (made out job todo log)
header_step worker out None todo log underway stood is t = cc
header_step {world} worker out (Some job) todo log underway stood is t =
    same_words world worker (made out (Some job) todo log)
    (made out (with_header (Some job) (get_or world.words job.cell 0)) todo log) job.cell
    (header_loaded worker out job todo log underway stood
    (view_in world.workers worker (made out (Some job) todo log) stood) is t)

-- a worker reads the next word of a cell
body_step : {world : World} (worker : ℕ) (out : Bool) (job : Option Job) (todo : List ℕ) (log : List Note)
    → Underway world
    → slice_get world.workers worker ≡ Some (made out job todo log) → out ≡ true
    → may world (event.LoadBody worker) (made out job todo log) ≡ true
    → Steps world worker (event.LoadBody worker) (made out job todo log)
body_step worker out None todo log underway stood is t = cc
body_step {world} worker out (Some job) todo log underway stood is t =
    same_words world worker (made out (Some job) todo log)
    (made out (with_body_word (Some job) (get_or world.words (job.cell + 1 + length job.body) 0)) todo log)
    (job.cell + 1 + length job.body) (body_loaded worker out job todo log underway stood
    (view_in world.workers worker (made out (Some job) todo log) stood) is t)

-- a worker exchanges a header
forward_step : {world : World} (worker to : ℕ) (out : Bool) (job : Option Job) (todo : List ℕ) (log : List Note)
    → Underway world → slice_get world.workers worker ≡ Some (made out job todo log) → out ≡ true
    → may world (event.Forward worker to) (made out job todo log) ≡ true
    → Steps world worker (event.Forward worker to) (made out job todo log)
forward_step worker to out None todo log underway stood is t = cc
forward_step {world} worker to out (Some job) todo log underway stood is t =
    paid (forwarded worker to out job todo log underway stood
    (view_in world.workers worker (made out (Some job) todo log) stood) is t)

-- a worker stores a reference in its slot
redirect_step : {world : World} (worker : ℕ) (out : Bool) (job : Option Job) (todo : List ℕ) (log : List Note)
    → Underway world → slice_get world.workers worker ≡ Some (made out job todo log) → out ≡ true
    → may world (event.Redirect worker) (made out job todo log) ≡ true
    → Steps world worker (event.Redirect worker) (made out job todo log)
redirect_step worker out None todo log underway stood is t = cc
redirect_step {world} worker out (Some job) todo log underway stood is t =
    paid (redirected worker out job todo log underway stood
    (view_in world.workers worker (made out (Some job) todo log) stood) is t)

-- a word that is found to be one of the board is there
place_there : (world : World) (place : ℕ) → is_place world place ≡ true → place < length world.board
place_there world place t =
    let there : nat_lt place (length world.board) ≡ true =
    (and_parts (nat_lt place board_words) (nat_lt place (length world.board)) t).1 in
    grind (arith, nat_tests)

-- no word of an empty board refers to an address
empty_times : (a : ℕ) → board_times a empty_board ≡ 0
empty_times a = none_counted (λ word. is_address a (reference_in word)) empty_board
    (λ word there. ap (λ (w : ℕ). is_address a (reference_in w))
    (All-contains (λ (w : ℕ). w ≡ 0) empty_board word (All-replicate (λ (w : ℕ). w ≡ 0) board_words 0 refl) there))

-- what is put behind leaves those before it
pub slice_get_before : {X : Type 0} (xs : List X) (x : X) (k : ℕ) → k < length xs
    → slice_get (xs ++ x ∷ []) k ≡ slice_get xs k
slice_get_before xs x k less =
    let more : k < length (xs ++ x ∷ []) = omega (arith, less, length-append xs (x ∷ [])) in
    slice_get-get_or (xs ++ x ∷ []) k x more
    ∙ ap (λ y. Some y) (get_or_append_left xs (x ∷ []) x k less) ∙ sym (slice_get-get_or xs k x less)

-- one more worker begins
lent : {world : World} → Underway world → Underway (record world { workers = world.workers ++ lent_view ∷ [] })
lent {world} underway = record {
  laid = underway.laid;
  copying = underway.copying;
  board = underway.board;
  work = λ a.
      let all : todo_times a (world.workers ++ lent_view ∷ [])
      ≡ todo_times a world.workers + todo_times a (lent_view ∷ []) =
      sum_by-append (λ (view : WorkerView). times a view.todo) world.workers (lent_view ∷ []) in
      let none : todo_times a (lent_view ∷ []) ≡ 0 = refl in
      let before : todo_times a world.workers + board_times a world.board
      ≡ home_times a world.homes = underway.work a in
      omega (arith, all, none, before);
  logs = λ view there. elim (Contains-push_cases world.workers lent_view view there) [
    | inl old ↦ underway.logs view old
    | inr same ↦ subst (IsLogged (fixed_of world) world.words world.homes) same
        (λ slot loaded. absurd (none_in _ loaded))
  ];
  jobs = λ view there. elim (Contains-push_cases world.workers lent_view view there) [
    | inl old ↦ underway.jobs view old
    | inr same ↦ subst (λ (v : WorkerView). v.out ≡ true → HasJob (fixed_of world) world.homes v.job) same (λ out. tt)
  ];
}

-- What an event comes to: one of the main side, which changes neither words nor homes nor a view, or one of a worker.
pub data Comes (world : World) (event : Event) : Type 0 where
  of_main : worker_of event ≡ None → (after world event).words ≡ world.words → (after world event).homes ≡ world.homes
      → Underway (after world event)
      → ((worker : ℕ) → worker < length world.workers
      → slice_get (after world event).workers worker ≡ slice_get world.workers worker) → Comes world event
  of_worker : (worker : ℕ) → worker_of event ≡ Some worker → Owes world (after world event) worker → Comes world event

-- each event that is possible comes to that
pub comes : (world : World) (event : Event) → Underway world → is_possible world event ≡ true → Comes world event
comes world event.Look underway t = Comes.of_main refl refl refl underway (λ worker within. refl)
comes world event.Lend underway t =
    Comes.of_main refl refl refl (lent underway)
    (λ worker within. slice_get_before world.workers lent_view worker within)
comes world (event.Return worker) underway t =
    Comes.of_worker worker refl (by_view world worker (event.Return worker) (slice_get world.workers worker) refl t
    (λ view stood out may. returned worker view underway stood))
comes world (event.LoadSlot worker slot) underway t =
    Comes.of_worker worker refl
    (by_view world worker (event.LoadSlot worker slot) (slice_get world.workers worker) refl t
    (λ view stood out may. same_words world worker view
    (loaded_view world.cells view slot (get_or world.words slot 0)) slot
    (slot_loaded worker slot view.out view.job view.todo view.log underway stood
    (view_in world.workers worker view stood) may)))
comes world (event.LoadHeader worker) underway t =
    Comes.of_worker worker refl (by_view world worker (event.LoadHeader worker) (slice_get world.workers worker) refl t
    (λ view stood out may. header_step worker view.out view.job view.todo view.log underway stood out may))
comes world (event.LoadBody worker) underway t =
    Comes.of_worker worker refl (by_view world worker (event.LoadBody worker) (slice_get world.workers worker) refl t
    (λ view stood out may. body_step worker view.out view.job view.todo view.log underway stood out may))
comes world (event.CopyWord worker at word) underway t =
    Comes.of_worker worker refl
    (by_view world worker (event.CopyWord worker at word) (slice_get world.workers worker) refl t
    (λ view stood out may. paid
    (word_copied worker at word view underway stood (view_in world.workers worker view stood) may)))
comes world (event.Forward worker to) underway t =
    Comes.of_worker worker refl (by_view world worker (event.Forward worker to) (slice_get world.workers worker) refl t
    (λ view stood out may. forward_step worker to view.out view.job view.todo view.log underway stood out may))
comes world (event.Redirect worker) underway t =
    Comes.of_worker worker refl (by_view world worker (event.Redirect worker) (slice_get world.workers worker) refl t
    (λ view stood out may. redirect_step worker view.out view.job view.todo view.log underway stood out may))
comes world (event.Give worker place at) underway t =
    Comes.of_worker worker refl
    (by_view world worker (event.Give worker place at) (slice_get world.workers worker) refl t
    (λ view stood out may.
    let parts = and_parts (is_place world place) (is_in view.todo at) may in
    paid (given_away worker place at view.out view.job view.todo view.log underway stood
    (view_in world.workers worker view stood) (place_there world place parts.0) (in_found view.todo at parts.1))))
comes world (event.Take worker place) underway t =
    Comes.of_worker worker refl (by_view world worker (event.Take worker place) (slice_get world.workers worker) refl t
    (λ view stood out may. paid (taken worker place view.out view.job view.todo view.log underway stood
    (view_in world.workers worker view stood) (place_there world place may))))

-- what an event comes to keeps a world underway
keeps_by : {world : World} {event : Event} → Underway world → Comes world event → Underway (after world event)
keeps_by underway (Comes.of_main main words homes under views) = under
keeps_by underway (Comes.of_worker worker of owes) = subst Underway (sym owes.is) (kept underway owes.keeps)

-- each event that is possible keeps a world underway
pub events_keep : EventsKeepUnderway
events_keep world event underway t = keeps_by underway (comes world event underway t)

-- so does each list of them
pub lists_keep : ListsKeepUnderway
lists_keep world [] underway possible = underway
lists_keep world (event ∷ events) underway possible =
    lists_keep (after world event) events (events_keep world event underway possible.0) possible.1

-- a fresh world is underway
pub fresh_is_underway : FreshIsUnderway
fresh_is_underway world fresh =
    let no_views : (view : WorkerView) → Contains world.workers view → ⊥ = λ view there.
    none_in view (subst (λ (views : List WorkerView). Contains views view) fresh.workers there) in
    record {
      laid = fresh.laid;
      copying = subst (λ (homes : List Home). Copying (fixed_of world) world.words homes) (sym fresh.homes)
          (subst (λ (words : List ℕ). Copying (fixed_of world) words []) (sym fresh.words)
          (start_is_copying (fixed_of world)));
      board = subst IsBoard (sym fresh.board) empty_is_board;
      work = λ a.
          let views : todo_times a world.workers ≡ 0 = ap (todo_times a) fresh.workers in
          let board : board_times a world.board ≡ 0 = ap (board_times a) fresh.board ∙ empty_times a in
          let homes : home_times a world.homes ≡ 0 = ap (home_times a) fresh.homes in
          omega (arith, views, board, homes);
      logs = λ view there. absurd (no_views view there);
      jobs = λ view there. absurd (no_views view there);
    }
