-- Copies that workers hand to one another over the board.
use Rattle.std.proofs.Common.{ℕ, ◌<◌, ◌≤◌, ◌+◌, ◌^◌, ◌≡◌, ◌≢◌, ◌==◌, ◌⊎◌, inl, inr}
use Rattle.std.proofs.Common.{Bool, true, false, List, [], ◌∷◌, ◌++◌, length}
use Rattle.std.proofs.Common.{get_or, set, slice_get, Option, Some, None, if◌then◌else◌, arith, refl, ap, subst}
use Rattle.std.proofs.Common.{◌∙◌, eq-eqb}
use Rattle.std.proofs.Common.{eqb-true}
use Rattle.std.specs.List.{Contains}
use Rattle.tagged_word.specs.declared.word.Class.TheVariants.{Ref}
use Rattle.tagged_word.specs.Words.{bits_of}
use Rattle.tagged_word.specs.Readings.{reference_in}
use Rattle.core_parts.specs.declared.note.Note.{Note}
use Rattle.core_parts.specs.declared.note.Note.TheVariants as note
use Rattle.core_parts.specs.Lists.{left}
use Rattle.core_parts.specs.Boards.{IsBoard, given_word, taken_word, joined_by, taker_joined}
use Rattle.core_parts.proofs.Handing.{board_given, board_taken}
use Rattle.core_parts.proofs.Tested.{not_equal}
use Rattle.scav_copy.specs.declared.places.Home.{Home}
use Rattle.scav_copy.proofs.Ending.{one_each}
use Rattle.scav_copy.proofs.Redirecting.{equal_or_not}
use Rattle.scav_copy.proofs.Spots.{home_fits}
use Rattle.scav_core.specs.declared.workers.Job.{Job}
use Rattle.scav_core.specs.declared.workers.WorkerView.{WorkerView}
use Rattle.scav_core.specs.declared.world.World.{World}
use Rattle.scav_core.specs.Worlds.{fixed_of}
use Rattle.scav_core.specs.Views.{given_view, taken_view}
use Rattle.scav_core.specs.Underway.{times, todo_times, board_times, home_times, is_address, IsShared, IsLogged, HasJob}
use Rattle.scav_core.specs.Underway.{Underway}
use Rattle.scav_core.proofs.Counting.{one, todo_set, todo_one, board_set, board_one, refers_once, refers_to}
use Rattle.scav_core.proofs.Counting.{times_joined}
use Rattle.scav_core.proofs.Counting.{times_left}
use Rattle.scav_core.proofs.Counting.{times_stay, is_counted, counted, home_once}
use Rattle.scav_core.proofs.Keeping.{IsChange, Keeps, nothing_changes, loaded_before}
use Rattle.scav_core.proofs.Loading.{made}

-- at most one home stands at an address
pub once : {world : World} (a : ℕ) → Underway world → home_times a world.homes ≤ 1
once {world} a underway =
    home_once a world.homes (λ i j d less within. (one_each underway.laid underway.copying i j d less within).1)

-- where the views keep their jobs, and the board and what is to be done stay shared, an event owes no more
handed : {world : World} {worker : ℕ} {old new : WorkerView} {board : List ℕ} → Underway world
    → slice_get world.workers worker ≡ Some old → IsBoard board
    → IsShared (set world.workers worker new) board world.homes
    → IsLogged (fixed_of world) world.words world.homes new
    → (new.out ≡ true → HasJob (fixed_of world) world.homes new.job)
    → Keeps world world.words world.homes board worker old new
handed {world} underway stood board work logs jobs = record {
  stood = stood;
  change = IsChange.unchanged refl refl;
  copying = underway.copying;
  board_is = board;
  work = work;
  stays = nothing_changes (fixed_of world) world.words world.homes;
  logs = logs;
  jobs = jobs;
}

-- a worker that gives what it has to do
record Giving (world : World) (worker place at : ℕ) (view : WorkerView) : Type 0 where
  underway : Underway world
  stood : slice_get world.workers worker ≡ Some view
  there : place < length world.board
  listed : Contains view.todo at

-- what it gives is to be done just once
just_once : {world : World} {worker place at : ℕ} {view : WorkerView} → Giving world worker place at view
    → times at view.todo ≡ 1
just_once {world} {worker} {place} {at} {view} giving =
    let some : 1 ≤ times at view.todo = is_counted (λ x. x == at) view.todo at giving.listed (eq-eqb at at refl) in
    let part : times at view.todo ≤ todo_times at world.workers = todo_one at world.workers worker view giving.stood in
    let whole : todo_times at world.workers + board_times at world.board
    ≡ home_times at world.homes =
    giving.underway.work
    at in
    let most : home_times at world.homes ≤ 1 = once at giving.underway in
    omega (arith, some, part, whole, most)

-- what it gives has an address that a reference may have
given_fits : {world : World} {worker place at : ℕ} {view : WorkerView} → Giving world worker place at view → at < 2 ^ 32
given_fits {world} {worker} {place} {at} {view} giving =
    let single : times at view.todo ≡ 1 = just_once giving in
    let part : times at view.todo ≤ todo_times at world.workers = todo_one at world.workers worker view giving.stood in
    let whole : todo_times at world.workers + board_times at world.board
    ≡ home_times at world.homes =
    giving.underway.work
    at in
    let found = counted (λ (home : Home). home.to == at) world.homes (omega (arith, single, part, whole)) in
    let fits = home_fits found.0 giving.underway.laid giving.underway.copying found.1 in
    subst (λ (x : ℕ). x < 2 ^ 32) (eqb-true _ _ found.2) fits

-- how often an address stands in a list that another left
times_given : (a at : ℕ) (list : List ℕ) → times at list ≡ 1 → (at ≡ a) ⊎ (at ≢ a)
    → times a (left list at) + one (at == a) ≡ times a list
times_given a at list single (inl same) =
    let none : times at (left list at) ≡ 0 = times_left list at in
    let is : one (at == at) ≡ 1 = ap one (eq-eqb at at refl) in
    subst (λ (x : ℕ). times x (left list at) + one (at == x) ≡ times x list) same (omega (arith, none, is, single))
times_given a at list single (inr other) =
    let is : one (at == a) ≡ 0 = ap one (not_equal at a other) in
    let stays : times a (left list at) ≡ times a list = times_stay list at a other in
    omega (arith, is, stays)

-- the copy went from the worker to the board
work_given : {world : World} {worker place at : ℕ} {view : WorkerView} (new : WorkerView)
    → Giving world worker place at view
    → get_or world.board place 0 ≡ 0 → new.todo ≡ left view.todo at
    → IsShared (set world.workers worker new) (set world.board place (bits_of (Ref at))) world.homes
work_given {world} {worker} {place} {at} {view} new giving zero is a =
    let board : List ℕ = set world.board place (bits_of (Ref at)) in
    let all : todo_times a (set world.workers worker new) + times a view.todo
    ≡ todo_times a world.workers + times a new.todo =
    todo_set a world.workers worker view new giving.stood in
    let todo : times a new.todo ≡ times a (left view.todo at) = ap (times a) is in
    let given : times a (left view.todo at) + one (at == a) ≡ times a view.todo =
    times_given a at view.todo (just_once giving) (equal_or_not at a) in
    let set_it : board_times a board + refers_once a (get_or world.board place 0)
    ≡ board_times a world.board + refers_once a (bits_of (Ref at)) =
    board_set a world.board place (bits_of (Ref at)) giving.there in
    let was : refers_once a (get_or world.board place 0) ≡ 0 = ap (refers_once a) zero in
    let now : refers_once a (bits_of (Ref at)) ≡ one (at == a) = refers_to a at (given_fits giving) in
    let before : todo_times a world.workers + board_times a world.board
    ≡ home_times a world.homes =
    giving.underway.work a in
    omega (arith, all, todo, given, set_it, was, now, before)

-- where the word is not 0, all stays
work_kept : {world : World} {worker place at : ℕ} {view : WorkerView} (new : WorkerView)
    → Giving world worker place at view
    → new.todo ≡ view.todo
    → IsShared (set world.workers worker new) (set world.board place (get_or world.board place 0)) world.homes
work_kept {world} {worker} {place} {at} {view} new giving is a =
    let word : ℕ = get_or world.board place 0 in
    let all : todo_times a (set world.workers worker new) + times a view.todo
    ≡ todo_times a world.workers + times a new.todo =
    todo_set a world.workers worker view new giving.stood in
    let todo : times a new.todo ≡ times a view.todo = ap (times a) is in
    let set_it : board_times a (set world.board place word) + refers_once a word
    ≡ board_times a world.board + refers_once a word = board_set a world.board place word giving.there in
    let before : todo_times a world.workers + board_times a world.board
    ≡ home_times a world.homes =
    giving.underway.work a in
    omega (arith, all, todo, set_it, before)

-- what a giver has to do, and the board, by whether the word is 0
work_by : {world : World} {worker place at : ℕ} (out : Bool) (job : Option Job) (todo : List ℕ) (log : List Note)
    (b : Bool)
    → Giving world worker place at (made out job todo log) → (get_or world.board place 0 == 0) ≡ b
    → IsShared (set world.workers worker (made out job (if b then left todo at else todo)
    (log ++ note.Gave place (get_or world.board place 0) ∷ [])))
    (set world.board place (if b then bits_of (Ref at) else get_or world.board place 0)) world.homes
work_by {world} {worker} {place} {at} out job todo log true giving e =
    work_given (made out job (left todo at) (log ++ note.Gave place (get_or world.board place 0) ∷ [])) giving
    (eqb-true _ _ e) refl
work_by {world} {worker} {place} {at} out job todo log false giving e =
    work_kept (made out job todo (log ++ note.Gave place (get_or world.board place 0) ∷ [])) giving refl

-- the note of a give is not that a slot was read
not_gave : (place found slot : ℕ) → note.Gave place found ≡ note.Loaded slot → ⊥
not_gave place found slot e = cc

-- nor is that of a take
not_took : (place found slot : ℕ) → note.Took place found ≡ note.Loaded slot → ⊥
not_took place found slot e = cc

-- a copy is given to the board
pub given_away : {world : World} (worker place at : ℕ) (out : Bool) (job : Option Job) (todo : List ℕ) (log : List Note)
    → Underway world → slice_get world.workers worker ≡ Some (made out job todo log)
    → Contains world.workers (made out job todo log) → place < length world.board → Contains todo at
    → Keeps world world.words world.homes (set world.board place (given_word (get_or world.board place 0) at)) worker
    (made out job todo log) (given_view (made out job todo log) place at (get_or world.board place 0))
given_away {world} worker place at out job todo log underway stood inside there listed =
    let found : ℕ = get_or world.board place 0 in
    let giving : Giving world worker place at (made out job todo log) =
    record { underway = underway; stood = stood; there = there; listed = listed } in
    handed underway stood (board_given world.board place at there (given_fits giving) underway.board)
    (work_by out job todo log (found == 0) giving refl)
    (λ slot loaded. underway.logs (made out job todo log) inside slot
    (loaded_before log (note.Gave place found) slot (not_gave place found slot) loaded))
    (underway.jobs (made out job todo log) inside)

-- what is taken was not to be done by a worker
none_todo : {world : World} (worker place x : ℕ) (view : WorkerView) → Underway world
    → slice_get world.workers worker ≡ Some view → place < length world.board
    → reference_in (get_or world.board place 0) ≡ Some x → times x view.todo ≡ 0
none_todo {world} worker place x view underway stood there e =
    let some : refers_once x (get_or world.board place 0) ≡ 1 =
    ap (λ (o : Option ℕ). one (is_address x o)) e ∙ ap one (eq-eqb x x refl) in
    let part : refers_once x (get_or world.board place 0) ≤ board_times x world.board =
    board_one x world.board place there in
    let own : times x view.todo ≤ todo_times x world.workers = todo_one x world.workers worker view stood in
    let whole : todo_times x world.workers + board_times x world.board ≡ home_times x world.homes = underway.work x in
    let most : home_times x world.homes ≤ 1 = once x underway in
    omega (arith, some, part, own, whole, most)

-- how often an address stands in the list that another joined
times_taken : {world : World} (worker place a : ℕ) (view : WorkerView) (address : Option ℕ) → Underway world
    → slice_get world.workers worker ≡ Some view → place < length world.board
    → reference_in (get_or world.board place 0) ≡ address
    → times a (joined_by view.todo address) ≡ times a view.todo + one (is_address a address)
times_taken worker place a view None underway stood there e = omega arith
times_taken worker place a view (Some x) underway stood there e =
    times_joined a view.todo x (none_todo worker place x view underway stood there e)

-- the copy went from the board to the worker
work_taken : {world : World} (worker place : ℕ) (view new : WorkerView) → Underway world
    → slice_get world.workers worker ≡ Some view → place < length world.board
    → new.todo ≡ taker_joined view.todo (get_or world.board place 0)
    → IsShared (set world.workers worker new) (set world.board place 0) world.homes
work_taken {world} worker place view new underway stood there is a =
    let found : ℕ = get_or world.board place 0 in
    let all : todo_times a (set world.workers worker new) + times a view.todo
    ≡ todo_times a world.workers + times a new.todo =
    todo_set a world.workers worker view new stood in
    let todo : times a new.todo ≡ times a view.todo + refers_once a found =
    ap (times a) is ∙ times_taken worker place a view (reference_in found) underway stood there refl in
    let set_it : board_times a (set world.board place 0) + refers_once a found
    ≡ board_times a world.board + refers_once a 0 =
    board_set a world.board place 0 there in
    let none : refers_once a 0 ≡ 0 = refl in
    let before : todo_times a world.workers + board_times a world.board ≡ home_times a world.homes = underway.work a in
    omega (arith, all, todo, set_it, none, before)

-- a copy is taken from the board
pub taken : {world : World} (worker place : ℕ) (out : Bool) (job : Option Job) (todo : List ℕ) (log : List Note)
    → Underway world → slice_get world.workers worker ≡ Some (made out job todo log)
    → Contains world.workers (made out job todo log) → place < length world.board
    → Keeps world world.words world.homes (set world.board place (taken_word (get_or world.board place 0))) worker
    (made out job todo log) (taken_view (made out job todo log) place (get_or world.board place 0))
taken {world} worker place out job todo log underway stood inside there =
    let found : ℕ = get_or world.board place 0 in
    handed underway stood (board_taken world.board place underway.board)
    (work_taken worker place (made out job todo log)
    (taken_view (made out job todo log) place found) underway stood there refl)
    (λ slot loaded. underway.logs (made out job todo log) inside slot
    (loaded_before log (note.Took place found) slot (not_took place found slot) loaded))
    (underway.jobs (made out job todo log) inside)
