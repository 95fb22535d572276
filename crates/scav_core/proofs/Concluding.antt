-- What may be concluded of home copies and of what is left to do.
use Rattle.std.proofs.Common.{ℕ, zero, suc, ◌≤◌, ◌+◌, ◌≡◌, ◌==◌, ◌⊎◌, inl, inr, true, List, [], ◌∷◌, length}
use Rattle.std.proofs.Common.{Option, Some, None, IsSome, arith, refl, sym, ap, subst, ◌∙◌, eq-eqb, eqb-true}
use Rattle.std.specs.List.{Contains}
use Rattle.std.proofs.lemmas.List.Sums.{sum_by-cons}
use Rattle.tagged_word.specs.declared.reading.Reading.{Reading}
use Rattle.tagged_word.specs.Readings.{read_cell, reference_in}
use Rattle.tagged_word.proofs.Members.{first_in, rest_in}
use Rattle.scav_copy.specs.declared.places.Home.{Home}
use Rattle.scav_copy.specs.Places.{Fixed, cell_before, size_of, offsets_in, StoodAt}
use Rattle.scav_copy.proofs.Continuing.{copying_goes_on}
use Rattle.scav_copy.proofs.Spots.{from_is}
use Rattle.scav_copy.proofs.Reading.{copies_end, copies_read}
use Rattle.scav_core.specs.declared.event.Event.TheVariants.{LoadSlot}
use Rattle.scav_core.specs.declared.workers.Job.{Job}
use Rattle.scav_core.specs.declared.workers.WorkerView.{WorkerView}
use Rattle.scav_core.specs.declared.world.World.{World}
use Rattle.scav_core.specs.Worlds.{fixed_of}
use Rattle.scav_core.specs.Possible.{is_possible}
use Rattle.scav_core.specs.Underway.{times, todo_times, is_address, board_times, home_times, IsAt, IsQuiet, Underway}
use Rattle.scav_core.specs.WorkerLaws.{HomesReadAsCells, IsReadable, TodoReadsAsCells, WasRead, WorkersAreDone}
use Rattle.scav_core.specs.WorkerLaws.{LeftIsOnBoard, NothingLeftIsDone, MainGoesOn}
use Rattle.scav_core.proofs.Counting.{is_counted, counted}
use Rattle.scav_core.proofs.Enabling.{todo_may}

-- a home copy reads as its cell
pub homes_read : HomesReadAsCells
homes_read world home bound underway there ends =
    copies_read (fixed_of world) world.words world.homes home bound underway.laid underway.copying there ends

-- the cell that some words read as, where there is one, with its slots
readable_as : (world : World) (worker at bound : ℕ) (cell : Option Reading)
    → read_cell world.words world.layouts at bound ≡ cell → IsSome cell
    → ((offset : ℕ) → Contains (offsets_in cell) offset → is_possible world (LoadSlot worker (at + offset)) ≡ true)
    → IsReadable world worker at bound
readable_as world worker at bound None e is slots = cc
readable_as world worker at bound (Some cell) e is slots = record { cell = cell; reads = e; slots = slots }

-- what a worker has to do reads as a cell
pub todo_reads : TodoReadsAsCells
todo_reads world worker view at bound underway stood out idle there long =
    let fixed : Fixed = fixed_of world in
    let found = todo_may world worker view at underway stood out idle there in
    let home : Home = found.0 in
    let ends : home.to + size_of fixed home.from ≤ length world.words =
    copies_end fixed world.words world.homes home underway.laid underway.copying found.1 in
    readable_as world worker at bound (cell_before fixed home.from)
    (ap (λ (a : ℕ). read_cell world.words world.layouts a bound) (sym found.2)
    ∙ homes_read world home bound underway found.1 (omega (arith, ends, long)))
    (underway.laid.cells_are home.from (from_is home underway.copying found.1))
    found.3

-- a sum of two that is not 0 has a part that is not
one_of_two : (a b : ℕ) → 1 ≤ a + b → (1 ≤ a) ⊎ (1 ≤ b)
one_of_two zero b some = inr (omega arith)
one_of_two (suc a) b some = inl (omega arith)

-- an address that stands in a list is in it
stands_in : (a : ℕ) (list : List ℕ) → 1 ≤ times a list → Contains list a
stands_in a list some =
    let found = counted (λ x. x == a) list some in
    subst (Contains list) (eqb-true _ _ found.2) found.1

-- a worker that has a copy to do
abbrev HasTodo : List WorkerView → ℕ → Type 0
HasTodo workers a = (view : WorkerView) × Contains workers view × Contains view.todo a

-- what workers have to do, one of them has to do
todo_some : (a : ℕ) (workers : List WorkerView) → 1 ≤ todo_times a workers → HasTodo workers a
todo_some a [] some = absurd (omega arith)
todo_some a (view ∷ workers) some =
    elim (one_of_two (times a view.todo) (todo_times a workers)
    (subst (λ (n : ℕ). 1 ≤ n) (sum_by-cons (λ (v : WorkerView). times a v.todo) view workers) some)) [
      | inl here ↦ (view, first_in view workers, stands_in a view.todo here)
      | inr rest ↦ let found = todo_some a workers rest in (found.0, rest_in view workers found.0 found.1, found.2)
    ]

-- a word of the board that is found to refer to an address does
address_found : (a : ℕ) (o : Option ℕ) → is_address a o ≡ true → o ≡ Some a
address_found a None t = cc
address_found a (Some b) t = ap (λ (x : ℕ). Some x) (eqb-true _ _ t)

-- a copy that stands is to be done by a worker, or a word of the board refers to it
todo_or_board : {world : World} (home : Home) → Underway world → Contains world.homes home
    → HasTodo world.workers home.to ⊎ ((word : ℕ) × Contains world.board word × (reference_in word ≡ Some home.to))
todo_or_board {world} home underway there =
    let some : 1 ≤ home_times home.to world.homes =
    is_counted (λ (one : Home). one.to == home.to) world.homes home there (eq-eqb home.to home.to refl) in
    let whole : todo_times home.to world.workers + board_times home.to world.board
    ≡ home_times home.to world.homes = underway.work home.to in
    elim (one_of_two (todo_times home.to world.workers) (board_times home.to world.board)
    (omega (arith, some, whole))) [
      | inl todo ↦ inl (todo_some home.to world.workers todo)
      | inr board ↦
          let found = counted (λ (word : ℕ). is_address home.to (reference_in word)) world.board board in
          inr (found.0, found.1, address_found home.to (reference_in found.0) found.2)
    ]

-- the slot was read by a worker that is at no slot, so it refers to none of the cells
read_is_quiet : {world : World} (slot : ℕ) → Underway world → WorkersAreDone world → WasRead world slot
    → IsQuiet (fixed_of world) world.words slot
read_is_quiet {world} slot underway done (view, there, logged) =
    let read = underway.logs view there slot logged in
    elim read.done [
      | inl at ↦ absurd (subst (λ (job : Option Job). IsAt job slot) (done.idle view there) at)
      | inr quiet ↦ quiet
    ]

-- a live slot that refers to one of the cells is one of a copy on the board
pub left_is_on_board : LeftIsOnBoard
left_is_on_board world slot place cell underway done (StoodAt.itself there same) refers is =
    absurd (read_is_quiet slot underway done (done.slots slot there) cell refers is)
left_is_on_board world slot place cell underway done (StoodAt.in_cell home offset there is_slot e f) refers is =
    elim (todo_or_board home underway there) [
      | inl (view, among, todo) ↦
          absurd (read_is_quiet slot underway done
          (subst (WasRead world) e (done.todo view home offset among there todo is_slot)) cell refers is)
      | inr (word, stands, to) ↦ record {
        home = home;
        among = there;
        word = word;
        stands = stands;
        refers = to;
        offset = offset;
        is_slot = is_slot;
        at = e;
      }
    ]

-- so with no reference on the board the scavenge is done
pub nothing_left : NothingLeftIsDone
nothing_left world underway done none slot place cell stood refers is =
    let left = left_is_on_board world slot place cell underway done stood refers is in
    let e : Some left.home.to ≡ None = sym left.refers ∙ none left.word left.stands in
    cc

-- a scavenge by one goes on from the words and homes that workers left
pub main_goes_on : MainGoesOn
main_goes_on start world now all laid copying on =
    copying_goes_on (fixed_of start) world.words now world.homes all laid copying on
