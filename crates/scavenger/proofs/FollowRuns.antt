-- Each free run lies in one of the rooms that copies may go to.
use Rattle.std.proofs.Common.{◌≡◌, ℕ, ◌+◌, ◌*◌, ◌<◌, ◌≤◌, inl, inr, List, Contains}
use Rattle.std.proofs.Common.{refl, subst, arith}
use Rattle.std.proofs.lemmas.Bool.{cases_lt}
use Rattle.page_space.specs.Sizes.{page_words}
use Rattle.free_runs.specs.FreeRuns.{AreFree, row_of}
use Rattle.free_runs.specs.Laws.{IsOfRun, IsFreeWord}
use Rattle.free_runs.proofs.PageRows.{none_behind}
use Rattle.heap_model.specs.Types.{Run}
use Rattle.scav_copy.specs.declared.places.Home.{Home}
use Rattle.scav_copy.specs.declared.places.Room.{Room}
use Rattle.scav_copy.specs.Places.{Fixed}
use Rattle.scav_copy.specs.Copies.{LiesInRoom}
use Rattle.scavenger.specs.Starts.{Start, IsBegun, IsFreeRun, room_of_run}
use Rattle.scavenger.specs.Filling.{CopiesFillRooms}
use Rattle.scavenger.proofs.PagesRuns.{run_in, run_of_word, word_of_run}

-- where a run ends, in its page, no word is free
behind_is_taken : (rows : List (List Run)) (run : Run) → (free : AreFree rows) → (is : IsFreeRun rows run)
    → run.at + run.words < page_words * (run_in rows run free is).page + page_words
    → IsFreeWord rows (run.at + run.words) → ⊥
behind_is_taken rows run free is within word =
    let has = run_of_word rows (run.at + run.words) word in
    let other : Run = has.run in
    let one = run_in rows run free is in
    let two = run_in rows other free has.is in
    let pages : two.page ≡ one.page =
    omega (arith, one.from, one.some, within, two.from, two.below, has.of_run.from, has.of_run.below) in
    none_behind (page_words * one.page) (page_words * (one.page + 1)) (row_of rows one.page) run other
    (free one.page one.there) one.among (subst (λ (page : ℕ). Contains (row_of rows page) other) pages two.among)
    has.of_run

-- a free run lies in one of the free runs of before
record LiesInRun (rows : List (List Run)) (run : Run) : Type 0 where
  whole : Run
  is : IsFreeRun rows whole
  from : whole.at ≤ run.at
  ends : run.at + run.words ≤ whole.at + whole.words

-- where each of its words was free
lies_in_run : (rows now : List (List Run)) (run : Run) → AreFree rows → AreFree now → IsFreeRun now run
    → ((at : ℕ) → IsFreeWord now at → IsFreeWord rows at) → LiesInRun rows run
lies_in_run rows now run free free_now is were =
    let one = run_in now run free_now is in
    let word : (at : ℕ) → IsOfRun run at → IsFreeWord rows at =
    λ at of_run. were at (word_of_run now run at free_now is of_run) in
    let first = run_of_word rows run.at
    (word run.at (record { from = omega arith; below = omega (arith, one.some) })) in
    let whole : Run = first.run in
    let two = run_in rows whole free first.is in
    elim (cases_lt (whole.at + whole.words) (run.at + run.words)) [
      | inl less ↦
          absurd (behind_is_taken rows whole free first.is
          (omega (arith, one.from, one.below, two.from, two.below, first.of_run.from, first.of_run.below, less))
          (word (whole.at + whole.words) (record { from = omega (arith, first.of_run.below); below = less })))
      | inr ends ↦ record { whole = whole; is = first.is; from = first.of_run.from; ends = ends }
    ]

-- so it lies in a room
pub run_lies : {start : Start} {fixed : Fixed} {words : List ℕ} {rows : List (List Run)} {homes : List Home}
    {fill : ℕ} (run : Run) → IsBegun start fixed → CopiesFillRooms start fixed words rows homes fill
    → IsFreeRun rows run
    → (room : Room) × LiesInRoom fixed room run.at run.words
run_lies {start} {rows = rows} run begun filled is =
    let lies = lies_in_run start.rows rows run begun.apart filled.free is (λ at free. (filled.left at).1 (inl free)) in
    let room : Room = room_of_run start.heap.space lies.whole in (
      room,
      record {
        among = (begun.begins.rooms room).1 (inr (lies.whole, lies.is, refl));
        from = lies.from;
        ends = lies.ends;
      },
    )
