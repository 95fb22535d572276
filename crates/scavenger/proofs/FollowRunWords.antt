-- The first words of a free run for a copy: what is left of it becomes one free cell first.
use Rattle.std.proofs.Common.{◌≡◌, ℕ, ◌+◌, ◌-◌, ◌<◌, ◌≤◌, ◌==◌, Bool, true, false, cond, List, set}
use Rattle.std.proofs.Common.{refl, sym, ◌∙◌, ap, arith}
use Rattle.std.proofs.lemmas.Bool.Decides.{nat_tests}
use Rattle.tagged_word.specs.Headers.{header_bits}
use Rattle.tagged_word.specs.Cells.{length_offset}
use Rattle.page_space.specs.Extents.{eden_start}
use Rattle.cell_layout.proofs.OneCell.{one_cell}
use Rattle.free_runs.specs.FreeRuns.{TakesFront}
use Rattle.heap_model.specs.Types.{Cell, Run}
use Rattle.write_barrier.specs.MutatorState.{gap_header}
use Rattle.write_barrier.specs.FreeCells.{filler_header, with_free_cell}
use Rattle.scav_copy.specs.declared.places.Home.{Home}
use Rattle.scav_copy.specs.declared.places.Room.{Room}
use Rattle.scav_copy.specs.Places.{Fixed, IsInRooms, IsInCopies}
use Rattle.scav_copy.specs.Copies.{LiesInRoom}
use Rattle.scavenger.specs.Starts.{Start, IsBegun, IsFreeRun}
use Rattle.scavenger.specs.Filling.{CopiesFillRooms}
use Rattle.scavenger.specs.Following.{IsFreeAt}
use Rattle.scavenger.proofs.PagesRuns.{whole_is, taken_at, word_of_run}
use Rattle.scavenger.proofs.PagesFree.{run_stands}
use Rattle.scavenger.proofs.FollowCopies.{Fills}
use Rattle.scavenger.proofs.FollowRuns.{run_lies}

-- whatever is put over words, by two tests
put_by : (P : List ℕ → Type 0) (none one : Bool) (words first second : List ℕ) → P words → (one ≡ true → P first)
    → (none ≡ false → one ≡ false → P second) → P (cond none words (cond one first second))
put_by P true one words first second stays puts more = stays
put_by P false true words first second stays puts more = puts refl
put_by P false false words first second stays puts more = more refl refl

-- a free cell over words of rooms that are in no copy fills them
pub free_cell_fills : {fixed : Fixed} {homes : List Home} (words : List ℕ) (at count : ℕ)
    → ((one : ℕ) → at ≤ one → one < at + count → IsInRooms fixed one × (IsInCopies fixed homes one → ⊥))
    → Fills fixed homes words (with_free_cell words at count)
free_cell_fills {fixed} {homes} words at count apart =
    let gap : List ℕ = set words at (header_bits gap_header) in
    put_by (Fills fixed homes words) (count == 0) (count == 1) words (set words at (header_bits filler_header))
    (set gap (at + length_offset) count) Fills.stays
    (λ is.
    let one : count ≡ 1 = grind (arith, nat_tests, is) in
    let here = apart at (omega arith) (omega (arith, one)) in
    Fills.puts words at (header_bits filler_header) Fills.stays here.0 here.1)
    (λ some more.
    let two : 2 ≤ count = grind (arith, nat_tests, some, more) in
    let here = apart at (omega arith) (omega (arith, two)) in
    let then = apart (at + length_offset) (omega arith) (omega (arith, two)) in
    Fills.puts gap (at + length_offset) count (Fills.puts words at (header_bits gap_header) Fills.stays here.0 here.1)
    then.0 then.1)

-- The first words of a run were taken: they lie in one room, in a page, and no word of the run is in a copy. A free
-- cell stands there, with the words of the run.
pub record TakesRoom (start : Start) (fixed : Fixed) (homes : List Home) (size words : ℕ) (run : Run) : Type 0 where
  pub room : Room
  pub lies : LiesInRoom fixed room run.at words
  pub free : (at : ℕ) → run.at ≤ at → at < run.at + words → IsInCopies fixed homes at → ⊥
  pub enough : size ≤ words
  pub in_page : run.at + words ≤ eden_start start.heap.space

-- so it is where a run of the rows is taken
pub takes_room : {start : Start} {fixed : Fixed} {words : List ℕ} {rows left : List (List Run)} {homes : List Home}
    {fill size : ℕ} {run : Run} {free : Cell} → IsBegun start fixed
    → CopiesFillRooms start fixed words rows homes fill → TakesFront rows left size run
    → IsFreeAt start.heap.space words free run.at → TakesRoom start fixed homes size free.size run
takes_room {start} {words = words} {rows} {run = run} {free} begun filled takes is_free =
    let whole : Run = takes.takes.run in
    let is : IsFreeRun rows whole = whole_is takes in
    let at : run.at ≡ whole.at = taken_at takes in
    let stands = run_stands begun filled whole is in
    let one : free ≡ stands.free =
    one_cell start.heap.space words free stands.free is_free.is_cell stands.is.is_cell
    (is_free.stands ∙ at ∙ sym stands.is.stands) in
    let size : free.size ≡ whole.words = ap (λ (cell : Cell). cell.size) one ∙ stands.size in
    let lies = run_lies whole begun filled is in
    record {
      room = lies.0;
      lies = record {
        among = lies.1.among;
        from = omega (arith, lies.1.from, at);
        ends = omega (arith, lies.1.ends, at, size);
      };
      free = λ one from below.
          filled.apart one (word_of_run rows whole one filled.free is
          (record { from = omega (arith, at, from); below = omega (arith, at, size, below) }));
      enough = omega (arith, takes.takes.enough, size);
      in_page = omega (arith, stands.in_page, at, size);
    }

-- what is left of the run becomes one free cell
pub rest_fills : {start : Start} {fixed : Fixed} {homes : List Home} {size many : ℕ} {run : Run} (words : List ℕ)
    → TakesRoom start fixed homes size many run
    → Fills fixed homes words (with_free_cell words (run.at + size) (many - size))
rest_fills {size = size} {many} {run} words takes =
    free_cell_fills words (run.at + size) (many - size)
    (λ at from below.
    let low : run.at ≤ at = omega (arith, from) in
    let high : at < run.at + many = omega (arith, from, below, takes.enough) in (
      (
        takes.room,
        takes.lies.among,
        record { from = omega (arith, takes.lies.from, low); below = omega (arith, takes.lies.ends, high) },
      ),
      takes.free at low high,
    ))
