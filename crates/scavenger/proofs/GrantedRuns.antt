-- The first words of a free run were granted: they are fillers, the free runs that are left are free cells, and no cell
-- stands where none did beside the run.
use Rattle.std.proofs.Common.{ℕ, ◌+◌, ◌-◌, inl, inr, true, List, refl, sym, ◌∙◌, subst, arith}
use Rattle.free_runs.specs.FreeRuns.{AreFree, TakesFront}
use Rattle.free_runs.proofs.TakenWords.{taken_are_apart}
use Rattle.heap_model.specs.Types.{Cell, Run}
use Rattle.heap_model.specs.Heaps.{Heap, words_of_cell}
use Rattle.heap_model.specs.Changes.{AreFillers}
use Rattle.heap_model.specs.Collectable.{IsCollectable, IsFreeCell, AreFreeRuns}
use Rattle.heap_model.proofs.CellsApart.{first_of_cell}
use Rattle.heap_model.proofs.Patches.{row_holds}
use Rattle.heap_model.proofs.StaysCollectable.{half_behind}
use Rattle.write_barrier.specs.MutatorState.{AreGranted, AvoidsFree}
use Rattle.write_barrier.proofs.FreeCells.{free_cell_by}
use Rattle.scavenger.specs.Starts.{IsFreeRun}
use Rattle.scavenger.proofs.PagesRuns.{whole, still_free, left_from, none_begins, first_of_run}
use Rattle.scavenger.proofs.GrantedWords.{Granting, stood, in_page, rest, rest_after, filler_after, after_free}
use Rattle.scavenger.proofs.GrantedCells.{granted, cell_stays, cell_from, after_stands, after_in_page}

-- a heap that may be collected may be so afterwards
pub stays_collectable : {heap : Heap} {run : Run} {n : ℕ} (granting : Granting heap run n) (half : ℕ)
    → IsCollectable heap half → IsCollectable (granted granting) half
stays_collectable {heap} granting half collectable = record {
  empty = λ cell words has inside. elim (cell_from granting has) [
    | inl old ↦ collectable.empty cell words old.0 inside
    | inr came ↦ omega (arith, half_behind heap.space half cell.at inside, after_in_page granting came)
  ];
}

-- the words that are granted are fillers
pub fillers_stand : {heap : Heap} {run : Run} {n : ℕ} (granting : Granting heap run n)
    → AreFillers (granted granting) run.at (run.at + n)
fillers_stand {heap} {run} {n} granting =
    let has = granting.free.has in
    let rows = granting.whole.rows in
    let cell : Cell = stood granting in
    let first = row_holds rows has.in_region has.used has.in_row (first_of_cell has) in
    let some = (first_of_cell has).below in
    let last = row_holds {at = cell.at + cell.size - 1} rows has.in_region has.used has.in_row
    (record { from = omega (arith, some); below = omega (arith, some) }) in
    record {
      extent = has.row.extent;
      among = has.in_region;
      begins = omega (arith, first.from, granting.free.stands);
      ends = omega (arith, last.below, some, granting.free.stands, granting.free.size, granting.enough);
      of_page = omega (arith, in_page granting, granting.enough);
      each = λ at above below. record {
        cell = free_cell_by true at 1;
        words = words_of_cell (granted granting) (free_cell_by true at 1);
        has = after_stands granting (filler_after granting at above below);
        stands = refl;
        filler = refl;
      };
    }

module _ {heap : Heap} {rows left : List (List Run)} {n : ℕ} {taken : Run} (takes : TakesFront rows left n taken)
    (granting : Granting heap (whole takes) n) (own : AreFree rows) (free : AreFreeRuns heap rows) where
  -- each granted word is a filler
  pub are_granted : AreGranted (granted granting) taken
  are_granted =
      subst (AreGranted (granted granting)) (sym takes.takes.front) (λ some. fillers_stand granting)

  -- a free run that is left is one free cell
  run_left : (run : Run) → IsFreeRun left run → IsFreeCell (granted granting) run
  run_left run is = elim (left_from takes run is) [
    | inl was ↦
        let one = free was.row run was.of_rows was.among in
        let elsewhere = none_begins takes run granting.some own is in
        record {
          cell = one.cell;
          words = one.words;
          has = cell_stays granting one.has (λ same. elsewhere (sym one.stands ∙ same));
          stands = one.stands;
          size = one.size;
          of_page = one.of_page;
          free = one.free;
        }
    | inr more ↦
        let there = rest_after granting more.0 in
        subst (IsFreeCell (granted granting)) more.1 record {
          cell = rest granting;
          words = words_of_cell (granted granting) (rest granting);
          has = after_stands granting there;
          stands = refl;
          size = refl;
          of_page = after_in_page granting there;
          free = (after_free granting (rest granting) there).0;
        }
  ]

  -- so each is
  pub runs_left : AreFreeRuns (granted granting) left
  runs_left row run there among = run_left run (record { row = row; of_rows = there; among = among })

  -- and none begins in what is granted
  pub runs_apart : AvoidsFree taken left
  runs_apart row run there among from below =
      taken_are_apart rows left n taken run.at own takes (record { from = from; below = below })
      (first_of_run left run (still_free takes granting.some own)
      (record { row = row; of_rows = there; among = among }))
