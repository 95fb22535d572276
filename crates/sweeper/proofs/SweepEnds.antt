-- A sweep that has come to the roots is at its end.
use Rattle.std.proofs.Common.{◌≡◌, ℕ, ◌+◌, ◌<◌, ◌≤◌, ◌⊎◌, inl, inr, List, slice_get, sym, ◌∙◌, ap, subst, arith}
use Rattle.page_space.specs.Extents.{roots_start}
use Rattle.free_runs.specs.FreeRuns.{AreFree}
use Rattle.nursery.specs.Young.{Young}
use Rattle.write_barrier.specs.Seats.{heap_words}
use Rattle.heap_model.specs.Heaps.{Heap, words_of_cell}
use Rattle.heap_model.specs.Changes.{Patch}
use Rattle.heap_model.specs.Collectable.{IsCollectable, IsInHalf, AreFreeRuns}
use Rattle.heap_model.specs.Remembered.{AreRemembered}
use Rattle.heap_model.proofs.Patches.{before_has}
use Rattle.heap_model.proofs.RowCovers.{covered}
use Rattle.heap_moves.specs.Moved.{IsMoved}
use Rattle.write_barrier.specs.MutatorState.{Mutator, heap_of}
use Rattle.sweeper.specs.Swept.{IsOfMarked, IsCellWord, IsSweepable, Sweeps, place_if_marked}
use Rattle.sweeper.specs.Sweeping.{IsBegun, Sweeping}
use Rattle.sweeper.proofs.FreedParts.{first_of}
use Rattle.sweeper.proofs.SweptHeap.{Swept, after, gap_is, outside_stays, marked_word_stays, cell_from}
use Rattle.sweeper.proofs.SweptMoves.{swept_is_moved}
use Rattle.sweeper.proofs.SweptRuns.{runs_are_free, runs_fill}
use Rattle.sweeper.proofs.SweptRecords.{remembered_again}

-- a half that was empty is empty
collectable_again : {heap : Heap} {words marked : List ℕ} {gaps : List Patch} (all : Swept heap words marked gaps)
    (half : ℕ) → IsCollectable heap half → IsCollectable (after all) half
collectable_again {heap} all half collectable = record {
  empty = λ cell now has inside. elim (cell_from all has) [
    | inl of_gap ↦
        let freed = gap_is all of_gap.gap of_gap.among in
        let first = first_of of_gap.gap.before freed.some freed.is.stood in
        let same : cell.at ≡ first.0.at = of_gap.fills.begins ∙ sym first.2 in
        collectable.empty first.0 (words_of_cell heap first.0) (before_has freed.is first.1)
        (subst (IsInHalf heap.space half) same inside)
    | inr stood ↦ collectable.empty cell now stood.0 inside
  ];
}

-- a word of a cell was one of a cell
cell_words_were : {heap : Heap} {words marked : List ℕ} {gaps : List Patch} (all : Swept heap words marked gaps)
    (at : ℕ) → IsCellWord (after all) at → IsCellWord heap at
cell_words_were {heap} all at is = elim (cell_from all is.has) [
  | inl of_gap ↦
      let gap : Patch = of_gap.gap in
      let freed = gap_is all gap of_gap.among in
      let one = covered heap.space heap.words gap.from gap.to gap.before at freed.is.stood
      (omega (arith, of_gap.fills.begins, is.from)) (omega (arith, of_gap.fills.ends, is.below)) in
      record {
        cell = one.cell;
        words = words_of_cell heap one.cell;
        has = before_has freed.is one.among;
        from = one.of_cell.from;
        below = one.of_cell.below;
      }
  | inr stood ↦
      record { cell = is.cell; words = is.words; has = stood.0; from = is.from; below = is.below }
]

module _ {first new : Mutator} {marked : List ℕ} (begun : IsBegun first)
    (sweeping : Sweeping first new marked (roots_start first.seat.space)) where
  -- the heap is swept
  abbrev all : Swept (heap_of first) (heap_words new.seat) marked sweeping.gaps
  all = record { whole = begun.whole; swept = sweeping.swept }

  -- and the heap is the swept one
  heap_is : after all ≡ heap_of new
  heap_is = λ i. record {
    space = sym sweeping.seat.space i;
    used = ap (λ (young : Young). young.used) (sym sweeping.young) i;
    survivors = ap (λ (young : Young). young.survivors) (sym sweeping.young) i;
    paths = sym sweeping.paths i;
    words = heap_words new.seat;
  }

  -- a word from the roots on stays, and one of a marked cell
  words_stay : (at : ℕ) → (roots_start first.seat.space ≤ at) ⊎ IsOfMarked (heap_of first) marked at
      → slice_get (heap_words new.seat) at ≡ slice_get (heap_words first.seat) at
  words_stay at (inl past) = outside_stays all at past
  words_stay at (inr of_marked) =
      marked_word_stays all at of_marked.has of_marked.among
      (record { from = of_marked.from; below = of_marked.below })

  -- So the sweep is what it is to be.
  pub sweep_ends : IsSweepable (heap_of first) marked → AreFree new.free → Sweeps first new marked
  sweep_ends closed apart = record {
    moved = subst (λ (heap : Heap). IsMoved (heap_of first) heap (place_if_marked marked)) heap_is
        (swept_is_moved all closed);
    cells = λ at is.
        cell_words_were all at (subst (λ (heap : Heap). IsCellWord heap at) (sym heap_is) is);
    seat = sweeping.seat;
    paths = sweeping.paths;
    cycle = sweeping.cycle;
    young = sweeping.young;
    outside = words_stay;
    rows = sweeping.runs.count;
    free = subst (λ (heap : Heap). AreFreeRuns heap new.free) heap_is (runs_are_free all sweeping.runs);
    apart = apart;
    filled = runs_fill all sweeping.runs;
    bound = sweeping.recorded.bound;
    remembered = λ bounded right.
        subst (λ (heap : Heap). AreRemembered heap new.recorded.slots) heap_is
        (remembered_again all sweeping.recorded bounded right);
    collectable = λ half collectable.
        subst (λ (heap : Heap). IsCollectable heap half) heap_is (collectable_again all half collectable);
  }
