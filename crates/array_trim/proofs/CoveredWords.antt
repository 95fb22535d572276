-- Words that are put one after another, and words that are made free.
use Rattle.std.proofs.Common.{◌≡◌, ◌<◌, ℕ, List, sym, ◌∙◌, ap, subst, arith}
use Rattle.std.specs.Prelude.{slice_set}
use Rattle.page_space.specs.Extents.{marks_start}
use Rattle.heap_model.specs.Remembered.{Touch, Records}
use Rattle.remembered_set.specs.Recorded.{Recorded}
use Rattle.write_barrier.specs.Recording.{Touches}
use Rattle.write_barrier.specs.Seats.{Seat, RestStays, heap_words}
use Rattle.write_barrier.specs.Staying.{rest_stays_again, rest_stays_itself}
use Rattle.write_barrier.specs.MutatorState.{Mutator}
use Rattle.object_cells.specs.Made.{PutsWords}
use Rattle.object_cells.proofs.WordsPut.{PutsWord, word_beside, word_is_put}
use Rattle.write_barrier.specs.FreeCells.{with_free_cell}

-- where the seat, the paths and the young generation are the same, no word was put
pub puts_none : {old new : Mutator} → new.seat ≡ old.seat → new.paths ≡ old.paths → new.young ≡ old.young
    → PutsWords old new (heap_words old.seat)
puts_none {old} seat paths young = record {
  beside = subst (λ (one : Seat). RestStays old.seat one) (sym seat) (rest_stays_itself old.seat);
  paths = paths;
  young = young;
  heap = ap heap_words seat;
}

-- what was touched since nothing but the cycle was changed was touched since before
pub touches_from : {old mid new : Mutator} {touch : ℕ → Touch} → mid.seat ≡ old.seat → mid.recorded ≡ old.recorded
    → mid.free ≡ old.free → Touches mid new touch → Touches old new touch
touches_from {old} {mid} {new} {touch} seat recorded free touches = record {
  free = touches.free ∙ free;
  bound = touches.bound ∙ ap (λ (one : Recorded). one.bound) recorded;
  records = subst (λ (one : Recorded). Records one.bound (heap_words old.seat) (heap_words new.seat) one.slots
      new.recorded.slots touch) recorded
      (subst (λ (one : Seat). Records mid.recorded.bound (heap_words one) (heap_words new.seat) mid.recorded.slots
      new.recorded.slots touch) seat touches.records);
}

-- where words were put, and then one more, a slot's or none, all were put
pub puts_then : {old mid new : Mutator} {words : List ℕ} (a word : ℕ) → PutsWords old mid words
    → PutsWord mid new a word → a < marks_start old.seat.space → PutsWords old new (slice_set words a word)
puts_then {old} {mid} {new} a word first puts below =
    let within : a < marks_start mid.seat.space = omega (arith, below, ap marks_start first.beside.space) in
    record {
      beside = rest_stays_again old.seat mid.seat new.seat first.beside (word_beside puts within);
      paths = puts.paths ∙ first.paths;
      young = puts.young ∙ first.young;
      heap = word_is_put puts within ∙ ap (λ all. slice_set all a word) first.heap;
    }

-- the address at which the marks begin
abbrev pub marks : Mutator → ℕ
marks main = marks_start main.seat.space

-- where words were put, and then so many at an address made free, both were put
pub covers_then : {old mid new : Mutator} {words : List ℕ} (at count : ℕ) → PutsWords old mid words
    → PutsWords mid new (with_free_cell (heap_words mid.seat) at count)
    → PutsWords old new (with_free_cell words at count)
covers_then {old} {mid} {new} at count first next = record {
  beside = rest_stays_again old.seat mid.seat new.seat first.beside next.beside;
  paths = next.paths ∙ first.paths;
  young = next.young ∙ first.young;
  heap = next.heap ∙ ap (λ all. with_free_cell all at count) first.heap;
}
