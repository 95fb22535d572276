-- What a scavenge changes of the mutator: heap words, one after another, and nothing beside them.
use Rattle.std.proofs.Common.{◌≡◌, ℕ, ◌+◌, ◌<◌, ◌≤◌, length}
use Rattle.std.proofs.Common.{refl, sym, ◌∙◌, ap, subst, arith, length-set}
use Rattle.std.specs.Prelude.{slice_set}
use Rattle.page_space.specs.Extents.{marks_start}
use Rattle.word_store.specs.Copies.{copied}
use Rattle.word_store.proofs.CopiedWords.{length-copied}
use Rattle.write_barrier.specs.Seats.{RestStays, heap_words}
use Rattle.write_barrier.specs.Staying.{rest_stays_itself, rest_stays_again}
use Rattle.write_barrier.proofs.HeapWords.{stays_beside, stays_beside-put}
use Rattle.write_barrier.specs.MutatorState.{Mutator, forgets, with_word, with_table}
use Rattle.write_barrier.proofs.JudgedSlots.{wiped_bound}
use Rattle.scavenger.specs.Filling.{ChangesWords}

-- nothing has changed
pub changes_nothing : (main : Mutator) → ChangesWords main main
changes_nothing main = record {
  seat = rest_stays_itself main.seat;
  paths = refl;
  cycle = refl;
  young = refl;
  bound = refl;
  count = refl;
  rows = refl;
}

-- changes after changes
pub changes_again : {first old new : Mutator} → ChangesWords first old → ChangesWords old new → ChangesWords first new
changes_again {first} {old} {new} before then = record {
  seat = rest_stays_again first.seat old.seat new.seat before.seat then.seat;
  paths = then.paths ∙ before.paths;
  cycle = then.cycle ∙ before.cycle;
  young = then.young ∙ before.young;
  bound = then.bound ∙ before.bound;
  count = then.count ∙ before.count;
  rows = then.rows ∙ before.rows;
}

-- one word that is put before the marks is a change of heap words
pub put_changes : {old new : Mutator} (a word : ℕ) → new ≡ with_word old a word
    → heap_words new.seat ≡ slice_set (heap_words old.seat) a word → a < marks_start old.seat.space
    → ChangesWords old new
put_changes {old} {new} a word is heap below = record {
  seat = subst (λ (main : Mutator). RestStays old.seat main.seat) (sym is) (stays_beside-put old.seat a word);
  paths = ap (λ (main : Mutator). main.paths) is;
  cycle = ap (λ (main : Mutator). main.cycle) is;
  young = ap (λ (main : Mutator). main.young) is;
  bound = ap (λ (main : Mutator). main.recorded.bound) is ∙ wiped_bound old.recorded a (a + 1);
  count = ap length heap ∙ length-set (heap_words old.seat) a word;
  rows = ap (λ (main : Mutator). length main.free) is;
}

-- the copy of words to others before the marks is a change of heap words
pub copy_changes : {old new : Mutator} (from to count : ℕ)
    → new ≡ with_table (forgets old to (to + count)) (copied old.seat.table from to count)
    → heap_words new.seat ≡ copied (heap_words old.seat) from to count
    → length (heap_words old.seat) ≡ marks_start old.seat.space
    → from + count ≤ marks_start old.seat.space → to + count ≤ marks_start old.seat.space
    → ChangesWords old new
copy_changes {old} {new} from to count is heap heap_counted within room =
    let long = length-copied (heap_words old.seat) from to count (omega (arith, within, heap_counted))
    (omega (arith, room, heap_counted)) in
    record {
      seat = subst (λ (main : Mutator). RestStays old.seat main.seat) (sym is)
          (stays_beside old.seat (copied old.seat.table from to count) long);
      paths = ap (λ (main : Mutator). main.paths) is;
      cycle = ap (λ (main : Mutator). main.cycle) is;
      young = ap (λ (main : Mutator). main.young) is;
      bound = ap (λ (main : Mutator). main.recorded.bound) is ∙ wiped_bound old.recorded to (to + count);
      count = ap length heap ∙ long;
      rows = ap (λ (main : Mutator). length main.free) is;
    }
