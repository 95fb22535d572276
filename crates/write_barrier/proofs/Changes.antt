-- Words that change one after another while a heap is opened.
use Rattle.std.proofs.Common.{◌≡◌, ◌≢◌, ℕ, ◌+◌, ◌*◌, ◌<◌, ◌≤◌, ◌⊎◌, inl, inr, List, Option}
use Rattle.atomic_table.specs.Seated.{TableId}
use Rattle.std.proofs.Common.{length, Some, slice_get}
use Rattle.std.proofs.Common.{refl, sym, ◌∙◌, ap, subst, arith, length-set, below_more}
use Rattle.std.specs.Prelude.{slice_set}
use Rattle.std.proofs.lemmas.List.{length-replicate, get_or-replicate}
use Rattle.std.proofs.lemmas.Option.{slice_get-get_or}
use Rattle.tagged_word.specs.Headers.{header_bits}
use Rattle.page_space.specs.Sizes.{page_words}
use Rattle.page_space.specs.Extents.{Space, marks_start}
use Rattle.page_space.proofs.Starts.{roots_start_is, layouts_start_is, marks_start_is}
use Rattle.object_graph.proofs.Lists.{slice_get-set_same, slice_get-set_other}
use Rattle.handle_roots.specs.Roots.{root_at}
use Rattle.write_barrier.specs.Seats.{RestStays, heap_words, fresh}
use Rattle.write_barrier.specs.Staying.{rest_stays_itself, rest_stays_again}
use Rattle.write_barrier.proofs.HeapWords.{stays_beside-put}
use Rattle.write_barrier.specs.MutatorState.{Mutator, put_word, IsOneGap, gap_header}
use Rattle.write_barrier.specs.Opening.{ChangesWithin, AreZero}

-- one word that is put changes no other
pub put_changes : (old new : Mutator) (a word from to : ℕ) → new ≡ put_word old a word
    → heap_words new.seat ≡ slice_set (heap_words old.seat) a word
    → from ≤ a → a < to → to ≤ marks_start old.seat.space
    → ChangesWithin old new from to
put_changes old new a word from to is heap low high before = record {
  seat = subst (λ (main : Mutator). RestStays old.seat main.seat) (sym is)
      (stays_beside-put old.seat a word);
  paths = ap (λ (main : Mutator). main.paths) is;
  young = ap (λ (main : Mutator). main.young) is;
  free = ap (λ (main : Mutator). main.free) is;
  recorded = ap (λ (main : Mutator). main.recorded) is;
  cycle = ap (λ (main : Mutator). main.cycle) is;
  count = ap length heap ∙ length-set (heap_words old.seat) a word;
  beside = λ at out.
      let apart : at ≢ a = omega arith in
      ap (λ words. slice_get words at) heap ∙ slice_get-set_other (heap_words old.seat) a at word apart;
}

-- nothing has changed
pub changes_none : (main : Mutator) (from to : ℕ) → ChangesWithin main main from to
changes_none main from to =
    record {
      seat = rest_stays_itself main.seat;
      paths = refl;
      young = refl;
      free = refl;
      recorded = refl;
      cycle = refl;
      count = refl;
      beside = λ at out. refl;
    }

-- what is beside a stretch is beside a part of it
still_out : (at from to start end : ℕ) → from ≤ start → end ≤ to → (at < from) ⊎ (to ≤ at)
    → (at < start) ⊎ (end ≤ at)
still_out at from to start end low high (inl before) = inl (omega arith)
still_out at from to start end low high (inr behind) = inr (omega arith)

-- changes after changes, the later ones within the same words
pub changes_then : (first old new : Mutator) (from to start end : ℕ) → ChangesWithin first old from to
    → ChangesWithin old new start end → from ≤ start → end ≤ to → ChangesWithin first new from to
changes_then first old new from to start end before then low high = record {
  seat = rest_stays_again first.seat old.seat new.seat before.seat then.seat;
  paths = then.paths ∙ before.paths;
  young = then.young ∙ before.young;
  free = then.free ∙ before.free;
  recorded = then.recorded ∙ before.recorded;
  cycle = then.cycle ∙ before.cycle;
  count = then.count ∙ before.count;
  beside = λ at out. then.beside at (still_out at from to start end low high out) ∙ before.beside at out;
}

-- a page ends before the marks
pub page_before_marks : (space : Space) (page : ℕ) → page < space.sizes.pages
    → page_words * page + page_words ≤ marks_start space
page_before_marks space page below =
    omega (arith, roots_start_is space, layouts_start_is space, marks_start_is space)

-- a page is one gap once its two words are put
pub gap_put : (words between new : List ℕ) (page at : ℕ) → at ≡ page_words * page → at + 1 < length words
    → between ≡ slice_set words at (header_bits gap_header) → new ≡ slice_set between (at + 1) page_words
    → IsOneGap new page
gap_put words between new page at is within first second =
    let as_many : length between ≡ length words = ap length first ∙ length-set words at (header_bits gap_header) in
    let header : slice_get new at ≡ Some (header_bits gap_header) =
    ap (λ all. slice_get all at) second
    ∙ slice_get-set_other between (at + 1) at page_words (omega arith)
    ∙ ap (λ all. slice_get all at) first
    ∙ slice_get-set_same words at (header_bits gap_header) (omega arith) in
    let size : slice_get new (at + 1) ≡ Some page_words =
    ap (λ all. slice_get all (at + 1)) second ∙ slice_get-set_same between (at + 1) page_words (omega arith) in
    record {
      header = subst (λ a. slice_get new a ≡ Some (header_bits gap_header)) is header;
      size = subst (λ a. slice_get new (a + 1) ≡ Some page_words) is size;
    }

-- the words of a blank heap are 0
pub blank_zero : (space : Space) (shared : Option TableId)
    → AreZero (heap_words (fresh space shared)) 0 (marks_start space)
blank_zero space shared a from below =
    slice_get-get_or (heap_words (fresh space shared)) a 0
    (omega (arith, length-replicate {A = ℕ} (marks_start space) 0))
    ∙ ap (λ word. Some word) (get_or-replicate (marks_start space) a 0 0 below)

-- a root stands before the marks
pub root_before_marks : (space : Space) (variable : ℕ) → variable < space.variables
    → root_at space variable < marks_start space
root_before_marks space variable known = omega (arith, layouts_start_is space, marks_start_is space)

-- one first root word more is put
pub roots_more : (space : Space) (words new : List ℕ) (variable word : ℕ)
    → new ≡ slice_set words (root_at space variable) word → root_at space variable < length words
    → ((other : ℕ) → other < variable → slice_get words (root_at space other) ≡ Some word)
    → (other : ℕ) → other < variable + 1 → slice_get new (root_at space other) ≡ Some word
roots_more space words new variable word is within before =
    let at = root_at space variable in
    below_more (λ other. slice_get new (root_at space other) ≡ Some word) variable
    (λ other below.
    let apart : root_at space other ≢ at = omega arith in
    ap (λ all. slice_get all (root_at space other)) is
    ∙ slice_get-set_other words at (root_at space other) word apart ∙ before other below)
    (ap (λ all. slice_get all at) is ∙ slice_get-set_same words at word within)

-- no second root word changes with a first one
pub seconds_stay : (space : Space) (words new : List ℕ) (variable other word : ℕ)
    → new ≡ slice_set words (root_at space variable) word
    → slice_get new (root_at space other + 1) ≡ slice_get words (root_at space other + 1)
seconds_stay space words new variable other word is =
    let apart : root_at space other + 1 ≢ root_at space variable = omega arith in
    ap (λ all. slice_get all (root_at space other + 1)) is
    ∙ slice_get-set_other words (root_at space variable) (root_at space other + 1) word apart
