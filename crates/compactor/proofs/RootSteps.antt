-- The first root words of variables are moved, one after another.
use Rattle.std.proofs.Common.{◌≡◌, ◌≢◌, ℕ, ◌+◌, ◌≤◌, ◌<◌, inl, inr, List, Some, length}
use Rattle.std.proofs.Common.{slice_get, slice_set, length-set}
use Rattle.std.proofs.Common.{refl, sym, ◌∙◌, ap, subst, arith}
use Rattle.std.proofs.lemmas.Bool.{cases_lt}
use Rattle.std.proofs.lemmas.Option.{same_Some}
use Rattle.page_space.specs.Extents.{Space, marks_start}
use Rattle.object_graph.proofs.Lists.{slice_get-set_same, slice_get-set_other}
use Rattle.handle_roots.specs.Roots.{root_at}
use Rattle.write_barrier.specs.Seats.{heap_words}
use Rattle.write_barrier.specs.MutatorState.{Mutator, put_word, with_slot}
use Rattle.write_barrier.proofs.SlotCycles.{young_slot}
use Rattle.compactor.specs.Tables.{Table, moved_word}
use Rattle.compactor.specs.Young.{RootsMoved}
use Rattle.compactor.proofs.Copied.{keeps_itself, keeps_again}

-- before the first variable no root word is moved
pub no_root_moved : (main : Mutator) (table : Table) → RootsMoved main main table 0
no_root_moved main table = record {
  rest = keeps_itself main;
  free = refl;
  recorded = refl;
  roots = λ variable word below. absurd (omega (arith, below));
  beside = λ at out. refl;
}

-- the root words of two variables are apart
apart_roots : (space : Space) (one other : ℕ) → one < other → root_at space one ≢ root_at space other
apart_roots space one other below same = omega (arith, below, same)

module _ {was now new : Mutator} {table : Table} {count word : ℕ} (before : RootsMoved was now table count)
    (counted : length (heap_words was.seat) ≡ marks_start was.seat.space)
    (known : count < was.seat.space.variables) (behind : now.recorded.bound ≤ root_at was.seat.space count)
    (within : root_at was.seat.space count < marks_start was.seat.space)
    (read : slice_get (heap_words now.seat) (root_at was.seat.space count) ≡ Some word)
    (stored : new ≡ with_slot now (root_at was.seat.space count) (moved_word table word)) where
  -- the address of the root word
  abbrev root : ℕ
  root = root_at was.seat.space count

  -- the word of a variable stands behind the pages: it is put alone
  put : new ≡ put_word now root (moved_word table word)
  put = stored ∙ young_slot now root (moved_word table word) behind

  -- the words of the heap then
  heap_is : heap_words new.seat ≡ slice_set (heap_words now.seat) root (moved_word table word)
  heap_is = ap (λ (main : Mutator). heap_words main.seat) put

  -- other words stay
  other_stays : (at : ℕ) → at ≢ root → slice_get (heap_words new.seat) at ≡ slice_get (heap_words now.seat) at
  other_stays at apart =
      ap (λ (words : List ℕ). slice_get words at) heap_is
      ∙ slice_get-set_other (heap_words now.seat) root at (moved_word table word) apart

  -- and the word is moved
  root_moved : slice_get (heap_words new.seat) root ≡ Some (moved_word table word)
  root_moved =
      ap (λ (words : List ℕ). slice_get words root) heap_is
      ∙ slice_get-set_same (heap_words now.seat) root (moved_word table word)
      (omega (arith, within, counted, before.rest.seat.count))

  -- it is the word that stood there
  word_stood : slice_get (heap_words was.seat) root ≡ Some word
  word_stood =
      sym (before.beside root (λ variable below there same. apart_roots was.seat.space variable count below (sym same)))
      ∙ read

  -- So the root words of one variable more are moved.
  pub root_passed : RootsMoved was new table (count + 1)
  root_passed = record {
    rest = keeps_again before.rest record {
      seat = record {
        space = ap (λ (main : Mutator). main.seat.space) put;
        phase = ap (λ (main : Mutator). main.seat.phase) put;
        count = ap (λ (words : List ℕ). length words) heap_is
            ∙ length-set (heap_words now.seat) root (moved_word table word);
        shared = ap (λ (main : Mutator). main.seat.shared) put;
        home = ap (λ (main : Mutator). main.seat.home) put;
        out = ap (λ (main : Mutator). main.seat.out) put;
        lent = ap (λ (main : Mutator). main.seat.lent) put;
        marks = ap (λ (main : Mutator). main.seat.marks) put;
      };
      paths = ap (λ (main : Mutator). main.paths) put;
      young = ap (λ (main : Mutator). main.young) put;
      cycle = ap (λ (main : Mutator). main.cycle) put;
      bound = ap (λ (main : Mutator). main.recorded.bound) put;
    };
    free = ap (λ (main : Mutator). main.free) put ∙ before.free;
    recorded = ap (λ (main : Mutator). main.recorded) put ∙ before.recorded;
    roots = λ variable stood below there reads. elim (cases_lt variable count) [
      | inl earlier ↦
          other_stays (root_at was.seat.space variable) (apart_roots was.seat.space variable count earlier)
          ∙ before.roots variable stood earlier there reads
      | inr not_earlier ↦
          let same : count ≡ variable = omega (arith, below, not_earlier) in
          let Reads : ℕ → Type 0 = λ one. slice_get (heap_words was.seat) (root_at was.seat.space one) ≡ Some stood in
          let is : word ≡ stood = same_Some word stood (sym word_stood ∙ subst Reads (sym same) reads) in
          subst (λ (one : ℕ). slice_get (heap_words new.seat) (root_at was.seat.space one)
          ≡ Some (moved_word table stood)) same
          (root_moved ∙ ap (λ w. Some (moved_word table w)) is)
    ];
    beside = λ at out.
        other_stays at (out count (omega arith) known)
        ∙ before.beside at (λ variable below. out variable (omega (arith, below)));
  }
