-- Words that moved down by one, and the word that was put where the last of them stood.
use Rattle.std.proofs.Common.{◌≡◌, ◌≢◌, ℕ, ◌+◌, ◌<◌, ◌≤◌, inl, inr, slice_get, Some, length, refl, sym, ◌∙◌}
use Rattle.std.proofs.Common.{ap, subst, arith, length-set}
use Rattle.std.specs.Prelude.{slice_set}
use Rattle.std.proofs.lemmas.Bool.{cases_lt}
use Rattle.page_space.specs.Extents.{marks_start}
use Rattle.object_graph.proofs.Lists.{slice_get-set_same, slice_get-set_other}
use Rattle.write_barrier.specs.Seats.{Seat, heap_words, RestStays}
use Rattle.write_barrier.specs.Staying.{rest_stays_again, rest_stays_itself}
use Rattle.write_barrier.proofs.HeapWords.{stays_beside-put}
use Rattle.heap_model.specs.Remembered.{Touch}
use Rattle.write_barrier.specs.MutatorState.{Mutator, put_word, with_word, with_slot}
use Rattle.write_barrier.specs.Storing.{StoresOn}
use Rattle.write_barrier.specs.SureStores.{StoresSurely}
use Rattle.write_barrier.specs.Recording.{Touches, touched_one}
use Rattle.shape_change.specs.Shifts.{KeepsRest, KeepsBeside, MovesDown, ClosesGap}
use Rattle.shape_change.proofs.SlotTouches.{more_by, more_surely, none_by, none_surely}

-- one word was put
pub rest_put : (old new : Mutator) (a word : ℕ) → new.seat ≡ (put_word old a word).seat → new.paths ≡ old.paths
    → new.young ≡ old.young → a < marks_start old.seat.space → KeepsRest old new
rest_put old new a word seat paths young below = record {
  beside = subst (λ (one : Seat). RestStays old.seat one) (sym seat) (stays_beside-put old.seat a word);
  paths = paths;
  young = young;
  count = ap (λ (one : Seat). length (heap_words one)) seat
      ∙ length-set (heap_words old.seat) a word;
}

-- one that is no slot's
pub rest_word : {old new : Mutator} (a word : ℕ) → new ≡ with_word old a word → a < marks_start old.seat.space
    → KeepsRest old new
rest_word {old} {new} a word is =
    rest_put old new a word (ap (λ (main : Mutator). main.seat) is) (ap (λ (main : Mutator). main.paths) is)
    (ap (λ (main : Mutator). main.young) is)

-- and one that is
pub rest_slot : {old new : Mutator} (a word : ℕ) → new ≡ with_slot old a word → a < marks_start old.seat.space
    → KeepsRest old new
rest_slot {old} {new} a word is =
    rest_put old new a word (ap (λ (main : Mutator). main.seat) is) (ap (λ (main : Mutator). main.paths) is)
    (ap (λ (main : Mutator). main.young) is)

-- words change after others
pub rest_then : (old mid new : Mutator) → KeepsRest old mid → KeepsRest mid new → KeepsRest old new
rest_then old mid new before then = record {
  beside = rest_stays_again old.seat mid.seat new.seat before.beside then.beside;
  paths = then.paths ∙ before.paths;
  young = then.young ∙ before.young;
  count = then.count ∙ before.count;
}

-- no word has moved where there is none to move
pub none_moved : (main : Mutator) (from : ℕ) (how : ℕ → Touch) → MovesDown main main from from how
none_moved main from how = record {
  rest = record { beside = rest_stays_itself main.seat; paths = refl; young = refl; count = refl };
  moved = λ a low high. absurd (omega (arith, low, high));
  beside = λ a out. refl;
  touches = none_by main how from;
  surely = none_surely main how from;
}

module _ {old mid new : Mutator} {from to : ℕ} {how : ℕ → Touch} (word : ℕ) (moves : MovesDown old mid from to how)
    (rest : KeepsRest mid new) (heap : heap_words new.seat ≡ slice_set (heap_words mid.seat) to word)
    (touches : Touches mid new (touched_one (how to) to)) (stores : StoresOn mid new)
    (surely : StoresSurely new (touched_one (how to) to)) (ordered : from ≤ to)
    (within : to < length (heap_words old.seat)) where
  -- only words have changed
  rest_there : KeepsRest old new
  rest_there = rest_then old mid new moves.rest rest

  -- each other word stays
  other : (a : ℕ) → a ≢ to → slice_get (heap_words new.seat) a ≡ slice_get (heap_words mid.seat) a
  other a apart = ap (λ all. slice_get all a) heap ∙ slice_get-set_other (heap_words mid.seat) to a word apart

  -- and this one stands there
  put_there : slice_get (heap_words new.seat) to ≡ Some word
  put_there =
      ap (λ all. slice_get all to) heap
      ∙ slice_get-set_same (heap_words mid.seat) to word (omega (arith, within, moves.rest.count))

  -- so the words beside are as they were
  beside_stay : KeepsBeside old new from (to + 1)
  beside_stay a out = elim out [
    | inl before ↦ other a (λ same. omega (arith, same, before, ordered)) ∙ moves.beside a (inl before)
    | inr behind ↦ other a (λ same. omega (arith, same, behind)) ∙ moves.beside a (inr (omega (arith, behind)))
  ]

  -- the gap is closed
  pub gap_closed : ClosesGap old new from to word how
  gap_closed = record {
    rest = rest_there;
    moved = λ a low high. other a (λ same. omega (arith, same, high)) ∙ moves.moved a low high;
    filled = put_there;
    beside = beside_stay;
    touches = more_by how ordered moves.touches touches;
    surely = more_surely how ordered moves.surely touches stores surely;
  }

  -- and one word more has moved, where it is the next
  pub moved_more : {next : ℕ} → slice_get (heap_words mid.seat) next ≡ Some word → next ≡ to + 1
      → MovesDown old new from next how
  moved_more {next} read behind = subst (λ end. MovesDown old new from end how) (sym behind) (record {
    rest = rest_there;
    moved = λ a low high. elim (cases_lt a to) [
      | inl before ↦ gap_closed.moved a low before
      | inr from_it ↦
          let same : a ≡ to = omega (arith, high, from_it) in
          ap (slice_get (heap_words new.seat)) same ∙ put_there ∙ sym read ∙ moves.beside next (inr (omega arith))
          ∙ ap (slice_get (heap_words old.seat)) (behind ∙ ap (λ n. n + 1) (sym same))
    ];
    beside = beside_stay;
    touches = more_by how ordered moves.touches touches;
    surely = more_surely how ordered moves.surely touches stores surely;
  })
