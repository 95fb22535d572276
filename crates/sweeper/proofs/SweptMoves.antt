-- A swept heap is the old one moved: each marked cell stays where it stood.
use Rattle.std.proofs.Common.{◌≡◌, ℕ, ◌+◌, ◌/◌, ◌%◌, ◌^◌, ◌<◌, ◌↔◌, inl, inr, List, Contains, Option, Some}
use Rattle.std.proofs.Common.{refl, sym, ◌∙◌, ap, subst, arith}
use Rattle.std.proofs.lemmas.Bool.{cases_eq}
use Rattle.std.proofs.lemmas.Option.{same_Some}
use Rattle.handle_roots.specs.Roots.{root_at}
use Rattle.heap_model.specs.Types.{Cell}
use Rattle.heap_model.specs.Heaps.{Heap, HasCell}
use Rattle.heap_model.specs.Slots.{reference_word}
use Rattle.heap_model.specs.Changes.{Patch}
use Rattle.heap_moves.specs.Moved.{IsMovedWord, AreMoved, moved_to, StandsMoved, IsFrom, IsMovedRoot, IsMoved}
use Rattle.sweeper.specs.Swept.{IsSweepable, place_if_marked}
use Rattle.sweeper.proofs.KeptPlaces.{place_of_marked, place_is_kept}
use Rattle.sweeper.proofs.SweptHeap.{Swept, after, outside_stays, rows_again, sizes_again, marked_stays, cell_from}

-- a word that is as it was, and refers to marked cells alone, is moved so
word_is_moved : (marked : List ℕ) (word now : ℕ) → now ≡ word
    → ((at : ℕ) → word ≡ reference_word at → Contains marked at) → IsMovedWord (place_if_marked marked) word now
word_is_moved marked word now same closed = elim (cases_eq (word % 4) 1) [
  | inl refers ↦
      let is : word ≡ reference_word (word / 4) = omega arith in
      IsMovedWord.reference (word / 4) (word / 4) is (place_of_marked marked (word / 4) (closed (word / 4) is))
      (same ∙ is)
  | inr refers_not ↦ IsMovedWord.other (λ at refers. refers_not (omega arith)) same
]

module _ {heap : Heap} {words marked : List ℕ} {gaps : List Patch} (all : Swept heap words marked gaps)
    (closed : IsSweepable heap marked) where
  -- where cells stand afterwards
  abbrev to : ℕ → Option ℕ
  to = place_if_marked marked

  -- the words of a marked cell are moved
  words_are_moved : (cell : Cell) (were : List ℕ) → HasCell heap cell were → Contains marked cell.at
      → AreMoved to cell were were
  words_are_moved cell were has kept = record {
    long = refl;
    slots = λ offset word now slot there there_too.
        word_is_moved marked word now (same_Some now word (sym there_too ∙ there))
        (λ at refers. closed.slots cell were offset at has kept slot (there ∙ ap (λ w. Some w) refers));
    raw = λ offset none. refl;
  }

  -- a marked cell stands moved
  stands_moved : (cell : Cell) (were : List ℕ) (now : ℕ) → HasCell heap cell were → to cell.at ≡ Some now
      → StandsMoved (after all) to cell were now
  stands_moved cell were now has stays =
      let kept = place_is_kept marked cell.at now stays in
      record {
        others = were;
        has = subst (λ (at : ℕ). HasCell (after all) (moved_to cell at) were) kept.same
            (marked_stays all has kept.among);
        are = words_are_moved cell were has kept.among;
      }

  -- a cell of afterwards stood before, or is free
  is_from : (cell : Cell) (now : List ℕ) → HasCell (after all) cell now → IsFrom heap to cell
  is_from cell now has = elim (cell_from all has) [
    | inl of_gap ↦ IsFrom.free of_gap.fills.is_free of_gap.fills.no_number
    | inr stood ↦ IsFrom.stood cell now stood.0 (place_of_marked marked cell.at stood.1)
  ]

  -- an address stays where it was
  fits_moved : (at now : ℕ) → to at ≡ Some now → (at < 2 ^ 32) ↔ (now < 2 ^ 32)
  fits_moved at now stays =
      let same = (place_is_kept marked at now stays).same in
      (λ below. subst (λ n. n < 2 ^ 32) same below, λ below. subst (λ n. n < 2 ^ 32) (sym same) below)

  -- root words are moved
  root_is_moved : (variable : ℕ) → variable < heap.space.variables → IsMovedRoot heap (after all) to variable
  root_is_moved variable known =
      let first = outside_stays all (root_at heap.space variable) (omega arith) in
      record {
        first = λ word now there there_too.
            word_is_moved marked word now (same_Some now word (sym there_too ∙ first ∙ there))
            (λ at refers. closed.roots variable at known (there ∙ ap (λ w. Some w) refers));
        second = outside_stays all (root_at heap.space variable + 1) (omega arith);
      }

  -- So the heap is the old one moved.
  pub swept_is_moved : IsMoved heap (after all) (place_if_marked marked)
  swept_is_moved = record {
    space = refl;
    paths = refl;
    sized = sizes_again all;
    rows = rows_again all;
    apart = λ one other words others now has has_other stays stays_too.
        (place_is_kept marked one.at now stays).same ∙ sym (place_is_kept marked other.at now stays_too).same;
    fits = λ cell were now has stays. fits_moved cell.at now stays;
    stands = stands_moved;
    back = is_from;
    roots = root_is_moved;
  }
