-- What stays where it is, is moved so: each reference is to where that stands to which it was.
use Rattle.std.proofs.Common.{◌≡◌, ℕ, ◌/◌, ◌%◌, ◌^◌, ◌<◌, ◌↔◌, inl, inr, List, Some, refl, sym, ◌∙◌, subst, arith}
use Rattle.std.proofs.lemmas.Bool.{cases_eq}
use Rattle.std.proofs.lemmas.Option.{same_Some}
use Rattle.heap_model.specs.Types.{Cell}
use Rattle.heap_model.specs.Heaps.{Heap, HasCell}
use Rattle.heap_moves.specs.Moved.{IsMovedWord, AreMoved, moved_to, StandsMoved, IsFrom}
use Rattle.heap_moves.specs.Laws.{HeapsAreMoved}

-- a word that is as it was is moved so
pub word_unmoved : (word now : ℕ) → now ≡ word → IsMovedWord (λ at. Some at) word now
word_unmoved word now same =
    elim (cases_eq (word % 4) 1) [
      | inl refers ↦ IsMovedWord.reference (word / 4) (word / 4) (omega arith) refl (omega (arith, same))
      | inr refers_not ↦ IsMovedWord.other (λ at refers. refers_not (omega arith)) same
    ]

-- words that are as they were are moved so
pub words_unmoved : (cell : Cell) (words : List ℕ) → AreMoved (λ at. Some at) cell words words
words_unmoved cell words = record {
  long = refl;
  slots = λ offset word now slot there there_too. word_unmoved word now (same_Some now word (sym there_too ∙ there));
  raw = λ offset none. refl;
}

-- a cell that stands where it stood is moved so
pub stands_unmoved : {new : Heap} {cell : Cell} {words : List ℕ} (now : ℕ) → HasCell new cell words
    → Some cell.at ≡ Some now → StandsMoved new (λ at. Some at) cell words now
stands_unmoved {new} {cell} {words} now has stays =
    let same : cell.at ≡ now = same_Some cell.at now stays in
    record {
      others = words;
      has = subst (λ at. HasCell new (moved_to cell at) words) same has;
      are = words_unmoved cell words;
    }

-- an address that stays has as many bits
pub fits_unmoved : (at now : ℕ) → Some at ≡ Some now → (at < 2 ^ 32) ↔ (now < 2 ^ 32)
fits_unmoved at now stays =
    let same : at ≡ now = same_Some at now stays in
    (λ below. subst (λ n. n < 2 ^ 32) same below, λ below. subst (λ n. n < 2 ^ 32) (sym same) below)

-- a heap is itself moved
pub heaps_are_moved : HeapsAreMoved
heaps_are_moved heap sized rows = record {
  space = refl;
  paths = refl;
  sized = sized;
  rows = rows;
  apart = λ one other words others now has has_other stays stays_too. same_Some _ _ (stays ∙ sym stays_too);
  fits = λ cell words now has stays. fits_unmoved cell.at now stays;
  stands = λ cell words now has stays. stands_unmoved now has stays;
  back = λ cell words has. IsFrom.stood cell words has refl;
  roots = λ variable below. record {
    first = λ word now there there_too. word_unmoved word now (same_Some now word (sym there_too ∙ there));
    second = refl;
  };
}
