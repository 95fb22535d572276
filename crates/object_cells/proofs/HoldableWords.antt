-- Words that a tagged slot may hold where a cycle of marking is open: those with no target, and those with a born one.
use Rattle.std.specs.Prelude.{ℤ, IfSome, nat_lt}
use Rattle.std.specs.Option.{option_and_then}
use Rattle.std.proofs.Common.{◌≡◌, ℕ, ◌^◌, ◌<◌, Bool, true, false, IsTrue, Option, Some, None, Contains}
use Rattle.std.proofs.Common.{refl, sym, subst, arith}
use Rattle.std.proofs.lemmas.Bool.Decides.{nat_tests}
use Rattle.tagged_word.specs.declared.word.Class.{Class}
use Rattle.tagged_word.specs.declared.word.Class.TheVariants.{Small, Ref, Odd}
use Rattle.tagged_word.specs.Odds.{undefined_code, hole_code}
use Rattle.tagged_word.specs.Words.{small, IsClass, bits_of}
use Rattle.tagged_word.specs.Readings.{given, reference_in}
use Rattle.tagged_word.proofs.Readings.{reference_from}
use Rattle.page_space.specs.Extents.{eden_start}
use Rattle.mark_world.specs.Pages.{OfTarget}
use Rattle.mark_world.specs.Safety.{is_slot_class}
use Rattle.heap_model.specs.Slots.{small_word, undefined_word, hole_word, reference_word}
use Rattle.heap_model.proofs.WordClasses.{same_reference, small_refers_not, undefined_refers_not, hole_refers_not}
use Rattle.heap_table.specs.Phases.{Mark}
use Rattle.write_barrier.specs.MutatorState.{Mutator}
use Rattle.write_barrier.specs.Storing.{IsMadeYoung, MayHold}

-- what holds if a test does holds of what the test gives
of_given : (test : Bool) (at : ℕ) (P : ℕ → Type 0) → (test ≡ true → P at) → IfSome (given test at) P
of_given true at P holds = holds refl
of_given false at P holds = tt

-- what holds of an old address that was found holds of the target
of_found : (old : ℕ) (found : Option ℕ) (P : ℕ → Type 0) → ((at : ℕ) → found ≡ Some at → at < old → P at)
    → IfSome (option_and_then (λ at. given (nat_lt at old) at) found) P
of_found old None P each = tt
of_found old (Some at) P each =
    of_given (nat_lt at old) at P (λ below. each at refl (grind (arith, nat_tests, below)))

-- what holds of each old address that a word refers to holds of its target
pub of_word_target : (old word : ℕ) (P : ℕ → Type 0) → ((at : ℕ) → reference_in word ≡ Some at → at < old → P at)
    → OfTarget old word P
of_word_target old word P each = of_found old (reference_in word) P each

-- the mutator may hold the word of a class that a slot may have, if the cell of a page to which it refers is born
pub word_may_hold : {main : Mutator} (class : Class) → IsClass class → IsTrue (is_slot_class class)
    → ((at : ℕ) → main.seat.phase ≡ Mark → bits_of class ≡ reference_word at → at < eden_start main.seat.space
    → Contains main.cycle.born at) → MayHold main (bits_of class)
word_may_hold {main} class is allowed born mark = record {
  fits = record { class = class; fits = is; bits = refl; allowed = allowed };
  born = of_word_target (eden_start main.seat.space) (bits_of class) (Contains main.cycle.born)
      (λ at refers below. born at mark (reference_from (bits_of class) at refers).1 below);
}

-- that of a small integer, of `undefined` and of a hole
pub small_may_hold : {main : Mutator} (v : ℤ) → IsTrue (small v) → MayHold main (small_word v)
small_may_hold v is =
    word_may_hold (Small v) is refl (λ at mark refers below. absurd (small_refers_not v at refers))

pub undefined_may_hold : {main : Mutator} → MayHold main undefined_word
undefined_may_hold =
    word_may_hold (Odd undefined_code) (omega arith) refl
    (λ at mark refers below. absurd (undefined_refers_not at refers))

pub hole_may_hold : {main : Mutator} → MayHold main hole_word
hole_may_hold =
    word_may_hold (Odd hole_code) (omega arith) refl (λ at mark refers below. absurd (hole_refers_not at refers))

-- a reference to a cell that is born, if it is one of a page
pub reference_may_hold : {main : Mutator} (at : ℕ) → at < 2 ^ 32
    → (main.seat.phase ≡ Mark → at < eden_start main.seat.space → Contains main.cycle.born at)
    → MayHold main (reference_word at)
reference_may_hold {main} at fits born =
    word_may_hold (Ref at) fits refl (λ other mark refers below.
    let same : at ≡ other = same_reference at other refers in
    subst (Contains main.cycle.born) same
    (born mark (subst (λ (a : ℕ). a < eden_start main.seat.space) (sym same) below)))

-- and one to a young cell
pub young_may_hold : {main : Mutator} (at : ℕ) → at < 2 ^ 32 → IsMadeYoung main at → MayHold main (reference_word at)
young_may_hold at fits young =
    reference_may_hold at fits (λ mark below. absurd (omega (arith, young mark, below)))
