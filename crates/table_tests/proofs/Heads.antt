-- Which words are no head of a cell, whatever stands there, and targets that a list has.
use Rattle.std.proofs.Common.{◌≡◌, ◌<◌, ◌≤◌, ◌⊎◌, inl, inr, ◌+◌, ◌==◌, ◌&&◌, ◌||◌, ℕ, Bool, true, false, Option}
use Rattle.std.proofs.Common.{Some, None}
use Rattle.std.proofs.Common.{IfSome, refl, arith, nat_lt}
use Rattle.std.proofs.lemmas.Bool.{cases_lt}
use Rattle.std.proofs.lemmas.Bool.Decides.{nat_tests}
use Rattle.tagged_word.specs.declared.reading.Reading.{Reading}
use Rattle.tagged_word.specs.Cells.{has_length}
use Rattle.tagged_word.specs.Readings.{given, reference_in}
use Rattle.mark_world.specs.Pages.{OfTarget, is_head, is_head_of, is_inside, offset_in}

-- a word before the start of a cell is not inside
pub not_inside : (start at : ℕ) (cell : Option Reading) → at < start → is_inside start cell at ≡ false
not_inside start at None before = refl
not_inside start at (Some cell) before = grind (arith, nat_tests)

-- a test of two of which the first fails
first_fails : (a b : Bool) → a ≡ false → (a && b) ≡ false
first_fails a b e = rw e refl

-- a test of two of which the second fails
second_fails : (a b : Bool) → b ≡ false → (a && b) ≡ false
second_fails true b e = e
second_fails false b e = refl

-- an offset from 2 on is no head
no_head : (long : Bool) (offset : ℕ) → 2 ≤ offset → (offset == 0 || (long && offset == 1)) ≡ false
no_head true offset far = grind (arith, nat_tests)
no_head false offset far = grind (arith, nat_tests)

-- nor is a word before a cell, or two words after its start
pub no_head_of : (start at : ℕ) (cell : Option Reading) → (at < start) ⊎ (start + 2 ≤ at)
    → is_head_of start cell at ≡ false
no_head_of start at None place = refl
no_head_of start at (Some cell) (inl before) =
    first_fails (is_inside start (Some cell) at) (is_head cell (offset_in start at))
    (not_inside start at (Some cell) before)
no_head_of start at (Some cell) (inr far) =
    second_fails (is_inside start (Some cell) at) (is_head cell (offset_in start at))
    (no_head (has_length cell.layout.kind) (offset_in start at) (omega (arith, far)))

-- the address that a test may leave out
if_given : (test : Bool) (to : ℕ) (P : ℕ → Type 0) → P to → IfSome (given test to) P
if_given true to P holds = holds
if_given false to P holds = tt

-- what holds of the address that a word refers to holds of its target
pub of_reference : (old word to : ℕ) (P : ℕ → Type 0) → reference_in word ≡ Some to → P to → OfTarget old word P
of_reference old word to P refers holds = rw refers (if_given (nat_lt to old) to P holds)

-- the same of an address that may be below a bound or not
if_below : (old to : ℕ) (P : ℕ → Type 0) → (to < old → P to) → IfSome (given (nat_lt to old) to) P
if_below old to P holds = elim (cases_lt to old) [
  | inl below ↦ if_given (nat_lt to old) to P (holds below)
  | inr past ↦ let test : nat_lt to old ≡ false = grind (arith, nat_tests) in rw test tt
]

-- what holds of the address that a word refers to, if that is old, holds of its target
pub of_old_reference : (old word to : ℕ) (P : ℕ → Type 0) → reference_in word ≡ Some to → (to < old → P to)
    → OfTarget old word P
of_old_reference old word to P refers holds = rw refers (if_below old to P holds)
