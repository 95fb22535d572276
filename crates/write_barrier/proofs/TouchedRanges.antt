-- Which addresses a touched range has.
use Rattle.std.proofs.Common.{◌≡◌, ◌≢◌, ℕ, ◌+◌, ◌<◌, ◌≤◌, ◌⊎◌, inl, inr, Bool, true, false, ap, arith}
use Rattle.std.specs.Prelude.{if◌then◌else◌}
use Rattle.std.proofs.lemmas.Bool.{cases_lt}
use Rattle.std.proofs.lemmas.Bool.Decides.{nat_tests}
use Rattle.remembered_set.specs.Recorded.{is_between}
use Rattle.heap_model.specs.Remembered.{Touch}
use Rattle.write_barrier.specs.Recording.{touched, touched_one}

-- a touched range has this address
pub touched_inside : (how : Touch) (from to at : ℕ) → from ≤ at → at < to → touched how from to at ≡ how
touched_inside how from to at begins ends =
    let inside : is_between from to at ≡ true = grind (arith, nat_tests, begins, ends) in
    ap (λ (test : Bool). if test then how else Touch.Kept) inside

-- an address beside the touched range is kept
pub touched_outside : (how : Touch) (from to at : ℕ) → (at < from) ⊎ (to ≤ at)
    → touched how from to at ≡ Touch.Kept
touched_outside how from to at (inl before) =
    let outside : is_between from to at ≡ false = grind (arith, nat_tests, before) in
    ap (λ (test : Bool). if test then how else Touch.Kept) outside
touched_outside how from to at (inr behind) =
    let outside : is_between from to at ≡ false = grind (arith, nat_tests, behind) in
    ap (λ (test : Bool). if test then how else Touch.Kept) outside

-- the one address that was touched
pub touched_here : (how : Touch) (one : ℕ) → touched_one how one one ≡ how
touched_here how one = touched_inside how one (one + 1) one (omega arith) (omega arith)

-- another is kept
pub touched_other : (how : Touch) (one at : ℕ) → at ≢ one → touched_one how one at ≡ Touch.Kept
touched_other how one at apart =
    touched_outside how one (one + 1) at
    (elim (cases_lt at one) [ inl before ↦ inl before | inr from ↦ inr (omega (arith, from, apart)) ])
