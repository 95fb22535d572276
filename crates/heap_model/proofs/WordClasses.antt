-- Words of different classes differ, and a reference tells its address.
use Rattle.std.proofs.Common.{◌≡◌, ℕ, arith}
use Rattle.std.specs.Prelude.{ℤ, pos, negsuc}
use Rattle.heap_model.specs.Slots.{small_word, undefined_word, hole_word, reference_word}

-- references to two addresses differ
pub same_reference : (at other : ℕ) → reference_word at ≡ reference_word other → at ≡ other
same_reference at other same = omega arith

-- `undefined` is no reference
pub undefined_refers_not : (at : ℕ) → undefined_word ≡ reference_word at → ⊥
undefined_refers_not at same = omega arith

-- a hole is no reference
pub hole_refers_not : (at : ℕ) → hole_word ≡ reference_word at → ⊥
hole_refers_not at same = omega arith

-- a small integer is no reference
pub small_refers_not : (v : ℤ) (at : ℕ) → small_word v ≡ reference_word at → ⊥
small_refers_not (pos n) at same = omega arith
small_refers_not (negsuc n) at same = omega arith
