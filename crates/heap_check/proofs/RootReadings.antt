-- What two root words stand for, by the class of the first.
use Rattle.std.proofs.Common.{◌≡◌, ℕ, inl, inr, Bool, true, false, ℤ, refl, sym}
use Rattle.std.proofs.Common.{◌∙◌, ap, IsTrue, Fits, arith}
use Rattle.std.proofs.lemmas.Bool.Decides.{nat_tests}
use Rattle.std.specs.Prelude.{FitsSigned, pos, negsuc}
use Rattle.std.specs.Int.{w64, cast_signed}
use Rattle.std.proofs.lemmas.Int.{to_z-of_z, fits_signed_from_abs}
use Rattle.std.proofs.Math.Facts.{sfits_to_z, of_z-to_z}
use Rattle.heap_model.specs.Types.{Class, Held}
use Rattle.tagged_word.specs.declared.word.Class.TheVariants.{Small, Ref, Odd}
use Rattle.tagged_word.specs.Words.{small, IsClass, bits_of}
use Rattle.tagged_word.specs.Odds.{undefined_code, unbound_code, wide_code}
use Rattle.handle_roots.specs.declared.held.Held.TheVariants as held
use Rattle.handle_roots.specs.Roots.{FitsHeld, first_word, second_word, first_of, second_of}
use Rattle.heap_model.specs.Heaps.{Heap}
use Rattle.heap_model.specs.Wholeness.{IsHeld}
use Rattle.heap_check.specs.Roots.{IsRootOf, IsRootBy}

-- a small integer has 64 bits
small_fits : (v : ℤ) → IsTrue (small v) → FitsSigned w64 v
small_fits (pos n) is = fits_signed_from_abs w64 (pos n) (grind (arith, nat_tests, is))
small_fits (negsuc n) is = fits_signed_from_abs w64 (negsuc n) (grind (arith, nat_tests, is))

-- an integer that is not small, by its word
wide_root : (heap : Heap) (first second : ℕ) → first ≡ bits_of (Odd wide_code) → Fits w64 second
    → small (cast_signed w64 second) ≡ false → IsRootOf heap first second
wide_root heap first second bits fits wide =
    let v : ℤ = cast_signed w64 second in
    record {
      held = held.Int v;
      fits = sfits_to_z {w = w64} {n = second} fits;
      is_first = bits ∙ ap (λ b. first_of b v) (sym wide);
      is_second = sym (of_z-to_z {w = w64} {n = second} fits) ∙ ap (λ b. second_of b v) (sym wide);
      is = tt;
    }

-- two words of these classes stand for something
pub root_from_class : (heap : Heap) (class : Class) (first second : ℕ) → IsClass class → first ≡ bits_of class
    → Fits w64 second → IsRootBy heap class second → IsRootOf heap first second
root_from_class heap (Small v) first second is bits fits by = record {
  held = held.Int v;
  fits = small_fits v is;
  is_first = bits ∙ ap (λ b. first_of b v) (sym is);
  is_second = by ∙ ap (λ b. second_of b v) (sym is);
  is = tt;
}
root_from_class heap (Ref at) first second is bits fits by =
    record { held = held.Ref at; fits = is; is_first = bits; is_second = by.0; is = by.1 }
root_from_class heap (Odd code) first second is bits fits (inl (inl undefined, zero)) = record {
  held = held.Undefined;
  fits = tt;
  is_first = bits ∙ ap (λ n. bits_of (Odd n)) undefined;
  is_second = zero;
  is = tt;
}
root_from_class heap (Odd code) first second is bits fits (inl (inr unbound, zero)) = record {
  held = held.Unbound;
  fits = tt;
  is_first = bits ∙ ap (λ n. bits_of (Odd n)) unbound;
  is_second = zero;
  is = tt;
}
root_from_class heap (Odd code) first second is bits fits (inr (wide, large)) =
    wide_root heap first second (bits ∙ ap (λ n. bits_of (Odd n)) wide) fits large

-- a class that the first word has, and what the second then is
pub record HasRootClass (heap : Heap) (first second : ℕ) : Type 0 where
  pub class : Class
  pub is_class : IsClass class
  pub bits : first ≡ bits_of class
  pub by : IsRootBy heap class second

-- so of an integer, small or not
class_of_int : (heap : Heap) (first second : ℕ) (v : ℤ) (b : Bool) → small v ≡ b → FitsSigned w64 v
    → first ≡ first_of b v → second ≡ second_of b v → HasRootClass heap first second
class_of_int heap first second v true is fits one two = record { class = Small v; is_class = is; bits = one; by = two }
class_of_int heap first second v false is fits one two = record {
  class = Odd wide_code;
  is_class = omega arith;
  bits = one;
  by = inr (refl, ap (λ n. small (cast_signed w64 n)) two ∙ ap small (to_z-of_z w64 v fits) ∙ is);
}

-- and of all that a variable may hold
class_of_held : (heap : Heap) (first second : ℕ) (of : Held) → FitsHeld of → first ≡ first_word of
    → second ≡ second_word of → IsHeld heap of → HasRootClass heap first second
class_of_held heap first second held.Unbound fits one two is =
    record { class = Odd unbound_code; is_class = omega arith; bits = one; by = inl (inr refl, two) }
class_of_held heap first second held.Undefined fits one two is =
    record { class = Odd undefined_code; is_class = omega arith; bits = one; by = inl (inl refl, two) }
class_of_held heap first second (held.Int v) fits one two is =
    class_of_int heap first second v (small v) refl fits one two
class_of_held heap first second (held.Ref at) fits one two is =
    record { class = Ref at; is_class = fits; bits = one; by = (two, is) }

-- words that stand for something have such a class
pub class_of_root : (heap : Heap) (first second : ℕ) → IsRootOf heap first second → HasRootClass heap first second
class_of_root heap first second root =
    class_of_held heap first second root.held root.fits root.is_first root.is_second root.is
