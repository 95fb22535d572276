-- What the class of a word stands for.
use Rattle.std.proofs.Common.{◌≡◌, ℕ, ◌%◌, ap, sym, ◌∙◌, arith, IsTrue}
use Rattle.std.specs.Prelude.{ℤ, FitsSigned, pos, negsuc, Option, Some}
use Rattle.std.specs.Int.{w32, w64, cast_signed, cast_unsigned}
use Rattle.std.proofs.lemmas.Int.{to_z-of_z}
use Rattle.std.proofs.lemmas.Option.{same_Some}
use Rattle.heap_model.specs.Types.{Class}
use Rattle.tagged_word.specs.declared.word.Class.TheVariants as of_class
use Rattle.tagged_word.specs.Words.{small, IsClass, bits_of}
use Rattle.handle_roots.specs.Roots.{first_of, second_of}
use Rattle.handle_roots.specs.RootValues.{AreWordsOf}
use Rattle.heap_model.specs.Heaps.{Heap}
use Rattle.write_barrier.specs.Values.{held_of_class}

-- a word's class stands for what the class stands for that was read of it
pub held_by_class : {found : Option Class} (heap : Heap) (read class : Class) → found ≡ Some read
    → found ≡ Some class → held_of_class heap read ≡ held_of_class heap class
held_by_class heap read class is sought = ap (held_of_class heap) (same_Some read class (sym is ∙ sought))

-- a small integer has 32 bits and 64
small_fits : (v : ℤ) → IsTrue (small v) → FitsSigned w32 v × FitsSigned w64 v
small_fits (pos n) is = (grind (arith), grind (arith))
small_fits (negsuc n) is = (grind (arith), grind (arith))

-- a small integer is read back through both
pub small_back : (v : ℤ) → IsTrue (small v)
    → cast_signed w64 (cast_unsigned w64 (cast_signed w32 (cast_unsigned w32 v))) ≡ v
small_back v is =
    let fits = small_fits v is in
    ap (λ n. cast_signed w64 (cast_unsigned w64 n)) (to_z-of_z w32 v fits.0) ∙ to_z-of_z w64 v fits.1

-- an even word of a slot is the first root word of what it stands for, and the second is 0
pub even_words : (heap : Heap) (class : Class) (word : ℕ) → IsClass class → word ≡ bits_of class → word % 2 ≡ 0
    → AreWordsOf (held_of_class heap class) (record { first = word; second = 0 })
even_words heap (of_class.Small v) word is bits even = record {
  fits = (small_fits v is).1;
  first = bits ∙ ap (λ b. first_of b v) (sym is);
  second = ap (λ b. second_of b v) (sym is);
}
even_words heap (of_class.Ref at) word is bits even = absurd (omega (arith, bits, even))
even_words heap (of_class.Odd code) word is bits even = absurd (omega (arith, bits, even))
