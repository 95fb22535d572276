-- Root words: what the two words of a variable stand for.
use Rattle.std.specs.Prelude.{◌≡◌, ℕ, ◌+◌, ◌*◌, ◌<◌, ◌^◌, Bool, true, false, List, Some}
use Rattle.std.specs.Prelude.{slice_get, slice_set, ℤ, FitsSigned}
use Rattle.std.specs.Int.{cast_unsigned, w64}
use Rattle.tagged_word.specs.declared.word.Class.TheVariants.{Small, Ref as Reference, Odd}
use Rattle.tagged_word.specs.Words.{small, bits_of}
use Rattle.tagged_word.specs.Odds.{undefined_code, unbound_code, wide_code}
use Rattle.page_space.specs.Extents.{Space, roots_start, root_words}
use Rattle.handle_roots.specs.declared.held.Held.{Held}
use Rattle.handle_roots.specs.declared.held.Held.TheVariants.{Unbound, Undefined, Int, Ref}

-- the address of the first of a variable's two words
abbrev pub root_at : Space → ℕ → ℕ
root_at space variable = roots_start space + root_words * variable

-- an integer has 64 bits, and an address 32
abbrev pub FitsHeld : Held → Type 0
FitsHeld (Int v) = FitsSigned w64 v
FitsHeld (Ref at) = at < 2 ^ 32
FitsHeld _ = Unit {0}

-- the first word of an integer: the integer itself where it is small, and else `wide`
abbrev pub first_of : Bool → ℤ → ℕ
first_of true v = bits_of (Small v)
first_of false v = bits_of (Odd wide_code)

-- the second word of an integer: 0 where it is small, and else the raw integer
abbrev pub second_of : Bool → ℤ → ℕ
second_of true v = 0
second_of false v = cast_unsigned w64 v

abbrev pub first_word : Held → ℕ
first_word Unbound = bits_of (Odd unbound_code)
first_word Undefined = bits_of (Odd undefined_code)
first_word (Int v) = first_of (small v) v
first_word (Ref at) = bits_of (Reference at)

abbrev pub second_word : Held → ℕ
second_word (Int v) = second_of (small v) v
second_word _ = 0

-- the two root words of the variable stand for this
pub record Holds (space : Space) (words : List ℕ) (variable : ℕ) (held : Held) : Type 0 where
  pub fits : FitsHeld held
  pub first : slice_get words (root_at space variable) ≡ Some (first_word held)
  pub second : slice_get words (root_at space variable + 1) ≡ Some (second_word held)

-- the two root words of the variable stand for something
pub record IsRoot (space : Space) (words : List ℕ) (variable : ℕ) : Type 0 where
  pub held : Held
  pub holds : Holds space words variable held

-- the words with the two root words of the variable made those of a value
abbrev pub with_root : Space → List ℕ → ℕ → Held → List ℕ
with_root space words variable held =
    slice_set (slice_set words (root_at space variable) (first_word held)) (root_at space variable + 1)
    (second_word held)
