-- Where the root words of a variable stand, and what they tell.
use Rattle.std.proofs.Common.{◌≡◌, ℕ, ◌+◌, ◌<◌, ◌≤◌, Bool, true, false, Option, ℤ, refl, arith}
use Rattle.tagged_word.specs.declared.word.Class.{Class}
use Rattle.tagged_word.specs.declared.word.Class.TheVariants.{Small, Ref as Reference, Odd}
use Rattle.tagged_word.specs.Words.{small, IsClass, bits_of}
use Rattle.tagged_word.specs.Odds.{undefined_code, unbound_code, wide_code}
use Rattle.page_space.specs.Extents.{Space, layouts_start, words_most}
use Rattle.page_space.specs.Sizes.{AreWithin}
use Rattle.page_space.proofs.Starts.{layouts_start_is, marks_start_is, board_start_is, words_count_is}
use Rattle.page_space.proofs.Limits.{words_count_most}
use Rattle.handle_roots.specs.declared.held.Held.{Held}
use Rattle.handle_roots.specs.declared.held.Held.TheVariants.{Unbound, Undefined, Int, Ref}
use Rattle.handle_roots.specs.Roots.{root_at, FitsHeld, first_of, first_word}
use Rattle.handle_roots.specs.RootDecoding.{decoded, decoded_integer, decoded_by}

-- both root words stand before the layout words
pub root_before_layouts : (space : Space) (variable : ℕ) → variable < space.variables →
    root_at space variable + 1 < layouts_start space
root_before_layouts space variable known = omega (arith, layouts_start_is space)

-- the layout words begin at an address of 32 bits
pub layouts_start_most : (space : Space) → AreWithin space.sizes space.variables → layouts_start space ≤ words_most
layouts_start_most space within =
    omega (arith, words_count_most space within, marks_start_is space, board_start_is space, words_count_is space)

-- the class of a first root word, and what it tells
pub record HasClass (word : ℕ) (told_held : Option Held) : Type 0 where
  pub class : Class
  pub is_class : IsClass class
  pub bits : word ≡ bits_of class
  pub tells : decoded_by class ≡ told_held

-- the first word of an integer has one
class_of_integer : (b : Bool) (v : ℤ) → small v ≡ b → HasClass (first_of b v) (decoded_integer b v)
class_of_integer true v is = record { class = Small v; is_class = is; bits = refl; tells = refl }
class_of_integer false v is = record { class = Odd wide_code; is_class = omega arith; bits = refl; tells = refl }

-- so has the first word of each value
pub class_of_first : (held : Held) → FitsHeld held → HasClass (first_word held) (decoded held)
class_of_first Unbound fits = record { class = Odd unbound_code; is_class = omega arith; bits = refl; tells = refl }
class_of_first Undefined fits = record { class = Odd undefined_code; is_class = omega arith; bits = refl; tells = refl }
class_of_first (Int v) fits = class_of_integer (small v) v refl
class_of_first (Ref at) fits = record { class = Reference at; is_class = fits; bits = refl; tells = refl }
