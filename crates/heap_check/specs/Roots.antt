-- What two root words stand for.
use Rattle.std.specs.Prelude.{◌≡◌, ℕ, ◌<◌, ◌⊎◌, false}
use Rattle.std.specs.Int.{cast_signed, w64}
use Rattle.heap_model.specs.Types.{Class, Held}
use Rattle.tagged_word.specs.declared.word.Class.TheVariants.{Small, Ref, Odd}
use Rattle.tagged_word.specs.Words.{small}
use Rattle.tagged_word.specs.Odds.{undefined_code, unbound_code, wide_code}
use Rattle.handle_roots.specs.Roots.{FitsHeld, first_word, second_word}
use Rattle.heap_model.specs.Heaps.{Heap}
use Rattle.heap_model.specs.Slots.{IsPlace}
use Rattle.heap_model.specs.Wholeness.{IsHeld, HasRoot}

-- the root words of each variable stand for something that it may hold
abbrev pub HasRoots : Heap → Type 0
HasRoots heap = (variable : ℕ) → variable < heap.space.variables → HasRoot heap variable

-- the two words stand for something that a variable may hold
pub record IsRootOf (heap : Heap) (first second : ℕ) : Type 0 where
  pub held : Held
  pub fits : FitsHeld held
  pub is_first : first ≡ first_word held
  pub is_second : second ≡ second_word held
  pub is : IsHeld heap held

-- An odd value of this code and the word behind it stand for something: `undefined`, nothing, or an integer that is not
-- small.
abbrev pub IsOddRoot : ℕ → ℕ → Type 0
IsOddRoot code second =
    (((code ≡ undefined_code) ⊎ (code ≡ unbound_code)) × (second ≡ 0))
    ⊎ ((code ≡ wide_code) × (small (cast_signed w64 second) ≡ false))

-- what the second word must be, by the class of the first
abbrev pub IsRootBy : Heap → Class → ℕ → Type 0
IsRootBy heap (Small v) second = second ≡ 0
IsRootBy heap (Ref at) second = (second ≡ 0) × ((number : ℕ) × IsPlace heap number at)
IsRootBy heap (Odd code) second = IsOddRoot code second
