-- Tables with open addressing: where probing for a number goes, and when it finds each number.
use Rattle.std.specs.Prelude.{◌≡◌, ℕ, ◌+◌, ◌-◌, ◌%◌, ◌<◌, List, length, Option, Some, None, slice_get}

-- the place that probing for a number comes to after so many steps: at first its home, which is the number modulo the
-- capacity; then it goes up, and behind the last place comes the first
abbrev pub place_after : ℕ → ℕ → ℕ → ℕ
place_after capacity number steps = (number + steps) % capacity

-- how many steps probing for a number takes to a place
abbrev pub steps_to : ℕ → ℕ → ℕ → ℕ
steps_to capacity number at = (at + (capacity - number % capacity)) % capacity

-- the place holds nothing
abbrev pub IsFree : List (Option ℕ) → ℕ → Type 0
IsFree table at = slice_get table at ≡ Some None

-- the place holds the number
abbrev pub HoldsNumber : List (Option ℕ) → ℕ → ℕ → Type 0
HoldsNumber table at number = slice_get table at ≡ Some (Some number)

-- Probing for the number comes to the place: from its home on no place before this one holds what is free.
pub record IsProbed {A : Type 0} (free : A) (table : List A) (number at : ℕ) : Type 0 where
  pub steps : ℕ
  pub within : steps < length table
  pub comes : at ≡ place_after (length table) number steps
  pub filled : (before : ℕ) → before < steps
      → slice_get table (place_after (length table) number before) ≡ Some free → ⊥

-- Each number stands where probing finds it.
abbrev pub FindsAll : List (Option ℕ) → Type 0
FindsAll table = (at number : ℕ) → HoldsNumber table at number → IsProbed None table number at

-- Probing for the number comes to the place and has met it nowhere before: from its home on no place before this one is
-- free, or holds the number. It ends there where the place is free or holds the number.
pub record EndsAt (table : List (Option ℕ)) (number at : ℕ) : Type 0 where
  pub steps : ℕ
  pub within : steps < length table
  pub comes : at ≡ place_after (length table) number steps
  pub filled : (before : ℕ) → before < steps → IsFree table (place_after (length table) number before) → ⊥
  pub unmet : (before : ℕ) → before < steps → HoldsNumber table (place_after (length table) number before) number → ⊥
