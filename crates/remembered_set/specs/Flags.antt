-- Flags, one for each word of the pages.
use Rattle.std.specs.Prelude.{◌≡◌, ℕ, zero, suc, ◌+◌, ◌*◌, ◌<◌, ◌≤◌, Bool, true, false, List, length, slice_index}
use Rattle.std.specs.Prelude.{slice_index_or}
use Rattle.page_space.specs.Sizes.{page_words}
use Rattle.remembered_set.specs.Recorded.{IsBetween}

-- the flags from a place up to another are clear
abbrev pub AreClear : List Bool → ℕ → ℕ → Type 0
AreClear flags from to = (place : ℕ) → IsBetween from to place → slice_index_or flags place false ≡ false

-- the flag at the place is set, and it is the first such from one place up to another
pub record IsFirstSet (flags : List Bool) (from to place : ℕ) : Type 0 where
  pub between : IsBetween from to place
  pub is_set : slice_index_or flags place false ≡ true
  pub clear_before : AreClear flags from place

-- the flags from a place up to another are clear now, and all others are as they were
pub record ClearsBetween (old new : List Bool) (from to : ℕ) : Type 0 where
  pub as_many : length new ≡ length old
  pub cleared : AreClear new from to
  pub others : (place : ℕ) → ¬ IsBetween from to place → slice_index_or new place false ≡ slice_index_or old place false

-- a flag that is set counts 1
abbrev pub flag_count : Bool → ℕ
flag_count true = 1
flag_count false = 0

-- how many of so many flags from a place on are set
unfoldable pub set_count : List Bool → ℕ → ℕ → ℕ
set_count flags from zero = 0
set_count flags from (suc n) = set_count flags from n + flag_count (slice_index_or flags (from + n) false)

-- so many flags that were set from a place up to another are clear now: a stretch round them has so many fewer
abbrev pub CountsCleared : List Bool → List Bool → ℕ → ℕ → ℕ → Type 0
CountsCleared old new from to count =
    (start n : ℕ) → start ≤ from → to ≤ start + n → set_count new start n + count ≡ set_count old start n

-- for each page the number of its flags that are set
abbrev pub CountsEachPage : List Bool → List ℕ → Type 0
CountsEachPage flags counts =
    (page : ℕ) → page < length counts → slice_index counts page ≡ set_count flags (page_words * page) page_words
