-- Which pairs of weak maps have marked keys, and which are left where some without are taken out.
use Rattle.std.specs.Prelude.{◌≡◌, ℕ, ◌+◌, ◌≤◌, ◌<◌, List, Contains, length, Option, Some, None}
use Rattle.tagged_word.specs.Readings.{reference_in}
use Rattle.heap_model.specs.Heaps.{Heap}
use Rattle.heap_model.specs.Slots.{reference_word}
use Rattle.heap_model.specs.Kinds.{Pair}
use Rattle.weak_pairs.specs.Pairs.{HasPairsAt, IsFilledAt}

-- the word of the pair's key is the reference to a marked address
pub record IsKeyMarked (marked : List ℕ) (pair : Pair) : Type 0 where
  pub at : ℕ
  pub refers : pair.key ≡ reference_word at
  pub among : Contains marked at

-- each pair that holds something has a marked key
abbrev pub AreKeysMarked : List ℕ → List Pair → Type 0
AreKeysMarked marked pairs = (at : ℕ) (pair : Pair) → IsFilledAt pairs at pair → IsKeyMarked marked pair

-- each that stands from a place on and below another has one
abbrev pub AreMarkedBetween : List ℕ → List Pair → (from to : ℕ) → Type 0
AreMarkedBetween marked pairs from to =
    (at : ℕ) (pair : Pair) → IsFilledAt pairs at pair → from ≤ at → at < to → IsKeyMarked marked pair

-- the word refers to an address that is not marked
pub record IsUnmarkedWord (marked : List ℕ) (word : ℕ) : Type 0 where
  pub at : ℕ
  pub refers : reference_in word ≡ Some at
  pub unmarked : Contains marked at → ⊥

-- The pair at the place holds something, and its key is not marked.
pub record IsUnmarkedAt (marked : List ℕ) (pairs : List Pair) (place : ℕ) : Type 0 where
  pub pair : Pair
  pub filled : IsFilledAt pairs place pair
  pub unmarked : IsKeyMarked marked pair → ⊥

-- That at the place is the last such pair below another place.
pub record IsLastUnmarked (marked : List ℕ) (pairs : List Pair) (below place : ℕ) : Type 0 where
  pub before : place < below
  pub is : IsUnmarkedAt marked pairs place
  pub behind : AreMarkedBetween marked pairs (place + 1) below

-- The last such pair below a place is at this one, or there is none.
abbrev pub FindsUnmarked : List ℕ → List Pair → ℕ → Option ℕ → Type 0
FindsUnmarked marked pairs below (Some place) = IsLastUnmarked marked pairs below place
FindsUnmarked marked pairs below None = AreMarkedBetween marked pairs 0 below

-- The pairs without some whose keys are not marked. Each that holds something stood before, no two at one place, and
-- each before that has a marked key stands somewhere.
pub record AreLeft (marked : List ℕ) (before after : List Pair) : Type 0 where
  pub long : length after ≡ length before
  pub origin : ℕ → ℕ
  pub from : (at : ℕ) (pair : Pair) → IsFilledAt after at pair → IsFilledAt before (origin at) pair
  pub apart : (at other : ℕ) (pair another : Pair) → IsFilledAt after at pair → IsFilledAt after other another
      → origin at ≡ origin other → at ≡ other
  pub kept : (at : ℕ) (pair : Pair) → IsFilledAt before at pair → IsKeyMarked marked pair
      → (now : ℕ) × IsFilledAt after now pair × (origin now ≡ at)

-- such pairs of these are those of the weak map at the address
pub record HasLeft (heap : Heap) (map : ℕ) (marked : List ℕ) (before : List Pair) : Type 0 where
  pub after : List Pair
  pub are : HasPairsAt heap map after
  pub left : AreLeft marked before after
