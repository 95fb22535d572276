-- The pairs of a weak map's table, as a list: which hold something, and what others they may become.
use Rattle.std.specs.Prelude.{◌≡◌, ◌≢◌, ℕ, ◌<◌, List, length, Some, slice_get}
use Rattle.tagged_word.specs.declared.layout.Kind.TheVariants as kind
use Rattle.tagged_word.specs.Cells.{store_slot}
use Rattle.heap_model.specs.Types.{Cell}
use Rattle.heap_model.specs.Heaps.{Heap, HasCell}
use Rattle.heap_model.specs.Kinds.{HasWord, Pair, HasTable, free_pair}

-- the pairs of the table to which the words of a weak map's cell refer
pub record HasPairs (heap : Heap) (words : List ℕ) (pairs : List Pair) : Type 0 where
  pub store : ℕ
  pub slot : HasWord words store_slot store
  pub table : HasTable heap store pairs

-- the weak map at the address has these pairs
pub record HasPairsAt (heap : Heap) (map : ℕ) (pairs : List Pair) : Type 0 where
  pub cell : Cell
  pub words : List ℕ
  pub has : HasCell heap cell words
  pub stands : cell.at ≡ map
  pub of_kind : cell.layout.kind ≡ kind.Weak
  pub are : HasPairs heap words pairs

-- the pair at the place holds something
pub record IsFilledAt (pairs : List Pair) (at : ℕ) (pair : Pair) : Type 0 where
  pub stands : slice_get pairs at ≡ Some pair
  pub filled : pair ≢ free_pair

-- each of the pairs holds nothing
abbrev pub HoldNothing : List Pair → Type 0
HoldNothing pairs = (at : ℕ) (pair : Pair) → slice_get pairs at ≡ Some pair → pair ≡ free_pair

-- The pairs once that at a place was removed. Each that holds something stood at another place before, no two at one
-- place, and each other one that did stands somewhere. Where some pair was free before, what stands below the place
-- stood below it.
pub record AreWithout (before after : List Pair) (place : ℕ) : Type 0 where
  pub long : length after ≡ length before
  pub origin : ℕ → ℕ
  pub from : (at : ℕ) (pair : Pair) → IsFilledAt after at pair
      → IsFilledAt before (origin at) pair × (origin at ≢ place)
  pub apart : (at other : ℕ) (pair another : Pair) → IsFilledAt after at pair → IsFilledAt after other another
      → origin at ≡ origin other → at ≡ other
  pub kept : (at : ℕ) (pair : Pair) → IsFilledAt before at pair → at ≢ place
      → (now : ℕ) × IsFilledAt after now pair × (origin now ≡ at)
  pub below : (free : ℕ) → slice_get before free ≡ Some free_pair → (at : ℕ) (pair : Pair) → IsFilledAt after at pair
      → at < place → origin at < place

-- the pair at the place holds something, and has the key word
pub record IsPairOf (pairs : List Pair) (key place : ℕ) (pair : Pair) : Type 0 where
  pub filled : IsFilledAt pairs place pair
  pub key_is : pair.key ≡ key

-- no pair that holds something has the key word
abbrev pub LacksPair : List Pair → ℕ → Type 0
LacksPair pairs key = (place : ℕ) (pair : Pair) → IsPairOf pairs key place pair → ⊥

-- The pairs once that of a key word and a value word was put. Each other one that holds something stood before and has
-- another key, no two from one place; and each before that has another key stands somewhere else than the one that was
-- put.
pub record AreWith (before after : List Pair) (key word : ℕ) : Type 0 where
  pub place : ℕ
  pub put : IsFilledAt after place (record { key = key; value = word })
  pub origin : ℕ → ℕ
  pub from : (at : ℕ) (pair : Pair) → IsFilledAt after at pair → at ≢ place
      → IsFilledAt before (origin at) pair × (pair.key ≢ key)
  pub apart : (at other : ℕ) (pair another : Pair) → IsFilledAt after at pair → IsFilledAt after other another
      → at ≢ place → other ≢ place → origin at ≡ origin other → at ≡ other
  pub kept : (at : ℕ) (pair : Pair) → IsFilledAt before at pair → pair.key ≢ key
      → (now : ℕ) × IsFilledAt after now pair × (origin now ≡ at) × (now ≢ place)
