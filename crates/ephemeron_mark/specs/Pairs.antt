-- Pairs that wait for their keys, and which of them wait for one.
use Rattle.std.specs.Prelude.{◌≡◌, ℕ, suc, ◌≤◌, ◌<◌, List, [], Some, slice_get}

-- The bound that all addresses are below; and of each pair that waits, in the order in which they came, the address of
-- the slot of its value, and that of the cell of its key.
pub record Waits : Type 0 where
  pub bound : ℕ
  pub slots : List ℕ
  pub keys : List ℕ

-- nothing waits
abbrev pub none_waits : ℕ → Waits
none_waits bound = record { bound = bound; slots = []; keys = [] }

-- the pair whose value has this slot waits for the key
pub record WaitsFor (waits : Waits) (key slot : ℕ) : Type 0 where
  pub place : ℕ
  pub of_key : slice_get waits.keys place ≡ Some key
  pub of_slot : slice_get waits.slots place ≡ Some slot

-- Among the first so many keys there are so many up to the last one that is this key: 0 where none is.
pub record IsLastOf (keys : List ℕ) (count key last : ℕ) : Type 0 where
  pub within : last ≤ count
  pub found : (place : ℕ) → last ≡ suc place → slice_get keys place ≡ Some key
  pub behind : (place : ℕ) → place < count → slice_get keys place ≡ Some key → place < last
