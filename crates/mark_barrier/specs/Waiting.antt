-- The cells that wait with the mutator, in two lists.
use Rattle.std.specs.Prelude.{◌≡◌, ◌≢◌, ◌⊎◌, ℕ, ◌+◌, [], Contains, length}
use Rattle.cell_list.specs.Listing.{Listing}

-- the cells that are listed, and those that were passed over when one was to be given, since they were black
pub record Waiting : Type 0 where
  pub list : Listing
  pub passed : Listing

-- a cell is on one of the two lists
abbrev pub IsOn : Waiting → ℕ → Type 0
IsOn waiting at = Contains waiting.list.addresses at ⊎ Contains waiting.passed.addresses at

-- both lists have room for each address below a bound
pub record HasRoom (waiting : Waiting) (bound : ℕ) : Type 0 where
  pub list : waiting.list.bound ≡ bound
  pub passed : waiting.passed.bound ≡ bound

-- no cell is on either list
pub record IsEmpty (waiting : Waiting) : Type 0 where
  pub list : waiting.list.addresses ≡ []
  pub passed : waiting.passed.addresses ≡ []

-- no cell waits, and there is room for each address below a bound
abbrev pub empty_to : ℕ → Waiting
empty_to bound = record {
  list = record { bound = bound; addresses = [] };
  passed = record { bound = bound; addresses = [] };
}

-- how many cells are on the lists
abbrev pub count_on : Waiting → ℕ
count_on waiting = length waiting.list.addresses + length waiting.passed.addresses

-- One cell was taken off, and no other. None is passed over that was not. There is as much room as before.
pub record TakesOff (old new : Waiting) (at : ℕ) : Type 0 where
  pub list : new.list.bound ≡ old.list.bound
  pub passed : new.passed.bound ≡ old.passed.bound
  pub was : IsOn old at
  pub others : (one : ℕ) → IsOn old one → one ≢ at → IsOn new one
  pub none_more : (one : ℕ) → IsOn new one → IsOn old one
  pub over : (one : ℕ) → Contains new.passed.addresses one → Contains old.passed.addresses one
  pub fewer : count_on new + 1 ≡ count_on old
