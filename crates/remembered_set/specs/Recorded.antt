-- Which slots of pages may refer to young cells.
use Rattle.std.specs.Prelude.{ℕ, ◌<◌, ◌≤◌, ◌*◌, ◌==◌, ◌&&◌, Bool, not, nat_lt, if◌then◌else◌, List, [], ◌∷◌, Contains}
use Rattle.std.specs.List.{All, AllPairs, filter}
use Rattle.page_space.specs.Sizes.{page_words, pages_most}

-- the addresses of the recorded slots in ascending order, and the bound that all addresses of pages are below
pub record Recorded : Type 0 where
  pub bound : ℕ
  pub slots : List ℕ

-- each address is below those behind it, so none stands twice
abbrev pub IsAscending : List ℕ → Type 0
IsAscending slots = AllPairs (λ slot behind. slot < behind) slots

-- the slots ascend, each is below the bound, and there are no more pages than a heap may have
pub record IsRecorded (recorded : Recorded) : Type 0 where
  pub ascending : IsAscending recorded.slots
  pub below : All (λ slot. slot < recorded.bound) recorded.slots
  pub within : recorded.bound ≤ page_words * pages_most

-- the address is one of the range's: not below where it begins, and below where it ends
pub record IsBetween (from to slot : ℕ) : Type 0 where
  pub begins : from ≤ slot
  pub ends : slot < to

-- each recorded slot is below the address
abbrev pub HasNoneFrom : Recorded → ℕ → Type 0
HasNoneFrom recorded from = (slot : ℕ) → Contains recorded.slots slot → slot < from

-- the slot is recorded and not below the address, and no other such slot is below it
pub record IsNextRecorded (recorded : Recorded) (from slot : ℕ) : Type 0 where
  pub stands : Contains recorded.slots slot
  pub not_below : from ≤ slot
  pub least : (other : ℕ) → Contains recorded.slots other → from ≤ other → slot ≤ other

-- no slot of the range is recorded
abbrev pub HasNoneBetween : Recorded → ℕ → ℕ → Type 0
HasNoneBetween recorded from to = (slot : ℕ) → Contains recorded.slots slot → ¬ IsBetween from to slot

-- the slot is the first of the range that is recorded
pub record IsLeastBetween (recorded : Recorded) (from to slot : ℕ) : Type 0 where
  pub stands : Contains recorded.slots slot
  pub between : IsBetween from to slot
  pub none_before : HasNoneBetween recorded from slot

-- the slot stands at its place among those that ascend, once
abbrev pub with_slot : ℕ → List ℕ → List ℕ
with_slot slot [] = slot ∷ []
with_slot slot (first ∷ more) =
    if nat_lt slot first then slot ∷ first ∷ more
    else (if slot == first then first ∷ more else first ∷ with_slot slot more)

-- the slot is recorded, beside those that were
abbrev pub noted : Recorded → ℕ → Recorded
noted recorded slot = record recorded { slots = with_slot slot recorded.slots }

-- whether the address is one of the range's
abbrev pub is_between : ℕ → ℕ → ℕ → Bool
is_between from to slot = (not (nat_lt slot from)) && nat_lt slot to

-- the slots of the range are not recorded, and all others are as they were
abbrev pub forgotten : Recorded → ℕ → ℕ → Recorded
forgotten recorded from to = record recorded { slots = filter (λ slot. not (is_between from to slot)) recorded.slots }
