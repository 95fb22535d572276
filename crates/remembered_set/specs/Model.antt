-- What a remembered set keeps in its fields.
use Rattle.std.specs.Prelude.{◌≡◌, ◌*◌, ℕ, Bool, false, List, length, slice_index_or}
use Rattle.std.specs.List.{filter, range_with_len}
use Rattle.remembered_set.specs.declared.Remembered.TheInside.{Inside}
use Rattle.remembered_set.specs.Flags.{CountsEachPage}
use Rattle.remembered_set.specs.Bits.{flags_of}
use Rattle.remembered_set.specs.Recorded.{Recorded, IsRecorded}

-- the places of the flags that are set
unfoldable pub slots_of : List Bool → List ℕ
slots_of flags = filter (λ place. slice_index_or flags place false) (range_with_len 0 (length flags))

-- the slots that flags show: a flag for each word of the pages, set where the slot is recorded
abbrev pub shown : List Bool → Recorded
shown flags = record { bound = length flags; slots = slots_of flags }

-- what the bits show
abbrev pub recorded_of : Inside → Recorded
recorded_of set = shown (flags_of set.bits.items)

-- the words of 64 bits that have the flags of a page
abbrev pub page_bits : ℕ
page_bits = 32

-- the recorded slots ascend below their bound, the bound that is kept is the one that the bits show, the flags are
-- those of the pages, and each page's count is that of its flags
pub record IsValid (set : Inside) : Type 0 where
  pub recorded : IsRecorded (recorded_of set)
  pub bound : set.bound ≡ length (flags_of set.bits.items)
  pub pages : length set.bits.items ≡ page_bits * length set.counts.items
  pub counted : CountsEachPage (flags_of set.bits.items) set.counts.items
