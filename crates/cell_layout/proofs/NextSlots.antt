-- The least of the offsets of slots that is not below another.
use Rattle.std.proofs.Common.{◌≡◌, ℕ, ◌+◌, ◌≤◌, ◌<◌, List, max, arith}
use Rattle.std.specs.List.{All, Contains, range_with_len}
use Rattle.std.proofs.lemmas.List.Elements.{All-weaker, All-contains_itself}
use Rattle.tagged_word.specs.Cells.{store_head}
use Rattle.tagged_word.proofs.Members.{in_range, range_bounds}
use Rattle.cell_layout.specs.Slots.{IsLeastFrom}

-- what each member of a list is below, all of them are below
pub all_below : (offsets : List ℕ) (from : ℕ) → ((other : ℕ) → Contains offsets other → other < from) →
    All (λ offset. offset < from) offsets
all_below offsets from below =
    All-weaker (Contains offsets) (λ offset. offset < from) below offsets (All-contains_itself offsets)

-- the first of a run of slots, from an offset on
pub first_of_run : (many from offset : ℕ) → offset ≡ max from store_head → offset < store_head + many →
    IsLeastFrom (range_with_len store_head many) from offset
first_of_run many from offset is within = record {
  among = in_range store_head many offset (omega arith) within;
  reached = omega arith;
  least = λ other has reached. omega (arith, (range_bounds store_head many other has).0);
}

-- where the run has ended, no slot is left
pub none_of_run : (many from offset : ℕ) → offset ≡ max from store_head → store_head + many ≤ offset →
    All (λ slot. slot < from) (range_with_len store_head many)
none_of_run many from offset is ended =
    all_below (range_with_len store_head many) from
    (λ other has. let bounds = range_bounds store_head many other has in omega (arith, bounds.0, bounds.1))
