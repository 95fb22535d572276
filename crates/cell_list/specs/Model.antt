-- What a list of addresses keeps in its fields.
use Rattle.std.specs.Prelude.{ℕ, ◌≤◌, ◌↔◌, false, slice_index_or, IsTrue, vec_capacity}
use Rattle.std.specs.List.{Contains}
use Rattle.cell_list.specs.declared.CellList.TheInside.{Inside}
use Rattle.cell_list.specs.Listing.{Listing, IsListing}

-- the bound, and the addresses in their order
abbrev pub listing_of : Inside → Listing
listing_of list = record { bound = list.bound; addresses = list.addresses.items }

-- No address is listed twice, each is below the bound, there is room for each and for its flag, and the flags tell
-- which are listed: what has no flag is not.
pub record IsValid (list : Inside) : Type 0 where
  pub listing : IsListing (listing_of list)
  pub room : list.bound ≤ vec_capacity list.addresses
  pub room_for_flags : list.bound ≤ vec_capacity list.listed
  pub told : (at : ℕ) → IsTrue (slice_index_or list.listed.items at false) ↔ Contains list.addresses.items at
