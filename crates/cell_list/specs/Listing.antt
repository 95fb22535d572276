-- Which addresses of cells are listed.
use Rattle.std.specs.Prelude.{◌≢◌, ◌↔◌, ◌⊎◌, ℕ, ◌<◌, List, [], ◌∷◌, ◌++◌}
use Rattle.std.specs.List.{All, AllPairs, Contains}

-- the bound that all addresses are below, and the listed addresses in the order in which they were pushed
pub record Listing : Type 0 where
  pub bound : ℕ
  pub addresses : List ℕ

-- no address is listed twice, and each is below the bound
pub record IsListing (listing : Listing) : Type 0 where
  pub once : AllPairs (λ at other. at ≢ other) listing.addresses
  pub below : All (λ at. at < listing.bound) listing.addresses

-- with one address more, as the last
abbrev pub pushed : Listing → ℕ → Listing
pushed listing at = record listing { addresses = listing.addresses ++ at ∷ [] }

-- the addresses of one list have joined those of another
abbrev pub HasJoined : Listing → Listing → Listing → Type 0
HasJoined before after joins =
    (at : ℕ) → Contains after.addresses at ↔ (Contains before.addresses at ⊎ Contains joins.addresses at)
