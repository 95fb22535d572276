-- What is in a list, by its first element.
use Rattle.std.proofs.Common.{◌≡◌, List, [], ◌∷◌, length, Contains, zero, suc}
use Rattle.std.proofs.Common.{arith}

-- only its one element is in a list of one
pub contains_only : {X : Type 0} (x y : X) → Contains (x ∷ []) y → x ≡ y
contains_only x y (zero, below, here) = here
contains_only x y (suc k, below, here) = absurd (omega arith)

-- nothing is in an empty list
pub contains_none : {X : Type 0} {G : Type 0} (xs : List X) (y : X) → length xs ≡ 0 → Contains xs y → G
contains_none xs y empty there = absurd (omega (arith, there.1))
