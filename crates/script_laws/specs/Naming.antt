-- Names and their numbers.
use Rattle.std.specs.Prelude.{◌≡◌, ◌≢◌, ℕ, List, Some, slice_get}
use Rattle.std.specs.List.{Contains, AllPairs}
use Rattle.script_text.specs.Names.{number_of_name, first_uses}

-- the names of some uses: each use, nothing else, and none twice
pub record AreNamesOf (uses names : List (List ℕ)) : Type 0 where
  pub each : (name : List ℕ) → Contains uses name → Contains names name
  pub only : (name : List ℕ) → Contains names name → Contains uses name
  pub once : AllPairs (λ x y. x ≢ y) names

-- first uses are the names of the uses
abbrev pub FirstUsesName : Type 0
FirstUsesName = (uses : List (List ℕ)) → AreNamesOf uses (first_uses uses)

-- the number of a name names it back
abbrev pub NumbersNameBack : Type 0
NumbersNameBack =
    (names : List (List ℕ)) (name : List ℕ) → Contains names name
    → slice_get names (number_of_name names name) ≡ Some name
