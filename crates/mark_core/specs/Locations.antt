-- Which words fit a spot.
use Rattle.std.specs.Prelude.{ℕ, ◌<◌, ◌^◌, Option, Some, None}
use Rattle.mark_laws.specs.Types.{Spot}

-- a colour has 8 bits, and every other word of a spot 64
abbrev pub FitsSpot : Option Spot → ℕ → Type 0
FitsSpot None word = Unit {0}
FitsSpot (Some (Spot.Heap at)) word = Unit {0}
FitsSpot (Some (Spot.Layout shape)) word = Unit {0}
FitsSpot (Some (Spot.Colour at)) word = word < 2 ^ 8
FitsSpot (Some (Spot.Board place)) word = Unit {0}
