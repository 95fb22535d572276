-- What is true of the variables and what they hold.
use Rattle.std.specs.Prelude.{◌≡◌, ◌≢◌, ℕ, ◌+◌, ◌<◌, List, length, slice_get}
use Rattle.page_space.specs.Extents.{Space}
use Rattle.handle_roots.specs.declared.held.Held.{Held}
use Rattle.handle_roots.specs.Roots.{root_at, FitsHeld, Holds, with_root}

-- a variable holds one value at most
abbrev pub RootsHoldOne : Type 0
RootsHoldOne =
    (space : Space) (words : List ℕ) (variable : ℕ) (one other : Held) →
    Holds space words variable one → Holds space words variable other → one ≡ other

-- a variable that is made to hold a value holds it
abbrev pub RootsHoldAgain : Type 0
RootsHoldAgain =
    (space : Space) (words : List ℕ) (variable : ℕ) (held : Held) → FitsHeld held →
    root_at space variable + 1 < length words → Holds space (with_root space words variable held) variable held

-- every other variable holds the same before and after
pub record HoldsAlike (space : Space) (old new : List ℕ) (variable : ℕ) : Type 0 where
  pub still : (held : Held) → Holds space old variable held → Holds space new variable held
  pub before : (held : Held) → Holds space new variable held → Holds space old variable held

abbrev pub OtherRootsStay : Type 0
OtherRootsStay =
    (space : Space) (words : List ℕ) (variable other : ℕ) (held : Held) → other ≢ variable →
    HoldsAlike space words (with_root space words variable held) other

-- no word but the two root words of the variable changes
abbrev pub OtherWordsStay : Type 0
OtherWordsStay =
    (space : Space) (words : List ℕ) (variable a : ℕ) (held : Held) → a ≢ root_at space variable →
    a ≢ root_at space variable + 1 → slice_get (with_root space words variable held) a ≡ slice_get words a

-- and their number stays
abbrev pub RootsKeepLength : Type 0
RootsKeepLength =
    (space : Space) (words : List ℕ) (variable : ℕ) (held : Held) →
    length (with_root space words variable held) ≡ length words
