-- The turns of a marker, by the notes of its seat's log.
use Rattle.std.specs.Prelude.{◌≡◌, ℕ, ◌+◌, ◌<◌, ◌==◌, List, [], ◌∷◌, ◌++◌, Contains, if◌then◌else◌}
use Rattle.page_space.specs.Extents.{board_words}
use Rattle.core_parts.specs.declared.note.Note.{Note}
use Rattle.core_parts.specs.declared.note.Note.TheVariants.{Loaded, Coloured, Gave, Took}

-- what a note counts for: a turn begins with the load of a cell's header, or is a look at a place of the board
abbrev pub turn : Note → ℕ
turn (Loaded at) = 1
turn (Coloured at found) = 0
turn (Gave place found) = 0
turn (Took place found) = 1

-- how many turns there are among notes
abbrev pub turns : List Note → ℕ
turns [] = 0
turns (note ∷ rest) = turn note + turns rest

-- The places that had nothing in the looks since a cell was last visited, found or given, after one note more. A cell
-- that is given may stand on the board still.
abbrev pub look_after : List ℕ → Note → List ℕ
look_after places (Loaded at) = []
look_after places (Coloured at found) = places
look_after places (Gave place found) = if found == 0 then [] else places
look_after places (Took place found) = if found == 0 then places ++ place ∷ [] else []

-- and after a list of notes
abbrev pub looks_from : List ℕ → List Note → List ℕ
looks_from places [] = places
looks_from places (note ∷ rest) = looks_from (look_after places note) rest

abbrev pub looks : List Note → List ℕ
looks notes = looks_from [] notes

-- each place of the board had nothing
abbrev pub LooksEverywhere : List ℕ → Type 0
LooksEverywhere places = (place : ℕ) → place < board_words → Contains places place

-- Each place that is looked at is on the board, and none is looked at twice without a visit between. These places were
-- looked at since the last visit.
abbrev pub LooksOnce : List ℕ → List Note → Type 0
LooksOnce places [] = Unit {0}
LooksOnce places (Loaded at ∷ rest) = LooksOnce [] rest
LooksOnce places (Coloured at found ∷ rest) = LooksOnce places rest
LooksOnce places (Gave place found ∷ rest) = LooksOnce places rest
LooksOnce places (Took place found ∷ rest) =
    (place < board_words) × (Contains places place → ⊥) × LooksOnce (places ++ place ∷ []) rest

-- A log gained notes of which none is a turn.
pub record AddsNoTurn (before after : List Note) : Type 0 where
  pub notes : List Note
  pub is : after ≡ before ++ notes
  pub none_made : turns notes ≡ 0

-- A log gained the notes of one visit: the load of a cell's header, and no other turn.
pub record AddsVisit (before after : List Note) : Type 0 where
  pub cell : ℕ
  pub notes : List Note
  pub is : after ≡ before ++ Loaded cell ∷ notes
  pub none_more : turns notes ≡ 0
