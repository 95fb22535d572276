-- Which line of a source is refused.
use Rattle.std.specs.Prelude.{◌≡◌, ◌≢◌, ℕ, suc, ◌+◌, List, [], ◌∷◌, ◌++◌, length, Some, None, Ok, Err}
use Rattle.script_text.specs.declared.script.Why.{Why}
use Rattle.script_text.specs.declared.script.Why.TheVariants.{Open}
use Rattle.script_text.specs.declared.script.BadScript.TheVariants.{BadLine, TooManyNames}
use Rattle.script_text.specs.Lines.{lines_of}
use Rattle.script_text.specs.Statements.{Statement, statement_of_line}
use Rattle.script_text.specs.Versions.{version_in, Opening, opening_from}
use Rattle.script_text.specs.Grammar.{nest, reading}
use Rattle.script_laws.specs.Openings.{AreSilent, SaysBy}

-- No line of these is refused by a version, where the first has this number and stands inside these open `repeat`s.
-- After them the last ones are open.
pub data Pass (version : ℕ) : ℕ → List ℕ → List (List ℕ) → List ℕ → Type 0 where
  none : (number : ℕ) (open' : List ℕ) → Pass version number open' [] open'
  empty : (number : ℕ) (open' after : List ℕ) (line : List ℕ) (lines : List (List ℕ))
      → statement_of_line version line ≡ Ok None
      → Pass version (suc number) open' lines after → Pass version number open' (line ∷ lines) after
  stated : (number : ℕ) (open' inner after : List ℕ) (line : List ℕ) (lines : List (List ℕ)) (statement : Statement)
      → statement_of_line version line ≡ Ok (Some statement)
      → nest number open' statement.keyword ≡ Ok inner → Pass version (suc number) inner lines after
      → Pass version number open' (line ∷ lines) after

-- a version refuses the line for this reason, where it has this number and stands inside these open `repeat`s
pub data IsRefused (version number : ℕ) (open' line : List ℕ) (why : Why) : Type 0 where
  unread : statement_of_line version line ≡ Err why → IsRefused version number open' line why
  misplaced : (statement : Statement) → statement_of_line version line ≡ Ok (Some statement)
      → nest number open' statement.keyword ≡ Err why → IsRefused version number open' line why

-- of lines, the first with this number inside these open `repeat`s, the first that a version refuses is this one
pub record IsFirstRefused (version number : ℕ) (open' : List ℕ) (lines : List (List ℕ)) (line : ℕ) (why : Why) : Type 0
  where
    pub before : List (List ℕ)
    pub refused : List ℕ
    pub after : List (List ℕ)
    pub inner : List ℕ
    pub cut : lines ≡ before ++ refused ∷ after
    pub passed : Pass version number open' before inner
    pub here : line ≡ number + length before
    pub reason : IsRefused version line inner refused why

-- Of the lines of a source, the first that is refused is this one: it says no version by its word and its tokens, or it
-- is one of those that the version refuses.
pub data IsRefusedIn (lines : List (List ℕ)) (line : ℕ) (why : Why) : Type 0 where
  unversioned : (before : List (List ℕ)) (refused : List ℕ) (after tokens : List (List ℕ))
      → lines ≡ before ++ refused ∷ after → AreSilent before → SaysBy refused tokens → version_in tokens ≡ Err why
      → line ≡ 1 + length before → IsRefusedIn lines line why
  stopped : (opening : Opening) → opening_from 1 lines ≡ Ok opening
      → IsFirstRefused opening.version opening.number [] opening.lines line why → IsRefusedIn lines line why

-- no line of a source is refused, and after the last one these `repeat`s are open
pub record AllPass (source : List ℕ) (open' : List ℕ) : Type 0 where
  pub opening : Opening
  pub opened : opening_from 1 (lines_of source) ≡ Ok opening
  pub pass : Pass opening.version opening.number [] opening.lines open'

-- the line of a refusal is the first that is refused
abbrev pub RefusesFirst : Type 0
RefusesFirst =
    (source : List ℕ) (line : ℕ) (why : Why) → why ≢ Open → reading source ≡ Err (BadLine line why)
    → IsRefusedIn (lines_of source) line why

-- where a `repeat` is left open no line is refused, and the line is the innermost that is open at the end
abbrev pub RefusesOpen : Type 0
RefusesOpen =
    (source : List ℕ) (line : ℕ) → reading source ≡ Err (BadLine line Open)
    → (outer : List ℕ) × AllPass source (line ∷ outer)

-- too many names are found only where no line is refused and no `repeat` is left open
abbrev pub CountsNamesLast : Type 0
CountsNamesLast = (source : List ℕ) (line : ℕ) → reading source ≡ Err (TooManyNames line) → AllPass source []
