-- The pieces of a source between its line feeds, and which of them are lines; where a token of a line ends.
use Rattle.std.specs.Prelude.{ℕ, Bool, true, false, ◌||◌, ◌==◌, List, [], ◌∷◌, if◌then◌else◌}
use Rattle.script_text.specs.Lines.{is_blank}

-- there is no byte
abbrev pub is_empty : List ℕ → Bool
is_empty [] = true
is_empty (b ∷ bs) = false

-- the last piece is empty
abbrev pub ends_empty : List (List ℕ) → Bool
ends_empty [] = false
ends_empty (piece ∷ []) = is_empty piece
ends_empty (piece ∷ next ∷ pieces) = ends_empty (next ∷ pieces)

-- the pieces without the last one, where that is empty
abbrev pub without_empty_end : List (List ℕ) → List (List ℕ)
without_empty_end [] = []
without_empty_end (piece ∷ []) = if is_empty piece then [] else piece ∷ []
without_empty_end (piece ∷ next ∷ pieces) = piece ∷ without_empty_end (next ∷ pieces)

-- a token ends before this byte: a blank, or the `#` of a comment
abbrev pub ends_token : ℕ → Bool
ends_token b = is_blank b || (b == 35)
