-- The lines of a source, and the tokens of a line.
use Rattle.std.specs.Prelude.{ℕ, Bool, true, false, ◌||◌, List, [], ◌∷◌, filter, ◌==◌, if◌then◌else◌}
use Rattle.std.specs.List.{before_first}

-- the byte before the first of some pieces, or a piece of its own where there is none
abbrev pub onto_first : ℕ → List (List ℕ) → List (List ℕ)
onto_first b [] = (b ∷ []) ∷ []
onto_first b (piece ∷ pieces) = (b ∷ piece) ∷ pieces

-- A line ends before each line feed. A last piece without one is a line where it is not empty.
abbrev pub lines_of : List ℕ → List (List ℕ)
lines_of [] = []
lines_of (b ∷ bs) = if b == 10 then [] ∷ lines_of bs else onto_first b (lines_of bs)

-- a space, a tab or a carriage return
abbrev pub is_blank : ℕ → Bool
is_blank b = (b == 32) || (b == 9) || (b == 13)

-- the pieces of a text between its blanks, one more than there are blanks
abbrev pub pieces_of : List ℕ → List (List ℕ)
pieces_of [] = [] ∷ []
pieces_of (b ∷ bs) = if is_blank b then [] ∷ pieces_of bs else onto_first b (pieces_of bs)

-- there is a byte
abbrev pub is_some_bytes : List ℕ → Bool
is_some_bytes [] = false
is_some_bytes (b ∷ bs) = true

-- a line without its comment, which begins at its first `#`
abbrev pub text_of : List ℕ → List ℕ
text_of line = before_first (λ b. b == 35) line

-- the longest rows of bytes without blanks in a line's text
abbrev pub tokens_of : List ℕ → List (List ℕ)
tokens_of line = filter is_some_bytes (pieces_of (text_of line))
