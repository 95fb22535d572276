-- Where `repeat`s end: the line of each is told so at its `end`.
use Rattle.std.specs.Prelude.{ℕ, zero, suc, ◌<◌, List, [], ◌∷◌}
use Rattle.script_text.specs.declared.table.Keyword.{Keyword}
use Rattle.script_text.specs.declared.table.Keyword.TheVariants as keyword
use Rattle.script_text.specs.declared.script.Line.{Line}
use Rattle.script_text.specs.declared.script.What.{What}
use Rattle.script_text.specs.declared.script.What.TheVariants.{Repeat}

-- what a line does, if it is a `repeat` that ends at this place
abbrev pub ended : ℕ → What → What
ended end_at (Repeat times last) = Repeat times end_at
ended end_at other = other

-- the lines, where the `repeat` at the second place ends at the first
abbrev pub with_end : ℕ → ℕ → List Line → List Line
with_end end_at at [] = []
with_end end_at zero (line ∷ lines) = record { number = line.number; what = ended end_at line.what } ∷ lines
with_end end_at (suc at) (line ∷ lines) = line ∷ with_end end_at at lines

-- the lines before a command at a place: where it is an `end`, the innermost of the open `repeat`s ends there
abbrev pub closed_lines : Keyword → ℕ → List ℕ → List Line → List Line
closed_lines keyword.End at (innermost ∷ outer) lines = with_end at innermost lines
closed_lines k at open' lines = lines

-- these places are below this one
abbrev pub AreBelow : ℕ → List ℕ → Type 0
AreBelow most [] = Unit {0}
AreBelow most (place ∷ places) = (place < most) × AreBelow most places
