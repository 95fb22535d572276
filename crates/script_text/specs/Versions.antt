-- The versions of the grammar, and where the commands of a source begin.
use Rattle.std.specs.Prelude.{ℕ, suc, ◌&&◌, List, [], ◌∷◌, length, Option, Some, None, Result, Ok, Err, ℤ, pos, negsuc}
use Rattle.std.specs.Prelude.{nat_le, nat_lt, codes, bytes_eq, if◌then◌else◌}
use Rattle.script_text.specs.declared.script.Why.{Why}
use Rattle.script_text.specs.declared.script.Why.TheVariants as why
use Rattle.script_text.specs.declared.script.BadScript.{BadScript}
use Rattle.script_text.specs.declared.script.BadScript.TheVariants.{BadLine}
use Rattle.script_text.specs.Limits.{line_bytes_most}
use Rattle.script_text.specs.Lines.{tokens_of}
use Rattle.script_text.specs.Tokens.{integer_of}

-- the newest version
abbrev pub version_most : ℕ
version_most = 2

-- the word of a line that says the version of its source
abbrev pub version_word : List ℕ
version_word = codes "version"

-- the version that an integer is
abbrev pub version_at : Option ℤ → Result ℕ Why
version_at None = Err why.Integer
version_at (Some (pos n)) = if nat_le 1 n && nat_le n version_most then Ok n else Err why.Integer
version_at (Some (negsuc n)) = Err why.Integer

-- the version that the tokens after the word say
abbrev pub version_in : List (List ℕ) → Result ℕ Why
version_in [] = Err why.Count
version_in (token ∷ []) = version_at (integer_of token)
version_in (token ∷ next ∷ more) = Err why.Count

-- where the commands of a source begin: the lines from there on, of which the first has this number
pub record Opening : Type 0 where
  pub version : ℕ
  pub number : ℕ
  pub lines : List (List ℕ)

-- the first version, where no line says another
abbrev pub unsaid : ℕ → List (List ℕ) → Opening
unsaid number lines = record { version = 1; number = number; lines = lines }

-- The line of this number says a version, or is refused; these follow it.
abbrev pub opening_with : ℕ → List (List ℕ) → Result ℕ Why → Result Opening BadScript
opening_with number lines (Err reason) = Err (BadLine number reason)
opening_with number lines (Ok version) = Ok (record { version = version; number = suc number; lines = lines })

-- The first tokens of a source say its version, or are a command; a line without tokens says nothing.
abbrev pub opening_line : ℕ → List ℕ → List (List ℕ) → List (List ℕ) → Result Opening BadScript
    → Result Opening BadScript
opening_line number line lines [] further = further
opening_line number line lines (first ∷ tokens) further =
    if bytes_eq first version_word then opening_with number lines (version_in tokens)
    else Ok (unsaid number (line ∷ lines))

-- Where the commands of these lines begin, of which the first has this number; or the line that says no version.
abbrev pub opening_from : ℕ → List (List ℕ) → Result Opening BadScript
opening_from number [] = Ok (unsaid number [])
opening_from number (line ∷ lines) =
    if nat_lt line_bytes_most (length line) then Ok (unsaid number (line ∷ lines))
    else opening_line number line lines (tokens_of line) (opening_from (suc number) lines)
