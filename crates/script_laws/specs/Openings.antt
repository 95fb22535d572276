-- Where the commands of a source begin, and by which version they are read.
use Rattle.std.specs.Prelude.{◌≡◌, ◌≢◌, ℕ, ◌+◌, ◌<◌, ◌≤◌, List, [], ◌∷◌, ◌++◌, length, Result, Ok}
use Rattle.script_text.specs.declared.script.BadScript.{BadScript}
use Rattle.script_text.specs.Limits.{line_bytes_most}
use Rattle.script_text.specs.Lines.{tokens_of}
use Rattle.script_text.specs.Versions.{version_word, version_in, Opening, unsaid, opening_with, opening_from}

-- the line is not too long, and has no token
pub record IsSilent (line : List ℕ) : Type 0 where
  pub short : length line ≤ line_bytes_most
  pub none : tokens_of line ≡ []

-- each of the lines is not too long, and has no token
abbrev pub AreSilent : List (List ℕ) → Type 0
AreSilent [] = Unit {0}
AreSilent (line ∷ lines) = IsSilent line × AreSilent lines

-- the line says a version, by these tokens
pub record SaysBy (line : List ℕ) (tokens : List (List ℕ)) : Type 0 where
  pub short : length line ≤ line_bytes_most
  pub cut : tokens_of line ≡ version_word ∷ tokens

-- the line says no version, but is no line without tokens
pub data IsOther (line : List ℕ) : Type 0 where
  long : line_bytes_most < length line → IsOther line
  worded : (first : List ℕ) (tokens : List (List ℕ)) → tokens_of line ≡ first ∷ tokens → first ≢ version_word
      → IsOther line

-- In these lines, of which the first has this number, the commands begin so. Lines without tokens stand first. The next
-- one says the version, or else the version is the first.
pub data Begin (number : ℕ) (lines : List (List ℕ)) (opened : Result Opening BadScript) : Type 0 where
  empty : AreSilent lines → opened ≡ Ok (unsaid (number + length lines) []) → Begin number lines opened
  other : (before : List (List ℕ)) (line : List ℕ) (after : List (List ℕ)) → lines ≡ before ++ line ∷ after
      → AreSilent before → IsOther line → opened ≡ Ok (unsaid (number + length before) (line ∷ after))
      → Begin number lines opened
  said : (before : List (List ℕ)) (line : List ℕ) (after tokens : List (List ℕ)) → lines ≡ before ++ line ∷ after
      → AreSilent before → SaysBy line tokens
      → opened ≡ opening_with (number + length before) after (version_in tokens)
      → Begin number lines opened

-- the version is said by the first line with tokens, or is the first
abbrev pub VersionsStandFirst : Type 0
VersionsStandFirst = (number : ℕ) (lines : List (List ℕ)) → Begin number lines (opening_from number lines)
