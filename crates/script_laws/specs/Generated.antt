-- Generated scripts are scripts, within the limits, for every seed.
use Rattle.std.specs.Prelude.{◌≡◌, ℕ, ◌≤◌, List, All, length, Ok}
use Rattle.script_text.specs.Lines.{lines_of}
use Rattle.script_text.specs.Scripts.{ScriptText}
use Rattle.script_text.specs.Grammar.{reading}
use Rattle.script_gen.specs.Generated.{generated}

-- the source is read as a script of the first version, with no more names than these
pub record IsScript (source : List ℕ) (variables_most fields_most : ℕ) : Type 0 where
  pub script : ScriptText
  pub read : reading source ≡ Ok script
  pub version_is : script.version ≡ 1
  pub few_variables : length script.variables ≤ variables_most
  pub few_fields : length script.fields ≤ fields_most

-- a generated script is a script of at most 15 variables and 4 fields
abbrev pub GeneratedAreScripts : Type 0
GeneratedAreScripts = (seed n : ℕ) → IsScript (generated seed n) 15 4

-- no line of it has more than 24 bytes, without its line feed
abbrev pub GeneratedLinesAreShort : Type 0
GeneratedLinesAreShort = (seed n : ℕ) → All (λ line. length line ≤ 24) (lines_of (generated seed n))

-- with up to 30,000 forms it is no longer than a source may be
abbrev pub GeneratedAreShort : Type 0
GeneratedAreShort = (seed n : ℕ) → n ≤ 30000 → length (generated seed n) ≤ 1048576
