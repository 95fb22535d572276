-- What holds of each script that was read.
use Rattle.std.specs.Prelude.{◌≡◌, ℕ, suc, ◌-◌, ◌<◌, ◌≤◌, List, [], ◌∷◌, All, length, take}
use Rattle.std.specs.Prelude.{slice_get, option_map, Option, Some}
use Rattle.heap_command.specs.Commands.{IsWithin}
use Rattle.script_text.specs.declared.script.Line.{Line}
use Rattle.script_text.specs.declared.script.What.{What}
use Rattle.script_text.specs.declared.script.What.TheVariants.{Run, Repeat, End}
use Rattle.script_text.specs.Scripts.{ScriptText}
use Rattle.script_text.specs.Limits.{turns_most, open_most, variable_names_most, field_names_most, name_bytes_most}
use Rattle.script_text.specs.Versions.{version_most}
use Rattle.script_text.specs.Whole.{IsPaired}

-- a script of this version, with these lines, variables and fields
abbrev pub script_text : ℕ → List Line → List (List ℕ) → List (List ℕ) → ScriptText
script_text version lines variables fields =
    record { version = version; lines = lines; variables = variables; fields = fields }

-- the line names variables and fields below these counts, a cap is at most 8, and a `repeat` makes no more than the
-- most turns
abbrev pub NamesWithin : ℕ → ℕ → What → Type 0
NamesWithin variables fields (Run command) = IsWithin variables fields command
NamesWithin variables fields (Repeat times end_at) = times ≤ turns_most
NamesWithin variables fields (End repeat_at) = Unit {0}

-- the lines name only variables and fields that the script has, and keep to the limits of caps and turns
abbrev pub IsNumbered : ScriptText → Type 0
IsNumbered script = All (λ line. NamesWithin (length script.variables) (length script.fields) line.what) script.lines

-- what the line at a place, counted from 0, does
abbrev pub what_at : List Line → ℕ → Option What
what_at lines at = option_map (λ line. line.what) (slice_get lines at)

-- how many `repeat`s are open after a line
abbrev pub depth_after : ℕ → What → ℕ
depth_after depth (Run command) = depth
depth_after depth (Repeat times end_at) = suc depth
depth_after depth (End repeat_at) = depth - 1

-- how many are open after some lines
abbrev pub depth_of : ℕ → List Line → ℕ
depth_of depth [] = depth
depth_of depth (line ∷ lines) = depth_of (depth_after depth line.what) lines

-- Each `repeat` names the place of its `end`, below it, and each `end` that of its `repeat`, above it. At most four are
-- open.
pub record IsMatched (lines : List Line) : Type 0 where
  pub repeats : (at times end_at : ℕ) → what_at lines at ≡ Some (Repeat times end_at)
      → (at < end_at) × (what_at lines end_at ≡ Some (End at))
  pub ends : (at repeat_at : ℕ) → what_at lines at ≡ Some (End repeat_at)
      → (repeat_at < at) × ((times : ℕ) × (what_at lines repeat_at ≡ Some (Repeat times at)))
  -- a `repeat` that begins inside another one ends inside it
  pub inside : (at times end_at inner inner_times inner_end : ℕ) → what_at lines at ≡ Some (Repeat times end_at)
      → what_at lines inner ≡ Some (Repeat inner_times inner_end) → at < inner → inner < end_at → inner_end < end_at
  pub nested : (at : ℕ) → depth_of 0 (take at lines) ≤ open_most
  pub closed : depth_of 0 lines ≡ 0

-- the names have at most 32 bytes each
abbrev pub AreShort : List (List ℕ) → Type 0
AreShort names = All (λ name. length name ≤ name_bytes_most) names

-- The version is known, the lines name only what the script has, each `repeat` has its `end`, there are not too many
-- names, and those of fields are short.
pub record IsWellFormed (script : ScriptText) : Type 0 where
  pub known : (1 ≤ script.version) × (script.version ≤ version_most)
  pub numbered : IsNumbered script
  pub matched : IsMatched script.lines
  pub placed : IsPaired 0 script.lines
  pub few_variables : length script.variables ≤ variable_names_most
  pub few_fields : length script.fields ≤ field_names_most
  pub short : AreShort script.fields
