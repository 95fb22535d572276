-- What a source is read as: a script, or the first line that is refused.
use Rattle.std.specs.Prelude.{ℕ, suc, ◌||◌, List, [], ◌∷◌, length, fold, flat_map, Option, Some, None, Result, Ok}
use Rattle.std.specs.Prelude.{Err, nat_lt, if◌then◌else◌, codes}
use Rattle.script_text.specs.declared.table.Keyword.{Keyword}
use Rattle.script_text.specs.declared.table.Keyword.TheVariants as keyword
use Rattle.script_text.specs.declared.script.Line.{Line}
use Rattle.script_text.specs.declared.script.Why.{Why}
use Rattle.script_text.specs.declared.script.Why.TheVariants.{Long, Command, Count, Name, Integer, Value}
use Rattle.script_text.specs.declared.script.Why.TheVariants.{Nesting, End, Open}
use Rattle.script_text.specs.declared.script.BadScript.{BadScript}
use Rattle.script_text.specs.declared.script.BadScript.TheVariants.{BadLine, TooManyNames}
use Rattle.script_text.specs.Limits.{open_most, variable_names_most, field_names_most}
use Rattle.script_text.specs.Lines.{lines_of}
use Rattle.script_text.specs.Statements.{Statement, statement_of_line}
use Rattle.script_text.specs.Versions.{Opening, opening_from}
use Rattle.script_text.specs.Names.{first_uses, with_name, variables_of, fields_of}
use Rattle.script_text.specs.Scripts.{ScriptText, NumberedStatement, what_in, end_after}

-- a reason as it is written
abbrev pub why_text : Why → List ℕ
why_text Long = codes "long"
why_text Command = codes "command"
why_text Count = codes "count"
why_text Name = codes "name"
why_text Integer = codes "integer"
why_text Value = codes "value"
why_text Nesting = codes "nesting"
why_text End = codes "end"
why_text Open = codes "open"

-- The lines whose `repeat` is open, the innermost first, after a command at a line; or why it may not stand there.
abbrev pub nest : ℕ → List ℕ → Keyword → Result (List ℕ) Why
nest number open' keyword.Repeat = if nat_lt (length open') open_most then Ok (number ∷ open') else Err Nesting
nest number [] keyword.End = Err End
nest number (innermost ∷ outer) keyword.End = Ok outer
nest number open' _ = Ok open'

-- a statement and those that follow it
abbrev pub followed : NumberedStatement → Result (List NumberedStatement) BadScript
    → Result (List NumberedStatement) BadScript
followed stated (Err stop) = Err stop
followed stated (Ok more) = Ok (stated ∷ more)

-- a statement that may stand where it does, and those that follow it
abbrev pub nested : NumberedStatement → Result (List ℕ) Why → (List ℕ → Result (List NumberedStatement) BadScript)
    → Result (List NumberedStatement) BadScript
nested stated (Err why) more = Err (BadLine stated.number why)
nested stated (Ok open') more = followed stated (more open')

-- what a line says, and the statements that follow it
abbrev pub stated_then : ℕ → List ℕ → Result (Option Statement) Why
    → (List ℕ → Result (List NumberedStatement) BadScript)
    → Result (List NumberedStatement) BadScript
stated_then number open' (Err why) more = Err (BadLine number why)
stated_then number open' (Ok None) more = more open'
stated_then number open' (Ok (Some statement)) more =
    nested (record { number = number; statement = statement }) (nest number open' statement.keyword) more

-- at the end of the source no `repeat` may be open
abbrev pub closed : List ℕ → Result (List NumberedStatement) BadScript
closed [] = Ok []
closed (innermost ∷ outer) = Err (BadLine innermost Open)

-- The statements of lines by a version, the first with this number, inside the `repeat`s that are open; or the line
-- that is refused.
abbrev pub stated_from : ℕ → ℕ → List ℕ → List (List ℕ) → Result (List NumberedStatement) BadScript
stated_from version number open' [] = closed open'
stated_from version number open' (line ∷ lines) =
    stated_then number open' (statement_of_line version line) (λ inner. stated_from version (suc number) inner lines)

-- the first line that, with those before it, has too many names; these were there before
abbrev pub past_limit : List (List ℕ) → List (List ℕ) → List NumberedStatement → Option ℕ
past_limit variables fields [] = None
past_limit variables fields (stated ∷ more) =
    let variables' = fold with_name variables (variables_of stated.statement) in
    let fields' = fold with_name fields (fields_of stated.statement) in
    if nat_lt variable_names_most (length variables') || nat_lt field_names_most (length fields')
    then Some stated.number
    else past_limit variables' fields' more

-- the `repeat`s that are open after a command at this place
abbrev pub open_after : ℕ → List ℕ → Keyword → List ℕ
open_after at open' keyword.Repeat = at ∷ open'
open_after at [] keyword.End = []
open_after at (innermost ∷ outer) keyword.End = outer
open_after at open' _ = open'

-- the innermost of the open `repeat`s
abbrev pub innermost_of : List ℕ → ℕ
innermost_of [] = 0
innermost_of (innermost ∷ outer) = innermost

-- the lines of statements, the first at this place, inside the `repeat`s that are open
abbrev pub lines_from : List (List ℕ) → List (List ℕ) → ℕ → List ℕ → List NumberedStatement → List Line
lines_from variables fields at open' [] = []
lines_from variables fields at open' (stated ∷ more) =
    let what = what_in variables fields (end_after 0 (suc at) more) (innermost_of open') stated.statement in
    record { number = stated.number; what = what } ∷ lines_from variables fields (suc at)
    (open_after at open' stated.statement.keyword) more

-- the script of a version with some statements: variables and fields are numbered apart, in order of first appearance
abbrev pub script_of : ℕ → List NumberedStatement → ScriptText
script_of version stated =
    let variables = first_uses (flat_map (λ s. variables_of s.statement) stated) in
    let fields = first_uses (flat_map (λ s. fields_of s.statement) stated) in
    let lines = lines_from variables fields 0 [] stated in
    record { version = version; lines = lines; variables = variables; fields = fields }

-- the script of a version with some statements, or the first line with too many names
abbrev pub within_limit : ℕ → List NumberedStatement → Option ℕ → Result ScriptText BadScript
within_limit version stated None = Ok (script_of version stated)
within_limit version stated (Some line) = Err (TooManyNames line)

-- the script of a version with the statements that were read, or the line that is refused
abbrev pub script_or_stop : ℕ → Result (List NumberedStatement) BadScript → Result ScriptText BadScript
script_or_stop version (Ok stated) = within_limit version stated (past_limit [] [] stated)
script_or_stop version (Err stop) = Err stop

-- what a source is read as whose commands begin so, or the line that says no version
abbrev pub reading_from : Result Opening BadScript → Result ScriptText BadScript
reading_from (Err stop) = Err stop
reading_from (Ok opening) =
    script_or_stop opening.version (stated_from opening.version opening.number [] opening.lines)

-- What a source is read as. Lines are numbered from 1.
abbrev pub reading : List ℕ → Result ScriptText BadScript
reading source = reading_from (opening_from 1 (lines_of source))
