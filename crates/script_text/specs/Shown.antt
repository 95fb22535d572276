-- The statements of the code, as the grammar sees them, and where reading stops.
use Rattle.std.specs.Prelude.{◌≡◌, ℕ, suc, map, take, drop, Bool, ◌||◌, List, [], ◌∷◌, length, Option, Some, Result}
use Rattle.std.specs.Prelude.{Ok, Err, nat_lt}
use Rattle.script_text.specs.declared.script.Why.{Why}
use Rattle.script_text.specs.declared.script.BadScript.{BadScript}
use Rattle.script_text.specs.declared.script.BadScript.TheVariants as bad_script
use Rattle.script_text.specs.declared.statement.RawOperand.{RawOperand as Slice}
use Rattle.script_text.specs.declared.statement.RawOperand.TheVariants as slice
use Rattle.script_text.specs.declared.statement.Statement.{Statement as Slices}
use Rattle.script_text.specs.declared.statements.NumberedStatement.{NumberedStatement as StatedSlices}
use Rattle.script_text.specs.declared.versions.Opening.{Opening as Skipped}
use Rattle.script_text.specs.declared.versions.Saying.{Saying}
use Rattle.script_text.specs.declared.versions.Saying.TheVariants as saying
use Rattle.script_text.specs.Limits.{variable_names_most, field_names_most}
use Rattle.script_text.specs.Table.{places_of}
use Rattle.script_text.specs.Statements.{Statement, RawOperand, variable, field, literal, integer, undefined, bound}
use Rattle.script_text.specs.Versions.{Opening, unsaid, opening_with, opening_from}
use Rattle.script_text.specs.Scripts.{NumberedStatement}
use Rattle.script_text.specs.Grammar.{stated_from}

-- an operand, with the bytes of its name
abbrev pub shown : Slice → RawOperand
shown (slice.Variable token) = variable token.now
shown (slice.Field token) = field token.now
shown (slice.Literal n) = literal n
shown (slice.Integer v) = integer v
shown slice.Undefined = undefined
shown (slice.Bound token) = bound token.now

-- a statement, with as many operands as its command has
abbrev pub statement_shown : Slices → Statement
statement_shown statement =
    record {
      keyword = statement.keyword;
      operands = map shown (take (length (places_of statement.keyword)) statement.operands);
    }

-- a statement and the number of its line
abbrev pub stated_shown : StatedSlices → NumberedStatement
stated_shown stated = record { number = stated.number; statement = statement_shown stated.statement }

-- where the commands of these lines begin, counted from 1
abbrev pub opening_shown : List (List ℕ) → Skipped → Opening
opening_shown lines opening =
    record { version = opening.version; number = suc opening.skipped; lines = drop opening.skipped lines }

-- where the commands of lines begin, by what the first of them says; it has this number
abbrev pub opening_by : ℕ → List ℕ → List (List ℕ) → Result Saying Why → Result Opening BadScript
opening_by number line lines (Err why) = opening_with number lines (Err why)
opening_by number line lines (Ok saying.Nothing) = opening_from (suc number) lines
opening_by number line lines (Ok saying.Command) = Ok (unsaid number (line ∷ lines))
opening_by number line lines (Ok (saying.Version version)) = opening_with number lines (Ok version)

-- the lines where the commands begin are these statements of this version
pub record IsReadAs (opened : Result Opening BadScript) (version : ℕ) (stated : List NumberedStatement) : Type 0 where
  pub opening : Opening
  pub is : opened ≡ Ok opening
  pub same : opening.version ≡ version
  pub read : stated_from opening.version opening.number [] opening.lines ≡ Ok stated

-- the answer is the reason why reading a source stops, where that is not for memory
abbrev pub IsBad : {A : Type 0} → Result A BadScript → BadScript → Type 0
IsBad answer (bad_script.BadLine line why) = answer ≡ Err (bad_script.BadLine line why)
IsBad answer (bad_script.TooManyNames line) = answer ≡ Err (bad_script.TooManyNames line)
IsBad answer bad_script.NoMemory = Unit {0}

-- the line is the first with too many names
abbrev pub IsPast : Option ℕ → BadScript → Type 0
IsPast past (bad_script.BadLine line why) = ⊥
IsPast past (bad_script.TooManyNames line) = past ≡ Some line
IsPast past bad_script.NoMemory = Unit {0}

-- there are more names than a script may have
abbrev pub are_too_many : List (List ℕ) → List (List ℕ) → Bool
are_too_many variables fields = nat_lt variable_names_most (length variables) || nat_lt field_names_most (length fields)
