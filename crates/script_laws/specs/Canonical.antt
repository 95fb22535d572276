-- A script in canonical form: each command on a line of its own, its words one space apart.
use Rattle.std.specs.Prelude.{◌≡◌, ℕ, List, [], ◌∷◌, ◌++◌, map, flat_map, Some, Ok, pos, unwrap_or}
use Rattle.std.specs.Prelude.{slice_get, codes, ◌==◌, if◌then◌else◌}
use Rattle.std.specs.Fmt.{signed_decimal}
use Rattle.heap_command.specs.declared.command.Operand.TheVariants.{Int, Undefined, Var}
use Rattle.heap_command.specs.declared.command.Command.TheVariants as command
use Rattle.script_text.specs.declared.commands.Argument.{Argument}
use Rattle.script_text.specs.declared.commands.Argument.TheVariants.{Variable, Field, Literal, Value}
use Rattle.script_text.specs.declared.table.Keyword.{Keyword}
use Rattle.script_text.specs.declared.table.Keyword.TheVariants as keyword
use Rattle.script_text.specs.declared.script.What.{What}
use Rattle.script_text.specs.declared.script.What.TheVariants.{Run, Repeat, End}
use Rattle.script_text.specs.Table.{keyword_text}
use Rattle.script_text.specs.Statements.{Statement, RawOperand, variable, field, literal, integer, undefined, bound}
use Rattle.script_text.specs.Statements.{statement_of_line}
use Rattle.script_text.specs.Scripts.{ScriptText}
use Rattle.script_text.specs.Versions.{version_word}
use Rattle.script_text.specs.Grammar.{reading}

-- each of the words after a space
abbrev pub spaced_after : List (List ℕ) → List ℕ
spaced_after [] = []
spaced_after (word ∷ words) = 32 ∷ (word ++ spaced_after words)

-- the words, one space between two
abbrev pub spaced : List (List ℕ) → List ℕ
spaced [] = []
spaced (word ∷ words) = word ++ spaced_after words

-- the lines, a line feed after each
abbrev pub ended : List (List ℕ) → List ℕ
ended lines = flat_map (λ line. line ++ 10 ∷ []) lines

-- the token of an operand of a statement
abbrev pub written_token : RawOperand → List ℕ
written_token (variable token) = token
written_token (field token) = token
written_token (literal n) = signed_decimal (pos n)
written_token (integer v) = signed_decimal v
written_token undefined = codes "undefined"
written_token (bound token) = token

-- a statement as a line in canonical form
abbrev pub statement_text : Statement → List ℕ
statement_text statement = spaced (keyword_text statement.keyword ∷ map written_token statement.operands)

-- the token of an argument: a number stands for its name
abbrev pub token_of : List (List ℕ) → List (List ℕ) → Argument → List ℕ
token_of variables fields (Variable number) = unwrap_or (slice_get variables number) []
token_of variables fields (Field number) = unwrap_or (slice_get fields number) []
token_of variables fields (Literal n) = signed_decimal (pos n)
token_of variables fields (Value (Int v)) = signed_decimal v
token_of variables fields (Value Undefined) = codes "undefined"
token_of variables fields (Value (Var number)) = unwrap_or (slice_get variables number) []

-- the command of a line
abbrev pub keyword_of : What → Keyword
keyword_of (Run (command.New x cap)) = keyword.New
keyword_of (Run (command.List x)) = keyword.List
keyword_of (Run (command.Weak x)) = keyword.Weak
keyword_of (Run (command.LetValue x v)) = keyword.Let
keyword_of (Run (command.DropVar x)) = keyword.Drop
keyword_of (Run (command.Add x v)) = keyword.Add
keyword_of (Run (command.Set x f v)) = keyword.Set
keyword_of (Run (command.Get y x f)) = keyword.Get
keyword_of (Run (command.Del x f)) = keyword.Del
keyword_of (Run (command.Proto x v)) = keyword.Proto
keyword_of (Run (command.Push x v)) = keyword.Push
keyword_of (Run (command.Put x i v)) = keyword.Put
keyword_of (Run (command.At y x i)) = keyword.At
keyword_of (Run (command.Shift x n)) = keyword.Shift
keyword_of (Run (command.Trunc x n)) = keyword.Trunc
keyword_of (Run (command.WPut m k v)) = keyword.WPut
keyword_of (Run (command.WGet y m k)) = keyword.WGet
keyword_of (Run (command.WDel m k)) = keyword.WDel
keyword_of (Run (command.Print v)) = keyword.Print
keyword_of (Run (command.Same a b)) = keyword.Same
keyword_of (Run (command.Alike x y)) = keyword.Alike
keyword_of (Run (command.Shape x)) = keyword.Shape
keyword_of (Run command.Scavenge) = keyword.Scavenge
keyword_of (Run command.Mark) = keyword.Mark
keyword_of (Run command.Finish) = keyword.Finish
keyword_of (Run command.Gc) = keyword.Gc
keyword_of (Run command.Census) = keyword.Census
keyword_of (Repeat times end_at) = keyword.Repeat
keyword_of (End repeat_at) = keyword.End

-- the arguments of a line's command, in their order
abbrev pub arguments_in : What → List Argument
arguments_in (Run (command.New x cap)) = Variable x ∷ Literal cap ∷ []
arguments_in (Run (command.List x)) = Variable x ∷ []
arguments_in (Run (command.Weak x)) = Variable x ∷ []
arguments_in (Run (command.LetValue x v)) = Variable x ∷ Value v ∷ []
arguments_in (Run (command.DropVar x)) = Variable x ∷ []
arguments_in (Run (command.Add x v)) = Variable x ∷ Value v ∷ []
arguments_in (Run (command.Set x f v)) = Variable x ∷ Field f ∷ Value v ∷ []
arguments_in (Run (command.Get y x f)) = Variable y ∷ Variable x ∷ Field f ∷ []
arguments_in (Run (command.Del x f)) = Variable x ∷ Field f ∷ []
arguments_in (Run (command.Proto x v)) = Variable x ∷ Value v ∷ []
arguments_in (Run (command.Push x v)) = Variable x ∷ Value v ∷ []
arguments_in (Run (command.Put x i v)) = Variable x ∷ Value i ∷ Value v ∷ []
arguments_in (Run (command.At y x i)) = Variable y ∷ Variable x ∷ Value i ∷ []
arguments_in (Run (command.Shift x n)) = Variable x ∷ Value n ∷ []
arguments_in (Run (command.Trunc x n)) = Variable x ∷ Value n ∷ []
arguments_in (Run (command.WPut m k v)) = Variable m ∷ Value k ∷ Value v ∷ []
arguments_in (Run (command.WGet y m k)) = Variable y ∷ Variable m ∷ Value k ∷ []
arguments_in (Run (command.WDel m k)) = Variable m ∷ Value k ∷ []
arguments_in (Run (command.Print v)) = Value v ∷ []
arguments_in (Run (command.Same a b)) = Value a ∷ Value b ∷ []
arguments_in (Run (command.Alike x y)) = Variable x ∷ Variable y ∷ []
arguments_in (Run (command.Shape x)) = Variable x ∷ []
arguments_in (Repeat times end_at) = Literal times ∷ []
arguments_in _ = []

-- what a line does, as a line in canonical form, where names have these numbers
abbrev pub what_text : List (List ℕ) → List (List ℕ) → What → List ℕ
what_text variables fields what =
    spaced (keyword_text (keyword_of what) ∷ map (token_of variables fields) (arguments_in what))

-- the line that says a version, where it is not the first
abbrev pub version_lines : ℕ → List (List ℕ)
version_lines version =
    if version == 1 then [] else spaced (version_word ∷ signed_decimal (pos version) ∷ []) ∷ []

-- a script in canonical form: its version, if it is not the first, and then its lines
abbrev pub printed : ScriptText → List ℕ
printed script =
    ended (version_lines script.version
    ++ map (λ line. what_text script.variables script.fields line.what) script.lines)

-- a statement that a version reads from a line is read from its canonical form too
abbrev pub StatementsAreReadAgain : Type 0
StatementsAreReadAgain =
    (version : ℕ) (line : List ℕ) (statement : Statement) → statement_of_line version line ≡ Ok (Some statement)
    → statement_of_line version (statement_text statement) ≡ Ok (Some statement)

-- the source is read as a script of the same version that does the same, line for line, with the same names by number
pub record ParsesAs (source : List ℕ) (script : ScriptText) : Type 0 where
  pub again : ScriptText
  pub read : reading source ≡ Ok again
  pub version : again.version ≡ script.version
  pub lines : map (λ line. line.what) again.lines ≡ map (λ line. line.what) script.lines
  pub variables : again.variables ≡ script.variables
  pub fields : again.fields ≡ script.fields

-- what was read is read again from its canonical form
abbrev pub PrintedIsReadAgain : Type 0
PrintedIsReadAgain =
    (source : List ℕ) (script : ScriptText) → reading source ≡ Ok script → ParsesAs (printed script) script
