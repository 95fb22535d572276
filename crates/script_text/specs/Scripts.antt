-- A script as it is read, and the commands of its statements.
use Rattle.std.specs.Prelude.{ℕ, suc, ◌-◌, ◌==◌, List, [], ◌∷◌, map, slice_get, unwrap_or, if◌then◌else◌}
use Rattle.heap_command.specs.declared.command.Operand.{Operand}
use Rattle.heap_command.specs.declared.command.Operand.TheVariants.{Int, Undefined, Var}
use Rattle.heap_command.specs.declared.command.Command.TheVariants as command
use Rattle.script_text.specs.declared.commands.Argument.{Argument}
use Rattle.script_text.specs.declared.commands.Argument.TheVariants.{Variable, Field, Literal, Value}
use Rattle.script_text.specs.declared.table.Keyword.{Keyword}
use Rattle.script_text.specs.declared.table.Keyword.TheVariants as keyword
use Rattle.script_text.specs.declared.script.Line.{Line}
use Rattle.script_text.specs.declared.script.What.{What}
use Rattle.script_text.specs.declared.script.What.TheVariants.{Run, Repeat, End}
use Rattle.script_text.specs.Statements.{Statement, RawOperand, variable, field, literal, integer, undefined, bound}
use Rattle.script_text.specs.Names.{number_of_name}

-- the version, the lines with what they do, and the names of the variables and of the fields by number
pub record ScriptText : Type 0 where
  pub version : ℕ
  pub lines : List Line
  pub variables : List (List ℕ)
  pub fields : List (List ℕ)

-- a line with this number
abbrev pub line : ℕ → What → Line
line number what = record { number = number; what = what }

-- a statement and the number of its line
pub record NumberedStatement : Type 0 where
  pub number : ℕ
  pub statement : Statement

-- the argument that is written: a name stands for its number
abbrev pub argument_of : List (List ℕ) → List (List ℕ) → RawOperand → Argument
argument_of variables fields (variable token) = Variable (number_of_name variables token)
argument_of variables fields (field token) = Field (number_of_name fields token)
argument_of variables fields (literal n) = Literal n
argument_of variables fields (integer v) = Value (Int v)
argument_of variables fields undefined = Value Undefined
argument_of variables fields (bound token) = Value (Var (number_of_name variables token))

-- the argument at a place, counted from 0; `undefined` past the last
abbrev pub argument_at : List Argument → ℕ → Argument
argument_at arguments at = unwrap_or (slice_get arguments at) (Value Undefined)

-- the variable that an argument is, by number; 0 where it is none
abbrev pub as_variable : Argument → ℕ
as_variable (Variable number) = number
as_variable _ = 0

-- the field that it is, by number; 0 where it is none
abbrev pub as_field : Argument → ℕ
as_field (Field number) = number
as_field _ = 0

-- the literal that it is; 0 where it is none
abbrev pub as_literal : Argument → ℕ
as_literal (Literal n) = n
as_literal _ = 0

-- the value that it is; `undefined` where it is none
abbrev pub as_value : Argument → Operand
as_value (Value value) = value
as_value _ = Undefined

-- what the statements from here on hold of the end of a `repeat`, with so many others open inside it: its place
abbrev pub end_after : ℕ → ℕ → List NumberedStatement → ℕ
end_after inside at [] = at
end_after inside at (stated ∷ more) =
    end_at_statement inside at stated.statement.keyword (end_after (suc inside) (suc at) more)
    (end_after (inside - 1) (suc at) more) (end_after inside (suc at) more)
  where
    end_at_statement : ℕ → ℕ → Keyword → ℕ → ℕ → ℕ → ℕ
    end_at_statement inside at keyword.Repeat deeper outer further = deeper
    end_at_statement inside at keyword.End deeper outer further = if inside == 0 then at else outer
    end_at_statement inside at _ deeper outer further = further

-- What a command is, with its arguments from left to right; those past its last are not read. A `repeat` and an `end`
-- have the place of the other.
abbrev pub what_of : ℕ → ℕ → Keyword → Argument → Argument → Argument → What
what_of ends repeats keyword.New a b c = Run (command.New (as_variable a) (as_literal b))
what_of ends repeats keyword.List a b c = Run (command.List (as_variable a))
what_of ends repeats keyword.Weak a b c = Run (command.Weak (as_variable a))
what_of ends repeats keyword.Let a b c = Run (command.LetValue (as_variable a) (as_value b))
what_of ends repeats keyword.Drop a b c = Run (command.DropVar (as_variable a))
what_of ends repeats keyword.Add a b c = Run (command.Add (as_variable a) (as_value b))
what_of ends repeats keyword.Set a b c = Run (command.Set (as_variable a) (as_field b) (as_value c))
what_of ends repeats keyword.Get a b c = Run (command.Get (as_variable a) (as_variable b) (as_field c))
what_of ends repeats keyword.Del a b c = Run (command.Del (as_variable a) (as_field b))
what_of ends repeats keyword.Proto a b c = Run (command.Proto (as_variable a) (as_value b))
what_of ends repeats keyword.Push a b c = Run (command.Push (as_variable a) (as_value b))
what_of ends repeats keyword.Put a b c = Run (command.Put (as_variable a) (as_value b) (as_value c))
what_of ends repeats keyword.At a b c = Run (command.At (as_variable a) (as_variable b) (as_value c))
what_of ends repeats keyword.Shift a b c = Run (command.Shift (as_variable a) (as_value b))
what_of ends repeats keyword.Trunc a b c = Run (command.Trunc (as_variable a) (as_value b))
what_of ends repeats keyword.WPut a b c = Run (command.WPut (as_variable a) (as_value b) (as_value c))
what_of ends repeats keyword.WGet a b c = Run (command.WGet (as_variable a) (as_variable b) (as_value c))
what_of ends repeats keyword.WDel a b c = Run (command.WDel (as_variable a) (as_value b))
what_of ends repeats keyword.Print a b c = Run (command.Print (as_value a))
what_of ends repeats keyword.Same a b c = Run (command.Same (as_value a) (as_value b))
what_of ends repeats keyword.Alike a b c = Run (command.Alike (as_variable a) (as_variable b))
what_of ends repeats keyword.Shape a b c = Run (command.Shape (as_variable a))
what_of ends repeats keyword.Repeat a b c = Repeat (as_literal a) ends
what_of ends repeats keyword.End a b c = End repeats
what_of ends repeats keyword.Scavenge a b c = Run command.Scavenge
what_of ends repeats keyword.Mark a b c = Run command.Mark
what_of ends repeats keyword.Finish a b c = Run command.Finish
what_of ends repeats keyword.Gc a b c = Run command.Gc
what_of ends repeats keyword.Census a b c = Run command.Census

-- what a statement is, where names have these numbers
abbrev pub what_in : List (List ℕ) → List (List ℕ) → ℕ → ℕ → Statement → What
what_in variables fields ends repeats statement =
    let arguments = map (argument_of variables fields) statement.operands in
    what_of ends repeats statement.keyword (argument_at arguments 0) (argument_at arguments 1) (argument_at arguments 2)
