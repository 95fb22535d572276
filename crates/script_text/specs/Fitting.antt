-- Statements that may stand where they do: the operands of each fit its command, and the blocks are nested.
use Rattle.std.specs.Prelude.{◌≡◌, ℕ, suc, ◌-◌, ◌<◌, ◌≤◌, true, List, [], ◌∷◌}
use Rattle.script_text.specs.declared.commands.Argument.{Argument}
use Rattle.script_text.specs.declared.commands.Argument.TheVariants as given
use Rattle.script_text.specs.declared.table.Keyword.{Keyword}
use Rattle.script_text.specs.declared.table.Keyword.TheVariants as keyword
use Rattle.script_text.specs.declared.table.OperandKind.{OperandKind}
use Rattle.script_text.specs.declared.table.OperandKind.TheVariants.{Variable, Field, Value, Literal}
use Rattle.script_text.specs.Limits.{open_most}
use Rattle.script_text.specs.Tokens.{is_name}
use Rattle.script_text.specs.Table.{places_of}
use Rattle.script_text.specs.Statements.{Statement, RawOperand, variable, field, literal, integer, undefined, bound}
use Rattle.script_text.specs.Scripts.{NumberedStatement}

-- the operand may stand at this place
abbrev pub Fits : OperandKind → RawOperand → Type 0
Fits Variable (variable token) = Unit {0}
Fits Field (field token) = is_name token ≡ true
Fits (Literal most) (literal n) = n ≤ most
Fits Value (integer v) = Unit {0}
Fits Value undefined = Unit {0}
Fits Value (bound token) = Unit {0}
Fits _ _ = ⊥

-- there is an operand for each place, which may stand there
abbrev pub AllFit : List OperandKind → List RawOperand → Type 0
AllFit [] [] = Unit {0}
AllFit [] (written ∷ operands) = ⊥
AllFit (place ∷ places) [] = ⊥
AllFit (place ∷ places) (written ∷ operands) = Fits place written × AllFit places operands

-- the statement of a line that is not refused: its operands fit its command
pub record IsStated (statement : Statement) : Type 0 where
  pub fitting : AllFit (places_of statement.keyword) statement.operands

-- how many `repeat`s are open after a command
abbrev pub deeper : ℕ → Keyword → ℕ
deeper depth keyword.Repeat = suc depth
deeper depth keyword.End = depth - 1
deeper depth other = depth

-- the command may stand where so many `repeat`s are open
abbrev pub MayStand : ℕ → Keyword → Type 0
MayStand depth keyword.Repeat = depth < open_most
MayStand depth keyword.End = 0 < depth
MayStand depth other = Unit {0}

-- the statements were read from lines, inside so many `repeat`s
abbrev pub AreStated : ℕ → List NumberedStatement → Type 0
AreStated depth [] = depth ≡ 0
AreStated depth (stated ∷ more) =
    IsStated stated.statement × MayStand depth stated.statement.keyword
    × AreStated (deeper depth stated.statement.keyword) more

-- the argument is of the kind that its place wants
abbrev pub IsOfKind : OperandKind → Argument → Type 0
IsOfKind Variable (given.Variable number) = Unit {0}
IsOfKind Field (given.Field number) = Unit {0}
IsOfKind (Literal most) (given.Literal n) = Unit {0}
IsOfKind Value (given.Value value) = Unit {0}
IsOfKind _ _ = ⊥

-- there is an argument for each place, of the kind that it wants
abbrev pub AreOfKinds : List OperandKind → List Argument → Type 0
AreOfKinds [] [] = Unit {0}
AreOfKinds [] (first ∷ arguments) = ⊥
AreOfKinds (place ∷ places) [] = ⊥
AreOfKinds (place ∷ places) (first ∷ arguments) = IsOfKind place first × AreOfKinds places arguments
