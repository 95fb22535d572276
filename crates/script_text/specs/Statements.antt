-- A line as a statement: a keyword with operands, whose names are still as they are written.
use Rattle.std.specs.Prelude.{ℕ, List, [], ◌∷◌, length, Option, Some, None, Result, Ok, Err, ℤ, pos, negsuc, ◌==◌}
use Rattle.std.specs.Prelude.{nat_le, nat_lt, codes, bytes_eq, if◌then◌else◌}
use Rattle.script_text.specs.declared.table.Keyword.{Keyword}
use Rattle.script_text.specs.declared.table.OperandKind.{OperandKind}
use Rattle.script_text.specs.declared.table.OperandKind.TheVariants as place
use Rattle.script_text.specs.declared.script.Why.{Why}
use Rattle.script_text.specs.declared.script.Why.TheVariants as why
use Rattle.script_text.specs.Limits.{line_bytes_most}
use Rattle.script_text.specs.Lines.{tokens_of}
use Rattle.script_text.specs.Tokens.{is_name, integer_of}
use Rattle.script_text.specs.Table.{keywords_of, keyword_among, places_of}

-- an operand as it is written: the name of a variable or of a field, a literal, or a value
pub data RawOperand : Type 0 where
  variable : List ℕ → RawOperand
  field : List ℕ → RawOperand
  literal : ℕ → RawOperand
  integer : ℤ → RawOperand
  undefined : RawOperand
  bound : List ℕ → RawOperand

-- a command with its operands
pub record Statement : Type 0 where
  pub keyword : Keyword
  pub operands : List RawOperand

-- the literal up to this one that an integer is
abbrev pub literal_up_to : ℕ → Option ℤ → Result RawOperand Why
literal_up_to most None = Err why.Integer
literal_up_to most (Some (pos n)) = if nat_le n most then Ok (literal n) else Err why.Integer
literal_up_to most (Some (negsuc n)) = Err why.Integer

-- the integer, or else what a variable with the token as its name is bound to
abbrev pub integer_or_bound : Option ℤ → List ℕ → Result RawOperand Why
integer_or_bound (Some v) token = Ok (integer v)
integer_or_bound None token = if is_name token then Ok (bound token) else Err why.Value

-- what the token says at this place, or why it may not stand there
abbrev pub written_at : OperandKind → List ℕ → Result RawOperand Why
written_at place.Variable token = if is_name token then Ok (variable token) else Err why.Name
written_at place.Field token = if is_name token then Ok (field token) else Err why.Name
written_at place.Value token =
    if bytes_eq token (codes "undefined") then Ok undefined else integer_or_bound (integer_of token) token
written_at (place.Literal most) token = literal_up_to most (integer_of token)

-- an operand and those after it, or the first reason against one
abbrev pub joined : Result RawOperand Why → Result (List RawOperand) Why → Result (List RawOperand) Why
joined (Err reason) more = Err reason
joined (Ok written) (Err reason) = Err reason
joined (Ok written) (Ok more) = Ok (written ∷ more)

-- what the tokens say at these places, or why the first that may not stand there may not
abbrev pub written_all : List OperandKind → List (List ℕ) → Result (List RawOperand) Why
written_all [] tokens = Ok []
written_all (place ∷ places) [] = Ok []
written_all (place ∷ places) (token ∷ tokens) = joined (written_at place token) (written_all places tokens)

-- the statement with these operands, or the reason against one
abbrev pub statement_with : Keyword → Result (List RawOperand) Why → Result (Option Statement) Why
statement_with keyword (Err reason) = Err reason
statement_with keyword (Ok operands) = Ok (Some (record { keyword = keyword; operands = operands }))

-- a command with these tokens as its operands
abbrev pub with_operands : Keyword → List (List ℕ) → Result (Option Statement) Why
with_operands keyword tokens =
    if length tokens == length (places_of keyword) then statement_with keyword (written_all (places_of keyword) tokens)
    else Err why.Count

-- a command with these tokens as its operands, where there is one
abbrev pub if_command : List (List ℕ) → Option Keyword → Result (Option Statement) Why
if_command tokens None = Err why.Command
if_command tokens (Some keyword) = with_operands keyword tokens

-- the statement of some tokens by this version; nothing where there are no tokens
abbrev pub statement_of : ℕ → List (List ℕ) → Result (Option Statement) Why
statement_of version [] = Ok None
statement_of version (first ∷ tokens) = if_command tokens (keyword_among (keywords_of version) first)

-- the statement of a line by this version, or why the line is refused whatever stands before it
abbrev pub statement_of_line : ℕ → List ℕ → Result (Option Statement) Why
statement_of_line version line =
    if nat_lt line_bytes_most (length line) then Err why.Long else statement_of version (tokens_of line)
