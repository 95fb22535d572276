-- The names of the fields of a script are short, as each was written as a name.
use Rattle.std.proofs.Common.{◌≡◌, ℕ, ◌≤◌, Bool, true, false, cond, List, [], ◌∷◌, ◌++◌, length, is_some}
use Rattle.std.proofs.Common.{fold, arith}
use Rattle.std.specs.List.{flat_map}
use Rattle.std.proofs.lemmas.Bool.Decides.{nat_tests}
use Rattle.std.proofs.lemmas.List.Elements.{All-nil, All-cons, All-head, All-tail, All-append}
use Rattle.script_text.specs.declared.table.OperandKind.{OperandKind}
use Rattle.script_text.specs.declared.table.OperandKind.TheVariants.{Variable, Field, Value, Literal}
use Rattle.script_text.specs.Limits.{name_bytes_most}
use Rattle.script_text.specs.Tokens.{is_name}
use Rattle.script_text.specs.Statements.{RawOperand, variable, field, literal, integer, undefined, bound}
use Rattle.script_text.specs.Names.{position_of_name, with_name, first_uses, field_in, fields_of}
use Rattle.script_text.specs.Scripts.{NumberedStatement}
use Rattle.script_text.specs.Sound.{AreShort}
use Rattle.script_text.specs.Fitting.{Fits, AllFit, AreStated, deeper}

-- a name has few bytes
abbrev IsShort : List ℕ → Type 0
IsShort name = length name ≤ name_bytes_most

-- what is written as a name is short
name_is_short : (token : List ℕ) → is_name token ≡ true → IsShort token
name_is_short token is = grind (arith, nat_tests)

-- one name more is short, if it is there anew
chosen_short : (there : Bool) (names : List (List ℕ)) (new : List ℕ) → AreShort names → IsShort new
    → AreShort (cond there names (names ++ new ∷ []))
chosen_short true names new are is = are
chosen_short false names new are is =
    All-append IsShort names (new ∷ []) are (All-cons IsShort new [] is (All-nil IsShort))

-- names stay short with more that are
more_short : (names uses : List (List ℕ)) → AreShort names → AreShort uses → AreShort (fold with_name names uses)
more_short names [] are uses_are = are
more_short names (use_of ∷ uses) are uses_are =
    more_short (with_name names use_of) uses
    (chosen_short (is_some (position_of_name names use_of)) names use_of are (All-head IsShort use_of uses uses_are))
    (All-tail IsShort use_of uses uses_are)

-- a field that an operand names is short
operand_short : (place : OperandKind) (written : RawOperand) → Fits place written → AreShort (field_in written)
operand_short Variable (variable token) fits = All-nil IsShort
operand_short Field (field token) fits = All-cons IsShort token [] (name_is_short token fits) (All-nil IsShort)
operand_short (Literal most) (literal n) fits = All-nil IsShort
operand_short Value (integer v) fits = All-nil IsShort
operand_short Value undefined fits = All-nil IsShort
operand_short Value (bound token) fits = All-nil IsShort
operand_short place written fits = absurd fits

-- so are those that some operands name
operands_short : (places : List OperandKind) (operands : List RawOperand) → AllFit places operands
    → AreShort (flat_map field_in operands)
operands_short [] [] fits = All-nil IsShort
operands_short [] (written ∷ operands) fits = absurd fits
operands_short (place ∷ places) [] fits = absurd fits
operands_short (place ∷ places) (written ∷ operands) fits =
    All-append IsShort (field_in written) (flat_map field_in operands) (operand_short place written fits.0)
    (operands_short places operands fits.1)

-- and those that statements name
statements_short : (depth : ℕ) (stated : List NumberedStatement) → AreStated depth stated
    → AreShort (flat_map (λ s. fields_of s.statement) stated)
statements_short depth [] are = All-nil IsShort
statements_short depth (stated ∷ more) are =
    All-append IsShort (fields_of stated.statement) (flat_map (λ s. fields_of s.statement) more)
    (operands_short _ stated.statement.operands are.0.fitting)
    (statements_short (deeper depth stated.statement.keyword) more are.2)

-- the fields of a script have short names
pub fields_short : (stated : List NumberedStatement) → AreStated 0 stated
    → AreShort (first_uses (flat_map (λ s. fields_of s.statement) stated))
fields_short stated are =
    more_short [] (flat_map (λ s. fields_of s.statement) stated) (All-nil IsShort) (statements_short 0 stated are)
