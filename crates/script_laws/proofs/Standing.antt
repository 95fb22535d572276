-- The command and the arguments of what a command does.
use Rattle.std.proofs.Common.{◌≡◌, ℕ, List, [], ◌∷◌, map, refl}
use Rattle.script_text.specs.declared.commands.Argument.{Argument}
use Rattle.script_text.specs.declared.commands.Argument.TheVariants as argument
use Rattle.script_text.specs.declared.table.Keyword.{Keyword}
use Rattle.script_text.specs.declared.table.Keyword.TheVariants as keyword
use Rattle.script_text.specs.declared.table.OperandKind.{OperandKind}
use Rattle.script_text.specs.declared.table.OperandKind.TheVariants.{Variable, Field, Value, Literal}
use Rattle.script_text.specs.Table.{places_of}
use Rattle.script_text.specs.Statements.{RawOperand, variable, field, literal, integer, undefined, bound}
use Rattle.script_text.specs.Scripts.{argument_of, what_of}
use Rattle.script_text.specs.Fitting.{Fits, AllFit}
use Rattle.script_text.proofs.Within.{what_at_places}
use Rattle.script_laws.specs.Canonical.{keyword_of, arguments_in}

-- what a command does is of this command
pub keyword_of-what_of : (ends repeats : ℕ) (k : Keyword) (a b c : Argument)
    → keyword_of (what_of ends repeats k a b c) ≡ k
keyword_of-what_of ends repeats keyword.New a b c = refl
keyword_of-what_of ends repeats other a b c = refl

-- the argument is of the kind that its place wants
abbrev pub Stands : OperandKind → Argument → Type 0
Stands Variable (argument.Variable number) = Unit {0}
Stands Field (argument.Field number) = Unit {0}
Stands (Literal most) (argument.Literal n) = Unit {0}
Stands Value (argument.Value value) = Unit {0}
Stands _ _ = ⊥

-- there is an argument for each place, of the kind that it wants
abbrev pub AllStand : List OperandKind → List Argument → Type 0
AllStand [] [] = Unit {0}
AllStand (place ∷ places) (first ∷ arguments) = Stands place first × AllStand places arguments
AllStand _ _ = ⊥

-- an operand that fits its place is an argument of the kind that the place wants
Stands-argument_of : (variables fields : List (List ℕ)) (place : OperandKind) (written : RawOperand)
    → Fits place written
    → Stands place (argument_of variables fields written)
Stands-argument_of variables fields Variable (variable token) fits = tt
Stands-argument_of variables fields Field (field token) fits = tt
Stands-argument_of variables fields (Literal most) (literal n) fits = tt
Stands-argument_of variables fields Value (integer v) fits = tt
Stands-argument_of variables fields Value undefined fits = tt
Stands-argument_of variables fields Value (bound token) fits = tt
Stands-argument_of variables fields place written fits = absurd fits

-- operands that fit their places are arguments of the kinds that these want
pub AllStand-arguments : (variables fields : List (List ℕ)) (places : List OperandKind) (operands : List RawOperand)
    → AllFit places operands
    → AllStand places (map (argument_of variables fields) operands)
AllStand-arguments variables fields [] [] fits = tt
AllStand-arguments variables fields [] (written ∷ operands) fits = absurd fits
AllStand-arguments variables fields (place ∷ places) [] fits = fits
AllStand-arguments variables fields (place ∷ places) (written ∷ operands) fits = (
  Stands-argument_of variables fields place written fits.0,
  AllStand-arguments variables fields places operands fits.1,
)

-- the arguments of what a command does
pub arguments_in-what : (ends repeats : ℕ) (k : Keyword) (o : List Argument) → AllStand (places_of k) o
    → arguments_in (what_at_places ends repeats k o) ≡ o
arguments_in-what ends repeats keyword.New (argument.Variable x ∷ argument.Literal y ∷ []) h = refl
arguments_in-what ends repeats keyword.List (argument.Variable x ∷ []) h = refl
arguments_in-what ends repeats keyword.Weak (argument.Variable x ∷ []) h = refl
arguments_in-what ends repeats keyword.Let (argument.Variable x ∷ argument.Value y ∷ []) h = refl
arguments_in-what ends repeats keyword.Drop (argument.Variable x ∷ []) h = refl
arguments_in-what ends repeats keyword.Add (argument.Variable x ∷ argument.Value y ∷ []) h = refl
arguments_in-what ends repeats keyword.Set (argument.Variable x ∷ argument.Field y ∷ argument.Value z ∷ []) h = refl
arguments_in-what ends repeats keyword.Get (argument.Variable x ∷ argument.Variable y ∷ argument.Field z ∷ []) h = refl
arguments_in-what ends repeats keyword.Del (argument.Variable x ∷ argument.Field y ∷ []) h = refl
arguments_in-what ends repeats keyword.Proto (argument.Variable x ∷ argument.Value y ∷ []) h = refl
arguments_in-what ends repeats keyword.Push (argument.Variable x ∷ argument.Value y ∷ []) h = refl
arguments_in-what ends repeats keyword.Put (argument.Variable x ∷ argument.Value y ∷ argument.Value z ∷ []) h = refl
arguments_in-what ends repeats keyword.At (argument.Variable x ∷ argument.Variable y ∷ argument.Value z ∷ []) h = refl
arguments_in-what ends repeats keyword.Shift (argument.Variable x ∷ argument.Value y ∷ []) h = refl
arguments_in-what ends repeats keyword.Trunc (argument.Variable x ∷ argument.Value y ∷ []) h = refl
arguments_in-what ends repeats keyword.WPut (argument.Variable x ∷ argument.Value y ∷ argument.Value z ∷ []) h = refl
arguments_in-what ends repeats keyword.WGet (argument.Variable x ∷ argument.Variable y ∷ argument.Value z ∷ []) h = refl
arguments_in-what ends repeats keyword.WDel (argument.Variable x ∷ argument.Value y ∷ []) h = refl
arguments_in-what ends repeats keyword.Print (argument.Value x ∷ []) h = refl
arguments_in-what ends repeats keyword.Same (argument.Value x ∷ argument.Value y ∷ []) h = refl
arguments_in-what ends repeats keyword.Alike (argument.Variable x ∷ argument.Variable y ∷ []) h = refl
arguments_in-what ends repeats keyword.Shape (argument.Variable x ∷ []) h = refl
arguments_in-what ends repeats keyword.Repeat (argument.Literal x ∷ []) h = refl
arguments_in-what ends repeats keyword.End [] h = refl
arguments_in-what ends repeats keyword.Scavenge [] h = refl
arguments_in-what ends repeats keyword.Mark [] h = refl
arguments_in-what ends repeats keyword.Finish [] h = refl
arguments_in-what ends repeats keyword.Gc [] h = refl
arguments_in-what ends repeats keyword.Census [] h = refl
arguments_in-what ends repeats other o h = absurd (assumption h)
