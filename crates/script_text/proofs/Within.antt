-- The lines of statements name only variables and fields that have a number.
use Rattle.std.proofs.Common.{◌≡◌, ℕ, zero, suc, ◌<◌, ◌≤◌, List, [], ◌∷◌, ◌++◌, length, map}
use Rattle.std.proofs.Common.{slice_get, Some, refl, subst, arith}
use Rattle.std.specs.List.{All, Contains, flat_map}
use Rattle.std.proofs.lemmas.List.Elements.{All-cons, Contains-append_left, Contains-append_right}
use Rattle.heap_command.specs.Commands.{cap_most, NamesBelow}
use Rattle.script_text.specs.declared.commands.Argument.{Argument}
use Rattle.script_text.specs.declared.table.Keyword.{Keyword}
use Rattle.script_text.specs.declared.table.Keyword.TheVariants as keyword
use Rattle.script_text.specs.declared.table.OperandKind.{OperandKind}
use Rattle.script_text.specs.declared.table.OperandKind.TheVariants as place
use Rattle.script_text.specs.declared.script.Line.{Line}
use Rattle.script_text.specs.declared.script.What.{What}
use Rattle.script_text.specs.Limits.{turns_most}
use Rattle.script_text.specs.Table.{places_of}
use Rattle.script_text.specs.Statements.{RawOperand, variable, field, literal, integer, undefined, bound}
use Rattle.script_text.specs.Names.{number_of_name, variable_in, field_in, variables_of, fields_of, first_uses}
use Rattle.script_text.specs.Scripts.{NumberedStatement, argument_of, argument_at, as_variable, as_field, as_literal}
use Rattle.script_text.specs.Scripts.{as_value}
use Rattle.script_text.specs.Scripts.{what_of, end_after}
use Rattle.script_text.specs.Grammar.{lines_from, open_after, innermost_of, script_of}
use Rattle.script_text.specs.Sound.{NamesWithin, IsNumbered}
use Rattle.script_text.specs.Fitting.{Fits, AllFit, AreStated, deeper}
use Rattle.script_text.proofs.Numbers.{number_of_name-lt, Contains-first_uses}

-- each of these names is in the list
pub record AreIn (names wanted : List (List ℕ)) : Type 0 where
  pub each : (text : List ℕ) → Contains wanted text → Contains names text

-- so are those of a part
pub AreIn-left : (names some more : List (List ℕ)) → AreIn names (some ++ more) → AreIn names some
AreIn-left names some more h =
    record { each = λ text in_some. h.each text (Contains-append_left some more text in_some) }

-- and those of the other part
pub AreIn-right : (names some more : List (List ℕ)) → AreIn names (some ++ more) → AreIn names more
AreIn-right names some more h =
    record { each = λ text in_more. h.each text (Contains-append_right some more text in_more) }

-- the argument is what its place wants, with a number below the count
abbrev pub Suits : List (List ℕ) → List (List ℕ) → OperandKind → Argument → Type 0
Suits variables fields place.Variable argument = as_variable argument < length variables
Suits variables fields place.Field argument = as_field argument < length fields
Suits variables fields place.Value argument = NamesBelow (length variables) (as_value argument)
Suits variables fields (place.Literal most) argument = as_literal argument ≤ most

-- the number of a name that is in the list
number_below : (names : List (List ℕ)) (text : List ℕ) → AreIn names (text ∷ [])
    → number_of_name names text < length names
number_below names text h = number_of_name-lt names text (h.each text (0, omega arith, refl))

-- an operand that fits its place is what the place wants
Suits-argument_of : (variables fields : List (List ℕ)) (place : OperandKind) (written : RawOperand) → Fits place written
    → AreIn variables (variable_in written) → AreIn fields (field_in written)
    → Suits variables fields place (argument_of variables fields written)
Suits-argument_of variables fields place.Variable (variable token) fits vs fs = number_below variables token vs
Suits-argument_of variables fields place.Field (field token) fits vs fs = number_below fields token fs
Suits-argument_of variables fields (place.Literal most) (literal n) fits vs fs = fits
Suits-argument_of variables fields place.Value (integer v) fits vs fs = tt
Suits-argument_of variables fields place.Value undefined fits vs fs = tt
Suits-argument_of variables fields place.Value (bound token) fits vs fs = number_below variables token vs
Suits-argument_of variables fields place written fits vs fs = absurd fits

-- the arguments of operands
abbrev arguments_of : List (List ℕ) → List (List ℕ) → List RawOperand → List Argument
arguments_of variables fields operands = map (argument_of variables fields) operands

-- the argument at a place is what the place wants
Suits-argument_at : (variables fields : List (List ℕ)) (places : List OperandKind) (operands : List RawOperand)
    → AllFit places operands
    → AreIn variables (flat_map variable_in operands) → AreIn fields (flat_map field_in operands)
    → (at : ℕ) (place : OperandKind) → slice_get places at ≡ Some place
    → Suits variables fields place (argument_at (arguments_of variables fields operands) at)
Suits-argument_at variables fields [] operands fits vs fs at place e = cc
Suits-argument_at variables fields (first ∷ places) [] fits vs fs at place e = absurd fits
Suits-argument_at variables fields (first ∷ places) (written ∷ operands) fits vs fs zero place e =
    let same : first ≡ place = cc in
    let vs_here = AreIn-left variables (variable_in written) (flat_map variable_in operands) vs in
    let fs_here = AreIn-left fields (field_in written) (flat_map field_in operands) fs in
    subst (λ p. Suits variables fields p (argument_of variables fields written)) same
    (Suits-argument_of variables fields first written fits.0 vs_here fs_here)
Suits-argument_at variables fields (first ∷ places) (written ∷ operands) fits vs fs (suc at) place e =
    let vs_later = AreIn-right variables (variable_in written) (flat_map variable_in operands) vs in
    let fs_later = AreIn-right fields (field_in written) (flat_map field_in operands) fs in
    Suits-argument_at variables fields places operands fits.1 vs_later fs_later at place e

-- the arguments are what the places want
abbrev AllSuit : List (List ℕ) → List (List ℕ) → List OperandKind → List Argument → Type 0
AllSuit variables fields places arguments =
    (at : ℕ) (place : OperandKind) → slice_get places at ≡ Some place
    → Suits variables fields place (argument_at arguments at)

-- what a command does with these arguments
abbrev pub what_at_places : ℕ → ℕ → Keyword → List Argument → What
what_at_places ends repeats k arguments =
    what_of ends repeats k (argument_at arguments 0) (argument_at arguments 1) (argument_at arguments 2)

-- what a command does names what its places want
what_of-NamesWithin : (variables fields : List (List ℕ)) (ends repeats : ℕ) (k : Keyword) (arguments : List Argument)
    → AllSuit variables fields (places_of k) arguments
    → NamesWithin (length variables) (length fields) (what_at_places ends repeats k arguments)
what_of-NamesWithin variables fields ends repeats keyword.New arguments suits =
    (suits 0 place.Variable refl, suits 1 (place.Literal cap_most) refl)
what_of-NamesWithin variables fields ends repeats keyword.List arguments suits = suits 0 place.Variable refl
what_of-NamesWithin variables fields ends repeats keyword.Weak arguments suits = suits 0 place.Variable refl
what_of-NamesWithin variables fields ends repeats keyword.Let arguments suits =
    (suits 0 place.Variable refl, suits 1 place.Value refl)
what_of-NamesWithin variables fields ends repeats keyword.Drop arguments suits = suits 0 place.Variable refl
what_of-NamesWithin variables fields ends repeats keyword.Add arguments suits =
    (suits 0 place.Variable refl, suits 1 place.Value refl)
what_of-NamesWithin variables fields ends repeats keyword.Set arguments suits =
    (suits 0 place.Variable refl, suits 1 place.Field refl, suits 2 place.Value refl)
what_of-NamesWithin variables fields ends repeats keyword.Get arguments suits =
    (suits 0 place.Variable refl, suits 1 place.Variable refl, suits 2 place.Field refl)
what_of-NamesWithin variables fields ends repeats keyword.Del arguments suits =
    (suits 0 place.Variable refl, suits 1 place.Field refl)
what_of-NamesWithin variables fields ends repeats keyword.Proto arguments suits =
    (suits 0 place.Variable refl, suits 1 place.Value refl)
what_of-NamesWithin variables fields ends repeats keyword.Push arguments suits =
    (suits 0 place.Variable refl, suits 1 place.Value refl)
what_of-NamesWithin variables fields ends repeats keyword.Put arguments suits =
    (suits 0 place.Variable refl, suits 1 place.Value refl, suits 2 place.Value refl)
what_of-NamesWithin variables fields ends repeats keyword.At arguments suits =
    (suits 0 place.Variable refl, suits 1 place.Variable refl, suits 2 place.Value refl)
what_of-NamesWithin variables fields ends repeats keyword.Shift arguments suits =
    (suits 0 place.Variable refl, suits 1 place.Value refl)
what_of-NamesWithin variables fields ends repeats keyword.Trunc arguments suits =
    (suits 0 place.Variable refl, suits 1 place.Value refl)
what_of-NamesWithin variables fields ends repeats keyword.WPut arguments suits =
    (suits 0 place.Variable refl, suits 1 place.Value refl, suits 2 place.Value refl)
what_of-NamesWithin variables fields ends repeats keyword.WGet arguments suits =
    (suits 0 place.Variable refl, suits 1 place.Variable refl, suits 2 place.Value refl)
what_of-NamesWithin variables fields ends repeats keyword.WDel arguments suits =
    (suits 0 place.Variable refl, suits 1 place.Value refl)
what_of-NamesWithin variables fields ends repeats keyword.Print arguments suits = suits 0 place.Value refl
what_of-NamesWithin variables fields ends repeats keyword.Same arguments suits =
    (suits 0 place.Value refl, suits 1 place.Value refl)
what_of-NamesWithin variables fields ends repeats keyword.Alike arguments suits =
    (suits 0 place.Variable refl, suits 1 place.Variable refl)
what_of-NamesWithin variables fields ends repeats keyword.Shape arguments suits = suits 0 place.Variable refl
what_of-NamesWithin variables fields ends repeats keyword.Repeat arguments suits =
    suits 0 (place.Literal turns_most) refl
what_of-NamesWithin variables fields ends repeats k arguments suits = tt

-- the lines of statements that were read name only what has a number
pub lines_from-NamesWithin :
    (depth : ℕ) (variables fields : List (List ℕ)) (at : ℕ) (open' : List ℕ) (xs : List NumberedStatement)
    → AreStated depth xs → AreIn variables (flat_map (λ s. variables_of s.statement) xs)
    → AreIn fields (flat_map (λ s. fields_of s.statement) xs)
    → All (λ line. NamesWithin (length variables) (length fields) line.what) (lines_from variables fields at open' xs)
lines_from-NamesWithin depth variables fields at open' [] h vs fs = λ k d lt. absurd (omega (arith, lt))
lines_from-NamesWithin depth variables fields at open' (stated ∷ more) h vs fs =
    let statement = stated.statement in
    let vs_more = flat_map (λ (s : NumberedStatement). variables_of s.statement) more in
    let fs_more = flat_map (λ (s : NumberedStatement). fields_of s.statement) more in
    let suits =
    Suits-argument_at variables fields (places_of statement.keyword) statement.operands h.0.fitting
    (AreIn-left variables (variables_of statement) vs_more vs) (AreIn-left fields (fields_of statement) fs_more fs) in
    All-cons (λ (line : Line). NamesWithin (length variables) (length fields) line.what) _
    (lines_from variables fields (suc at) (open_after at open' statement.keyword) more)
    (what_of-NamesWithin variables fields (end_after 0 (suc at) more) (innermost_of open') statement.keyword
    (arguments_of variables fields statement.operands) suits)
    (lines_from-NamesWithin (deeper depth statement.keyword) variables fields (suc at)
    (open_after at open' statement.keyword) more h.2
    (AreIn-right variables (variables_of statement) vs_more vs) (AreIn-right fields (fields_of statement) fs_more fs))

-- a script that was read is numbered
pub script_of-IsNumbered : (version : ℕ) (xs : List NumberedStatement) → AreStated 0 xs
    → IsNumbered (script_of version xs)
script_of-IsNumbered version xs h =
    let vs = flat_map (λ (s : NumberedStatement). variables_of s.statement) xs in
    let fs = flat_map (λ (s : NumberedStatement). fields_of s.statement) xs in
    lines_from-NamesWithin 0 (first_uses vs) (first_uses fs) 0 [] xs h
    (record { each = Contains-first_uses vs }) (record { each = Contains-first_uses fs })
