-- Names get numbers in the order in which they first appear.
use Rattle.std.specs.Prelude.{ℕ, suc, List, [], ◌∷◌, ◌++◌, Option, Some, None, is_some, option_map, unwrap_or}
use Rattle.std.specs.Prelude.{if◌then◌else◌, bytes_eq, fold, flat_map}
use Rattle.script_text.specs.Statements.{Statement, RawOperand, variable, field, bound}

-- where the name stands in the list
abbrev pub position_of_name : List (List ℕ) → List ℕ → Option ℕ
position_of_name [] wanted = None
position_of_name (first ∷ names) wanted =
    if bytes_eq first wanted then Some 0 else option_map suc (position_of_name names wanted)

-- the number of a name that is in the list
abbrev pub number_of_name : List (List ℕ) → List ℕ → ℕ
number_of_name names wanted = unwrap_or (position_of_name names wanted) 0

-- the names with one more, where it is not there
abbrev pub with_name : List (List ℕ) → List ℕ → List (List ℕ)
with_name names new = if is_some (position_of_name names new) then names else names ++ new ∷ []

-- each name once, in the order of first appearance
abbrev pub first_uses : List (List ℕ) → List (List ℕ)
first_uses uses = fold with_name [] uses

-- the variable that an operand names, if it names one
abbrev pub variable_in : RawOperand → List (List ℕ)
variable_in (variable token) = token ∷ []
variable_in (bound token) = token ∷ []
variable_in _ = []

-- the field that an operand names, if it names one
abbrev pub field_in : RawOperand → List (List ℕ)
field_in (field token) = token ∷ []
field_in _ = []

-- what an operand names, where there is one
abbrev pub names_at : (RawOperand → List (List ℕ)) → Option RawOperand → List (List ℕ)
names_at names_in None = []
names_at names_in (Some written) = names_in written

-- the variables that a statement names, from left to right
abbrev pub variables_of : Statement → List (List ℕ)
variables_of statement = flat_map variable_in statement.operands

-- the fields that a statement names, from left to right
abbrev pub fields_of : Statement → List (List ℕ)
fields_of statement = flat_map field_in statement.operands
