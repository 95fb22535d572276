-- No line is refused because a `repeat` is open.
use Rattle.std.proofs.Common.{◌≡◌, ◌≢◌, ℕ, Bool, true, false, cond, eqb, nat_le, nat_lt, List, []}
use Rattle.std.proofs.Common.{◌∷◌, length, Option, Some, None, Result, Ok, Err, pos, negsuc, ℤ, ap, bytes_eq}
use Rattle.std.proofs.Common.{codes}
use Rattle.script_text.specs.declared.table.Keyword.{Keyword}
use Rattle.script_text.specs.declared.table.Keyword.TheVariants as keyword
use Rattle.script_text.specs.declared.table.OperandKind.{OperandKind}
use Rattle.script_text.specs.declared.table.OperandKind.TheVariants.{Variable, Field, Value, Literal}
use Rattle.script_text.specs.declared.script.Why.{Why}
use Rattle.script_text.specs.declared.script.Why.TheVariants as why
use Rattle.script_text.specs.Limits.{line_bytes_most, open_most}
use Rattle.script_text.specs.Lines.{tokens_of}
use Rattle.script_text.specs.Table.{places_of, keyword_among, keywords_of}
use Rattle.script_text.specs.Tokens.{is_name, integer_of}
use Rattle.script_text.specs.Statements.{RawOperand, variable, field, literal, undefined, bound, integer_or_bound}
use Rattle.script_text.specs.Statements.{literal_up_to, written_at, written_all, joined, statement_with}
use Rattle.script_text.specs.Statements.{if_command, statement_of}
use Rattle.script_text.specs.Grammar.{nest}
use Rattle.script_laws.specs.Refusals.{IsRefused, unread, misplaced}

-- a test that fails for another reason is not for an open `repeat`
test-open : (test : Bool) (made : RawOperand) (reason : Why) → reason ≢ why.Open
    → cond test (Ok made) (Err reason) ≡ Err why.Open → ⊥
test-open true made reason h e = cc
test-open false made reason h e =
    let same : reason ≡ why.Open = cc in
    h same

-- a bad name is not an open `repeat`
not_name : why.Name ≢ why.Open
not_name = λ e. cc

-- nor is a bad value
not_value : why.Value ≢ why.Open
not_value = λ e. cc

-- nor is a bad integer
not_integer : why.Integer ≢ why.Open
not_integer = λ e. cc

-- no literal is refused for an open `repeat`
literal-open : (most : ℕ) (v : Option ℤ) → literal_up_to most v ≡ Err why.Open → ⊥
literal-open most None e = cc
literal-open most (Some (pos n)) e = test-open (nat_le n most) (literal n) why.Integer not_integer e
literal-open most (Some (negsuc n)) e = cc

-- nor is a value that is not `undefined`
integer_or_bound-open : (v : Option ℤ) (token : List ℕ) → integer_or_bound v token ≡ Err why.Open → ⊥
integer_or_bound-open None token e = test-open (is_name token) (bound token) why.Value not_value e
integer_or_bound-open (Some v) token e = cc

-- nor is any value
value-open : (b : Bool) (token : List ℕ)
    → cond b (Ok undefined) (integer_or_bound (integer_of token) token) ≡ Err why.Open → ⊥
value-open true token e = cc
value-open false token e = integer_or_bound-open (integer_of token) token e

-- nor is an operand that may not stand at its place
written_at-open : (place : OperandKind) (token : List ℕ) → written_at place token ≡ Err why.Open → ⊥
written_at-open Variable token e = test-open (is_name token) (variable token) why.Name not_name e
written_at-open Field token e = test-open (is_name token) (field token) why.Name not_name e
written_at-open Value token e = value-open (bytes_eq token (codes "undefined")) token e
written_at-open (Literal most) token e = literal-open most (integer_of token) e

-- nor are several
joined-open : (first : Result RawOperand Why) (more : Result (List RawOperand) Why) → (first ≡ Err why.Open → ⊥)
    → (more ≡ Err why.Open → ⊥) → joined first more ≡ Err why.Open → ⊥
joined-open (Err reason) more f m e =
    let same : reason ≡ why.Open = cc in
    f (ap Err same)
joined-open (Ok written) (Err reason) f m e =
    let same : reason ≡ why.Open = cc in
    m (ap Err same)
joined-open (Ok written) (Ok more) f m e = cc

-- nor are the operands at their places
written_all-open : (places : List OperandKind) (tokens : List (List ℕ)) → written_all places tokens ≡ Err why.Open → ⊥
written_all-open [] tokens e = cc
written_all-open (place ∷ places) [] e = cc
written_all-open (place ∷ places) (token ∷ tokens) e =
    joined-open (written_at place token) (written_all places tokens) (λ h. written_at-open place token h)
    (λ h. written_all-open places tokens h) e

-- nor is a statement with operands
statement_with-open : (k : Keyword) (operands : Result (List RawOperand) Why) → (operands ≡ Err why.Open → ⊥)
    → statement_with k operands ≡ Err why.Open → ⊥
statement_with-open k (Ok operands) h e = cc
statement_with-open k (Err reason) h e =
    let same : reason ≡ why.Open = cc in
    h (ap Err same)

-- nor is one whose tokens are counted
even-open : (b : Bool) (k : Keyword) (tokens : List (List ℕ))
    → cond b (statement_with k (written_all (places_of k) tokens)) (Err why.Count) ≡ Err why.Open → ⊥
even-open true k tokens e =
    statement_with-open k (written_all (places_of k) tokens) (λ h. written_all-open (places_of k) tokens h) e
even-open false k tokens e = cc

-- nor is one whose command is looked up
if_command-open : (tokens : List (List ℕ)) (k : Option Keyword) → if_command tokens k ≡ Err why.Open → ⊥
if_command-open tokens None e = cc
if_command-open tokens (Some k) e = even-open (eqb (length tokens) (length (places_of k))) k tokens e

-- nor are tokens
statement_of-open : (version : ℕ) (tokens : List (List ℕ)) → statement_of version tokens ≡ Err why.Open → ⊥
statement_of-open version [] e = cc
statement_of-open version (first ∷ tokens) e = if_command-open tokens (keyword_among (keywords_of version) first) e

-- nor is a line
long-open : (version : ℕ) (b : Bool) (tokens : List (List ℕ))
    → cond b (Err why.Long) (statement_of version tokens) ≡ Err why.Open → ⊥
long-open version true tokens e = cc
long-open version false tokens e = statement_of-open version tokens e

-- no `repeat` is misplaced for an open one
shallow-open : (b : Bool) (inner : List ℕ) → cond b (Ok inner) (Err why.Nesting) ≡ Err why.Open → ⊥
shallow-open true inner e = cc
shallow-open false inner e = cc

-- nor is any command
nest-open : (number : ℕ) (open' : List ℕ) (k : Keyword) → nest number open' k ≡ Err why.Open → ⊥
nest-open number open' keyword.Repeat e = shallow-open (nat_lt (length open') open_most) (number ∷ open') e
nest-open number [] keyword.End e = cc
nest-open number (innermost ∷ outer) keyword.End e = cc
nest-open number open' other e = cc

-- no line is refused because a `repeat` is open
pub refused-open : (version number : ℕ) (open' line : List ℕ) → IsRefused version number open' line why.Open → ⊥
refused-open version number open' line (unread e) =
    long-open version (nat_lt line_bytes_most (length line)) (tokens_of line) e
refused-open version number open' line (misplaced statement p e) = nest-open number open' statement.keyword e
