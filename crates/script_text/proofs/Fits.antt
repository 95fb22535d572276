-- The statement of a line that was read: a command with operands that fit it.
use Rattle.std.proofs.Common.{◌≡◌, ℕ, ◌≤◌, Bool, true, false, cond, eqb, nat_le, nat_lt, List, [], ◌∷◌}
use Rattle.std.proofs.Common.{length, ℤ, pos, negsuc, Option, Some, None, Result, Ok, Err, refl, subst, arith, bytes_eq}
use Rattle.std.proofs.Common.{codes}
use Rattle.std.proofs.lemmas.Bool.Decides.{nat_tests}
use Rattle.script_text.specs.declared.script.Why.{Why}
use Rattle.script_text.specs.declared.script.Why.TheVariants as why
use Rattle.script_text.specs.declared.table.Keyword.{Keyword}
use Rattle.script_text.specs.declared.table.OperandKind.{OperandKind}
use Rattle.script_text.specs.declared.table.OperandKind.TheVariants.{Variable, Field, Value, Literal}
use Rattle.script_text.specs.Limits.{line_bytes_most}
use Rattle.script_text.specs.Tokens.{is_name, integer_of}
use Rattle.script_text.specs.Lines.{tokens_of}
use Rattle.script_text.specs.Table.{places_of, keyword_among, keywords_of}
use Rattle.script_text.specs.Statements.{Statement, RawOperand, variable, field, literal, integer, undefined, bound}
use Rattle.script_text.specs.Statements.{written_at}
use Rattle.script_text.specs.Statements.{written_all, joined, literal_up_to, integer_or_bound, statement_of}
use Rattle.script_text.specs.Statements.{statement_of_line}
use Rattle.script_text.specs.Statements.{statement_with, if_command}
use Rattle.script_text.specs.Fitting.{Fits, AllFit, IsStated}

-- what is given where a test passes
given : (test : Bool) (made : RawOperand) (reason : Why) (written : RawOperand)
    → cond test (Ok made) (Err reason) ≡ Ok written → (test ≡ true) × (made ≡ written)
given true made reason written e = (refl, cc)
given false made reason written e = cc

-- a literal that is given is in its range
literal_fits : (most : ℕ) (v : Option ℤ) (written : RawOperand) → literal_up_to most v ≡ Ok written
    → Fits (Literal most) written
literal_fits most None written e = cc
literal_fits most (Some (pos n)) written e =
    let here = given (nat_le n most) (literal n) why.Integer written e in
    subst (Fits (Literal most)) here.1 (le_given n most here.0)
  where
    le_given : (n m : ℕ) → nat_le n m ≡ true → n ≤ m
    le_given n m h = grind (arith, nat_tests)
literal_fits most (Some (negsuc n)) written e = cc

-- an integer or a name that is given may stand at a value's place
value_fits : (v : Option ℤ) (token : List ℕ) (written : RawOperand) → integer_or_bound v token ≡ Ok written
    → Fits Value written
value_fits (Some v) token written e =
    let same : integer v ≡ written = cc in
    subst (Fits Value) same tt
value_fits None token written e = subst (Fits Value) (given (is_name token) (bound token) why.Value written e).1 tt

-- so may `undefined`
undefined_fits : (test : Bool) (v : Option ℤ) (token : List ℕ) (written : RawOperand)
    → cond test (Ok undefined) (integer_or_bound v token) ≡ Ok written → Fits Value written
undefined_fits true v token written e =
    let same : undefined ≡ written = cc in
    subst (Fits Value) same tt
undefined_fits false v token written e = value_fits v token written e

-- what a token says at a place may stand there
written_at-Fits : (place : OperandKind) (token : List ℕ) (written : RawOperand) → written_at place token ≡ Ok written
    → Fits place written
written_at-Fits Variable token written e =
    subst (Fits Variable) (given (is_name token) (variable token) why.Name written e).1 tt
written_at-Fits Field token written e =
    let made = given (is_name token) (field token) why.Name written e in subst (Fits Field) made.1 made.0
written_at-Fits Value token written e =
    undefined_fits (bytes_eq token (codes "undefined")) (integer_of token) token written e
written_at-Fits (Literal most) token written e = literal_fits most (integer_of token) written e

-- both parts of operands that are joined
record AreJoined (first : Result RawOperand Why) (more : Result (List RawOperand) Why)
    (operands : List RawOperand) : Type 0 where
  written : RawOperand
  rest : List RawOperand
  first_is : first ≡ Ok written
  more_is : more ≡ Ok rest
  same : written ∷ rest ≡ operands

-- operands that are given have both parts
joined-parts : (first : Result RawOperand Why) (more : Result (List RawOperand) Why) (operands : List RawOperand)
    → joined first more ≡ Ok operands → AreJoined first more operands
joined-parts (Err reason) more operands e = cc
joined-parts (Ok written) (Err reason) operands e = cc
joined-parts (Ok written) (Ok rest) operands e =
    record { written = written; rest = rest; first_is = refl; more_is = refl; same = cc }

-- what tokens say at places may stand there
written_all-AllFit : (places : List OperandKind) (tokens : List (List ℕ)) (operands : List RawOperand)
    → length tokens ≡ length places → written_all places tokens ≡ Ok operands → AllFit places operands
written_all-AllFit [] tokens operands even e =
    let same : [] ≡ operands = cc in
    subst (AllFit []) same tt
written_all-AllFit (place ∷ places) [] operands even e = absurd (omega arith)
written_all-AllFit (place ∷ places) (token ∷ tokens) operands even e =
    let parts = joined-parts (written_at place token) (written_all places tokens) operands e in
    subst (AllFit (place ∷ places)) parts.same (
      written_at-Fits place token parts.written parts.first_is,
      written_all-AllFit places tokens parts.rest
          (omega arith) parts.more_is,
    )

-- a statement that is given has operands that fit its command
statement_made : (k : Keyword) (operands : Result (List RawOperand) Why) (statement : Statement)
    → ((given : List RawOperand) → operands ≡ Ok given → AllFit (places_of k) given)
    → statement_with k operands ≡ Ok (Some statement) → IsStated statement
statement_made k (Err reason) statement fits e = cc
statement_made k (Ok given) statement fits e =
    let made : Statement = record { keyword = k; operands = given } in
    let same : made ≡ statement = cc in
    subst IsStated same (record { fitting = fits given refl })

-- so it has where its tokens are counted
even_given : (even : Bool) (k : Keyword) (tokens : List (List ℕ)) (statement : Statement)
    → (even ≡ true → length tokens ≡ length (places_of k))
    → cond even (statement_with k (written_all (places_of k) tokens)) (Err why.Count) ≡ Ok (Some statement)
    → IsStated statement
even_given true k tokens statement h e =
    statement_made k (written_all (places_of k) tokens) statement
    (λ given w. written_all-AllFit (places_of k) tokens given (h refl) w) e
even_given false k tokens statement h e = cc

-- and where its command is looked up
if_command-IsStated : (k : Option Keyword) (tokens : List (List ℕ)) (statement : Statement)
    → if_command tokens k ≡ Ok (Some statement) → IsStated statement
if_command-IsStated None tokens statement e = cc
if_command-IsStated (Some k) tokens statement e =
    even_given (eqb (length tokens) (length (places_of k))) k tokens statement (λ h. grind (arith, nat_tests)) e

-- so it has where it is read from tokens
statement_of-IsStated : (version : ℕ) (tokens : List (List ℕ)) (statement : Statement)
    → statement_of version tokens ≡ Ok (Some statement) → IsStated statement
statement_of-IsStated version [] statement e = cc
statement_of-IsStated version (first ∷ tokens) statement e =
    if_command-IsStated (keyword_among (keywords_of version) first) tokens statement e

-- and from a line that is not too long
short-IsStated : (version : ℕ) (long : Bool) (tokens : List (List ℕ)) (statement : Statement)
    → cond long (Err why.Long) (statement_of version tokens) ≡ Ok (Some statement) → IsStated statement
short-IsStated version true tokens statement e = cc
short-IsStated version false tokens statement e = statement_of-IsStated version tokens statement e

-- the operands of a line's statement fit its command
pub statement_of_line-IsStated : (version : ℕ) (line : List ℕ) (statement : Statement)
    → statement_of_line version line ≡ Ok (Some statement) → IsStated statement
statement_of_line-IsStated version line statement e =
    short-IsStated version (nat_lt line_bytes_most (length line)) (tokens_of line) statement e
