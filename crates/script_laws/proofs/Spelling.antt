-- The words of a statement are the tokens that it was read from.
use Rattle.std.proofs.Common.{◌≡◌, inl, inr, ℕ, ◌≤◌, Bool, true, false, cond, eqb, nat_le, nat_lt, List}
use Rattle.std.proofs.Common.{[], ◌∷◌, length, map, ℤ, pos, negsuc, Option, Some, None, Result, Ok, Err, codes}
use Rattle.std.proofs.Common.{refl, sym, ap, ◌∙◌, subst, arith}
use Rattle.std.proofs.lemmas.Bool.Decides.{nat_tests}
use Rattle.script_text.specs.declared.script.Why.{Why}
use Rattle.script_text.specs.declared.script.Why.TheVariants as why
use Rattle.script_text.specs.declared.table.Keyword.{Keyword}
use Rattle.script_text.specs.declared.table.OperandKind.{OperandKind}
use Rattle.script_text.specs.declared.table.OperandKind.TheVariants.{Variable, Field, Value, Literal}
use Rattle.script_text.specs.Limits.{line_bytes_most}
use Rattle.script_text.specs.Tokens.{is_name, integer_of}
use Rattle.script_text.specs.Lines.{tokens_of}
use Rattle.script_text.specs.Table.{keyword_text, keywords_of, keyword_among, places_of}
use Rattle.script_text.specs.Statements.{Statement, RawOperand, variable, field, literal, integer, undefined, bound}
use Rattle.script_text.specs.Statements.{literal_up_to, integer_or_bound, written_at, written_all, joined}
use Rattle.script_text.specs.Statements.{statement_with}
use Rattle.script_text.specs.Statements.{if_command, statement_of, statement_of_line}
use Rattle.script_laws.specs.Canonical.{written_token, spaced, statement_text, StatementsAreReadAgain}
use Rattle.script_text.proofs.Numbers.{bytes_tell}
use Rattle.script_laws.proofs.Integers.{integers_are_written}
use Rattle.script_laws.proofs.Spacing.{Avoids, is_feed, Avoids-spaced, AllAvoid-tokens_of, tokens_of-again}
use Rattle.script_laws.proofs.Widths.{length-spaced}
use Rattle.script_laws.proofs.Words.{keyword_among-text}

-- the words of a statement: its command and its operands
abbrev pub statement_words : Statement → List (List ℕ)
statement_words statement = keyword_text statement.keyword ∷ map written_token statement.operands

-- the token of a name of this kind is the name
name-token : (kind : List ℕ → RawOperand) (v : Bool) (reason : Why) (token : List ℕ) (written : RawOperand)
    → written_token (kind token) ≡ token
    → cond v (Ok (kind token)) (Err reason) ≡ Ok written → written_token written ≡ token
name-token kind true reason token written spelled e =
    let same : kind token ≡ written = cc in
    ap written_token (sym same) ∙ spelled
name-token kind false reason token written spelled e = cc

-- the token of an integer is what is written of it
integer-token : (v : ℤ) (token : List ℕ) (written : RawOperand) → integer_of token ≡ Some v → integer v ≡ written
    → written_token written ≡ token
integer-token v token written e same = ap written_token (sym same) ∙ sym ((integers_are_written token v e).0)

-- so it is of a literal
literal-test : (within : Bool) (n : ℕ) (token : List ℕ) (written : RawOperand) → integer_of token ≡ Some (pos n)
    → cond within (Ok (literal n)) (Err why.Integer) ≡ Ok written → written_token written ≡ token
literal-test true n token written read e =
    let same : literal n ≡ written = cc in
    ap written_token (sym same) ∙ sym ((integers_are_written token (pos n) read).0)
literal-test false n token written read e = cc

-- the token of a literal is what it was read from
literal-token : (most : ℕ) (v : Option ℤ) (token : List ℕ) (written : RawOperand) → integer_of token ≡ v
    → literal_up_to most v ≡ Ok written → written_token written ≡ token
literal-token most None token written read e = cc
literal-token most (Some (pos n)) token written read e = literal-test (nat_le n most) n token written read e
literal-token most (Some (negsuc n)) token written read e = cc

-- the token of a value that is not `undefined` is what it was read from
value-token : (v : Option ℤ) (token : List ℕ) (written : RawOperand) → integer_of token ≡ v
    → integer_or_bound v token ≡ Ok written → written_token written ≡ token
value-token None token written read e = name-token bound (is_name token) why.Value token written refl e
value-token (Some v) token written read e =
    let same : integer v ≡ written = cc in
    integer-token v token written read same

-- an operand that was read
abbrev spelled : RawOperand → Result RawOperand Why
spelled written = Ok written

-- the token of an operand is the token that it was read from
written_at-token : (place : OperandKind) (token : List ℕ) (written : RawOperand) → written_at place token ≡ Ok written
    → written_token written ≡ token
written_at-token Variable token written e = name-token variable (is_name token) why.Name token written refl e
written_at-token Field token written e = name-token field (is_name token) why.Name token written refl e
written_at-token Value token written e =
    let other = integer_or_bound (integer_of token) token in
    elim (bytes_tell token (codes "undefined")) [
      | inl h ↦
          let made : spelled undefined ≡ Ok written = sym (ap (λ v. cond v (Ok undefined) other) h.0) ∙ e in
          let same : undefined ≡ written = cc in
          ap written_token (sym same) ∙ sym h.1
      | inr h ↦ value-token (integer_of token) token written refl (sym (ap (λ v. cond v (Ok undefined) other) h.0) ∙ e)
    ]
written_at-token (Literal most) token written e = literal-token most (integer_of token) token written refl e

-- the tokens of operands are those of the first and of the rest
joined-tokens : (token : List ℕ) (tokens : List (List ℕ)) (first : Result RawOperand Why)
    (more : Result (List RawOperand) Why) (operands : List RawOperand) →
    ((written : RawOperand) → first ≡ Ok written → written_token written ≡ token)
    → ((rest : List RawOperand) → more ≡ Ok rest → map written_token rest ≡ tokens) → joined first more ≡ Ok operands
    → map written_token operands ≡ token ∷ tokens
joined-tokens token tokens (Err reason) more operands one others e = cc
joined-tokens token tokens (Ok written) (Err reason) operands one others e = cc
joined-tokens token tokens (Ok written) (Ok rest) operands one others e =
    let same : written ∷ rest ≡ operands = cc in
    ap (map written_token) (sym same) ∙ ap (λ t. t ∷ map written_token rest) (one written refl)
    ∙ ap (λ ts. token ∷ ts) (others rest refl)

-- the tokens of operands are the tokens that they were read from
written_all-tokens : (places : List OperandKind) (tokens : List (List ℕ)) (operands : List RawOperand)
    → length tokens ≡ length places → written_all places tokens ≡ Ok operands → map written_token operands ≡ tokens
written_all-tokens [] [] operands even e =
    let same : [] ≡ operands = cc in
    ap (map written_token) (sym same)
written_all-tokens [] (token ∷ tokens) operands even e = absurd (omega arith)
written_all-tokens (place ∷ places) [] operands even e = absurd (omega arith)
written_all-tokens (place ∷ places) (token ∷ tokens) operands even e =
    joined-tokens token tokens (written_at place token) (written_all places tokens) operands
    (λ written h. written_at-token place token written h)
    (λ rest h. written_all-tokens places tokens rest (omega arith) h) e

-- the words of a statement are its command's and its operands' tokens
statement_with-words : (k : Keyword) (tokens : List (List ℕ)) (read : Result (List RawOperand) Why)
    (statement : Statement)
    → ((operands : List RawOperand) → read ≡ Ok operands → map written_token operands ≡ tokens)
    → statement_with k read ≡ Ok (Some statement) → statement_words statement ≡ keyword_text k ∷ tokens
statement_with-words k tokens (Err reason) statement h e = cc
statement_with-words k tokens (Ok operands) statement h e =
    let made : Statement = record { keyword = k; operands = operands } in
    let same : made ≡ statement = cc in
    ap statement_words (sym same) ∙ ap (λ ts. keyword_text k ∷ ts) (h operands refl)

-- so they are where the operands are counted first
count-words : (even : Bool) (k : Keyword) (tokens : List (List ℕ)) (statement : Statement)
    → (even ≡ true → length tokens ≡ length (places_of k))
    → cond even (statement_with k (written_all (places_of k) tokens)) (Err why.Count) ≡ Ok (Some statement)
    → statement_words statement ≡ keyword_text k ∷ tokens
count-words true k tokens statement h e =
    statement_with-words k tokens (written_all (places_of k) tokens) statement
    (λ operands read. written_all-tokens (places_of k) tokens operands (h refl) read) e
count-words false k tokens statement h e = cc

-- and where the command is found by its word
if_command-words : (version : ℕ) (first : List ℕ) (tokens : List (List ℕ)) (k : Option Keyword) (statement : Statement)
    → keyword_among (keywords_of version) first ≡ k → if_command tokens k ≡ Ok (Some statement)
    → statement_words statement ≡ first ∷ tokens
if_command-words version first tokens None statement found e = cc
if_command-words version first tokens (Some k) statement found e =
    count-words (eqb (length tokens) (length (places_of k))) k tokens statement (λ h. grind (arith, nat_tests)) e
    ∙ ap (λ word. word ∷ tokens) (keyword_among-text (keywords_of version) first k found)

-- the words of a statement are the tokens that it was read from
statement_of-words : (version : ℕ) (tokens : List (List ℕ)) (statement : Statement)
    → statement_of version tokens ≡ Ok (Some statement) → statement_words statement ≡ tokens
statement_of-words version [] statement e = cc
statement_of-words version (first ∷ tokens) statement e =
    if_command-words version first tokens (keyword_among (keywords_of version) first) statement refl e

-- a line with a statement is not too long, and its tokens make the statement
pub record IsShort (version : ℕ) (line : List ℕ) (statement : Statement) : Type 0 where
  pub short : nat_lt line_bytes_most (length line) ≡ false
  pub read : statement_of version (tokens_of line) ≡ Ok (Some statement)

-- a line that is not refused as too long is short
short-test : (version : ℕ) (line : List ℕ) (statement : Statement) (long : Bool)
    → nat_lt line_bytes_most (length line) ≡ long
    → cond long (Err why.Long) (statement_of version (tokens_of line)) ≡ Ok (Some statement)
    → IsShort version line statement
short-test version line statement true h e = cc
short-test version line statement false h e = record { short = h; read = e }

-- what is no longer than a short line is short
still_short : (some more : ℕ) → some ≤ more → nat_lt line_bytes_most more ≡ false
    → nat_lt line_bytes_most some ≡ false
still_short some more le h = grind (arith, nat_tests)

-- the line of a statement is short
pub line-IsShort : (version : ℕ) (line : List ℕ) (statement : Statement)
    → statement_of_line version line ≡ Ok (Some statement) → IsShort version line statement
line-IsShort version line statement e = short-test version line statement (nat_lt line_bytes_most (length line)) refl e

-- the canonical form of a statement is that of the line that it was read from
statement_text-line : (version : ℕ) (line : List ℕ) (statement : Statement)
    → statement_of_line version line ≡ Ok (Some statement) → statement_text statement ≡ spaced (tokens_of line)
statement_text-line version line statement e =
    ap spaced (statement_of-words version (tokens_of line) statement (line-IsShort version line statement e).read)

-- the canonical form of a statement is read as the statement
pub statements_are_read_again : StatementsAreReadAgain
statements_are_read_again version line statement e =
    let parts = line-IsShort version line statement e in
    let form = spaced (tokens_of line) in
    let short = still_short (length form) (length line) (length-spaced line) parts.short in
    ap (statement_of_line version) (statement_text-line version line statement e)
    ∙ ap (λ long. cond long (Err why.Long) (statement_of version (tokens_of form))) short
    ∙ ap (statement_of version) (tokens_of-again line) ∙ parts.read

-- it is one line, where the statement was read from one
pub feed-statement_text : (version : ℕ) (line : List ℕ) (statement : Statement)
    → statement_of_line version line ≡ Ok (Some statement) → Avoids is_feed line
    → Avoids is_feed (statement_text statement)
feed-statement_text version line statement e h =
    subst (Avoids is_feed) (sym (statement_text-line version line statement e))
    (Avoids-spaced is_feed (tokens_of line) refl (AllAvoid-tokens_of is_feed line h))
