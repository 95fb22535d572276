-- Statements that were read, one line each in canonical form, are read again, with the numbers of their new lines.
use Rattle.std.proofs.Common.{◌≡◌, ℕ, suc, ◌-◌, Bool, true, false, cond, nat_lt, ◌||◌, List, []}
use Rattle.std.proofs.Common.{◌∷◌, ◌++◌, length, map, fold, Option, Some, None, Result, Ok, Err, refl, sym}
use Rattle.std.proofs.Common.{ap, ◌∙◌, subst, arith}
use Rattle.std.specs.List.{flat_map}
use Rattle.std.proofs.lemmas.Bool.Decides.{nat_tests}
use Rattle.script_text.specs.declared.script.Why.{Why}
use Rattle.script_text.specs.declared.script.Why.TheVariants as why
use Rattle.script_text.specs.declared.script.BadScript.{BadScript}
use Rattle.script_text.specs.declared.table.Keyword.{Keyword}
use Rattle.script_text.specs.declared.table.Keyword.TheVariants as keyword
use Rattle.script_text.specs.declared.script.Line.{Line}
use Rattle.script_text.specs.Limits.{open_most, variable_names_most, field_names_most}
use Rattle.script_text.specs.Statements.{Statement, statement_of_line}
use Rattle.script_text.specs.Names.{with_name, variables_of, fields_of, first_uses}
use Rattle.script_text.specs.Scripts.{ScriptText, NumberedStatement, what_in, end_after}
use Rattle.script_text.specs.Grammar.{nest, nested, followed, stated_then, stated_from, past_limit, lines_from}
use Rattle.script_text.specs.Grammar.{open_after, innermost_of, script_of}
use Rattle.script_laws.specs.Canonical.{statement_text}
use Rattle.script_text.specs.Fitting.{AreStated, MayStand, deeper}
use Rattle.script_laws.proofs.Spacing.{Avoids, AllAvoid, is_feed}
use Rattle.script_laws.proofs.Spelling.{statements_are_read_again, feed-statement_text}

-- the canonical form of the statement is one line, which is read as the statement
pub record IsReadAgain (version : ℕ) (statement : Statement) : Type 0 where
  pub read : statement_of_line version (statement_text statement) ≡ Ok (Some statement)
  pub one_line : Avoids is_feed (statement_text statement)

-- the canonical form of each statement is one line, which is read as the statement
abbrev pub AreReadAgain : ℕ → List NumberedStatement → Type 0
AreReadAgain version [] = Unit {0}
AreReadAgain version (stated ∷ more) = IsReadAgain version stated.statement × AreReadAgain version more

-- a statement and those that follow it are read again
followed-AreReadAgain :
    (version : ℕ) (stated : NumberedStatement) (more : Result (List NumberedStatement) BadScript)
    (all : List NumberedStatement) → IsReadAgain version stated.statement
    → ((rest : List NumberedStatement) → more ≡ Ok rest → AreReadAgain version rest) → followed stated more ≡ Ok all
    → AreReadAgain version all
followed-AreReadAgain version stated (Err stop) all is step e = cc
followed-AreReadAgain version stated (Ok rest) all is step e =
    let same : stated ∷ rest ≡ all = cc in
    subst (AreReadAgain version) same (is, step rest refl)

-- so they are where the first may stand in its place
nested-AreReadAgain : (version : ℕ) (stated : NumberedStatement) (inner : Result (List ℕ) Why) (more : List ℕ
    → Result (List NumberedStatement) BadScript) (all : List NumberedStatement) → IsReadAgain version stated.statement
    → ((deep : List ℕ) (rest : List NumberedStatement) → more deep ≡ Ok rest → AreReadAgain version rest)
    → nested stated inner more ≡ Ok all → AreReadAgain version all
nested-AreReadAgain version stated (Err reason) more all is step e = cc
nested-AreReadAgain version stated (Ok inner) more all is step e =
    followed-AreReadAgain version stated (more inner) all is (step inner) e

-- and where the first is what its line says
then-AreReadAgain :
    (version number : ℕ) (open' : List ℕ) (first : Result (Option Statement) Why) (more : List ℕ
    → Result (List NumberedStatement) BadScript) (all : List NumberedStatement) → ((statement : Statement)
    → first ≡ Ok (Some statement)
    → IsReadAgain version statement)
    → ((deep : List ℕ) (rest : List NumberedStatement) → more deep ≡ Ok rest → AreReadAgain version rest)
    → stated_then number open' first more ≡ Ok all → AreReadAgain version all
then-AreReadAgain version number open' (Err reason) more all is step e = cc
then-AreReadAgain version number open' (Ok None) more all is step e = step open' all e
then-AreReadAgain version number open' (Ok (Some statement)) more all is step e =
    nested-AreReadAgain version (record { number = number; statement = statement })
    (nest number open' statement.keyword) more all (is statement refl) step e

-- each statement of lines is read again from its canonical form
pub stated_from-AreReadAgain :
    (version number : ℕ) (open' : List ℕ) (lines : List (List ℕ)) (all : List NumberedStatement)
    → AllAvoid is_feed lines → stated_from version number open' lines ≡ Ok all → AreReadAgain version all
stated_from-AreReadAgain version number [] [] all h e =
    let same : [] ≡ all = cc in
    subst (AreReadAgain version) same tt
stated_from-AreReadAgain version number (innermost ∷ outer) [] all h e = cc
stated_from-AreReadAgain version number open' (line ∷ lines) all h e =
    then-AreReadAgain version number open' (statement_of_line version line)
    (λ inner. stated_from version (suc number) inner lines) all
    (λ statement p. record {
      read = statements_are_read_again version line statement p;
      one_line = feed-statement_text version line statement p h.0;
    })
    (λ deep rest p. stated_from-AreReadAgain version (suc number) deep lines rest h.1 p) e

-- statements in canonical form
abbrev pub statement_lines : List NumberedStatement → List (List ℕ)
statement_lines all = map (λ stated. statement_text stated.statement) all

-- the canonical form of each statement has no line feed
pub feed-statement_lines : (version : ℕ) (all : List NumberedStatement) → AreReadAgain version all
    → AllAvoid is_feed (statement_lines all)
feed-statement_lines version [] h = tt
feed-statement_lines version (stated ∷ more) h = (h.0.one_line, feed-statement_lines version more h.1)

-- a statement of a line with this number
abbrev pub at_line : ℕ → Statement → NumberedStatement
at_line number statement = record { number = number; statement = statement }

-- the same statements, one on each line from this number on
abbrev pub renumbered : ℕ → List NumberedStatement → List NumberedStatement
renumbered number [] = []
renumbered number (stated ∷ more) = at_line number stated.statement ∷ renumbered (suc number) more

-- a command that may stand here is nested
record IsAllowed (number : ℕ) (open' : List ℕ) (k : Keyword) : Type 0 where
  inner : List ℕ
  is : nest number open' k ≡ Ok inner
  deep : length inner ≡ deeper (length open') k

-- whether a command may stand here depends only on how many `repeat`s are open
nest-IsAllowed : (number : ℕ) (open' : List ℕ) (k : Keyword) → MayStand (length open') k → IsAllowed number open' k
nest-IsAllowed number open' keyword.Repeat may =
    let shallow : nat_lt (length open') open_most ≡ true = grind (arith, nat_tests) in
    record {
      inner = number ∷ open';
      is = ap (λ v. cond v (Ok (number ∷ open')) (Err why.Nesting)) shallow;
      deep = refl;
    }
nest-IsAllowed number [] keyword.End may = absurd (omega (arith, may))
nest-IsAllowed number (innermost ∷ outer) keyword.End may = record { inner = outer; is = refl; deep = omega arith }
nest-IsAllowed number open' other may = record { inner = open'; is = refl; deep = refl }

-- statements in canonical form are read as they are, inside as many `repeat`s
pub stated_from-again : (version : ℕ) (all : List NumberedStatement) (number : ℕ) (open' : List ℕ)
    → AreStated (length open') all → AreReadAgain version all
    → stated_from version number open' (statement_lines all) ≡ Ok (renumbered number all)
stated_from-again version [] number [] h again = refl
stated_from-again version [] number (innermost ∷ outer) h again = absurd (omega (arith, h))
stated_from-again version (stated ∷ more) number open' h again =
    let statement = stated.statement in
    let allowed = nest-IsAllowed number open' statement.keyword h.1 in
    let later = λ (inner : List ℕ). stated_from version (suc number) inner (statement_lines more) in
    let deeper_in = subst (λ depth. AreStated depth more) (sym allowed.deep) h.2 in
    ap (λ read. stated_then number open' read later) again.0.read
    ∙ ap (λ inner. nested (at_line number statement) inner later) allowed.is
    ∙ ap (followed (at_line number statement))
    (stated_from-again version more (suc number) allowed.inner deeper_in again.1)

-- where `repeat`s end doesn't depend on the numbers of the lines
end_after-renumbered : (all : List NumberedStatement) (inside at number : ℕ)
    → end_after inside at (renumbered number all) ≡ end_after inside at all
end_after-renumbered [] inside at number = refl
end_after-renumbered (stated ∷ more) inside at number =
    let deep = end_after-renumbered more (suc inside) (suc at) (suc number) in
    let out = end_after-renumbered more (inside - 1) (suc at) (suc number) in
    let on = end_after-renumbered more inside (suc at) (suc number) in
    cc

-- nor do the names
names-renumbered : (names_of : Statement → List (List ℕ)) (all : List NumberedStatement) (number : ℕ)
    → flat_map (λ s. names_of s.statement) (renumbered number all) ≡ flat_map (λ s. names_of s.statement) all
names-renumbered names_of [] number = refl
names-renumbered names_of (stated ∷ more) number =
    ap (λ rest. names_of stated.statement ++ rest) (names-renumbered names_of more (suc number))

-- nor does what the lines do
whats-renumbered : (variables fields : List (List ℕ)) (all : List NumberedStatement) (number at : ℕ) (open' : List ℕ)
    → map
    (λ line. line.what) (lines_from variables fields at open' (renumbered number all)) ≡ map (λ line. line.what)
    (lines_from variables fields at open' all)
whats-renumbered variables fields [] number at open' = refl
whats-renumbered variables fields (stated ∷ more) number at open' =
    let k = stated.statement.keyword in
    let whats =
    λ (some : List NumberedStatement). map (λ (line : Line). line.what)
    (lines_from variables fields (suc at) (open_after at open' k) some) in
    ap
    (λ end_at. what_in variables fields end_at (innermost_of open') stated.statement
    ∷ whats (renumbered (suc number) more))
    (end_after-renumbered more 0 (suc at) (suc number))
    ∙ ap (λ rest. what_in variables fields (end_after 0 (suc at) more) (innermost_of open') stated.statement ∷ rest)
    (whats-renumbered variables fields more (suc number) (suc at) (open_after at open' k))

-- a number that is not given may be any
past-test : (past : Bool) (n m : ℕ) (some more : Option ℕ) → (some ≡ None → more ≡ None)
    → cond past (Some n) some ≡ None → cond past (Some m) more ≡ None
past-test true n m some more h e = cc
past-test false n m some more h e = h e

-- nor does whether there are too many names
pub past_limit-renumbered : (variables fields : List (List ℕ)) (all : List NumberedStatement) (number : ℕ)
    → past_limit variables fields all ≡ None → past_limit variables fields (renumbered number all) ≡ None
past_limit-renumbered variables fields [] number e = refl
past_limit-renumbered variables fields (stated ∷ more) number e =
    let vs = fold with_name variables (variables_of stated.statement) in
    let fs = fold with_name fields (fields_of stated.statement) in
    past-test (nat_lt variable_names_most (length vs) || nat_lt field_names_most (length fs)) stated.number number
    (past_limit vs fs more) (past_limit vs fs (renumbered (suc number) more))
    (past_limit-renumbered vs fs more (suc number)) e

-- two scripts of a version do the same, line for line, with the same names
pub record DoesSame (again script : ScriptText) : Type 0 where
  pub version : again.version ≡ script.version
  pub lines : map (λ line. line.what) again.lines ≡ map (λ line. line.what) script.lines
  pub variables : again.variables ≡ script.variables
  pub fields : again.fields ≡ script.fields

-- a script of the same statements does the same
pub script_of-renumbered : (version : ℕ) (all : List NumberedStatement) (number : ℕ)
    → DoesSame (script_of version (renumbered number all)) (script_of version all)
script_of-renumbered version all number =
    let variables = names-renumbered variables_of all number in
    let fields = names-renumbered fields_of all number in
    let vs = λ (some : List NumberedStatement). flat_map (λ (s : NumberedStatement). variables_of s.statement) some in
    let fs = λ (some : List NumberedStatement). flat_map (λ (s : NumberedStatement). fields_of s.statement) some in
    record {
      version = refl;
      lines =
          ap (λ names. map (λ (line : Line). line.what)
          (lines_from (first_uses names) (first_uses (fs (renumbered number all))) 0 []
          (renumbered number all))) variables
          ∙ ap (λ names. map (λ (line : Line). line.what)
          (lines_from (first_uses (vs all)) (first_uses names) 0 [] (renumbered number all))) fields
          ∙ whats-renumbered (first_uses (vs all)) (first_uses (fs all)) all number 0 [];
      variables = ap first_uses variables;
      fields = ap first_uses fields;
    }
