-- The statements of lines that were read: each fits, and the blocks are nested.
use Rattle.std.proofs.Common.{◌≡◌, ℕ, suc, ◌<◌, ◌≤◌, Bool, true, false, cond, nat_lt, List, []}
use Rattle.std.proofs.Common.{◌∷◌, length, Option, Some, None, Result, Ok, Err, refl, sym, ap, ◌∙◌, subst, arith}
use Rattle.std.proofs.lemmas.Bool.Decides.{nat_tests}
use Rattle.script_text.specs.declared.script.Why.{Why}
use Rattle.script_text.specs.declared.script.Why.TheVariants as why
use Rattle.script_text.specs.declared.script.BadScript.{BadScript}
use Rattle.script_text.specs.declared.table.Keyword.{Keyword}
use Rattle.script_text.specs.declared.table.Keyword.TheVariants as keyword
use Rattle.script_text.specs.Limits.{open_most}
use Rattle.script_text.specs.Statements.{Statement, statement_of_line}
use Rattle.script_text.specs.Scripts.{NumberedStatement}
use Rattle.script_text.specs.Grammar.{nest, nested, followed, stated_then, stated_from}
use Rattle.script_text.specs.Fitting.{IsStated, AreStated, MayStand, deeper}
use Rattle.script_text.proofs.Fits.{statement_of_line-IsStated}

-- what `nest` has allowed
pub record IsNested (k : Keyword) (open' inner : List ℕ) : Type 0 where
  pub may : MayStand (length open') k
  pub deep : length inner ≡ deeper (length open') k

-- a `repeat` that is allowed has room
repeat-IsNested : (shallow : Bool) (number : ℕ) (open' inner : List ℕ) → (shallow ≡ true → length open' < open_most)
    → cond shallow (Ok (number ∷ open')) (Err why.Nesting) ≡ Ok inner → IsNested keyword.Repeat open' inner
repeat-IsNested true number open' inner h e =
    let same : number ∷ open' ≡ inner = cc in
    record { may = h refl; deep = ap length (sym same) }
repeat-IsNested false number open' inner h e = cc

-- a command that is allowed may stand, and leaves as many `repeat`s open
pub nest-IsNested : (number : ℕ) (open' : List ℕ) (k : Keyword) (inner : List ℕ) → nest number open' k ≡ Ok inner
    → IsNested k open' inner
nest-IsNested number open' keyword.Repeat inner e =
    repeat-IsNested (nat_lt (length open') open_most) number open' inner (λ h. grind (arith, nat_tests)) e
nest-IsNested number [] keyword.End inner e = cc
nest-IsNested number (first ∷ outer) keyword.End inner e =
    let same : outer ≡ inner = cc in
    record { may = omega arith; deep = ap length (sym same) ∙ omega arith }
nest-IsNested number open' other inner e =
    let same : open' ≡ inner = cc in
    record { may = tt; deep = ap length (sym same) }

-- both parts of statements that were read
record AreRead (stated : NumberedStatement) (more : Result (List NumberedStatement) BadScript)
    (all : List NumberedStatement) : Type 0 where
  rest : List NumberedStatement
  more_is : more ≡ Ok rest
  same : stated ∷ rest ≡ all

-- statements that were read have a first and the others
followed-parts : (stated : NumberedStatement) (more : Result (List NumberedStatement) BadScript)
    (all : List NumberedStatement)
    → followed stated more ≡ Ok all → AreRead stated more all
followed-parts stated (Err stop) all e = cc
followed-parts stated (Ok rest) all e = record { rest = rest; more_is = refl; same = cc }

-- a statement that may stand where it does, and those after it
nested-AreStated :
    (stated : NumberedStatement) (open' : List ℕ) (inner : Result (List ℕ) Why) (more : List ℕ
    → Result (List NumberedStatement) BadScript) (all : List NumberedStatement) → IsStated stated.statement
    → nest stated.number open' stated.statement.keyword ≡ inner
    → ((deep : List ℕ) (rest : List NumberedStatement) → more deep ≡ Ok rest → AreStated (length deep) rest)
    → nested stated inner more ≡ Ok all → AreStated (length open') all
nested-AreStated stated open' (Err reason) more all is n step e = cc
nested-AreStated stated open' (Ok inner) more all is n step e =
    let parts = followed-parts stated (more inner) all e in
    let nests = nest-IsNested stated.number open' stated.statement.keyword inner n in
    let later = step inner parts.rest parts.more_is in
    subst (AreStated (length open')) parts.same
    (is, nests.may, subst (λ depth. AreStated depth parts.rest) nests.deep later)

-- a line, and the statements after it
stated_then-AreStated :
    (number : ℕ) (open' : List ℕ) (first : Result (Option Statement) Why) (more : List ℕ
    → Result (List NumberedStatement) BadScript) (all : List NumberedStatement) → ((statement : Statement)
    → first ≡ Ok (Some statement)
    → IsStated statement)
    → ((deep : List ℕ) (rest : List NumberedStatement) → more deep ≡ Ok rest → AreStated (length deep) rest)
    → stated_then number open' first more ≡ Ok all → AreStated (length open') all
stated_then-AreStated number open' (Err reason) more all is step e = cc
stated_then-AreStated number open' (Ok None) more all is step e = step open' all e
stated_then-AreStated number open' (Ok (Some statement)) more all is step e =
    nested-AreStated (record { number = number; statement = statement }) open'
    (nest number open' statement.keyword) more all (is statement refl) refl step e

-- the statements of lines were read from them
pub stated_from-AreStated :
    (version number : ℕ) (open' : List ℕ) (lines : List (List ℕ)) (all : List NumberedStatement)
    → stated_from version number open' lines ≡ Ok all → AreStated (length open') all
stated_from-AreStated version number [] [] all e =
    let same : [] ≡ all = cc in
    subst (AreStated 0) same refl
stated_from-AreStated version number (innermost ∷ outer) [] all e = cc
stated_from-AreStated version number open' (line ∷ lines) all e =
    stated_then-AreStated number open' (statement_of_line version line)
    (λ inner. stated_from version (suc number) inner lines) all
    (λ statement h. statement_of_line-IsStated version line statement h)
    (λ deep rest h. stated_from-AreStated version (suc number) deep lines rest h) e

-- a statement before others is one more
followed-few : (n : ℕ) (stated : NumberedStatement) (more : Result (List NumberedStatement) BadScript)
    (all : List NumberedStatement)
    → ((rest : List NumberedStatement) → more ≡ Ok rest → length rest ≤ n) → followed stated more ≡ Ok all
    → length all ≤ suc n
followed-few n stated more all h e =
    let parts = followed-parts stated more all e in
    omega (arith, h parts.rest parts.more_is, ap length parts.same)

-- so it is where it may stand where it does
nested-few : (n : ℕ) (stated : NumberedStatement) (inner : Result (List ℕ) Why) (more : List ℕ
    → Result (List NumberedStatement) BadScript) (all : List NumberedStatement)
    → ((deep : List ℕ) (rest : List NumberedStatement)
    → more deep ≡ Ok rest → length rest ≤ n) → nested stated inner more ≡ Ok all → length all ≤ suc n
nested-few n stated (Err reason) more all h e = cc
nested-few n stated (Ok inner) more all h e = followed-few n stated (more inner) all (h inner) e

-- and where it was read from a line
then-few : (n number : ℕ) (open' : List ℕ) (first : Result (Option Statement) Why) (more : List ℕ
    → Result (List NumberedStatement) BadScript) (all : List NumberedStatement)
    → ((deep : List ℕ) (rest : List NumberedStatement)
    → more deep ≡ Ok rest → length rest ≤ n) → stated_then number open' first more ≡ Ok all → length all ≤ suc n
then-few n number open' (Err reason) more all h e = cc
then-few n number open' (Ok None) more all h e = omega (arith, h open' all e)
then-few n number open' (Ok (Some statement)) more all h e =
    nested-few n (record { number = number; statement = statement }) (nest number open' statement.keyword) more all h e

-- there are at most as many statements as lines
pub stated_from-few :
    (version number : ℕ) (open' : List ℕ) (lines : List (List ℕ)) (all : List NumberedStatement)
    → stated_from version number open' lines ≡ Ok all → length all ≤ length lines
stated_from-few version number [] [] all e =
    let same : [] ≡ all = cc in
    omega (arith, ap length same)
stated_from-few version number (innermost ∷ outer) [] all e = cc
stated_from-few version number open' (line ∷ lines) all e =
    then-few (length lines) number open' (statement_of_line version line)
    (λ inner. stated_from version (suc number) inner lines) all
    (λ deep rest h. stated_from-few version (suc number) deep lines rest h) e
