-- Which line of a source is refused.
use Rattle.std.proofs.Common.{◌≡◌, ◌≢◌, ◌⊎◌, inl, inr, ℕ, suc, ◌+◌, Bool, true, false, cond, ◌&&◌, nat_le, length, ℤ}
use Rattle.std.proofs.Common.{pos, negsuc, List, [], ◌∷◌, Option, Some, None, Result, Ok, Err, refl, sym, ap, ◌∙◌}
use Rattle.std.proofs.Common.{subst, arith}
use Rattle.script_text.specs.declared.script.Why.{Why}
use Rattle.script_text.specs.declared.script.Why.TheVariants as why
use Rattle.script_text.specs.declared.script.BadScript.{BadScript}
use Rattle.script_text.specs.declared.script.BadScript.TheVariants.{BadLine}
use Rattle.script_text.specs.Lines.{lines_of}
use Rattle.script_text.specs.Statements.{Statement, statement_of_line}
use Rattle.script_text.specs.Scripts.{NumberedStatement}
use Rattle.script_text.specs.Grammar.{nest, nested, followed, stated_then, stated_from, past_limit, within_limit}
use Rattle.script_text.specs.Grammar.{script_or_stop, reading_from, reading}
use Rattle.script_text.specs.Tokens.{integer_of}
use Rattle.script_text.specs.Versions.{version_most, version_at, version_in, Opening, opening_with, opening_from}
use Rattle.script_laws.specs.Refusals.{Pass, none, empty, stated, IsRefused, unread, misplaced, IsFirstRefused}
use Rattle.script_laws.specs.Refusals.{IsRefusedIn, unversioned, stopped, RefusesFirst, RefusesOpen}
use Rattle.script_laws.specs.Openings.{Begin, empty as nothing, other as commands, said}
use Rattle.script_laws.proofs.Begins.{versions_stand_first}
use Rattle.script_laws.proofs.Reasons.{refused-open}

-- at the end these lines have passed, and a `repeat` is open
record IsLeftOpen (version number : ℕ) (open' : List ℕ) (lines : List (List ℕ)) (line : ℕ) (reason : Why) : Type 0 where
  outer : List ℕ
  passed : Pass version number open' lines (line ∷ outer)
  is_open : reason ≡ why.Open

-- a line is the first that is refused, or a `repeat` is left open
abbrev Stops : ℕ → ℕ → List ℕ → List (List ℕ) → ℕ → Why → Type 0
Stops version number open' lines line reason =
    IsFirstRefused version number open' lines line reason ⊎ IsLeftOpen version number open' lines line reason

-- a first line that is refused is the first that is
here-stops :
    (version number : ℕ) (open' first : List ℕ) (lines : List (List ℕ)) (line : ℕ) (reason other : Why)
    → IsRefused version number open' first other → BadLine number other ≡ BadLine line reason
    → Stops version number open' (first ∷ lines) line reason
here-stops version number open' first lines line reason other h e =
    let same_line : number ≡ line = cc in
    let same_why : other ≡ reason = cc in
    inl (record {
      before = [];
      refused = first;
      after = lines;
      inner = open';
      cut = refl;
      passed = none number open';
      here = sym same_line ∙ omega arith;
      reason =
          subst (λ r. IsRefused version line open' first r) same_why
          (subst (λ n. IsRefused version n open' first other) same_line h);
    })

-- a first line that passes leaves the first that is refused behind it
later-stops :
    (version number : ℕ) (open' inner first : List ℕ) (lines : List (List ℕ)) (line : ℕ) (reason : Why)
    → ((some : List (List ℕ)) (after : List ℕ) → Pass version (suc number) inner some after
    → Pass version number open' (first ∷ some) after)
    → Stops version (suc number) inner lines line reason → Stops version number open' (first ∷ lines) line reason
later-stops version number open' inner first lines line reason pass h =
    elim h [
      | inl r ↦ inl (record {
        before = first ∷ r.before;
        refused = r.refused;
        after = r.after;
        inner = r.inner;
        cut = ap (λ rest. first ∷ rest) r.cut;
        passed = pass r.before r.inner r.passed;
        here = r.here ∙ omega arith;
        reason = r.reason;
      })
      | inr r ↦ inr (record { outer = r.outer; passed = pass lines (line ∷ r.outer) r.passed; is_open = r.is_open })
    ]

-- a stop behind a statement is the stop of what follows
followed-stop : (s : NumberedStatement) (more : Result (List NumberedStatement) BadScript) (stop : BadScript)
    → followed s more ≡ Err stop
    → more ≡ Err stop
followed-stop s (Ok rest) stop e = cc
followed-stop s (Err other) stop e = e

-- a statement is misplaced, or the stop is behind it
nested-stops : (version number : ℕ) (open' first : List ℕ) (lines : List (List ℕ)) (line : ℕ)
    (reason : Why) (statement : Statement) (inner : Result (List ℕ) Why)
    → statement_of_line version first ≡ Ok (Some statement)
    → nest number open' statement.keyword ≡ inner
    → ((deep : List ℕ) → stated_from version (suc number) deep lines ≡ Err (BadLine line reason)
    → Stops version (suc number) deep lines line reason)
    → nested (record { number = number; statement = statement }) inner
    (λ deep. stated_from version (suc number) deep lines) ≡ Err (BadLine line reason) → Stops version number open'
    (first ∷ lines) line reason
nested-stops version number open' first lines line reason statement (Err other) p n step e =
    let same : BadLine number other ≡ BadLine line reason = cc in
    here-stops version number open' first lines line reason other (misplaced statement p n) same
nested-stops version number open' first lines line reason statement (Ok inner) p n step e =
    later-stops version number open' inner first lines line reason
    (λ some after h. stated number open' inner after first some statement p n h)
    (step inner (followed-stop (record { number = number; statement = statement })
    (stated_from version (suc number) inner lines) (BadLine line reason) e))

-- a line is refused, or the stop is behind it
then-stops : (version number : ℕ) (open' first : List ℕ) (lines : List (List ℕ)) (line : ℕ)
    (reason : Why) (read : Result (Option Statement) Why) → statement_of_line version first ≡ read
    → ((deep : List ℕ) → stated_from version (suc number) deep lines ≡ Err (BadLine line reason)
    → Stops version (suc number) deep lines line reason)
    → stated_then number open' read (λ deep. stated_from version (suc number) deep lines) ≡ Err (BadLine line reason)
    → Stops version number open' (first ∷ lines) line reason
then-stops version number open' first lines line reason (Err other) p step e =
    let same : BadLine number other ≡ BadLine line reason = cc in
    here-stops version number open' first lines line reason other (unread p) same
then-stops version number open' first lines line reason (Ok None) p step e =
    later-stops version number open' open' first lines line reason
    (λ some after h. empty number open' after first some p h) (step open' e)
then-stops version number open' first lines line reason (Ok (Some statement)) p step e =
    nested-stops version number open' first lines line reason statement (nest number open' statement.keyword) p refl
    step e

-- lines that are not read stop at the first that is refused, or at the innermost `repeat` that is open
stops : (version number : ℕ) (open' : List ℕ) (lines : List (List ℕ)) (line : ℕ) (reason : Why)
    → stated_from version number open' lines ≡ Err (BadLine line reason) → Stops version number open' lines line reason
stops version number [] [] line reason e = cc
stops version number (innermost ∷ outer) [] line reason e =
    let same_line : innermost ≡ line = cc in
    let same_why : why.Open ≡ reason = cc in
    inr (record {
      outer = outer;
      passed = subst
          (λ n. Pass version number (innermost ∷ outer) [] (n ∷ outer)) same_line
          (none number (innermost ∷ outer));
      is_open = sym same_why;
    })
stops version number open' (first ∷ lines) line reason e =
    then-stops version number open' first lines line reason (statement_of_line version first) refl
    (λ deep h. stops version (suc number) deep lines line reason h) e

-- too many names are no bad line
limit-stop : (version : ℕ) (all : List NumberedStatement) (past : Option ℕ) (line : ℕ) (reason : Why)
    → within_limit version all past ≡ Err (BadLine line reason) → ⊥
limit-stop version all None line reason e = cc
limit-stop version all (Some number) line reason e = cc

-- a bad line of the lines where the commands begin is one of them
script-stop : (version : ℕ) (all : Result (List NumberedStatement) BadScript) (line : ℕ) (reason : Why)
    → script_or_stop version all ≡ Err (BadLine line reason) → all ≡ Err (BadLine line reason)
script-stop version (Ok all) line reason e =
    absurd (limit-stop version all (past_limit [] [] all) line reason e)
script-stop version (Err stop) line reason e =
    let same : stop ≡ BadLine line reason = cc in
    ap Err same

-- no version is refused for an open `repeat`
version-open : (tokens : List (List ℕ)) (reason : Why) → version_in tokens ≡ Err reason → reason ≢ why.Open
version-open [] reason e is = cc
version-open (token ∷ next ∷ more) reason e is = cc
version-open (token ∷ []) reason e is = at-open (integer_of token) (e ∙ ap Err is)
  where
    test-open : (known : Bool) (n : ℕ) → cond known (Ok n) (Err why.Integer) ≡ Err why.Open → ⊥
    test-open true n e = cc
    test-open false n e = cc

    at-open : (v : Option ℤ) → version_at v ≡ Err why.Open → ⊥
    at-open None e = cc
    at-open (Some (pos n)) e = test-open (nat_le 1 n && nat_le n version_most) n e
    at-open (Some (negsuc n)) e = cc

-- a source stops at the line that says no version, at the first line that is refused, or at an open `repeat`
abbrev SourceStops : List (List ℕ) → ℕ → Why → Type 0
SourceStops lines line reason =
    IsRefusedIn lines line reason
    ⊎ ((opening : Opening) × ((opening_from 1 lines ≡ Ok opening)
    × IsLeftOpen opening.version opening.number [] opening.lines line reason))

-- a first line with tokens that says no version is refused
opening-stops : (lines : List (List ℕ)) (stop : BadScript) (line : ℕ) (reason : Why)
    → Begin 1 lines (Err stop) → stop ≡ BadLine line reason → SourceStops lines line reason
opening-stops lines stop line reason (nothing silent e) same = cc
opening-stops lines stop line reason (commands before first after cut silent is e) same = cc
opening-stops lines stop line reason (said before first after tokens cut silent says e) same =
    let found = bad-version (1 + length before) after (version_in tokens) line reason (sym e ∙ ap Err same) in
    inl (unversioned before first after tokens cut silent says found.0 found.1)
  where
    bad-version : (number : ℕ) (after : List (List ℕ)) (read : Result ℕ Why) (line : ℕ) (reason : Why)
        → opening_with number after read ≡ Err (BadLine line reason) → (read ≡ Err reason) × (line ≡ number)
    bad-version number after (Ok version) line reason e = cc
    bad-version number after (Err other) line reason e = (cc, cc)

-- so reading a source stops
from-stops : (lines : List (List ℕ)) (opened : Result Opening BadScript) (line : ℕ) (reason : Why)
    → opening_from 1 lines ≡ opened → Begin 1 lines opened → reading_from opened ≡ Err (BadLine line reason)
    → SourceStops lines line reason
from-stops lines (Err stop) line reason o begin e =
    let same : stop ≡ BadLine line reason = cc in
    opening-stops lines stop line reason begin same
from-stops lines (Ok opening) line reason o begin e =
    elim (stops opening.version opening.number [] opening.lines line reason
    (script-stop opening.version (stated_from opening.version opening.number [] opening.lines) line reason e)) [
      | inl r ↦ inl (stopped opening o r)
      | inr r ↦ inr (opening, (o, r))
    ]

-- reading a source stops
reading-stops : (source : List ℕ) (line : ℕ) (reason : Why)
    → reading source ≡ Err (BadLine line reason) → SourceStops (lines_of source) line reason
reading-stops source line reason e =
    from-stops (lines_of source) (opening_from 1 (lines_of source)) line reason refl
    (versions_stand_first 1 (lines_of source)) e

-- the line of a refusal is the first that is refused
pub refuses_first : RefusesFirst
refuses_first source line reason not_open e =
    elim (reading-stops source line reason e) [ inl r ↦ r | inr r ↦ absurd (not_open r.1.1.is_open) ]

-- no line of a source is refused because a `repeat` is open
in-open : (lines : List (List ℕ)) (line : ℕ) → IsRefusedIn lines line why.Open → ⊥
in-open lines line (unversioned before refused after tokens cut silent says e here) =
    version-open tokens why.Open e refl
in-open lines line (stopped opening o r) = refused-open opening.version line r.inner r.refused r.reason

-- an open `repeat` is refused where no line is
pub refuses_open : RefusesOpen
refuses_open source line e =
    elim (reading-stops source line why.Open e) [
      | inl r ↦ absurd (in-open (lines_of source) line r)
      | inr r ↦ (r.1.1.outer, record { opening = r.0; opened = r.1.0; pass = r.1.1.passed })
    ]
