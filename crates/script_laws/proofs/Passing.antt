-- Lines that are all read have passed.
use Rattle.std.proofs.Common.{◌≡◌, ◌⊎◌, inl, inr, ℕ, suc, ◌+◌, length, List, [], ◌∷◌, Option, Some, None, Result}
use Rattle.std.proofs.Common.{Ok, Err, refl, sym, ap, ◌∙◌}
use Rattle.script_text.specs.declared.script.Why.{Why}
use Rattle.script_text.specs.declared.script.Why.TheVariants as why
use Rattle.script_text.specs.declared.script.BadScript.{BadScript}
use Rattle.script_text.specs.declared.script.BadScript.TheVariants.{BadLine, TooManyNames}
use Rattle.script_text.specs.Lines.{lines_of}
use Rattle.script_text.specs.Statements.{Statement, statement_of_line}
use Rattle.script_text.specs.Scripts.{NumberedStatement}
use Rattle.script_text.specs.Grammar.{nest, nested, followed, stated_then, stated_from, script_or_stop, reading_from}
use Rattle.script_text.specs.Versions.{version_in, Opening, opening_with, opening_from}
use Rattle.script_laws.specs.Openings.{Begin, empty as nothing, other, said}
use Rattle.script_laws.specs.Refusals.{Pass, none, empty, stated, AllPass, CountsNamesLast}
use Rattle.script_laws.proofs.Begins.{versions_stand_first}

-- all lines were read and have passed
record ArePassed (version number : ℕ) (open' : List ℕ) (lines : List (List ℕ))
    (read : Result (List NumberedStatement) BadScript) : Type 0 where
  all : List NumberedStatement
  is : read ≡ Ok all
  passed : Pass version number open' lines []

-- a line is refused, or a `repeat` is open
record IsBadLine (read : Result (List NumberedStatement) BadScript) : Type 0 where
  line : ℕ
  reason : Why
  is : read ≡ Err (BadLine line reason)

-- lines pass, or one is refused
abbrev Passes : ℕ → ℕ → List ℕ → List (List ℕ) → Result (List NumberedStatement) BadScript → Type 0
Passes version number open' lines read = ArePassed version number open' lines read ⊎ IsBadLine read

-- a statement that may stand where it does passes where the lines after it do
nested-passes : (version number : ℕ) (open' first : List ℕ) (lines : List (List ℕ)) (statement : Statement)
    (inner : Result (List ℕ) Why) → statement_of_line version first ≡ Ok (Some statement)
    → nest number open' statement.keyword ≡ inner
    → ((deep : List ℕ) → Passes version (suc number) deep lines (stated_from version (suc number) deep lines))
    → Passes version number open' (first ∷ lines)
    (nested (record { number = number; statement = statement }) inner
    (λ deep. stated_from version (suc number) deep lines))
nested-passes version number open' first lines statement (Err reason) p n step =
    inr (record { line = number; reason = reason; is = refl })
nested-passes version number open' first lines statement (Ok inner) p n step =
    let here : NumberedStatement = record { number = number; statement = statement } in
    elim (step inner) [
      | inl h ↦
          inl (record {
            all = here ∷ h.all;
            is = ap (followed here) h.is;
            passed = stated number open' inner
                [] first lines statement p n h.passed;
          })
      | inr h ↦ inr (record { line = h.line; reason = h.reason; is = ap (followed here) h.is })
    ]

-- so does a line
then-passes :
    (version number : ℕ) (open' first : List ℕ) (lines : List (List ℕ)) (read : Result (Option Statement) Why)
    → statement_of_line version first ≡ read
    → ((deep : List ℕ) → Passes version (suc number) deep lines (stated_from version (suc number) deep lines))
    → Passes version number open' (first ∷ lines)
    (stated_then number open' read (λ deep. stated_from version (suc number) deep lines))
then-passes version number open' first lines (Err reason) p step =
    inr (record { line = number; reason = reason; is = refl })
then-passes version number open' first lines (Ok None) p step =
    elim (step open') [
      | inl h ↦ inl (record { all = h.all; is = h.is; passed = empty number open' [] first lines p h.passed })
      | inr h ↦ inr h
    ]
then-passes version number open' first lines (Ok (Some statement)) p step =
    nested-passes version number open' first lines statement (nest number open' statement.keyword) p refl step

-- all lines pass, or one is refused
passes : (version number : ℕ) (open' : List ℕ) (lines : List (List ℕ))
    → Passes version number open' lines (stated_from version number open' lines)
passes version number [] [] = inl (record { all = []; is = refl; passed = none number [] })
passes version number (innermost ∷ outer) [] = inr (record { line = innermost; reason = why.Open; is = refl })
passes version number open' (first ∷ lines) =
    then-passes version number open' first lines (statement_of_line version first) refl
    (λ deep. passes version (suc number) deep lines)

-- a bad line is not too many names
bad_line-names : (version line number : ℕ) (reason : Why)
    → script_or_stop version (Err (BadLine line reason)) ≡ Err (TooManyNames number) → ⊥
bad_line-names version line number reason e = cc

-- no line that says no version is too many names
opening-names : (lines : List (List ℕ)) (stop : BadScript) (line : ℕ) → Begin 1 lines (Err stop)
    → stop ≡ TooManyNames line → ⊥
opening-names lines stop line (nothing silent e) same = cc
opening-names lines stop line (other before first after cut silent is e) same = cc
opening-names lines stop line (said before first after tokens cut silent says e) same =
    version-names (1 + length before) after (version_in tokens) (sym e ∙ ap Err same)
  where
    version-names : (number : ℕ) (after : List (List ℕ)) (read : Result ℕ Why)
        → opening_with number after read ≡ Err (TooManyNames line) → ⊥
    version-names number after (Ok version) e = cc
    version-names number after (Err reason) e = cc

-- too many names are found only where no line is refused
from-names : (source : List ℕ) (opened : Result Opening BadScript) (line : ℕ)
    → opening_from 1 (lines_of source) ≡ opened → Begin 1 (lines_of source) opened
    → reading_from opened ≡ Err (TooManyNames line) → AllPass source []
from-names source (Err stop) line o begin e =
    let same : stop ≡ TooManyNames line = cc in
    absurd (opening-names (lines_of source) stop line begin same)
from-names source (Ok opening) line o begin e =
    elim (passes opening.version opening.number [] opening.lines) [
      | inl h ↦ record { opening = opening; opened = o; pass = h.passed }
      | inr h ↦ absurd (bad_line-names opening.version h.line line h.reason
          (sym (ap (script_or_stop opening.version) h.is) ∙ e))
    ]

-- so it is with a source
pub counts_names_last : CountsNamesLast
counts_names_last source line e =
    from-names source (opening_from 1 (lines_of source)) line refl (versions_stand_first 1 (lines_of source)) e
