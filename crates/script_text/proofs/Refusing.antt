-- A refusal that is handed on.
use Rattle.std.proofs.Common.{◌≡◌, Result, Ok, Err, IfErr, sym, subst}
use Rattle.std.specs.Result.{IsErrAnd}
use Rattle.script_text.specs.declared.script.BadScript.{BadScript}

-- what holds of the stop that was answered holds of the one that is handed on
pub handed_on : {A : Type 0} (P : BadScript → Type 0) (stop : BadScript) (answer : Result A BadScript)
    → IsErrAnd answer (λ other. other ≡ stop) → P stop → IfErr answer P
handed_on P stop (Ok a) e h = tt
handed_on P stop (Err other) e h = subst P (sym e) h
