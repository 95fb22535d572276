use Rattle.std.proofs.Common.{◌≡◌, ℕ, ◌+◌, ◌<◌, List, [], ◌∷◌, Result, Bor, length, map, drop, get_or, sym, ap, ◌∙◌}
use Rattle.std.proofs.Common.{subst}
use Rattle.script_text.specs.declared.script.BadScript.{BadScript}
use Rattle.script_text.specs.Scripts.{NumberedStatement}
use Rattle.script_text.specs.Gathered.{gathered}
use Rattle.script_text.specs.Grammar.{stated_from}
use Rattle.script_text.specs.Shown.{IsBad}
use Rattle.script_text.proofs.Lining.{drop-index}
use Rattle.script_text.proofs.Refusing.{handed_on}
use Rattle.script_text.proofs.statements.statements_of_lines.Goals as goal

-- the line that is refused is the first of the rest, so the whole is refused for it
refused-here : (version skipped : ℕ) (lines : List (Bor (List ℕ))) (i : ℕ) (none : Bor (List ℕ)) (open' : List ℕ)
    (done : List NumberedStatement) (whole : Result (List NumberedStatement) BadScript) (stop : BadScript)
    → i < length lines
    → gathered done (stated_from version (skipped + i + 1) open' (map (λ line. line.now) (drop i lines))) ≡ whole
    → ((rest : List (List ℕ)) → IsBad (gathered done (stated_from version (skipped + i + 1) open'
    ((get_or lines i none).now ∷ rest))) stop) → IsBad whole stop
refused-here version skipped lines i none open' done whole stop lt e h =
    let here = ap (λ rest. gathered done (stated_from version (skipped + i + 1) open' (map (λ line. line.now) rest)))
    (drop-index lines i none lt) in
    subst (λ answer. IsBad answer stop) (sym here ∙ e) (h (map (λ line. line.now) (drop (i + 1) lines)))

pub returns-in_err-read_line-clause-refused : goal.returns-in_err-read_line-clause-refused
returns-in_err-read_line-clause-refused c =
    handed_on (IsBad _) _ c.from_residual-in_err-read_line.result c.from_residual-in_err-read_line.ensures.1
    (refused-here c.args.opening.version c.args.opening.skipped c.args.lines.now c.loop-i.i
    (record { ref_ptr = (0, 0); now = [] })
    c.loop-i.statements.opened _ _ _ c.loop-i-test.true c.loop-i.invariant c.in_err-read_line.ensures.refused)
