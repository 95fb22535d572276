use Rattle.std.proofs.Common.{◌≡◌, ℕ, length, unwrap_or, not, ap, ◌∙◌, arith}
use Rattle.std.specs.List.{position_or_len}
use Rattle.std.proofs.lemmas.List.Sums.{prefix_len-le-length}
use Rattle.script_text.specs.Lines.{is_blank}
use Rattle.script_text.proofs.Scanning.{unwrap_or-position}
use Rattle.script_text.proofs.cursor.blanks.Goals as goal

pub returns-clause-counted : goal.returns-clause-counted
returns-clause-counted c =
    c.unwrap_or.ensures ∙ ap (λ place. unwrap_or place (length c.args.text.now)) c.first_plain.ensures
    ∙ unwrap_or-position (λ b. not (is_blank b)) c.args.text.now

pub returns-clause-within : goal.returns-clause-within
returns-clause-within c =
    let counted : c.unwrap_or.result ≡ position_or_len (λ b. not (is_blank b)) c.args.text.now =
    returns-clause-counted c in
    omega (arith, counted, prefix_len-le-length (λ (b : ℕ). not (not (is_blank b))) c.args.text.now)
