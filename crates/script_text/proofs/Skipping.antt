-- The lines before the commands, one after another.
use Rattle.std.proofs.Common.{◌≡◌, ℕ, suc, ◌+◌, ◌<◌, ◌≤◌, List, [], ◌∷◌, length, map, drop, get_or, Bor, Result, Ok}
use Rattle.std.proofs.Common.{Err, sym, ap, ◌∙◌, arith}
use Rattle.std.proofs.lemmas.List.{drop-map, drop_all}
use Rattle.script_text.specs.declared.script.Why.{Why}
use Rattle.script_text.specs.declared.script.BadScript.{BadScript}
use Rattle.script_text.specs.declared.script.BadScript.TheVariants.{BadLine}
use Rattle.script_text.specs.declared.versions.Saying.{Saying}
use Rattle.script_text.specs.declared.versions.Saying.TheVariants as saying
use Rattle.script_text.specs.Versions.{Opening, unsaid, opening_with, opening_from}
use Rattle.script_text.specs.Shown.{opening_by}
use Rattle.script_text.proofs.Lining.{drop-index}

-- the bytes of lines
abbrev pub bytes_of : List (Bor (List ℕ)) → List (List ℕ)
bytes_of lines = map (λ line. line.now) lines

-- what a line says of its version, whatever its number, and what follows it
abbrev pub Says : List ℕ → Result Saying Why → Type 0
Says line said =
    (number : ℕ) (rest : List (List ℕ)) → opening_from number (line ∷ rest) ≡ opening_by number line rest said

-- the commands begin by what the line at a place says
pub at-line : (lines : List (Bor (List ℕ))) (i : ℕ) (none : Bor (List ℕ)) (said : Result Saying Why)
    (whole : Result Opening BadScript) → i < length lines → Says (get_or lines i none).now said
    → opening_from (i + 1) (bytes_of (drop i lines)) ≡ whole
    → opening_by (i + 1) (get_or lines i none).now (bytes_of (drop (i + 1) lines)) said ≡ whole
at-line lines i none said whole lt says e =
    sym (says (i + 1) (bytes_of (drop (i + 1) lines)))
    ∙ ap (λ rest. opening_from (i + 1) (bytes_of rest)) (sym (drop-index lines i none lt)) ∙ e

-- the line says nothing
pub at-nothing : (lines : List (Bor (List ℕ))) (i : ℕ) (none : Bor (List ℕ)) (said : Result Saying Why)
    (whole : Result Opening BadScript) → i < length lines → Says (get_or lines i none).now said
    → opening_from (i + 1) (bytes_of (drop i lines)) ≡ whole → said ≡ Ok saying.Nothing
    → opening_from (i + 1 + 1) (bytes_of (drop (i + 1) lines)) ≡ whole
at-nothing lines i none said whole lt says e is =
    let more = bytes_of (drop (i + 1) lines) in
    let next : i + 1 + 1 ≡ suc (i + 1) = omega arith in
    ap (λ n. opening_from n more) next
    ∙ ap (opening_by (i + 1) (get_or lines i none).now more) (sym is) ∙ at-line lines i none said whole lt says e

-- the commands begin with the line
pub at-command : (lines : List (Bor (List ℕ))) (i : ℕ) (none : Bor (List ℕ)) (said : Result Saying Why)
    (whole : Result Opening BadScript) → i < length lines → Says (get_or lines i none).now said
    → opening_from (i + 1) (bytes_of (drop i lines)) ≡ whole → said ≡ Ok saying.Command
    → whole ≡ Ok (unsaid (suc i) (drop i (bytes_of lines)))
at-command lines i none said whole lt says e is =
    let more = bytes_of (drop (i + 1) lines) in
    let next : i + 1 ≡ suc i = omega arith in
    sym (at-line lines i none said whole lt says e)
    ∙ ap (opening_by (i + 1) (get_or lines i none).now more) is
    ∙ ap (λ rest. Ok (unsaid (i + 1) (bytes_of rest))) (sym (drop-index lines i none lt))
    ∙ ap (λ n. Ok (unsaid n (bytes_of (drop i lines)))) next
    ∙ ap (λ rest. Ok (unsaid (suc i) rest)) (sym (drop-map (λ (line : Bor (List ℕ)). line.now) i lines))

-- the commands begin after the line, by the version that it says
pub at-version : (lines : List (Bor (List ℕ))) (i : ℕ) (none : Bor (List ℕ)) (said : Result Saying Why)
    (whole : Result Opening BadScript) (version : ℕ) → i < length lines → Says (get_or lines i none).now said
    → opening_from (i + 1) (bytes_of (drop i lines)) ≡ whole → said ≡ Ok (saying.Version version)
    → whole ≡ opening_with (i + 1) (drop (i + 1) (bytes_of lines)) (Ok version)
at-version lines i none said whole version lt says e is =
    let more = bytes_of (drop (i + 1) lines) in
    sym (at-line lines i none said whole lt says e)
    ∙ ap (opening_by (i + 1) (get_or lines i none).now more) is
    ∙ ap (λ rest. opening_with (i + 1) rest (Ok version))
    (sym (drop-map (λ (line : Bor (List ℕ)). line.now) (i + 1) lines))

-- the line is refused
pub at-bad_version : (lines : List (Bor (List ℕ))) (i : ℕ) (none : Bor (List ℕ)) (said : Result Saying Why)
    (whole : Result Opening BadScript) (reason : Why) → i < length lines → Says (get_or lines i none).now said
    → opening_from (i + 1) (bytes_of (drop i lines)) ≡ whole → said ≡ Err reason
    → whole ≡ Err (BadLine (i + 1) reason)
at-bad_version lines i none said whole reason lt says e is =
    let more = bytes_of (drop (i + 1) lines) in
    sym (at-line lines i none said whole lt says e)
    ∙ ap (opening_by (i + 1) (get_or lines i none).now more) is

-- no line has a token
pub at-end : (lines : List (Bor (List ℕ))) (i : ℕ) (whole : Result Opening BadScript) → i ≡ length lines
    → opening_from (i + 1) (bytes_of (drop i lines)) ≡ whole
    → whole ≡ Ok (unsaid (suc (length lines)) (drop (length lines) (bytes_of lines)))
at-end lines i whole end e =
    let last : length lines ≤ i = omega (arith, end) in
    let next : i + 1 ≡ suc (length lines) = omega (arith, end) in
    sym e ∙ ap (λ rest. opening_from (i + 1) (bytes_of rest)) (drop_all i lines last)
    ∙ ap (λ n. Ok (unsaid n [])) next
    ∙ ap (λ rest. Ok (unsaid (suc (length lines)) rest))
    (sym (drop-map (λ (line : Bor (List ℕ)). line.now) (length lines) lines
    ∙ ap bytes_of (drop_all (length lines) lines (omega arith))))
