-- A step of the loop over the forms: what is left to write begins with the opening lines and the line of a form.
use Rattle.std.proofs.Common.{◌≡◌, ℕ, suc, ◌+◌, ◌-◌, ◌<◌, List, ◌++◌, sym, ap, ◌∙◌, append_assoc, arith}
use Rattle.std.specs.List.{flat_map}
use Rattle.std.proofs.lemmas.Grind.{flat_map-append}
use Rattle.script_gen.specs.declared.draws.Kept.{Kept}
use Rattle.script_gen.specs.Lines.{line_text}
use Rattle.script_gen.specs.Forms.{WritesForm, form_of, form_line, after_form}
use Rattle.script_gen.specs.Generated.{lines_before, kept_before, form_lines}

-- the bytes of the forms from this number on, of so many
abbrev pub left_of : ℕ → ℕ → Kept → List ℕ
left_of n number kept = flat_map line_text (form_lines (n - number) number kept)

-- they begin with those before the form and those of the form
left_of-first : (n number : ℕ) (kept : Kept) → number < n
    → let form = form_of (kept_before number kept) in
    left_of n number kept
    ≡ flat_map line_text (lines_before number)
    ++ (line_text (form_line form) ++ left_of n (number + 1) (after_form form))
left_of-first n number kept h =
    let form = form_of (kept_before number kept) in
    let more : n - number ≡ suc (n - (number + 1)) = omega arith in
    let on : suc number ≡ number + 1 = omega arith in
    ap (λ left. flat_map line_text (form_lines left number kept)) more
    ∙ flat_map-append line_text (lines_before number) _
    ∙ ap (λ at. flat_map line_text (lines_before number)
    ++ (line_text (form_line form) ++ flat_map line_text (form_lines (n - (number + 1)) at (after_form form)))) on

-- what is written grows by what is left less
pub written-next : (n number : ℕ) (kept ready after : Kept) (out opened bytes whole : List ℕ) → number < n
    → opened ≡ out ++ flat_map line_text (lines_before number) → ready ≡ kept_before number kept
    → WritesForm opened bytes after (form_of ready) → out ++ left_of n number kept ≡ whole
    → bytes ++ left_of n (number + 1) after ≡ whole
written-next n number kept ready after out opened bytes whole h o r w e =
    let form = form_of (kept_before number kept) in
    let before = flat_map line_text (lines_before number) in
    let here = line_text (form_line form) in
    let later = left_of n (number + 1) (after_form form) in
    let of : form_of ready ≡ form = ap form_of r in
    let made : bytes ≡ (out ++ before) ++ here =
    w.written ∙ ap (λ f. opened ++ line_text (form_line f)) of ∙ ap (λ o. o ++ here) o in
    let kept_after : after ≡ after_form form = w.after ∙ ap after_form of in
    ap (λ b. b ++ left_of n (number + 1) after) made
    ∙ ap (λ k. ((out ++ before) ++ here) ++ left_of n (number + 1) k) kept_after
    ∙ append_assoc (out ++ before) here later ∙ append_assoc out before (here ++ later)
    ∙ ap (λ left. out ++ left) (sym (left_of-first n number kept h)) ∙ e
