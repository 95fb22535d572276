-- How long generated scripts and their lines are.
use Rattle.std.proofs.Common.{◌≡◌, ℕ, zero, suc, ◌+◌, ◌*◌, ◌/◌, ◌%◌, ◌≤◌, eqb, List, [], ◌∷◌, ◌++◌, length, map}
use Rattle.std.proofs.Common.{codes, sym, ap, ◌∙◌, subst, arith}
use Rattle.std.specs.List.{All, flat_map}
use Rattle.std.proofs.lemmas.Bool.{cond_both}
use Rattle.std.proofs.lemmas.Bool.Decides.{nat_tests}
use Rattle.std.proofs.lemmas.Grind.{flat_map-append}
use Rattle.std.proofs.lemmas.List.{length-append}
use Rattle.std.proofs.lemmas.List.Elements.{All-cons}
use Rattle.script_gen.specs.declared.draws.Kept.{Kept}
use Rattle.script_gen.specs.Lines.{Line, line_text}
use Rattle.script_gen.specs.Forms.{form_of, form_line, after_form}
use Rattle.script_gen.specs.Generated.{line, opening_lines, lines_before, kept_before, form_lines, seeded}
use Rattle.script_gen.specs.Generated.{generated_lines}
use Rattle.script_gen.proofs.Lengths.{AreShortBefore, AreShortBefore-first, AreShortBefore-next}
use Rattle.script_laws.specs.Generated.{GeneratedLinesAreShort, GeneratedAreShort}
use Rattle.script_laws.proofs.GeneratedLines.{IsPlain}
use Rattle.script_laws.proofs.GeneratedLists.{written, line_text-written, AllShortLines, AllShortLines-generated}
use Rattle.script_laws.proofs.GeneratedLists.{lines_of-generated, form-IsPlain}

-- short lines have at most 24 bytes each
All-written : (lines : List Line) → AllShortLines lines → All (λ text. length text ≤ 24) (map written lines)
All-written [] h = λ i d lt. absurd (omega (arith, lt))
All-written (l ∷ lines) h =
    All-cons (λ text. length text ≤ 24) (written l) (map written lines) h.0.short (All-written lines h.1)

-- so have those of a generated script
pub generated_lines_are_short : GeneratedLinesAreShort
generated_lines_are_short seed n =
    subst (All (λ text. length text ≤ 24)) (sym (lines_of-generated seed n))
    (All-written (generated_lines seed n) (AllShortLines-generated seed n))

-- the bytes of lines
abbrev bytes_of : List Line → List ℕ
bytes_of lines = flat_map line_text lines

-- a plain line has at most 25 bytes with its line feed
length-line_text : (l : Line) → IsPlain l → length (line_text l) ≤ 25
length-line_text l h =
    omega (arith, h.short, ap length (line_text-written l), length-append (written l) (10 ∷ []))

-- how many times lists were made anew before the form with this number
abbrev openings : ℕ → ℕ
openings number = (number + 255) / 256

-- the lines before a form have 128 bytes where lists are made anew, and else none
length-lines_before : (number : ℕ)
    → length (bytes_of (lines_before number)) + 128 * openings number ≤ 128 * openings (suc number)
length-lines_before number =
    cond_both (eqb (number % 256) 0) opening_lines []
    (λ lines. length (bytes_of lines) + 128 * openings number ≤ 128 * openings (suc number))
    (λ h. let first : number % 256 ≡ 0 = grind (arith, nat_tests) in opened number first)
    (λ h. omega arith)
  where
    opened : (number : ℕ) → number % 256 ≡ 0 → 128 + 128 * openings number ≤ 128 * openings (suc number)
    opened number first = omega arith

-- the lines of forms have 25 bytes a form, and 128 each time that lists are made anew
length-form_lines : (n number : ℕ) (kept : Kept) → AreShortBefore number kept
    → length (bytes_of (form_lines n number kept)) + 128 * openings number ≤ 25 * n + 128 * openings (number + n)
length-form_lines zero number kept h = omega arith
length-form_lines (suc n) number kept h =
    let form = form_of (kept_before number kept) in
    let before = bytes_of (lines_before number) in
    let here = line_text (form_line form) in
    let later = bytes_of (form_lines n (suc number) (after_form form)) in
    let whole = ap length (flat_map-append line_text (lines_before number)
    (form_line form ∷ form_lines n (suc number) (after_form form)))
    ∙ length-append before (here ++ later) in
    let one = length-line_text (form_line form) (form-IsPlain number kept h) in
    let more = length-form_lines n (suc number) (after_form form) (AreShortBefore-next number kept h) in
    parts n number (length before) (length here) (length later) _ (whole ∙ ap (λ m. length before + m)
    (length-append here later)) (length-lines_before number) one more
  where
    parts : (n number before here later all : ℕ) → all ≡ before + (here + later)
        → before + 128 * openings number ≤ 128 * openings (suc number) → here ≤ 25
        → later + 128 * openings (suc number) ≤ 25 * n + 128 * openings (suc number + n)
        → all + 128 * openings number ≤ 25 * suc n + 128 * openings (number + suc n)
    parts n number before here later all e o h m = omega arith

-- a script of up to 30,000 forms is no longer than a source may be
pub generated_are_short : GeneratedAreShort
generated_are_short seed n few =
    let forms = form_lines n 0 (seeded seed) in
    let last = line (codes "end") [] ∷ [] in
    let rest = bytes_of (forms ++ last) in
    let whole = ap length (flat_map-append line_text forms last) ∙ length-append (bytes_of forms) (bytes_of last) in
    let more = length-form_lines n 0 (seeded seed) (AreShortBefore-first (seeded seed)) in
    let short = within n (length (bytes_of forms)) (length rest) whole more few in
    omega (arith, short)
  where
    within : (n forms rest : ℕ) → rest ≡ forms + 4 → forms + 128 * openings 0 ≤ 25 * n + 128 * openings (0 + n)
        → n ≤ 30000 → rest ≤ 1048000
    within n forms rest e m few = omega arith
