-- The generated script of a seed.
use Rattle.std.specs.Prelude.{ℕ, zero, suc, ◌%◌, List, [], ◌∷◌, ◌++◌, flat_map, ◌==◌, if◌then◌else◌, codes}
use Rattle.script_gen.specs.declared.draws.Kept.{Kept}
use Rattle.script_gen.specs.Lines.{Line, line_text}
use Rattle.script_gen.specs.Forms.{form_of, form_line, after_form}

-- a line of these words
abbrev pub line : List ℕ → List (List ℕ) → Line
line command operands = record { command = command; operands = operands }

-- no list has an element
abbrev pub no_lengths : List ℕ
no_lengths = 0 ∷ 0 ∷ 0 ∷ 0 ∷ []

-- The lines that make eight objects, four lists and two weak maps anew, and bind `v`.
abbrev pub opening_lines : List Line
opening_lines =
    line (codes "new") (codes "o0" ∷ codes "1" ∷ [])
    ∷ line (codes "new") (codes "o1" ∷ codes "3" ∷ [])
    ∷ line (codes "new") (codes "o2" ∷ codes "1" ∷ [])
    ∷ line (codes "new") (codes "o3" ∷ codes "3" ∷ [])
    ∷ line (codes "new") (codes "o4" ∷ codes "1" ∷ [])
    ∷ line (codes "new") (codes "o5" ∷ codes "3" ∷ [])
    ∷ line (codes "new") (codes "o6" ∷ codes "1" ∷ [])
    ∷ line (codes "new") (codes "o7" ∷ codes "3" ∷ [])
    ∷ line (codes "list") (codes "l0" ∷ [])
    ∷ line (codes "list") (codes "l1" ∷ [])
    ∷ line (codes "list") (codes "l2" ∷ [])
    ∷ line (codes "list") (codes "l3" ∷ [])
    ∷ line (codes "weak") (codes "w0" ∷ [])
    ∷ line (codes "weak") (codes "w1" ∷ [])
    ∷ line (codes "let") (codes "v" ∷ codes "0" ∷ [])
    ∷ []

-- the lines before the form with this number: the opening lines where it is a multiple of 256
abbrev pub lines_before : ℕ → List Line
lines_before number = if number % 256 == 0 then opening_lines else []

-- what is kept after these lines: behind the opening lines all lists are empty
abbrev pub kept_before : ℕ → Kept → Kept
kept_before number kept = if number % 256 == 0 then record kept { lengths = no_lengths } else kept

-- the lines of so many forms, of which the first has this number
abbrev pub form_lines : ℕ → ℕ → Kept → List Line
form_lines zero number kept = []
form_lines (suc more) number kept =
    let form = form_of (kept_before number kept) in
    lines_before number ++ form_line form ∷ form_lines more (suc number) (after_form form)

-- the state begins as the seed
abbrev pub seeded : ℕ → Kept
seeded seed = record { state = seed; lengths = no_lengths }

-- the lines of a generated script: the forms are one block, which is run eight times
abbrev pub generated_lines : ℕ → ℕ → List Line
generated_lines seed n =
    line (codes "repeat") (codes "8" ∷ []) ∷ (form_lines n 0 (seeded seed) ++ line (codes "end") [] ∷ [])

-- the bytes of the script that is generated of a seed, with so many forms
abbrev pub generated : ℕ → ℕ → List ℕ
generated seed n = flat_map line_text (generated_lines seed n)
