-- A generated script is read as a script.
use Rattle.std.proofs.Common.{◌≡◌, ℕ, suc, ◌≤◌, false, cond, nat_lt, ◌||◌, List, [], ◌∷◌, ◌++◌, length, map, fold}
use Rattle.std.proofs.Common.{None, Some, Ok, Err, codes, refl, ap, ◌∙◌, arith}
use Rattle.std.specs.List.{flat_map}
use Rattle.std.proofs.lemmas.Bool.Decides.{nat_tests}
use Rattle.std.proofs.lemmas.List.{map-append}
use Rattle.script_text.specs.declared.script.Why.TheVariants as why
use Rattle.script_text.specs.declared.table.Keyword.TheVariants as keyword
use Rattle.script_text.specs.Lines.{tokens_of}
use Rattle.script_text.specs.Limits.{line_bytes_most, variable_names_most, field_names_most}
use Rattle.script_text.specs.Names.{with_name, variables_of, fields_of, first_uses}
use Rattle.script_text.specs.Statements.{Statement, literal, statement_of, statement_of_line}
use Rattle.script_text.specs.Scripts.{NumberedStatement}
use Rattle.script_text.specs.Grammar.{stated_then, nested, followed, stated_from, past_limit, script_of, within_limit}
use Rattle.script_text.specs.Grammar.{script_or_stop, reading_from, reading}
use Rattle.script_text.specs.Table.{keywords_of}
use Rattle.script_text.specs.Versions.{opening_from}
use Rattle.script_gen.specs.Lines.{Line}
use Rattle.script_gen.specs.Generated.{line, form_lines, seeded, generated}
use Rattle.script_gen.proofs.Lengths.{AreShortBefore-first}
use Rattle.script_laws.specs.Generated.{IsScript, GeneratedAreScripts}
use Rattle.script_laws.proofs.Again.{at_line}
use Rattle.script_laws.proofs.Begins.{opening-statement}
use Rattle.script_laws.proofs.Spacing.{tokens_of-spaced}
use Rattle.script_laws.proofs.GeneratedWords.{known_variables, known_fields, AreKnown, AreKnown-append}
use Rattle.script_laws.proofs.GeneratedNames.{AreAmong, AreAmong-none, AreAmong-fold, AreAmong-few}
use Rattle.script_laws.proofs.GeneratedLines.{IsPlain}
use Rattle.script_laws.proofs.GeneratedLists.{written, AllPlain, form_lines-plain, lines_of-generated}

-- a plain line is read as its statement
IsPlain-read : (l : Line) → (h : IsPlain l) → statement_of_line 1 (written l) ≡ Ok (Some h.statement)
IsPlain-read l h =
    ap (λ long. cond long (Err why.Long) (statement_of 1 (tokens_of (written l)))) (short (length (written l)) h.short)
    ∙ ap (statement_of 1) (tokens_of-spaced (l.command ∷ l.operands) h.blank h.hash h.some) ∙ h.read
  where
    short : (n : ℕ) → n ≤ 24 → nat_lt line_bytes_most n ≡ false
    short n h = grind (arith, nat_tests)

-- the statements of plain lines, of which the first has this number
abbrev statements : ℕ → (lines : List Line) → AllPlain lines → List NumberedStatement
statements number [] h = []
statements number (l ∷ lines) h = at_line number h.0.statement ∷ statements (suc number) lines h.1

-- the number of the line after these
abbrev number_after : ℕ → List Line → ℕ
number_after number [] = number
number_after number (l ∷ lines) = number_after (suc number) lines

-- plain lines are read as their statements, and then come those of the rest
stated_from-plain : (number : ℕ) (open' : List ℕ) (lines : List Line) (h : AllPlain lines) (rest : List (List ℕ))
    (more : List NumberedStatement) → stated_from 1 (number_after number lines) open' rest ≡ Ok more
    → stated_from 1 number open' (map written lines ++ rest) ≡ Ok (statements number lines h ++ more)
stated_from-plain number open' [] h rest more e = e
stated_from-plain number open' (l ∷ lines) h rest more e =
    let later = λ (inner : List ℕ). stated_from 1 (suc number) inner (map written lines ++ rest) in
    let here = at_line number h.0.statement in
    ap (λ read. stated_then number open' read later) (IsPlain-read l h.0)
    ∙ ap (λ inner. nested here inner later) (h.0.stays number open')
    ∙ ap (followed here) (stated_from-plain (suc number) open' lines h.1 rest more e)

-- all names of statements are known
abbrev AllKnown : List NumberedStatement → Type 0
AllKnown [] = Unit {0}
AllKnown (stated ∷ more) =
    AreKnown known_variables (variables_of stated.statement) × AreKnown known_fields (fields_of stated.statement)
    × AllKnown more

-- those of plain lines are
statements-known : (number : ℕ) (lines : List Line) (h : AllPlain lines) (more : List NumberedStatement) → AllKnown more
    → AllKnown (statements number lines h ++ more)
statements-known number [] h more known = known
statements-known number (l ∷ lines) h more known =
    (h.0.variables, h.0.fields, statements-known (suc number) lines h.1 more known)

-- where all names are known there are not too many
past_limit-known : (variables fields : List (List ℕ)) (all : List NumberedStatement) → AllKnown all
    → AreAmong known_variables variables → AreAmong known_fields fields → past_limit variables fields all ≡ None
past_limit-known variables fields [] known vs fs = refl
past_limit-known variables fields (stated ∷ more) known vs fs =
    let variables' = fold with_name variables (variables_of stated.statement) in
    let fields' = fold with_name fields (fields_of stated.statement) in
    let vs' = AreAmong-fold known_variables (variables_of stated.statement) variables known.0 vs in
    let fs' = AreAmong-fold known_fields (fields_of stated.statement) fields known.1 fs in
    ap (λ past. cond past (Some stated.number) (past_limit variables' fields' more))
    (within (length variables') (length fields') (AreAmong-few known_variables variables' vs')
    (AreAmong-few known_fields fields' fs'))
    ∙ past_limit-known variables' fields' more known.2 vs' fs'
  where
    within : (m n : ℕ) → m ≤ 15 → n ≤ 4 → (nat_lt variable_names_most m || nat_lt field_names_most n) ≡ false
    within m n h k = grind (arith, nat_tests)

-- the variables of all statements are known
all_variables : (all : List NumberedStatement) → AllKnown all
    → AreKnown known_variables (flat_map (λ s. variables_of s.statement) all)
all_variables [] known = tt
all_variables (stated ∷ more) known =
    AreKnown-append known_variables (variables_of stated.statement) _ known.0 (all_variables more known.2)

-- so are the fields
all_fields : (all : List NumberedStatement) → AllKnown all
    → AreKnown known_fields (flat_map (λ s. fields_of s.statement) all)
all_fields [] known = tt
all_fields (stated ∷ more) known =
    AreKnown-append known_fields (fields_of stated.statement) _ known.1 (all_fields more known.2)

-- statements of known names are a script
IsScript-known : (source : List ℕ) (all : List NumberedStatement)
    → reading source ≡ script_or_stop 1 (Ok all) → AllKnown all → IsScript source 15 4
IsScript-known source all e known =
    let variables = flat_map (λ (s : NumberedStatement). variables_of s.statement) all in
    let fields = flat_map (λ (s : NumberedStatement). fields_of s.statement) all in
    let no_variables = AreAmong-none known_variables in
    let no_fields = AreAmong-none known_fields in
    record {
      script = script_of 1 all;
      read = e ∙ ap (within_limit 1 all) (past_limit-known [] [] all known no_variables no_fields);
      version_is = refl;
      few_variables = AreAmong-few known_variables (first_uses variables)
          (AreAmong-fold known_variables variables [] (all_variables all known) no_variables);
      few_fields = AreAmong-few known_fields (first_uses fields)
          (AreAmong-fold known_fields fields [] (all_fields all known) no_fields);
    }

-- the statement of the first line
abbrev repeat_statement : Statement
repeat_statement = record { keyword = keyword.Repeat; operands = literal 8 ∷ [] }

-- the statement of the last line
abbrev end_statement : Statement
end_statement = record { keyword = keyword.End; operands = [] }

-- the first line is read as its statement
repeat-read : statement_of_line 1 (codes "repeat 8") ≡ Ok (Some repeat_statement)
unfolding keywords_of
repeat-read = refl

-- the last line is read as its statement
end-read : statement_of_line 1 (codes "end") ≡ Ok (Some end_statement)
unfolding keywords_of
end-read = refl

-- a block of plain lines is read as its statements
stated_from-block : (lines : List Line) (h : AllPlain lines)
    → stated_from 1 1 [] (codes "repeat 8" ∷ (map written lines ++ codes "end" ∷ []))
    ≡ Ok (at_line 1 repeat_statement ∷ (statements 2 lines h ++ at_line (number_after 2 lines) end_statement ∷ []))
stated_from-block lines h =
    let later = λ (inner : List ℕ). stated_from 1 2 inner (map written lines ++ codes "end" ∷ []) in
    let number = number_after 2 lines in
    let last : stated_from 1 number (1 ∷ []) (codes "end" ∷ []) ≡ Ok (at_line number end_statement ∷ []) =
    ap (λ read. stated_then number (1 ∷ []) read (λ inner. stated_from 1 (suc number) inner [])) end-read in
    ap (λ read. stated_then 1 [] read later) repeat-read
    ∙ ap (followed (at_line 1 repeat_statement))
    (stated_from-plain 2 (1 ∷ []) lines h (codes "end" ∷ []) (at_line number end_statement ∷ []) last)

-- a generated script is read as a script
pub generated_are_scripts : GeneratedAreScripts
generated_are_scripts seed n =
    let forms = form_lines n 0 (seeded seed) in
    let plain = form_lines-plain n 0 (seeded seed) (AreShortBefore-first (seeded seed)) in
    let last = at_line (number_after 2 forms) end_statement in
    let all = at_line 1 repeat_statement ∷ (statements 2 forms plain ++ last ∷ []) in
    let known : AllKnown all = (tt, tt, statements-known 2 forms plain (last ∷ []) (tt, tt, tt)) in
    let lines = map written forms ++ codes "end" ∷ [] in
    IsScript-known (generated seed n) all
    (ap (λ some. reading_from (opening_from 1 some)) (lines_of-generated seed n
    ∙ ap (λ some. codes "repeat 8" ∷ some) (map-append written forms (line (codes "end") [] ∷ [])))
    ∙ ap reading_from (opening-statement 1 1 (codes "repeat 8") lines repeat_statement repeat-read)
    ∙ ap (script_or_stop 1) (stated_from-block forms plain)) known
