-- What `parse` has read is a script that is sound.
use Rattle.std.proofs.Common.{◌≡◌, ℕ, suc, ◌≤◌, true, false, cond, eqb, List, [], ◌∷◌, length, map, Option}
use Rattle.std.proofs.Common.{Some, None, Result, Ok, Err, Bor, refl, sym, ap, ◌∙◌, subst, arith}
use Rattle.std.proofs.lemmas.List.{length-map}
use Rattle.script_text.specs.declared.statements.NumberedStatement.{NumberedStatement as StatedSlices}
use Rattle.script_text.specs.declared.script.BadScript.{BadScript}
use Rattle.script_text.specs.declared.script.Line.{Line}
use Rattle.script_text.specs.Limits.{variable_names_most, field_names_most}
use Rattle.script_text.specs.Lines.{onto_first, lines_of}
use Rattle.script_text.specs.Scripts.{ScriptText, NumberedStatement}
use Rattle.script_text.specs.Versions.{Opening, opening_from, version_most}
use Rattle.script_text.specs.Grammar.{stated_from, past_limit, script_of, within_limit, script_or_stop, reading_from}
use Rattle.script_text.specs.Fitting.{AreStated}
use Rattle.script_text.specs.Shown.{stated_shown, IsReadAs}
use Rattle.script_text.specs.Whole.{IsPaired}
use Rattle.script_text.specs.Sound.{script_text, IsNumbered, IsMatched, IsWellFormed, AreShort}
use Rattle.script_text.proofs.Speaking.{stated_from-AreStated, stated_from-few}
use Rattle.script_text.proofs.Matched.{IsMatched-placed}
use Rattle.script_text.proofs.Nested.{nested}
use Rattle.script_text.proofs.Openings.{openings}
use Rattle.script_text.proofs.Placed.{lines_from-IsPlaced}
use Rattle.script_text.proofs.ShortNames.{fields_short}
use Rattle.script_text.proofs.Within.{script_of-IsNumbered}

-- a byte before the first of some pieces makes at most one piece more
length-onto_first : (b n : ℕ) (pieces : List (List ℕ)) → length pieces ≤ n → length (onto_first b pieces) ≤ suc n
length-onto_first b n [] h = omega arith
length-onto_first b n (piece ∷ pieces) h = omega arith

-- a source has at most a line for each byte
length-lines_of : (source : List ℕ) → length (lines_of source) ≤ length source
length-lines_of [] = omega arith
length-lines_of (b ∷ bs) =
    let more = length-lines_of bs in
    elim (eqb b 10) as (λ v. length (cond v ([] ∷ lines_of bs) (onto_first b (lines_of bs))) ≤ suc (length bs)) [
      | true ↦ omega (arith, length-lines_of bs)
      | false ↦ length-onto_first b (length bs) (lines_of bs)
          (length-lines_of bs)
    ]

-- there are at most as many lines as bytes
pub lines-few : (source : List ℕ) (lines : List (Bor (List ℕ))) → map (λ line. line.now) lines ≡ lines_of source
    → length lines ≤ length source
lines-few source lines e =
    let count : length lines ≡ length (lines_of source) = sym (length-map lines (λ line. line.now)) ∙ ap length e in
    omega (arith, length-lines_of source)

-- a source has at most a statement for each byte
pub stated-few : (source : List ℕ) (version : ℕ) (stated : List StatedSlices)
    → IsReadAs (opening_from 1 (lines_of source)) version (map stated_shown stated) → length stated ≤ length source
stated-few source version stated h =
    let o = h.opening in
    omega (
      arith,
      stated_from-few o.version o.number [] o.lines (map stated_shown stated) h.read,
      (openings 1 (lines_of source) o h.is).few,
      length-map stated stated_shown,
      length-lines_of source,
    )

-- statements that were read are nested
pub stated-AreStated : (opened : Result Opening BadScript) (version : ℕ) (stated : List NumberedStatement)
    → IsReadAs opened version stated → AreStated 0 stated
stated-AreStated opened version stated h =
    stated_from-AreStated h.opening.version h.opening.number [] h.opening.lines stated h.read

-- the script of statements that were read is sound where it has not too many names
pub script_of-IsWellFormed :
    (lines : List (List ℕ)) (version : ℕ) (stated : List NumberedStatement) (script : ScriptText)
    → IsReadAs (opening_from 1 lines) version stated → script_of version stated ≡ script
    → length script.variables ≤ variable_names_most → length script.fields ≤ field_names_most
    → IsWellFormed script
script_of-IsWellFormed lines version stated script h same few_variables few_fields =
    let are = stated-AreStated (opening_from 1 lines) version stated h in
    let all = script_of version stated in
    let placed = lines_from-IsPlaced all.variables all.fields stated are in
    let open_few = λ (at : ℕ). nested all.variables all.fields 0 [] stated 0 (omega arith) are at in
    record {
      known = subst (λ (v : ℕ). (1 ≤ v) × (v ≤ version_most)) (h.same ∙ ap (λ (s : ScriptText). s.version) same)
          (openings 1 lines h.opening h.is).known;
      numbered = subst IsNumbered same (script_of-IsNumbered version stated are);
      matched = subst (λ (s : ScriptText). IsMatched s.lines) same (IsMatched-placed all.lines placed open_few);
      placed = subst (λ (s : ScriptText). IsPaired 0 s.lines) same placed;
      few_variables = few_variables;
      few_fields = few_fields;
      short = subst (λ (s : ScriptText). AreShort s.fields) same (fields_short stated are);
    }

-- the statements of a source that is read as a script
pub record AreOf (version : ℕ) (all : Result (List NumberedStatement) BadScript) (script : ScriptText) : Type 0 where
  pub stated : List NumberedStatement
  pub is : all ≡ Ok stated
  pub within : past_limit [] [] stated ≡ None
  pub same : script_of version stated ≡ script

-- statements that are read as a script have it as their script
limit-parts : (version : ℕ) (stated : List NumberedStatement) (past : Option ℕ) (script : ScriptText)
    → past_limit [] [] stated ≡ past → within_limit version stated past ≡ Ok script
    → AreOf version (Ok stated) script
limit-parts version stated None script few e = record { stated = stated; is = refl; within = few; same = cc }
limit-parts version stated (Some line) script few e = cc

-- a script that is read is that of its statements
pub script-parts : (version : ℕ) (all : Result (List NumberedStatement) BadScript) (script : ScriptText)
    → script_or_stop version all ≡ Ok script
    → AreOf version all script
script-parts version (Ok stated) script e = limit-parts version stated (past_limit [] [] stated) script refl e
script-parts version (Err stop) script e = cc

-- where the commands of a source begin that is read as a script, and its statements
pub record IsOpenedAs (opened : Result Opening BadScript) (script : ScriptText) : Type 0 where
  pub opening : Opening
  pub is : opened ≡ Ok opening
  pub all : AreOf opening.version (stated_from opening.version opening.number [] opening.lines) script

-- a script that is read has an opening
pub reading-parts : (opened : Result Opening BadScript) (script : ScriptText) → reading_from opened ≡ Ok script
    → IsOpenedAs opened script
reading-parts (Err stop) script e = cc
reading-parts (Ok opening) script e = record {
  opening = opening;
  is = refl;
  all = script-parts opening.version (stated_from opening.version opening.number [] opening.lines) script e;
}

-- the script of statements, by their lines and names
pub script-same : (version : ℕ) (stated all : List StatedSlices) (lines : List Line)
    (variables fields vs fs : List (List ℕ)) → all ≡ stated
    → ((v : ℕ) → script_of v (map stated_shown all) ≡ script_text v lines variables fields)
    → vs ≡ variables → fs ≡ fields → script_of version (map stated_shown stated) ≡ script_text version lines vs fs
script-same version stated all lines variables fields vs fs same h variables_are fields_are =
    ap (λ some. script_of version (map stated_shown some)) (sym same) ∙ h version
    ∙ ap (λ names. script_text version lines names fields) (sym variables_are)
    ∙ ap (script_text version lines vs) (sym fields_are)

-- what is read as these statements is read as their script
pub reading-stated : (opened : Result Opening BadScript) (version : ℕ) (stated : List NumberedStatement)
    → IsReadAs opened version stated → reading_from opened ≡ script_or_stop version (Ok stated)
reading-stated opened version stated h =
    ap reading_from h.is ∙ ap (script_or_stop h.opening.version) h.read
    ∙ ap (λ v. script_or_stop v (Ok stated)) h.same
