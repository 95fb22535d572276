-- The lines of a source from where its commands begin.
use Rattle.std.proofs.Common.{◌≡◌, ℕ, suc, ◌+◌, ◌-◌, ◌≤◌, List, [], length, map, take, drop, Bor, Result, Ok, refl}
use Rattle.std.proofs.Common.{sym, ap, ◌∙◌, subst, arith}
use Rattle.std.proofs.lemmas.List.{drop-map, take_rest, length-drop}
use Rattle.script_text.specs.declared.script.BadScript.{BadScript}
use Rattle.script_text.specs.declared.script.BadScript.TheVariants.{BadLine, TooManyNames, NoMemory}
use Rattle.script_text.specs.declared.versions.Opening.{Opening as Skipped}
use Rattle.script_text.specs.Lines.{lines_of}
use Rattle.script_text.specs.Scripts.{NumberedStatement}
use Rattle.script_text.specs.Versions.{opening_from}
use Rattle.script_text.specs.Grammar.{stated_from, script_or_stop, reading, reading_from}
use Rattle.script_text.specs.Shown.{opening_shown, IsBad, IsReadAs}

-- the bytes of lines
abbrev bytes_of : List (Bor (List ℕ)) → List (List ℕ)
bytes_of lines = map (λ line. line.now) lines

-- the lines from a place on are as many as there are behind it
pub rest-count : (lines some : List (Bor (List ℕ))) (k : ℕ) → some ≡ lines → k ≤ length some
    → k + length (take (length some - k) (drop k some)) ≡ length lines
rest-count lines some k same within =
    omega (arith, within, ap length (take_rest some k), length-drop k some, ap length same)

-- the lines that were cut from a source are opened as it is
pub begun : (source : List ℕ) (lines some : List (Bor (List ℕ))) (opening : Skipped)
    → bytes_of lines ≡ lines_of source → some ≡ lines
    → opening_from 1 (bytes_of some) ≡ Ok (opening_shown (bytes_of some) opening)
    → opening_from 1 (lines_of source) ≡ Ok (opening_shown (lines_of source) opening)
begun source lines some opening are same h =
    subst (λ ls. opening_from 1 ls ≡ Ok (opening_shown ls opening)) (ap bytes_of same ∙ are) h

-- so are the statements of those that are left
left : (source : List ℕ) (lines some : List (Bor (List ℕ))) (version k : ℕ)
    → bytes_of lines ≡ lines_of source → some ≡ lines
    → stated_from version (k + 1) [] (bytes_of (take (length some - k) (drop k some)))
    ≡ stated_from version (suc k) [] (drop k (lines_of source))
left source lines some version k are same =
    let next : k + 1 ≡ suc k = omega arith in
    ap (λ n. stated_from version n [] (bytes_of (take (length some - k) (drop k some)))) next
    ∙ ap (λ rest. stated_from version (suc k) [] (bytes_of rest)) (take_rest some k)
    ∙ ap (stated_from version (suc k) []) (sym (drop-map (λ (line : Bor (List ℕ)). line.now) k some))
    ∙ ap (λ ls. stated_from version (suc k) [] (drop k ls)) (ap bytes_of same ∙ are)

-- the source is read as the statements of the lines that are left
pub begun-IsReadAs : (source : List ℕ) (lines some : List (Bor (List ℕ))) (opening : Skipped)
    (stated : List NumberedStatement) → bytes_of lines ≡ lines_of source → some ≡ lines
    → opening_from 1 (lines_of source) ≡ Ok (opening_shown (lines_of source) opening)
    → stated_from opening.version (opening.skipped + 1) []
    (bytes_of (take (length some - opening.skipped) (drop opening.skipped some))) ≡ Ok stated
    → IsReadAs (opening_from 1 (lines_of source)) opening.version stated
begun-IsReadAs source lines some opening stated are same opened h = record {
  opening = opening_shown (lines_of source) opening;
  is = opened;
  same = refl;
  read = sym (left source lines some opening.version opening.skipped are same) ∙ h;
}

-- where statements are refused, so is their script
script-IsBad : (version : ℕ) (all : Result (List NumberedStatement) BadScript) (stop : BadScript) → IsBad all stop
    → IsBad (script_or_stop version all) stop
script-IsBad version all (BadLine line why) h = ap (script_or_stop version) h
script-IsBad version all (TooManyNames line) h = ap (script_or_stop version) h
script-IsBad version all NoMemory h = tt

-- the source is refused as the lines that are left are
pub begun-IsBad : (source : List ℕ) (lines some : List (Bor (List ℕ))) (opening : Skipped) (stop : BadScript)
    → bytes_of lines ≡ lines_of source → some ≡ lines
    → opening_from 1 (lines_of source) ≡ Ok (opening_shown (lines_of source) opening)
    → IsBad (stated_from opening.version (opening.skipped + 1) []
    (bytes_of (take (length some - opening.skipped) (drop opening.skipped some)))) stop
    → IsBad (reading source) stop
begun-IsBad source lines some opening stop are same opened h =
    let version = opening.version in
    let k = opening.skipped in
    let read : reading source
    ≡ script_or_stop version (stated_from version (k + 1) [] (bytes_of (take (length some - k) (drop k some)))) =
    ap reading_from opened ∙ ap (script_or_stop version) (sym (left source lines some version k are same)) in
    subst (λ answer. IsBad answer stop) (sym read) (script-IsBad version _ stop h)
