-- Where the commands of a source begin, line by line.
use Rattle.std.proofs.Common.{◌≡◌, ℕ, suc, ◌≤◌, ◌<◌, Bool, true, false, cond, nat_le, nat_lt, ◌&&◌, List, [], ◌∷◌}
use Rattle.std.proofs.Common.{length, ℤ, pos, negsuc, Option, Some, None, Result, Ok, Err, bytes_eq, refl, ap, ◌∙◌}
use Rattle.std.proofs.Common.{subst, arith}
use Rattle.std.proofs.lemmas.Bool.Decides.{nat_tests}
use Rattle.script_text.specs.declared.script.Why.{Why}
use Rattle.script_text.specs.declared.script.Why.TheVariants as why
use Rattle.script_text.specs.declared.script.BadScript.{BadScript}
use Rattle.script_text.specs.Limits.{line_bytes_most}
use Rattle.script_text.specs.Lines.{tokens_of}
use Rattle.script_text.specs.Tokens.{integer_of}
use Rattle.script_text.specs.Versions.{version_most, version_word, version_at, version_in, Opening, unsaid}
use Rattle.script_text.specs.Versions.{opening_with, opening_line, opening_from}

-- the version is known
abbrev pub IsKnown : ℕ → Type 0
IsKnown version = (1 ≤ version) × (version ≤ version_most)

-- what a test lets through
test-known : (known : Bool) (n version : ℕ) → (known ≡ true → IsKnown n)
    → cond known (Ok n) (Err why.Integer) ≡ Ok version → IsKnown version
test-known true n version h e =
    let same : n ≡ version = cc in
    subst IsKnown same (h refl)
test-known false n version h e = cc

-- an integer that is a version is a known one
version_at-known : (v : Option ℤ) (version : ℕ) → version_at v ≡ Ok version → IsKnown version
version_at-known None version e = cc
version_at-known (Some (pos n)) version e =
    test-known (nat_le 1 n && nat_le n version_most) n version (λ h. grind (arith, nat_tests)) e
version_at-known (Some (negsuc n)) version e = cc

-- so are tokens
pub version_in-known : (tokens : List (List ℕ)) (version : ℕ) → version_in tokens ≡ Ok version → IsKnown version
version_in-known [] version e = cc
version_in-known (token ∷ []) version e = version_at-known (integer_of token) version e
version_in-known (token ∷ next ∷ more) version e = cc

-- the commands begin in these lines, of which the first has this number, by a known version
pub record IsOpening (number : ℕ) (lines : List (List ℕ)) (opening : Opening) : Type 0 where
  pub known : IsKnown opening.version
  pub few : length opening.lines ≤ length lines

-- lines of no said version are of the first
unsaid-IsOpening : (number : ℕ) (lines : List (List ℕ)) (opening : Opening)
    → unsaid number lines ≡ opening → IsOpening number lines opening
unsaid-IsOpening number lines opening same =
    subst (IsOpening number lines) same (record { known = (omega arith, omega arith); few = omega arith })

-- a line that says a version stands before the others
said-IsOpening : (number : ℕ) (line : List ℕ) (lines : List (List ℕ)) (said : Result ℕ Why) (opening : Opening)
    → ((version : ℕ) → said ≡ Ok version → IsKnown version) → opening_with number lines said ≡ Ok opening
    → IsOpening number (line ∷ lines) opening
said-IsOpening number line lines (Err reason) opening known e = cc
said-IsOpening number line lines (Ok version) opening known e =
    let made : Opening = record { version = version; number = suc number; lines = lines } in
    let same : made ≡ opening = cc in
    subst (IsOpening number (line ∷ lines)) same (record { known = known version refl; few = omega arith })

-- a first token says a version, or is one of a command
token-IsOpening : (is_word : Bool) (number : ℕ) (line : List ℕ) (lines tokens : List (List ℕ)) (opening : Opening)
    → cond is_word (opening_with number lines (version_in tokens)) (Ok (unsaid number (line ∷ lines))) ≡ Ok opening
    → IsOpening number (line ∷ lines) opening
token-IsOpening true number line lines tokens opening e =
    said-IsOpening number line lines (version_in tokens) opening (version_in-known tokens) e
token-IsOpening false number line lines tokens opening e = unsaid-IsOpening number (line ∷ lines) opening cc

-- a line without tokens is skipped
line-IsOpening : (number : ℕ) (line : List ℕ) (lines tokens : List (List ℕ)) (further : Result Opening BadScript)
    (opening : Opening) → (further ≡ Ok opening → IsOpening (suc number) lines opening)
    → opening_line number line lines tokens further ≡ Ok opening → IsOpening number (line ∷ lines) opening
line-IsOpening number line lines [] further opening later e =
    let h = later e in
    record { known = h.known; few = omega (arith, h.few) }
line-IsOpening number line lines (first ∷ tokens) further opening later e =
    token-IsOpening (bytes_eq first version_word) number line lines tokens opening e

-- a line that is too long is one of a command
long-IsOpening : (long : Bool) (number : ℕ) (line : List ℕ) (lines : List (List ℕ)) (further : Result Opening BadScript)
    (opening : Opening) → (further ≡ Ok opening → IsOpening (suc number) lines opening)
    → cond long (Ok (unsaid number (line ∷ lines))) (opening_line number line lines (tokens_of line) further)
    ≡ Ok opening
    → IsOpening number (line ∷ lines) opening
long-IsOpening true number line lines further opening later e = unsaid-IsOpening number (line ∷ lines) opening cc
long-IsOpening false number line lines further opening later e =
    line-IsOpening number line lines (tokens_of line) further opening later e

-- where the commands of lines begin
pub openings : (number : ℕ) (lines : List (List ℕ)) (opening : Opening) → opening_from number lines ≡ Ok opening
    → IsOpening number lines opening
openings number [] opening e = unsaid-IsOpening number [] opening cc
openings number (line ∷ lines) opening e =
    long-IsOpening (nat_lt line_bytes_most (length line)) number line lines (opening_from (suc number) lines) opening
    (λ h. openings (suc number) lines opening h) e

-- a line that is too long begins the commands
pub opening-long : (number : ℕ) (line : List ℕ) (lines : List (List ℕ)) → line_bytes_most < length line
    → opening_from number (line ∷ lines) ≡ Ok (unsaid number (line ∷ lines))
opening-long number line lines over =
    let long : nat_lt line_bytes_most (length line) ≡ true = grind (arith, nat_tests) in
    ap (λ v. cond v (Ok (unsaid number (line ∷ lines)))
    (opening_line number line lines (tokens_of line) (opening_from (suc number) lines))) long

-- any other line is told by its tokens
pub opening-tokens : (number : ℕ) (line : List ℕ) (lines tokens : List (List ℕ)) → length line ≤ line_bytes_most
    → tokens_of line ≡ tokens
    → opening_from number (line ∷ lines) ≡ opening_line number line lines tokens (opening_from (suc number) lines)
opening-tokens number line lines tokens short cut =
    let fits : nat_lt line_bytes_most (length line) ≡ false = grind (arith, nat_tests) in
    ap (λ v. cond v (Ok (unsaid number (line ∷ lines)))
    (opening_line number line lines (tokens_of line) (opening_from (suc number) lines))) fits
    ∙ ap (λ ts. opening_line number line lines ts (opening_from (suc number) lines)) cut

-- a line whose first token is the word says a version
pub opening-word : (number : ℕ) (line first : List ℕ) (lines tokens : List (List ℕ)) → length line ≤ line_bytes_most
    → tokens_of line ≡ first ∷ tokens → bytes_eq first version_word ≡ true
    → opening_from number (line ∷ lines) ≡ opening_with number lines (version_in tokens)
opening-word number line first lines tokens short cut is =
    opening-tokens number line lines (first ∷ tokens) short cut
    ∙ ap (λ v. cond v (opening_with number lines (version_in tokens)) (Ok (unsaid number (line ∷ lines)))) is

-- one whose first token is another begins the commands
pub opening-other : (number : ℕ) (line first : List ℕ) (lines tokens : List (List ℕ)) → length line ≤ line_bytes_most
    → tokens_of line ≡ first ∷ tokens → bytes_eq first version_word ≡ false
    → opening_from number (line ∷ lines) ≡ Ok (unsaid number (line ∷ lines))
opening-other number line first lines tokens short cut is =
    opening-tokens number line lines (first ∷ tokens) short cut
    ∙ ap (λ v. cond v (opening_with number lines (version_in tokens)) (Ok (unsaid number (line ∷ lines)))) is
