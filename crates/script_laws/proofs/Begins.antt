-- The first line with tokens says the version, or begins the commands.
use Rattle.std.proofs.Common.{◌≡◌, inl, inr, ℕ, suc, ◌+◌, ◌<◌, ◌≤◌, Bool, true, false, cond, nat_lt, bytes_eq, List, []}
use Rattle.std.proofs.Common.{◌∷◌, length, Some, None, Result, Ok, refl, sym, ap, ◌∙◌, arith}
use Rattle.std.proofs.lemmas.Bool.Decides.{nat_tests}
use Rattle.script_text.specs.declared.script.BadScript.{BadScript}
use Rattle.script_text.specs.declared.table.Keyword.{Keyword}
use Rattle.script_text.specs.declared.table.Keyword.TheVariants.{New}
use Rattle.script_text.specs.Limits.{line_bytes_most}
use Rattle.script_text.specs.Lines.{tokens_of}
use Rattle.script_text.specs.Table.{keyword_text, keywords_of, keyword_among}
use Rattle.script_text.specs.Statements.{Statement, statement_of, statement_of_line, if_command}
use Rattle.script_text.specs.Versions.{version_word, version_in, Opening, unsaid, opening_with, opening_line}
use Rattle.script_text.specs.Versions.{opening_from}
use Rattle.script_text.proofs.Numbers.{bytes_tell}
use Rattle.script_laws.specs.Openings.{IsSilent, IsOther, long, worded, Begin, empty, other, said}
use Rattle.script_laws.specs.Openings.{VersionsStandFirst}
use Rattle.script_laws.proofs.Spelling.{line-IsShort}

-- a line that is skipped stands before the others
skipped : (number : ℕ) (line : List ℕ) (lines : List (List ℕ)) (opened : Result Opening BadScript) → IsSilent line
    → Begin (suc number) lines opened → Begin number (line ∷ lines) opened
skipped number line lines opened is (empty silent e) =
    let next : suc number + length lines ≡ number + suc (length lines) = omega arith in
    empty (is, silent) (e ∙ ap (λ n. Ok (unsaid n [])) next)
skipped number line lines opened is (other before first after cut silent h e) =
    let next : suc number + length before ≡ number + suc (length before) = omega arith in
    other (line ∷ before) first after (ap (λ rest. line ∷ rest) cut) (is, silent) h
    (e ∙ ap (λ n. Ok (unsaid n (first ∷ after))) next)
skipped number line lines opened is (said before first after tokens cut silent h e) =
    let next : suc number + length before ≡ number + suc (length before) = omega arith in
    said (line ∷ before) first after tokens (ap (λ rest. line ∷ rest) cut) (is, silent) h
    (e ∙ ap (λ n. opening_with n after (version_in tokens)) next)

-- a line that is other begins the commands
here : (number : ℕ) (line : List ℕ) (lines : List (List ℕ)) (opened : Result Opening BadScript) → IsOther line
    → opened ≡ Ok (unsaid number (line ∷ lines)) → Begin number (line ∷ lines) opened
here number line lines opened is e =
    let same : number ≡ number + 0 = omega arith in
    other [] line lines refl tt is (e ∙ ap (λ n. Ok (unsaid n (line ∷ lines))) same)

-- a line is told by its tokens
by_tokens : (number : ℕ) (line : List ℕ) (lines tokens : List (List ℕ)) (further : Result Opening BadScript)
    → length line ≤ line_bytes_most → tokens_of line ≡ tokens → Begin (suc number) lines further
    → Begin number (line ∷ lines) (opening_line number line lines tokens further)
by_tokens number line lines [] further short cut later =
    skipped number line lines further (record { short = short; none = cut }) later
by_tokens number line lines (first ∷ tokens) further short cut later =
    let opened = opening_line number line lines (first ∷ tokens) further in
    let is = λ (v : Bool).
    cond v (opening_with number lines (version_in tokens)) (Ok (unsaid number (line ∷ lines))) in
    elim (bytes_tell first version_word) [
      | inl h ↦
          let same : number ≡ number + 0 = omega arith in
          said [] line lines tokens refl tt (record { short = short; cut = cut ∙ ap (λ word. word ∷ tokens) h.1 })
          (ap is h.0 ∙ ap (λ n. opening_with n lines (version_in tokens)) same)
      | inr h ↦ here number line lines opened (worded first tokens cut h.1) (ap is h.0)
    ]

-- so it is where it is not too long
by_length : (is_long : Bool) (number : ℕ) (line : List ℕ) (lines : List (List ℕ)) (further : Result Opening BadScript)
    → nat_lt line_bytes_most (length line) ≡ is_long → Begin (suc number) lines further
    → Begin number (line ∷ lines)
    (cond is_long (Ok (unsaid number (line ∷ lines))) (opening_line number line lines (tokens_of line) further))
by_length true number line lines further e later =
    let over : line_bytes_most < length line = grind (arith, nat_tests) in
    here number line lines _ (long over) refl
by_length false number line lines further e later =
    let short : length line ≤ line_bytes_most = grind (arith, nat_tests) in
    by_tokens number line lines (tokens_of line) further short refl later

-- the version is said by the first line with tokens, or is the first
pub versions_stand_first : VersionsStandFirst
versions_stand_first number [] =
    let same : number ≡ number + 0 = omega arith in
    empty tt (ap (λ n. Ok (unsaid n [])) same)
versions_stand_first number (line ∷ lines) =
    by_length (nat_lt line_bytes_most (length line)) number line lines (opening_from (suc number) lines) refl
    (versions_stand_first (suc number) lines)

-- the word of a version is that of no command
differs : (k : Keyword) → bytes_eq version_word (keyword_text k) ≡ false
differs New = refl
differs other_keyword = refl

-- so it is found as none
no_command : (ks : List Keyword) → keyword_among ks version_word ≡ None
no_command [] = refl
no_command (k ∷ ks) = ap (λ v. cond v (Some k) (keyword_among ks version_word)) (differs k) ∙ no_command ks

-- tokens that are a statement begin the commands
statement-begins : (version number : ℕ) (line : List ℕ) (lines tokens : List (List ℕ))
    (further : Result Opening BadScript) (statement : Statement) → statement_of version tokens ≡ Ok (Some statement)
    → opening_line number line lines tokens further ≡ Ok (unsaid number (line ∷ lines))
statement-begins version number line lines [] further statement e = cc
statement-begins version number line lines (first ∷ tokens) further statement e =
    elim (bytes_tell first version_word) [
      | inl h ↦
          let none : if_command tokens None ≡ Ok (Some statement) =
          sym (ap (if_command tokens) (ap (keyword_among (keywords_of version)) h.1 ∙ no_command (keywords_of version)))
          ∙ e in
          absurd (not_none none)
      | inr h ↦
          ap (λ v. cond v (opening_with number lines (version_in tokens)) (Ok (unsaid number (line ∷ lines)))) h.0
    ]
  where
    not_none : if_command tokens None ≡ Ok (Some statement) → ⊥
    not_none none = cc

-- a line with a statement begins the commands
pub opening-statement : (version number : ℕ) (line : List ℕ) (lines : List (List ℕ)) (statement : Statement)
    → statement_of_line version line ≡ Ok (Some statement)
    → opening_from number (line ∷ lines) ≡ Ok (unsaid number (line ∷ lines))
opening-statement version number line lines statement e =
    let parts = line-IsShort version line statement e in
    ap (λ v. cond v (Ok (unsaid number (line ∷ lines)))
    (opening_line number line lines (tokens_of line) (opening_from (suc number) lines))) parts.short
    ∙ statement-begins version number line lines (tokens_of line) (opening_from (suc number) lines) statement parts.read
