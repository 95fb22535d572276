-- The lines of a generated script are plain, and they are the lines of its text.
use Rattle.std.proofs.Common.{◌≡◌, ℕ, zero, suc, ◌+◌, ◌%◌, ◌<◌, ◌≤◌, true, eqb, List, [], ◌∷◌, ◌++◌, length, map}
use Rattle.std.proofs.Common.{get_or, codes, refl, ap, ◌∙◌, subst, rules, arith}
use Rattle.std.specs.List.{flat_map}
use Rattle.std.proofs.Math.Nat.{mod-lt}
use Rattle.std.proofs.lemmas.Bool.{cond_both}
use Rattle.std.proofs.lemmas.Fmt.{decimal_digit}
use Rattle.script_text.specs.declared.table.OperandKind.TheVariants.{Variable, Value, Literal}
use Rattle.script_text.specs.declared.table.Keyword.TheVariants as keyword
use Rattle.script_text.specs.Lines.{lines_of}
use Rattle.script_gen.specs.declared.draws.Kept.{Kept}
use Rattle.script_gen.specs.Lines.{Line, line_text}
use Rattle.script_gen.specs.Forms.{form_of, form_line, after_form}
use Rattle.script_gen.specs.Generated.{line, opening_lines, lines_before, kept_before, form_lines, seeded}
use Rattle.script_gen.specs.Generated.{generated_lines, generated}
use Rattle.script_gen.proofs.Lengths.{AreShortBefore, AreShortBefore-first, AreShortBefore-next}
use Rattle.script_laws.specs.Canonical.{spaced_after, spaced, ended}
use Rattle.script_laws.proofs.Feeds.{lines_of-ended}
use Rattle.script_laws.proofs.Spacing.{Avoids, AllAvoid, is_feed, Avoids-spaced}
use Rattle.script_laws.proofs.GeneratedWords.{Says, Says-variable, Says-cap, is_known_variable}
use Rattle.script_laws.proofs.GeneratedLines.{IsPlain, one_word, two_words}
use Rattle.script_laws.proofs.GeneratedForms.{form_of-IsPlain, place_value}

-- the bytes of a line, without its line feed
abbrev pub written : Line → List ℕ
written l = spaced (l.command ∷ l.operands)

-- words with a space before each
spaced_after-flat_map : (words : List (List ℕ)) → flat_map (λ word. 32 ∷ word) words ≡ spaced_after words
spaced_after-flat_map [] = refl
spaced_after-flat_map (word ∷ words) = ap (λ rest. 32 ∷ (word ++ rest)) (spaced_after-flat_map words)

-- a line as it is written ends with a line feed
pub line_text-written : (l : Line) → line_text l ≡ written l ++ 10 ∷ []
line_text-written l = ap (λ rest. l.command ++ rest ++ 10 ∷ []) (spaced_after-flat_map l.operands)

-- so do lines
line_texts-ended : (lines : List Line) → flat_map line_text lines ≡ ended (map written lines)
line_texts-ended [] = refl
line_texts-ended (l ∷ lines) =
    ap (λ text. text ++ flat_map line_text lines) (line_text-written l)
    ∙ ap (λ rest. (written l ++ 10 ∷ []) ++ rest) (line_texts-ended lines)

-- all lines are plain
abbrev pub AllPlain : List Line → Type 0
AllPlain [] = Unit {0}
AllPlain (l ∷ lines) = IsPlain l × AllPlain lines

-- plain lines and plain lines are plain
AllPlain-append : (xs ys : List Line) → AllPlain xs → AllPlain ys → AllPlain (xs ++ ys)
AllPlain-append [] ys h k = k
AllPlain-append (x ∷ xs) ys h k = (h.0, AllPlain-append xs ys h.1 k)

-- a line that makes an object is plain
new_line : (token : List ℕ) (cap : ℕ) → is_known_variable token ≡ true → length token ≤ 2 → cap ≤ 8
    → IsPlain (line (codes "new") (token ∷ ((48 + cap) ∷ []) ∷ []))
new_line token cap known short le =
    two_words keyword.New Variable (Literal 8) token ((48 + cap) ∷ []) 2 1 refl refl (λ number open'. refl)
    (Says-variable token 2 known short)
    (subst (λ word. Says (Literal 8) word 1) (decimal_digit cap (omega arith)) (Says-cap cap le)) (omega arith)

-- so is one that makes a list
list_line : (token : List ℕ) → is_known_variable token ≡ true → length token ≤ 2
    → IsPlain (line (codes "list") (token ∷ []))
list_line token known short =
    one_word keyword.List Variable token 2 refl refl (λ number open'. refl) (Says-variable token 2 known short)
    (omega arith)

-- and one that makes a weak map
weak_line : (token : List ℕ) → is_known_variable token ≡ true → length token ≤ 2
    → IsPlain (line (codes "weak") (token ∷ []))
weak_line token known short =
    one_word keyword.Weak Variable token 2 refl refl (λ number open'. refl) (Says-variable token 2 known short)
    (omega arith)

-- and the one that binds `v`
let_line : IsPlain (line (codes "let") (codes "v" ∷ codes "0" ∷ []))
let_line =
    two_words keyword.Let Variable Value (codes "v") (codes "0") 1 3 refl refl (λ number open'. refl)
    (Says-variable (codes "v") 1 refl (omega arith))
    (subst (λ word. Says Value word 3) (decimal_digit 0 (omega arith)) (place_value 0 (omega arith))) (omega arith)

-- the opening lines are plain
opening_lines-plain : AllPlain opening_lines
opening_lines-plain = (
  new_line (codes "o0") 1 refl (omega arith) (omega arith),
  (
    new_line (codes "o1") 3 refl (omega arith) (omega arith),
    (
      new_line (codes "o2") 1 refl (omega arith) (omega arith),
      (
        new_line (codes "o3") 3 refl (omega arith) (omega arith),
        (
          new_line (codes "o4") 1 refl (omega arith) (omega arith),
          (
            new_line (codes "o5") 3 refl (omega arith) (omega arith),
            (
              new_line (codes "o6") 1 refl (omega arith) (omega arith),
              (
                new_line (codes "o7") 3 refl (omega arith) (omega arith),
                (
                  list_line (codes "l0") refl (omega arith),
                  (
                    list_line (codes "l1") refl (omega arith),
                    (
                      list_line (codes "l2") refl (omega arith),
                      (
                        list_line (codes "l3") refl (omega arith),
                        (
                          weak_line (codes "w0") refl (omega arith),
                          (
                            weak_line (codes "w1") refl (omega arith),
                            (let_line, tt),
                          ),
                        ),
                      ),
                    ),
                  ),
                ),
              ),
            ),
          ),
        ),
      ),
    ),
  ),
)

-- the lines before a form are plain
lines_before-plain : (number : ℕ) → AllPlain (lines_before number)
lines_before-plain number =
    cond_both (eqb (number % 256) 0) opening_lines [] AllPlain (λ h. opening_lines-plain) (λ h. tt)

-- so is the line of the form
pub form-IsPlain : (number : ℕ) (kept : Kept) → AreShortBefore number kept
    → IsPlain (form_line (form_of (kept_before number kept)))
form-IsPlain number kept h =
    let ready = kept_before number kept in
    form_of-IsPlain ready
    (λ list. few (number % 256) (get_or ready.lengths list 0) (mod-lt number (omega arith)) (h list))
  where
    few : (most length' : ℕ) → most < 256 → length' ≤ most → length' ≤ 255
    few most length' lt le = omega arith

-- the lines of forms are plain
pub form_lines-plain : (n number : ℕ) (kept : Kept) → AreShortBefore number kept → AllPlain (form_lines n number kept)
form_lines-plain zero number kept h = tt
form_lines-plain (suc n) number kept h =
    let after = after_form (form_of (kept_before number kept)) in
    AllPlain-append (lines_before number)
    (form_line (form_of (kept_before number kept)) ∷ form_lines n (suc number) after) (lines_before-plain number)
    (form-IsPlain number kept h, form_lines-plain n (suc number) after (AreShortBefore-next number kept h))

-- a line with no line feed in it, of at most 24 bytes
pub record IsShortLine (l : Line) : Type 0 where
  pub feed : Avoids is_feed (written l)
  pub short : length (written l) ≤ 24

-- a plain line is such
IsShortLine-plain : (l : Line) → IsPlain l → IsShortLine l
IsShortLine-plain l h =
    record { feed = Avoids-spaced is_feed (l.command ∷ l.operands) refl h.feed; short = h.short }

-- all lines are such
abbrev pub AllShortLines : List Line → Type 0
AllShortLines [] = Unit {0}
AllShortLines (l ∷ lines) = IsShortLine l × AllShortLines lines

-- plain lines are, and what follows them
AllShortLines-plain : (lines more : List Line) → AllPlain lines → AllShortLines more → AllShortLines (lines ++ more)
AllShortLines-plain [] more h k = k
AllShortLines-plain (l ∷ lines) more h k = (IsShortLine-plain l h.0, AllShortLines-plain lines more h.1 k)

-- the lines of a generated script are
pub AllShortLines-generated : (seed n : ℕ) → AllShortLines (generated_lines seed n)
AllShortLines-generated seed n =
    let forms = form_lines n 0 (seeded seed) in
    let plain = form_lines-plain n 0 (seeded seed) (AreShortBefore-first (seeded seed)) in
    let repeat : IsShortLine (line (codes "repeat") (codes "8" ∷ [])) =
    record { feed = search rules; short = omega arith } in
    let last : IsShortLine (line (codes "end") []) = record { feed = search rules; short = omega arith } in
    (repeat, AllShortLines-plain forms (line (codes "end") [] ∷ []) plain (last, tt))

-- no line has a line feed
feed-written : (lines : List Line) → AllShortLines lines → AllAvoid is_feed (map written lines)
feed-written [] h = tt
feed-written (l ∷ lines) h = (h.0.feed, feed-written lines h.1)

-- the lines of a generated script are the lines of its text
pub lines_of-generated : (seed n : ℕ) → lines_of (generated seed n) ≡ map written (generated_lines seed n)
lines_of-generated seed n =
    let lines = generated_lines seed n in
    ap lines_of (line_texts-ended lines)
    ∙ lines_of-ended (map written lines) (feed-written lines (AllShortLines-generated seed n))
