-- The tokens of a line, from one to the next.
use Rattle.std.proofs.Common.{◌≡◌, ◌≢◌, ℕ, suc, ◌+◌, Bool, true, false, cond, not, ◌||◌, eqb, nat_lt}
use Rattle.std.proofs.Common.{◌≤◌, List, [], ◌∷◌, length, Some, None, unwrap_or, take, drop, refl, sym, ap, ◌∙◌}
use Rattle.std.proofs.Common.{subst, arith}
use Rattle.std.specs.List.{filter, position, position_or_len}
use Rattle.std.proofs.lemmas.List.Sums.{prefix_len-le-length}
use Rattle.std.proofs.lemmas.Bool.Decides.{nat_tests}
use Rattle.script_text.specs.Lines.{onto_first, is_blank, is_some_bytes, pieces_of, text_of, tokens_of}
use Rattle.script_text.specs.Pieces.{ends_token}

-- the first place that passes, or the length where none does
pub unwrap_or-position : (p : ℕ → Bool) (bs : List ℕ) → unwrap_or (position p bs) (length bs) ≡ position_or_len p bs
unwrap_or-position p bs =
    let n = position_or_len p bs in
    let le = prefix_len-le-length (λ b. not (p b)) bs in
    place (nat_lt n (length bs)) n (length bs) le (λ h. grind (arith, nat_tests))
  where
    place : (within : Bool) (n len : ℕ) → n ≤ len → (within ≡ false → len ≤ n)
        → unwrap_or (cond within (Some n) None) len ≡ n
    place true n len le h = refl
    place false n len le h = omega (arith, h refl)

-- a `#`, with which a comment begins
abbrev pub is_hash : ℕ → Bool
is_hash b = eqb b 35

-- the text of a line, byte by byte
pub text_of-cons : (b : ℕ) (bs : List ℕ) → text_of (b ∷ bs) ≡ cond (is_hash b) [] (b ∷ text_of bs)
text_of-cons b bs =
    let n = position_or_len (λ c. eqb c 35) bs in
    elim (eqb b 35) as (λ v. take (cond (not v) (1 + n) 0) (b ∷ bs) ≡ cond v [] (b ∷ take n bs))
    [ true ↦ refl | false ↦ ap (λ k. take k (b ∷ bs)) (let e : 1 + n ≡ suc n = omega arith in e) ]

-- the tokens of a text
abbrev words_of : List ℕ → List (List ℕ)
words_of text = filter is_some_bytes (pieces_of text)

-- a comment has no token
tokens_of-hash : (b : ℕ) (bs : List ℕ) → is_hash b ≡ true → tokens_of (b ∷ bs) ≡ []
tokens_of-hash b bs e = ap words_of (text_of-cons b bs ∙ ap (λ v. cond v [] (b ∷ text_of bs)) e)

-- a line that begins with no `#` begins with its first byte
text_of-plain : (b : ℕ) (bs : List ℕ) → is_hash b ≡ false → text_of (b ∷ bs) ≡ b ∷ text_of bs
text_of-plain b bs e = text_of-cons b bs ∙ ap (λ v. cond v [] (b ∷ text_of bs)) e

-- a blank is no `#`
blank_no_hash : (b : ℕ) → is_blank b ≡ true → is_hash b ≡ false
blank_no_hash b e = grind (arith, nat_tests)

-- a blank before a line leaves its tokens
tokens_of-blank : (b : ℕ) (bs : List ℕ) → is_blank b ≡ true → tokens_of (b ∷ bs) ≡ tokens_of bs
tokens_of-blank b bs e =
    ap words_of (text_of-plain b bs (blank_no_hash b e))
    ∙ ap (λ v. filter is_some_bytes (cond v ([] ∷ pieces_of (text_of bs)) (onto_first b (pieces_of (text_of bs))))) e

-- how many bytes stand before the first that ends a token
abbrev pub token_len : List ℕ → ℕ
token_len text = position_or_len ends_token text

-- the first piece of a line's text is the bytes before the first that ends a token
record IsCut (line : List ℕ) : Type 0 where
  later : List (List ℕ)
  cut : pieces_of (text_of line) ≡ take (token_len line) line ∷ later
  rest : filter is_some_bytes later ≡ tokens_of (drop (token_len line) line)

-- a byte before a line: a blank or a `#` ends the first piece, and another byte belongs to it
IsCut-cons : (b : ℕ) (bs : List ℕ) (blank hash : Bool) → is_blank b ≡ blank → is_hash b ≡ hash → IsCut bs
    → IsCut (b ∷ bs)
IsCut-cons b bs true hash e f h =
    let ends : token_len (b ∷ bs) ≡ 0 = ap (λ v. cond (not (v || is_hash b)) (1 + token_len bs) 0) e in
    record {
      later = pieces_of (text_of bs);
      cut =
          ap pieces_of (text_of-plain b bs (blank_no_hash b e))
          ∙ ap (λ v. cond v ([] ∷ pieces_of (text_of bs)) (onto_first b (pieces_of (text_of bs)))) e
          ∙ ap (λ n. take n (b ∷ bs) ∷ pieces_of (text_of bs)) (sym ends);
      rest = sym (tokens_of-blank b bs e) ∙ ap (λ n. tokens_of (drop n (b ∷ bs))) (sym ends);
    }
IsCut-cons b bs false true e f h =
    let ends : token_len (b ∷ bs) ≡ 0 =
    ap (λ v. cond (not (v || is_hash b)) (1 + token_len bs) 0) e ∙ ap (λ v. cond (not v) (1 + token_len bs) 0) f in
    record {
      later = [];
      cut = ap pieces_of (text_of-cons b bs ∙ ap (λ v. cond v [] (b ∷ text_of bs)) f)
          ∙ ap (λ n. take n (b ∷ bs) ∷ []) (sym ends);
      rest = sym (tokens_of-hash b bs f) ∙ ap (λ n. tokens_of (drop n (b ∷ bs))) (sym ends);
    }
IsCut-cons b bs false false e f h =
    let goes : token_len (b ∷ bs) ≡ suc (token_len bs) =
    ap (λ v. cond (not (v || is_hash b)) (1 + token_len bs) 0) e ∙ ap (λ v. cond (not v) (1 + token_len bs) 0) f
    ∙ omega arith in
    record {
      later = h.later;
      cut =
          ap pieces_of (text_of-plain b bs f)
          ∙ ap (λ v. cond v ([] ∷ pieces_of (text_of bs)) (onto_first b (pieces_of (text_of bs)))) e
          ∙ ap (onto_first b) h.cut ∙ ap (λ n. take n (b ∷ bs) ∷ h.later) (sym goes);
      rest = h.rest ∙ ap (λ n. tokens_of (drop n (b ∷ bs))) (sym goes);
    }

-- each line is cut so
tokens-cut : (line : List ℕ) → IsCut line
tokens-cut [] = record { later = []; cut = refl; rest = refl }
tokens-cut (b ∷ bs) = IsCut-cons b bs (is_blank b) (is_hash b) refl refl (tokens-cut bs)

-- how many blanks a text begins with
abbrev pub blanks : List ℕ → ℕ
blanks text = position_or_len (λ b. not (is_blank b)) text

-- a line that begins with no blank
abbrev StartsPlain : List ℕ → Type 0
StartsPlain [] = Unit {0}
StartsPlain (b ∷ bs) = is_blank b ≡ false

-- a line without the blanks that it begins with
record IsTrimmed (line text : List ℕ) : Type 0 where
  plain : StartsPlain text
  tokens : tokens_of text ≡ tokens_of line

-- a blank before a line is left out, and another byte is the first
IsTrimmed-cons : (b : ℕ) (bs : List ℕ) (blank : Bool) → is_blank b ≡ blank → IsTrimmed bs (drop (blanks bs) bs)
    → IsTrimmed (b ∷ bs) (drop (cond (not (not blank)) (1 + blanks bs) 0) (b ∷ bs))
IsTrimmed-cons b bs true e h =
    let next : suc (blanks bs) ≡ 1 + blanks bs = omega arith in
    subst (λ n. IsTrimmed (b ∷ bs) (drop n (b ∷ bs))) next (record {
      plain = h.plain;
      tokens = h.tokens
          ∙ sym (tokens_of-blank b bs e);
    })
IsTrimmed-cons b bs false e h = record { plain = e; tokens = refl }

-- blanks before a line leave its tokens
trimmed : (line : List ℕ) → IsTrimmed line (drop (blanks line) line)
trimmed [] = record { plain = tt; tokens = refl }
trimmed (b ∷ bs) = IsTrimmed-cons b bs (is_blank b) refl (trimmed bs)

-- the first token of a line that begins with no blank, and the line behind it
record HasNext (text : List ℕ) : Type 0 where
  none : token_len text ≡ 0 → tokens_of text ≡ []
  some : token_len text ≢ 0 → tokens_of text ≡ take (token_len text) text ∷ tokens_of (drop (token_len text) text)

-- a line that begins with no blank has no token where it begins with a `#`, and else one
HasNext-cons : (b : ℕ) (bs : List ℕ) (hash : Bool) → is_blank b ≡ false → is_hash b ≡ hash → HasNext (b ∷ bs)
HasNext-cons b bs true e f =
    let ends : token_len (b ∷ bs) ≡ 0 =
    ap (λ v. cond (not (v || is_hash b)) (1 + token_len bs) 0) e ∙ ap (λ v. cond (not v) (1 + token_len bs) 0) f in
    record { none = λ h. tokens_of-hash b bs f; some = λ h. absurd (h ends) }
HasNext-cons b bs false e f =
    let goes : token_len (b ∷ bs) ≡ suc (token_len bs) =
    ap (λ v. cond (not (v || is_hash b)) (1 + token_len bs) 0) e ∙ ap (λ v. cond (not v) (1 + token_len bs) 0) f
    ∙ omega arith in
    let here = tokens-cut (b ∷ bs) in
    let cut = λ (n : ℕ). take n (b ∷ bs) in
    let kept : filter is_some_bytes (cut (token_len (b ∷ bs)) ∷ here.later)
    ≡ cut (token_len (b ∷ bs)) ∷ filter is_some_bytes here.later =
    ap (λ n. filter is_some_bytes (cut n ∷ here.later)) goes
    ∙ ap (λ n. cut n ∷ filter is_some_bytes here.later) (sym goes) in
    record {
      none = λ h. absurd (omega arith);
      some = λ h. ap (filter is_some_bytes) here.cut ∙ kept
          ∙ ap (λ rest. take (token_len (b ∷ bs)) (b ∷ bs) ∷ rest) here.rest;
    }

-- so it is for each line that begins with no blank
has_next : (text : List ℕ) → StartsPlain text → HasNext text
has_next [] h = record { none = λ e. refl; some = λ e. absurd (e refl) }
has_next (b ∷ bs) h = HasNext-cons b bs (is_hash b) h refl

-- a line that has only blanks before its end or its comment has no token
pub no_next : (line text : List ℕ) (n : ℕ) → text ≡ drop (blanks line) line → n ≡ token_len text → n ≡ 0
    → (tokens_of line ≡ []) × (tokens_of (drop n text) ≡ [])
no_next line text n t len e =
    let here = trimmed line in
    let none : tokens_of text ≡ [] = (has_next text (subst StartsPlain (sym t) here.plain)).none (sym len ∙ e) in
    (sym (ap tokens_of t ∙ here.tokens) ∙ none, ap (λ m. tokens_of (drop m text)) e ∙ none)

-- otherwise its first token stands before the first byte that ends one
pub next : (line text : List ℕ) (n : ℕ) → text ≡ drop (blanks line) line → n ≡ token_len text → n ≢ 0
    → tokens_of line ≡ take n text ∷ tokens_of (drop n text)
next line text n t len e =
    let here = trimmed line in
    let some = (has_next text (subst StartsPlain (sym t) here.plain)).some (λ z. e (len ∙ z)) in
    sym (ap tokens_of t ∙ here.tokens) ∙ some ∙ ap (λ m. take m text ∷ tokens_of (drop m text)) (sym len)
