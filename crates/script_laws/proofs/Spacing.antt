-- Words that stand one space apart are the tokens of their line.
use Rattle.std.proofs.Common.{◌≡◌, ℕ, Bool, true, false, cond, eqb, List, [], ◌∷◌, ◌++◌, refl, ap, ◌∙◌}
use Rattle.std.specs.List.{filter}
use Rattle.std.proofs.lemmas.List.{append-nil}
use Rattle.script_text.specs.Lines.{onto_first, is_blank, is_some_bytes, pieces_of, text_of, tokens_of}
use Rattle.script_text.proofs.Scanning.{is_hash, text_of-cons}
use Rattle.script_laws.specs.Canonical.{spaced_after, spaced}

-- no byte passes the test
abbrev pub Avoids : (ℕ → Bool) → List ℕ → Type 0
Avoids p [] = Unit {0}
Avoids p (b ∷ bs) = (p b ≡ false) × Avoids p bs

-- no byte of the words passes the test
abbrev pub AllAvoid : (ℕ → Bool) → List (List ℕ) → Type 0
AllAvoid p [] = Unit {0}
AllAvoid p (word ∷ words) = Avoids p word × AllAvoid p words

-- no word is empty
abbrev pub AllSome : List (List ℕ) → Type 0
AllSome [] = Unit {0}
AllSome (word ∷ words) = (is_some_bytes word ≡ true) × AllSome words

-- a line feed
abbrev pub is_feed : ℕ → Bool
is_feed b = eqb b 10

-- two texts joined have only the bytes of either
Avoids-append : (p : ℕ → Bool) (xs ys : List ℕ) → Avoids p xs → Avoids p ys → Avoids p (xs ++ ys)
Avoids-append p [] ys h k = k
Avoids-append p (x ∷ xs) ys h k = (h.0, Avoids-append p xs ys h.1 k)

-- each word after a space has only a space more
Avoids-spaced_after : (p : ℕ → Bool) (words : List (List ℕ)) → p 32 ≡ false → AllAvoid p words
    → Avoids p (spaced_after words)
Avoids-spaced_after p [] space h = tt
Avoids-spaced_after p (word ∷ words) space h =
    (space, Avoids-append p word (spaced_after words) h.0 (Avoids-spaced_after p words space h.1))

-- what no word has is not in the line, where a space isn't such a byte
pub Avoids-spaced : (p : ℕ → Bool) (words : List (List ℕ)) → p 32 ≡ false → AllAvoid p words
    → Avoids p (spaced words)
Avoids-spaced p [] space h = tt
Avoids-spaced p (word ∷ words) space h =
    Avoids-append p word (spaced_after words) h.0 (Avoids-spaced_after p words space h.1)

-- a word and what follows it are cut like what follows it
pieces_of-word : (word rest first : List ℕ) (more : List (List ℕ)) → Avoids is_blank word
    → pieces_of rest ≡ first ∷ more → pieces_of (word ++ rest) ≡ (word ++ first) ∷ more
pieces_of-word [] rest first more h e = e
pieces_of-word (b ∷ bs) rest first more h e =
    ap (λ v. cond v ([] ∷ pieces_of (bs ++ rest)) (onto_first b (pieces_of (bs ++ rest)))) h.0
    ∙ ap (onto_first b) (pieces_of-word bs rest first more h.1 e)

-- words that each stand after a space are cut into themselves, after an empty piece
pieces_of-spaced_after : (words : List (List ℕ)) → AllAvoid is_blank words → pieces_of (spaced_after words) ≡ [] ∷ words
pieces_of-spaced_after [] h = refl
pieces_of-spaced_after (word ∷ words) h =
    ap (λ rest. [] ∷ rest) (pieces_of-word word (spaced_after words) [] words h.0 (pieces_of-spaced_after words h.1)
    ∙ ap (λ w. w ∷ words) (append-nil word))

-- words that are not empty all stay
filter-AllSome : (words : List (List ℕ)) → AllSome words → filter is_some_bytes words ≡ words
filter-AllSome [] h = refl
filter-AllSome (word ∷ words) h =
    ap (λ v. cond v (word ∷ filter is_some_bytes words) (filter is_some_bytes words)) h.0
    ∙ ap (λ rest. word ∷ rest) (filter-AllSome words h.1)

-- words one space apart are the pieces of their line that are not empty
filter-pieces_of-spaced : (words : List (List ℕ)) → AllAvoid is_blank words → AllSome words
    → filter is_some_bytes (pieces_of (spaced words)) ≡ words
filter-pieces_of-spaced [] h some = refl
filter-pieces_of-spaced (word ∷ words) h some =
    ap (filter is_some_bytes) (pieces_of-word word (spaced_after words) [] words h.0 (pieces_of-spaced_after words h.1)
    ∙ ap (λ w. w ∷ words) (append-nil word))
    ∙ filter-AllSome (word ∷ words) some

-- a line with no `#` is its own text
text_of-Avoids : (line : List ℕ) → Avoids is_hash line → text_of line ≡ line
text_of-Avoids [] h = refl
text_of-Avoids (b ∷ bs) h =
    text_of-cons b bs ∙ ap (λ v. cond v [] (b ∷ text_of bs)) h.0 ∙ ap (λ rest. b ∷ rest) (text_of-Avoids bs h.1)

-- words one space apart are the tokens of their line
pub tokens_of-spaced : (words : List (List ℕ)) → AllAvoid is_blank words → AllAvoid is_hash words → AllSome words
    → tokens_of (spaced words) ≡ words
tokens_of-spaced words blank hash some =
    ap (λ text. filter is_some_bytes (pieces_of text))
    (text_of-Avoids (spaced words) (Avoids-spaced is_hash words refl hash))
    ∙ filter-pieces_of-spaced words blank some

-- a text has only bytes of its line
Avoids-text_of : (p : ℕ → Bool) (line : List ℕ) → Avoids p line → Avoids p (text_of line)
Avoids-text_of p [] h = tt
Avoids-text_of p (b ∷ bs) h =
    let later = Avoids-text_of p bs h.1 in
    rw (text_of-cons b bs)
    (elim (is_hash b) as (λ v. Avoids p (cond v [] (b ∷ text_of bs))) [ true ↦ tt | false ↦ (h.0, later) ])

-- a byte that ends the text where it passes the test, and else begins it
test-Avoids : (p : ℕ → Bool) (b : ℕ) (v : Bool) (rest : List ℕ) → p b ≡ v → Avoids p rest
    → Avoids p (cond v [] (b ∷ rest))
test-Avoids p b true rest e h = tt
test-Avoids p b false rest e h = (e, h)

-- a text has no `#`
hash-text_of : (line : List ℕ) → Avoids is_hash (text_of line)
hash-text_of [] = tt
hash-text_of (b ∷ bs) = rw (text_of-cons b bs) (test-Avoids is_hash b (is_hash b) (text_of bs) refl (hash-text_of bs))

-- a byte before the first piece adds only itself
pub AllAvoid-onto_first : (p : ℕ → Bool) (b : ℕ) (pieces : List (List ℕ)) → p b ≡ false → AllAvoid p pieces
    → AllAvoid p (onto_first b pieces)
AllAvoid-onto_first p b [] e h = ((e, tt), tt)
AllAvoid-onto_first p b (piece ∷ pieces) e h = ((e, h.0), h.1)

-- a piece has only bytes of the text
AllAvoid-pieces_of : (p : ℕ → Bool) (text : List ℕ) → Avoids p text → AllAvoid p (pieces_of text)
AllAvoid-pieces_of p [] h = (tt, tt)
AllAvoid-pieces_of p (b ∷ bs) h =
    let later = AllAvoid-pieces_of p bs h.1 in
    elim (is_blank b) as (λ v. AllAvoid p (cond v ([] ∷ pieces_of bs) (onto_first b (pieces_of bs))))
    [ true ↦ (tt, later) | false ↦ AllAvoid-onto_first p b (pieces_of bs) h.0 later ]

-- a blank ends a piece, and any other byte belongs to one
blank-test : (b : ℕ) (v : Bool) (pieces : List (List ℕ)) → is_blank b ≡ v → AllAvoid is_blank pieces
    → AllAvoid is_blank (cond v ([] ∷ pieces) (onto_first b pieces))
blank-test b true pieces e h = (tt, h)
blank-test b false pieces e h = AllAvoid-onto_first is_blank b pieces e h

-- a piece has no blank
blank-pieces_of : (text : List ℕ) → AllAvoid is_blank (pieces_of text)
blank-pieces_of [] = (tt, tt)
blank-pieces_of (b ∷ bs) = blank-test b (is_blank b) (pieces_of bs) refl (blank-pieces_of bs)

-- the pieces that stay have only the bytes of all
AllAvoid-filter : (p : ℕ → Bool) (words : List (List ℕ)) → AllAvoid p words → AllAvoid p (filter is_some_bytes words)
AllAvoid-filter p [] h = tt
AllAvoid-filter p (word ∷ words) h =
    let later = AllAvoid-filter p words h.1 in
    elim (is_some_bytes word) as
    (λ v. AllAvoid p (cond v (word ∷ filter is_some_bytes words) (filter is_some_bytes words)))
    [ true ↦ (h.0, later) | false ↦ later ]

-- a piece that stays is not empty
some-test : (word : List ℕ) (v : Bool) (words : List (List ℕ)) → is_some_bytes word ≡ v → AllSome words
    → AllSome (cond v (word ∷ words) words)
some-test word true words e h = (e, h)
some-test word false words e h = h

-- no piece that stays is empty
AllSome-filter : (words : List (List ℕ)) → AllSome (filter is_some_bytes words)
AllSome-filter [] = tt
AllSome-filter (word ∷ words) =
    some-test word (is_some_bytes word) (filter is_some_bytes words) refl (AllSome-filter words)

-- a token has only bytes of its line
pub AllAvoid-tokens_of : (p : ℕ → Bool) (line : List ℕ) → Avoids p line → AllAvoid p (tokens_of line)
AllAvoid-tokens_of p line h =
    AllAvoid-filter p (pieces_of (text_of line)) (AllAvoid-pieces_of p (text_of line) (Avoids-text_of p line h))

-- the tokens of a line are those of its canonical form
pub tokens_of-again : (line : List ℕ) → tokens_of (spaced (tokens_of line)) ≡ tokens_of line
tokens_of-again line =
    let pieces = pieces_of (text_of line) in
    tokens_of-spaced (tokens_of line) (AllAvoid-filter is_blank pieces (blank-pieces_of (text_of line)))
    (AllAvoid-filter is_hash pieces
    (AllAvoid-pieces_of is_hash (text_of line) (hash-text_of line))) (AllSome-filter pieces)
