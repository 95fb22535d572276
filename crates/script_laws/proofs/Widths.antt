-- The canonical form of a line is no longer than the line.
use Rattle.std.proofs.Common.{ℕ, suc, ◌+◌, ◌≤◌, true, false, cond, List, [], ◌∷◌, length, arith}
use Rattle.std.specs.List.{filter}
use Rattle.std.proofs.lemmas.List.{length-append}
use Rattle.script_text.specs.Lines.{onto_first, is_blank, is_some_bytes, pieces_of, text_of, tokens_of}
use Rattle.script_laws.specs.Canonical.{spaced_after, spaced}
use Rattle.script_text.proofs.Scanning.{text_of-cons, is_hash}

-- how many bytes the first of some pieces and the others after it take
abbrev after_first : List (List ℕ) → ℕ
after_first [] = 0
after_first (piece ∷ pieces) = length piece + length (spaced_after (filter is_some_bytes pieces))

-- a byte before the first piece takes one byte
after_first-onto_first : (b n : ℕ) (pieces : List (List ℕ)) → after_first pieces ≤ n
    → after_first (onto_first b pieces) ≤ suc n
after_first-onto_first b n [] h = omega arith
after_first-onto_first b n (piece ∷ pieces) h = omega (arith, h)

-- a blank leaves room for the space before the first piece
spaced_after-first : (n : ℕ) (pieces : List (List ℕ)) → after_first pieces ≤ n
    → length (spaced_after (filter is_some_bytes pieces)) ≤ suc n
spaced_after-first n [] h = omega arith
spaced_after-first n ([] ∷ pieces) h = omega (arith, h)
spaced_after-first n ((b ∷ bs) ∷ pieces) h =
    omega (arith, h, length-append (b ∷ bs) (spaced_after (filter is_some_bytes pieces)))

-- the pieces of a text, one space apart, take no more bytes than the text
after_first-pieces_of : (text : List ℕ) → after_first (pieces_of text) ≤ length text
after_first-pieces_of [] = omega arith
after_first-pieces_of (b ∷ bs) =
    let later = after_first-pieces_of bs in
    let blank : after_first ([] ∷ pieces_of bs) ≤ suc (length bs) =
    omega (arith, spaced_after-first (length bs) (pieces_of bs) later) in
    elim (is_blank b) as (λ v. after_first (cond v ([] ∷ pieces_of bs) (onto_first b (pieces_of bs))) ≤ suc (length bs))
    [ true ↦ blank | false ↦ after_first-onto_first b (length bs) (pieces_of bs) later ]

-- the first word needs no space before it
spaced-le : (words : List (List ℕ)) → length (spaced words) ≤ length (spaced_after words)
spaced-le [] = omega arith
spaced-le (word ∷ words) = omega arith

-- words one space apart take no more than the first piece and the others after it
spaced-first : (pieces : List (List ℕ)) → length (spaced (filter is_some_bytes pieces)) ≤ after_first pieces
spaced-first [] = omega arith
spaced-first ([] ∷ pieces) = omega (arith, spaced-le (filter is_some_bytes pieces))
spaced-first ((b ∷ bs) ∷ pieces) = omega (arith, length-append (b ∷ bs) (spaced_after (filter is_some_bytes pieces)))

-- a text is no longer than its line
length-text_of : (line : List ℕ) → length (text_of line) ≤ length line
length-text_of [] = omega arith
length-text_of (b ∷ bs) =
    let later = length-text_of bs in
    rw (text_of-cons b bs) (elim (is_hash b) as (λ v. length (cond v [] (b ∷ text_of bs)) ≤ length (b ∷ bs))
    [ true ↦ omega arith | false ↦ omega (arith, later) ])

-- the canonical form of a line is no longer than the line
pub length-spaced : (line : List ℕ) → length (spaced (tokens_of line)) ≤ length line
length-spaced line =
    omega (arith, spaced-first (pieces_of (text_of line)), after_first-pieces_of (text_of line), length-text_of line)
