-- Words where a stretch of others was put, or copied.
use Rattle.std.proofs.Common.{◌≡◌, ℕ, ◌+◌, ◌-◌, ◌≤◌, ◌<◌, List, [], ◌∷◌, ◌++◌, length, take, drop, slice_get}
use Rattle.std.proofs.Common.{slice_range, refl, sym, ◌∙◌, ap, arith, append_assoc, length-append, length-drop}
use Rattle.std.specs.Prelude.{replicate, slice_set, Some}
use Rattle.std.proofs.Math.Seq.{drop-set-lt}
use Rattle.std.proofs.lemmas.Grind.{take-set_at}
use Rattle.std.proofs.lemmas.List.{length-take-le, length-replicate, get_or-replicate}
use Rattle.std.proofs.lemmas.Option.{slice_get-get_or}
use Rattle.word_store.specs.Copies.{copied}
use Rattle.word_store.proofs.CopiedWords.{length-piece}
use Rattle.heap_model.proofs.CellWords.{slice_get-append_left, slice_get-append_right, slice_get-take, slice_get-drop}
use Rattle.write_barrier.specs.Values.{with_range}

-- there are as many words as before
pub length-with_range : (words others : List ℕ) (at : ℕ) → at + length others ≤ length words
    → length (with_range words at others) ≡ length words
length-with_range words others at within =
    let front = take at words ++ others in
    let behind = drop (at + length others) words in
    omega (
      arith,
      length-append front behind,
      length-append (take at words) others,
      length-take-le at words (omega arith),
      length-drop (at + length others) words,
    )

-- a word before the stretch stays
pub with_range_before : (words others : List ℕ) (at a : ℕ) → at ≤ length words → a < at
    → slice_get (with_range words at others) a ≡ slice_get words a
with_range_before words others at a within before =
    let long = length-take-le at words within in
    let front = take at words ++ others in
    slice_get-append_left front (drop (at + length others) words) a
    (omega (arith, before, long, length-append (take at words) others))
    ∙ slice_get-append_left (take at words) others a (omega (arith, before, long)) ∙ slice_get-take at words a before

-- in it stand the others
pub with_range_inside : (words others : List ℕ) (at k : ℕ) → at ≤ length words → k < length others
    → slice_get (with_range words at others) (at + k) ≡ slice_get others k
with_range_inside words others at k within below =
    let long = length-take-le at words within in
    let front = take at words ++ others in
    slice_get-append_left front (drop (at + length others) words) (at + k)
    (omega (arith, below, long, length-append (take at words) others))
    ∙ slice_get-append_right (take at words) others k (at + k) (omega (arith, long))

-- and a word behind it stays
pub with_range_behind : (words others : List ℕ) (at a : ℕ) → at ≤ length words → at + length others ≤ a
    → slice_get (with_range words at others) a ≡ slice_get words a
with_range_behind words others at a within behind =
    let long = length-take-le at words within in
    let front = take at words ++ others in
    let end : ℕ = at + length others in
    slice_get-append_right front (drop end words) (a - end) a
    (omega (arith, behind, long, length-append (take at words) others))
    ∙ slice_get-drop end words (a - end) a (omega (arith, behind))

-- a word that is put before a stretch is the first of a longer one
pub with_range-put : (words others : List ℕ) (at word : ℕ) → at < length words
    → with_range (slice_set words at word) (at + 1) others ≡ with_range words at (word ∷ others)
with_range-put words others at word within =
    let end : at + 1 + length others ≡ at + length (word ∷ others) = omega arith in
    ap (λ front. front ++ others ++ drop (at + 1 + length others) (slice_set words at word))
    (take-set_at words at (at + 1) word refl within)
    ∙ ap (λ behind. take at words ++ (word ∷ []) ++ others ++ behind)
    (drop-set-lt (at + 1 + length others) words at word (omega arith))
    ∙ ap (λ front. front ++ drop (at + 1 + length others) words) (append_assoc (take at words) (word ∷ []) others)
    ∙ ap (λ n. take at words ++ (word ∷ others) ++ drop n words) end

-- a copy puts the words of the other stretch
pub copied_is : (words : List ℕ) (from to count : ℕ) → from + count ≤ length words
    → copied words from to count ≡ with_range words to (slice_range words from (from + count))
copied_is words from to count within =
    let piece = slice_range words from (from + count) in
    ap (λ n. take to words ++ piece ++ drop (to + n) words) (sym (length-piece words from count within))

-- which are these
pub slice_get-slice_range : (words : List ℕ) (from count k : ℕ) → k < count
    → slice_get (slice_range words from (from + count)) k ≡ slice_get words (from + k)
slice_get-slice_range words from count k below =
    slice_get-take (from + count - from) (drop from words) k (omega (arith, below))
    ∙ slice_get-drop from words k (from + k) refl

-- where one word is put many times, it stands in the stretch
pub with_range_filled : (words : List ℕ) (at count word a : ℕ) → at ≤ length words → at ≤ a → a < at + count
    → slice_get (with_range words at (replicate count word)) a ≡ Some word
with_range_filled words at count word a within begins ends =
    let k : ℕ = a - at in
    let long = length-replicate count word in
    let below : k < count = omega (arith, begins, ends) in
    let there : k < length (replicate count word) = omega (arith, below, long) in
    ap (λ one. slice_get (with_range words at (replicate count word)) one) (omega (arith, begins))
    ∙ with_range_inside words (replicate count word) at k within there
    ∙ slice_get-get_or (replicate count word) k 0 there
    ∙ ap (λ one. Some one) (get_or-replicate count k word 0 below)
