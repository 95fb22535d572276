-- What stands where after a copy.
use Rattle.std.proofs.Common.{◌≡◌, ℕ, ◌+◌, ◌-◌, ◌<◌, ◌≤◌, List, length, get_or, slice_range, set, sym}
use Rattle.std.proofs.Common.{subst, ◌∙◌, inl, inr, arith, rules, ⊎_elim, slice_get, Some}
use Rattle.std.proofs.lemmas.Bool.{cases_lt}
use Rattle.std.proofs.lemmas.Option.{get_or_from_slice_get}
use Rattle.std.proofs.lemmas.List.{places, same_lists, ext_get_or, length-set, get_or-set_same, get_or-set_other}
use Rattle.word_store.specs.Copies.{AreDisjoint, copied}

-- the copied stretch is as long as it should be
pub length-piece : (words : List ℕ) (from count : ℕ) → from + count ≤ length words →
    length (slice_range words from (from + count)) ≡ count
length-piece words from count within = search (rules, places)

-- a copy keeps the number of words
pub length-copied : (words : List ℕ) (from to count : ℕ) → from + count ≤ length words → to + count ≤ length words →
    length (copied words from to count) ≡ length words
length-copied words from to count within room = search (rules, places)

-- before the copy each word is as it was
pub get_or-copied_before : (words : List ℕ) (from to count a d : ℕ) → from + count ≤ length words →
    to + count ≤ length words → a < to → get_or (copied words from to count) a d ≡ get_or words a d
get_or-copied_before words from to count a d within room below = search (rules, places)

-- in the copy stand the words that were copied
pub get_or-copied : (words : List ℕ) (from to count k d : ℕ) → from + count ≤ length words →
    to + count ≤ length words → k < count → get_or (copied words from to count) (to + k) d ≡ get_or words (from + k) d
get_or-copied words from to count k d within room below = search (rules, places)

-- behind the copy each word is as it was
pub get_or-copied_behind : (words : List ℕ) (from to count a d : ℕ) → from + count ≤ length words →
    to + count ≤ length words → to + count ≤ a → get_or (copied words from to count) a d ≡ get_or words a d
get_or-copied_behind words from to count a d within room above = search (rules, places)

-- a copy of no words leaves all as it was
pub copied_none : (words : List ℕ) (from to : ℕ) → to ≤ length words → words ≡ copied words from to 0
copied_none words from to room =
    same_lists _ _ (search (rules, places)) (λ k d h. grind (arith, places))

-- after a copy of the first so many words the next of them still stands where it stood
pub get_or-copied_next : (words : List ℕ) (from to count i d : ℕ) → from + count ≤ length words →
    to + count ≤ length words → AreDisjoint from to count → i < count →
    get_or (copied words from to i) (from + i) d ≡ get_or words (from + i) d
get_or-copied_next words from to count i d within room (inl before) below =
    get_or-copied_before words from to i (from + i) d (omega arith) (omega arith) (omega arith)
get_or-copied_next words from to count i d within room (inr behind) below =
    get_or-copied_behind words from to i (from + i) d (omega arith) (omega arith) (omega arith)

-- so the word that is read there is the one that stood there
pub slice_get-copied_next : (words : List ℕ) (from to count i word : ℕ) → from + count ≤ length words →
    to + count ≤ length words → AreDisjoint from to count → i < count →
    slice_get (copied words from to i) (from + i) ≡ Some word → get_or words (from + i) 0 ≡ word
slice_get-copied_next words from to count i word within room apart below read =
    sym (get_or-copied_next words from to count i 0 within room apart below)
    ∙ get_or_from_slice_get (copied words from to i) (from + i) word 0 read

-- one word more is copied: before the copy nothing changes
more_before : (words : List ℕ) (from to count i word k d : ℕ) → from + count ≤ length words →
    to + count ≤ length words → i < count → k < to →
    get_or (set (copied words from to i) (to + i) word) k d ≡ get_or (copied words from to (i + 1)) k d
more_before words from to count i word k d within room below here =
    get_or-set_other (copied words from to i) (to + i) k word d (λ same. omega (arith, same))
    ∙ get_or-copied_before words from to i k d (omega arith) (omega arith) here
    ∙ sym (get_or-copied_before words from to (i + 1) k d (omega arith) (omega arith) here)

-- in the copy nothing changes
more_within : (words : List ℕ) (from to count i word k d : ℕ) → from + count ≤ length words →
    to + count ≤ length words → i < count → k < i →
    get_or (set (copied words from to i) (to + i) word) (to + k) d ≡ get_or (copied words from to (i + 1)) (to + k) d
more_within words from to count i word k d within room below here =
    get_or-set_other (copied words from to i) (to + i) (to + k) word d (λ same. omega (arith, same))
    ∙ get_or-copied words from to i k d (omega arith) (omega arith) here
    ∙ sym (get_or-copied words from to (i + 1) k d (omega arith) (omega arith) (omega arith))

-- where the word is put, the next copied word stands
more_at : (words : List ℕ) (from to count i word d : ℕ) → from + count ≤ length words →
    to + count ≤ length words → i < count → get_or words (from + i) d ≡ word →
    get_or (set (copied words from to i) (to + i) word) (to + i) d ≡ get_or (copied words from to (i + 1)) (to + i) d
more_at words from to count i word d within room below read =
    get_or-set_same (copied words from to i) (to + i) word d
    (omega (arith, length-copied words from to i (omega arith) (omega arith)))
    ∙ sym read
    ∙ sym (get_or-copied words from to (i + 1) i d (omega arith) (omega arith) (omega arith))

-- behind it nothing changes
more_behind : (words : List ℕ) (from to count i word k d : ℕ) → from + count ≤ length words →
    to + count ≤ length words → i < count → to + i < k →
    get_or (set (copied words from to i) (to + i) word) k d ≡ get_or (copied words from to (i + 1)) k d
more_behind words from to count i word k d within room below here =
    get_or-set_other (copied words from to i) (to + i) k word d (λ same. omega (arith, same))
    ∙ get_or-copied_behind words from to i k d (omega arith) (omega arith) (omega arith)
    ∙ sym (get_or-copied_behind words from to (i + 1) k d (omega arith) (omega arith) (omega arith))

-- so it is at each address
more : (words : List ℕ) (from to count i word d : ℕ) → from + count ≤ length words →
    to + count ≤ length words → i < count → get_or words (from + i) d ≡ word → (k : ℕ) →
    get_or (set (copied words from to i) (to + i) word) k d ≡ get_or (copied words from to (i + 1)) k d
more words from to count i word d within room below read k =
    ⊎_elim (λ here. more_before words from to count i word k d within room below here)
    (λ from_here. ⊎_elim
    (λ here. let place : to + (k - to) ≡ k = omega arith in
    let inside : k - to < i = omega arith in
    rw place at (more_within words from to count i word (k - to) d within room below inside))
    (λ not_before. ⊎_elim
    (λ here. more_behind words from to count i word k d within room below here)
    (λ not_behind. let place : to + i ≡ k = omega arith in
    let P : ℕ → Type 0 = λ q. get_or (set (copied words from to i) (to + i) word) q d
    ≡ get_or (copied words from to (i + 1)) q d in
    subst P place (more_at words from to count i word d within room below read))
    (cases_lt (to + i) k))
    (cases_lt k (to + i)))
    (cases_lt k to)

-- one word more is copied
pub copied_more : (words : List ℕ) (from to count i word : ℕ) → from + count ≤ length words →
    to + count ≤ length words → i < count → get_or words (from + i) 0 ≡ word →
    set (copied words from to i) (to + i) word ≡ copied words from to (i + 1)
copied_more words from to count i word within room below read =
    let len : length (copied words from to i) ≡ length words =
    length-copied words from to i (omega arith) (omega arith) in
    let len_more : length (copied words from to (i + 1)) ≡ length words =
    length-copied words from to (i + 1) (omega arith) (omega arith) in
    ext_get_or 0 _ _ (length-set (copied words from to i) (to + i) word ∙ len ∙ sym len_more)
    (λ k inside. more words from to count i word 0 within room below read k)
