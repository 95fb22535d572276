-- Words that are put in a list, one after another.
use Rattle.std.proofs.Common.{◌≡◌, ℕ, zero, suc, [], ◌∷◌, refl, ap, ◌+◌, ◌<◌, List, ◌++◌, length, set, take, drop}
use Rattle.std.proofs.Common.{get_or, arith}
use Rattle.shared_table.specs.Seats.{Side}

-- the first so many are those of a list, and the others are as they were
abbrev pub filled_to : ℕ → List ℕ → List ℕ → List ℕ
filled_to i words before = take i words ++ drop i before

-- what the main seat knows then, of words of the pages and of layout words
abbrev pub with_words : ℕ → List ℕ → Side → Side
with_words i words side = record side { main = record side.main { words = filled_to i words side.main.words } }

-- the same of layout words
abbrev pub with_layouts : ℕ → List ℕ → Side → Side
with_layouts i words side = record side { main = record side.main { layouts = filled_to i words side.main.layouts } }

-- one more is put
pub filled_more : (i : ℕ) (words before : List ℕ) (word : ℕ) → word ≡ get_or words i 0 → i < length words
    → length words ≡ length before
    → set (take i words ++ drop i before) i word ≡ take (i + 1) words ++ drop (i + 1) before
filled_more i [] before word is inside same = absurd (omega (arith, inside))
filled_more i (x ∷ words) [] word is inside same = absurd (omega (arith, same))
filled_more zero (x ∷ words) (y ∷ before) word is inside same = ap (λ (z : ℕ). z ∷ before) is
filled_more (suc i) (x ∷ words) (y ∷ before) word is inside same =
    let next : suc i + 1 ≡ suc (i + 1) = omega arith in
    rw next (ap (λ (ys : List ℕ). x ∷ ys) (filled_more i words before word is (omega (arith, inside)) (omega (
      arith,
      same,
    ))))

-- all are
pub filled_all : (words before : List ℕ) → length words ≡ length before
    → take (length words) words ++ drop (length words) before ≡ words
filled_all [] [] same = refl
filled_all [] (y ∷ before) same = absurd (omega (arith, same))
filled_all (x ∷ words) [] same = absurd (omega (arith, same))
filled_all (x ∷ words) (y ∷ before) same = ap (λ (ys : List ℕ). x ∷ ys) (filled_all words before (omega (arith, same)))

-- there are as many as before
pub length-filled : (i : ℕ) (words before : List ℕ) → length words ≡ length before
    → length (take i words ++ drop i before) ≡ length before
length-filled zero words before same = refl
length-filled (suc i) [] [] same = refl
length-filled (suc i) [] (y ∷ before) same = absurd (omega (arith, same))
length-filled (suc i) (x ∷ words) [] same = absurd (omega (arith, same))
length-filled (suc i) (x ∷ words) (y ∷ before) same =
    omega (arith, length-filled i words before (omega (arith, same)))
