-- Colours that are made white one after another.
use Rattle.std.proofs.Common.{◌≡◌, ℕ, zero, suc, [], ◌∷◌, refl, ap, ◌+◌, ◌<◌, List, ◌++◌, length, set, drop, replicate}
use Rattle.std.proofs.Common.{arith, rules}
use Rattle.std.proofs.lemmas.List.{places, same_lists}
use Rattle.shared_table.specs.Seats.{Side}

-- the first so many are white, and the others are as they were
abbrev pub white_to : ℕ → List ℕ → List ℕ
white_to i colours = replicate i 0 ++ drop i colours

-- what the main seat knows then
abbrev pub whitened_to : ℕ → Side → Side
whitened_to i side = record side { main = record side.main { colours = white_to i side.main.colours } }

-- one more is
pub white_more : (i : ℕ) (colours : List ℕ) → i < length colours
    → set (replicate i 0 ++ drop i colours) i 0 ≡ replicate (i + 1) 0 ++ drop (i + 1) colours
white_more i [] inside = absurd (omega arith)
white_more zero (x ∷ rest) inside = refl
white_more (suc i) (x ∷ rest) inside =
    let next : suc i + 1 ≡ suc (i + 1) = omega arith in
    rw next (ap (λ ys. 0 ∷ ys) (white_more i rest (omega arith)))

-- all are
pub white_all : (i : ℕ) (colours : List ℕ) → length colours ≡ i → replicate i 0 ++ drop i colours ≡ replicate i 0
white_all i colours long = same_lists _ _ (search (rules, places)) (λ k d h. grind (arith, places))
