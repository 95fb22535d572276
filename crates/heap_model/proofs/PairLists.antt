-- Lists of pairs by the words that they are made of, and the pair that is free.
use Rattle.std.proofs.Common.{◌≡◌, ℕ, ◌/◌, List, [], ◌∷◌, length, false, refl, sym, ◌∙◌, ap, arith}
use Rattle.std.proofs.lemmas.Bool.{false≢true}
use Rattle.heap_model.specs.Kinds.{Pair, pairs_in, free_pair, is_free_pair}

-- there are half as many pairs as words
pub length-pairs_in : (words : List ℕ) → length (pairs_in words) ≡ length words / 2
length-pairs_in [] = refl
length-pairs_in (key ∷ []) = omega arith
length-pairs_in (key ∷ value ∷ words) = omega (arith, length-pairs_in words)

-- a pair that is tested not to be free is not the free one
pub not_free : (pair : Pair) → is_free_pair pair ≡ false → pair ≡ free_pair → ⊥
not_free pair is same = false≢true (sym is ∙ ap is_free_pair same)
