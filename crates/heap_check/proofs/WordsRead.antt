-- Words that were read from an image, as the words of its heap.
use Rattle.std.proofs.Common.{◌≡◌, ℕ, ◌<◌, List, Some, length, slice_get, get_or, sym, ◌∙◌, ap}
use Rattle.std.proofs.lemmas.Option.{slice_get-get_or}

-- what was read at a place is the word there
pub read_at : (words read : List ℕ) (at place : ℕ) → read ≡ words → place ≡ at → place < length read
    → slice_get words at ≡ Some (get_or read place 0)
read_at words read at place same here within =
    ap (λ (all : List ℕ). slice_get all at) (sym same)
    ∙ ap (λ (one : ℕ). slice_get read one) (sym here)
    ∙ slice_get-get_or read place 0 within
