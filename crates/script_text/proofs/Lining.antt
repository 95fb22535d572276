-- The lines of statements, one statement after another.
use Rattle.std.proofs.Common.{◌≡◌, ℕ, ◌+◌, ◌<◌, List, [], ◌∷◌, length, drop, get_or}
use Rattle.std.proofs.Common.{slice_get, unwrap_or, add-one, drop-cons, refl}
use Rattle.script_text.specs.Grammar.{innermost_of}

-- the top of a stack, or the first place
pub unwrap_or-innermost : (open' : List ℕ) → unwrap_or (slice_get open' 0) 0 ≡ innermost_of open'
unwrap_or-innermost [] = refl
unwrap_or-innermost (innermost ∷ outer) = refl

-- the items from one on
pub drop-index : {X : Type 0} (xs : List X) (i : ℕ) (d : X) → i < length xs
    → drop i xs ≡ get_or xs i d ∷ drop (i + 1) xs
drop-index xs i d lt = rw add-one (drop-cons xs i d lt)
