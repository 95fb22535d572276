-- Which pairs hold something, once others were put or made free.
use Rattle.std.proofs.Common.{◌≡◌, ◌≢◌, ℕ, Bool, true, false, List, Some, slice_get, sym}
use Rattle.std.proofs.Common.{◌∙◌, ap, subst}
use Rattle.std.specs.Prelude.{slice_set}
use Rattle.std.proofs.lemmas.Option.{same_Some}
use Rattle.object_graph.proofs.Lists.{slice_get-set_other}
use Rattle.heap_model.specs.Kinds.{Pair, free_pair}
use Rattle.weak_pairs.specs.Pairs.{IsFilledAt}
use Rattle.weak_pairs.proofs.PairsPut.{at_place}

-- a place that is free is not filled
pub free_not_filled : (pairs : List Pair) (at : ℕ) (pair : Pair) → slice_get pairs at ≡ Some free_pair
    → IsFilledAt pairs at pair → ⊥
free_not_filled pairs at pair free filled = filled.filled (same_Some pair free_pair (sym filled.stands ∙ free))

-- a place that was made free is not filled
pub freed_not_filled : (pairs : List Pair) (at : ℕ) (pair : Pair) → IsFilledAt (slice_set pairs at free_pair) at pair
    → ⊥
freed_not_filled pairs at pair filled = filled.filled (sym (at_place pairs at free_pair pair filled.stands))

-- a place that is filled is not the one that was made free
pub filled_apart : (pairs : List Pair) (hole at : ℕ) (pair : Pair) → IsFilledAt (slice_set pairs hole free_pair) at pair
    → at ≢ hole
filled_apart pairs hole at pair filled same =
    freed_not_filled pairs hole pair (subst (λ n. IsFilledAt (slice_set pairs hole free_pair) n pair) same filled)

-- what is filled elsewhere is so whatever is put
pub filled_elsewhere : (pairs : List Pair) (hole at : ℕ) (put pair : Pair) → at ≢ hole
    → IsFilledAt (slice_set pairs hole put) at pair → IsFilledAt pairs at pair
filled_elsewhere pairs hole at put pair apart filled =
    record { stands = sym (slice_get-set_other pairs hole at put apart) ∙ filled.stands; filled = filled.filled }

-- what was filled elsewhere is so still
pub still_filled : (pairs : List Pair) (hole at : ℕ) (put pair : Pair) → at ≢ hole → IsFilledAt pairs at pair
    → IsFilledAt (slice_set pairs hole put) at pair
still_filled pairs hole at put pair apart filled =
    record { stands = slice_get-set_other pairs hole at put apart ∙ filled.stands; filled = filled.filled }

-- one place holds one pair
pub same_filled : (pairs : List Pair) (at other : ℕ) (pair another : Pair) → at ≡ other → IsFilledAt pairs at pair
    → IsFilledAt pairs other another → pair ≡ another
same_filled pairs at other pair another same one two =
    same_Some pair another (sym one.stands ∙ ap (slice_get pairs) same ∙ two.stands)

-- the one place or the other, by a test
abbrev pub origin_by : Bool → ℕ → ℕ → ℕ
origin_by true here there = here
origin_by false here there = there
