-- The elements of a list by their places: what holds of each, what a search finds, and the values of a function.
use Rattle.std.proofs.Common.{◌≡◌, ℕ, ◌<◌, ◌≤◌, ◌↔◌, Bool, List, map, length, Contains, Some, slice_get, get_or}
use Rattle.std.proofs.Common.{nat_eq, IsTrue, ◌∙◌, ap, arith}
use Rattle.std.proofs.lemmas.Option.{slice_get-get_or}
use Rattle.std.specs.List.{IsAnyAnswer}
use Rattle.std.proofs.lemmas.Bool.Decides.{Decides-eqb}
use Rattle.std.proofs.lemmas.List.{get_or_default, get_or-map, length-map}
use Rattle.std.proofs.lemmas.List.Elements.{contains_decides}

-- what holds at each place of a list holds of each element
pub each_listed : {X : Type 0} (xs : List X) (P : X → Type 0) (end : ℕ) → length xs ≤ end
    → ((k : ℕ) → k < end → (x : X) → slice_get xs k ≡ Some x → P x) → (x : X) → Contains xs x → P x
each_listed xs P end past before x there =
    before there.0 (omega (arith, there.1, past)) x
    (slice_get-get_or xs there.0 x there.1 ∙ ap (λ y. Some y) there.2)

-- a search in a list of numbers finds one exactly where it is an element
pub found_where_listed : (xs : List ℕ) (x : ℕ) (found : Bool) → IsAnyAnswer (λ y t. nat_eq y x ≡ t) xs found
    → IsTrue found ↔ Contains xs x
found_where_listed xs x found answer =
    let decides = contains_decides nat_eq (λ a b. Decides-eqb a b) xs x found answer in (
      λ yes. let at = decides.0 yes in (at.0, at.1, at.2 x),
      λ there. decides.1 (there.0, there.1, λ d. get_or_default xs there.0 d x there.1 ∙ there.2),
    )

-- the value of a function at an item of a list is the item there of its values
pub value_at : {X Y : Type 0} (f : X → Y) (xs : List X) (k : ℕ) (d : X) → k < length xs
    → slice_get (map f xs) k ≡ Some (f (get_or xs k d))
value_at f xs k d within =
    slice_get-get_or (map f xs) k (f d) (omega (arith, within, length-map xs f)) ∙ ap (λ y. Some y)
    (get_or-map f xs k d (f d) within)
