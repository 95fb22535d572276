-- Lists that go by keys, by the place of the first item of a key.
use Rattle.std.proofs.Common.{◌≡◌, ◌==◌, ◌∙◌, sym, ap, refl, ℕ, suc, ◌+◌, Bool, true, false, not, cond}
use Rattle.std.proofs.Common.{nat_lt, arith, List, [], ◌∷◌, ◌++◌, length, get_or, set, Option, Some, None}
use Rattle.std.specs.Prelude.{if◌then◌else◌, option_map}
use Rattle.std.specs.List.{position, position_or_len, remove}
use Rattle.std.proofs.lemmas.Bool.Decides.{nat_tests}
use Rattle.object_graph.specs.declared.value.Value.{Value}
use Rattle.ideal_parts.specs.Keyings.{Keying, GoesByKeys}

-- whether the item has this key
abbrev pub has_key : {Item : Type 0} → Keying Item → ℕ → Item → Bool
has_key k key item = k.key item == key

-- what is read of the item at a place; nothing where there is no place
abbrev pub value_at : {Item : Type 0} → Keying Item → List Item → Item → Option ℕ → Option Value
value_at k items d None = None
value_at k items d (Some place) = Some (k.value (get_or items place d))

-- the items with another value at a place; with one item more where there is no place
abbrev pub with_value_at : {Item : Type 0} → Keying Item → List Item → ℕ → Value → Item → Option ℕ → List Item
with_value_at k items key value d None = items ++ k.made key value ∷ []
with_value_at k items key value d (Some place) = set items place (k.revalued (get_or items place d) value)

-- the items without the one at a place
abbrev pub without_at : {Item : Type 0} → List Item → Option ℕ → List Item
without_at items None = items
without_at items (Some place) = remove items place

-- a place in a longer list is one further on
place_later : (m n : ℕ)
    → cond (nat_lt (1 + m) (suc n)) (Some (1 + m)) None ≡ option_map suc (cond (nat_lt m n) (Some m) None)
place_later m n = grind (arith, nat_tests)

-- the first place of an item that passes, by whether the first item does
place_first : (here : Bool) (m n : ℕ)
    → cond (nat_lt (cond (not here) (1 + m) 0) (suc n)) (Some (cond (not here) (1 + m) 0)) None
    ≡ (if here then Some 0 else option_map suc (cond (nat_lt m n) (Some m) None))
place_first true m n = grind (arith, nat_tests)
place_first false m n = place_later m n

-- the first place in a longer list is the first one, or a later one
position-cons : {A : Type 0} (p : A → Bool) (x : A) (xs : List A)
    → position p (x ∷ xs) ≡ (if p x then Some 0 else option_map suc (position p xs))
position-cons p x xs = place_first (p x) (position_or_len p xs) (length xs)

-- what is read of a longer list, by whether its first item has the key
value_first : {Item : Type 0} (k : Keying Item) (here : Bool) (item : Item) (items : List Item)
    (d : Item) (at : Option ℕ)
    → (if here then Some (k.value item) else value_at k items d at)
    ≡ value_at k (item ∷ items) d (if here then Some 0 else option_map suc at)
value_first k true item items d at = refl
value_first k false item items d None = refl
value_first k false item items d (Some place) = refl

-- what is changed in a longer list, by whether its first item has the key
with_value_first : {Item : Type 0} (k : Keying Item) (here : Bool) (item : Item) (items : List Item) (key : ℕ)
    (value : Value) (d : Item) (at : Option ℕ)
    → (if here then k.revalued item value ∷ items else item ∷ with_value_at k items key value d at)
    ≡ with_value_at k (item ∷ items) key value d (if here then Some 0 else option_map suc at)
with_value_first k true item items key value d at = refl
with_value_first k false item items key value d None = refl
with_value_first k false item items key value d (Some place) = refl

-- what is cut from a longer list, by whether its first item has the key
without_first : {Item : Type 0} (here : Bool) (item : Item) (items : List Item) (at : Option ℕ)
    → (if here then items else item ∷ without_at items at)
    ≡ without_at (item ∷ items) (if here then Some 0 else option_map suc at)
without_first true item items at = refl
without_first false item items None = refl
without_first false item items (Some place) = refl

-- the value of a key stands at its first place
pub value_under-position : {Item : Type 0} (k : Keying Item) → GoesByKeys k → (items : List Item) (key : ℕ) (d : Item)
    → k.value_under items key ≡ value_at k items d (position (has_key k key) items)
value_under-position k by [] key d = by.value_under_none key
value_under-position k by (item ∷ items) key d =
    by.value_under_item item items key
    ∙ ap (λ rest. if k.key item == key then Some (k.value item) else rest) (value_under-position k by items key d)
    ∙ value_first k (k.key item == key) item items d (position (has_key k key) items)
    ∙ sym (ap (value_at k (item ∷ items) d) (position-cons (has_key k key) item items))

-- a key's value is changed at its first place
pub with_value-position : {Item : Type 0} (k : Keying Item) → GoesByKeys k
    → (items : List Item) (key : ℕ) (value : Value)
    (d : Item) → k.with_value items key value ≡ with_value_at k items key value d (position (has_key k key) items)
with_value-position k by [] key value d = by.with_none key value
with_value-position k by (item ∷ items) key value d =
    by.with_item item items key value
    ∙ ap (λ rest. if k.key item == key then k.revalued item value ∷ items else item ∷ rest)
    (with_value-position k by items key value d)
    ∙ with_value_first k (k.key item == key) item items key value d (position (has_key k key) items)
    ∙ sym (ap (with_value_at k (item ∷ items) key value d) (position-cons (has_key k key) item items))

-- a key is cut at its first place
pub without_key-position : {Item : Type 0} (k : Keying Item) → GoesByKeys k → (items : List Item) (key : ℕ)
    → k.without_key items key ≡ without_at items (position (has_key k key) items)
without_key-position k by [] key = by.without_key_none key
without_key-position k by (item ∷ items) key =
    by.without_key_item item items key
    ∙ ap (λ rest. if k.key item == key then items else item ∷ rest) (without_key-position k by items key)
    ∙ without_first (k.key item == key) item items (position (has_key k key) items)
    ∙ sym (ap (without_at (item ∷ items)) (position-cons (has_key k key) item items))
