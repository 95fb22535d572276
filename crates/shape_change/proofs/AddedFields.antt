-- The fields of an object with one of a new name behind them, and their path.
use Rattle.std.proofs.Common.{◌≡◌, ℕ, zero, suc, ◌<◌, ◌==◌, Bool, true, false, ◌⊎◌, inl, inr, List, []}
use Rattle.std.proofs.Common.{◌∷◌, ◌++◌, length, Option, Some, None, slice_get, cond, refl, sym, ◌∙◌, ap, arith}
use Rattle.std.proofs.lemmas.List.{map-append}
use Rattle.std.proofs.lemmas.Option.{none-some, same_Some}
use Rattle.heap_model.specs.Types.{Field, PathField, Value}
use Rattle.object_graph.specs.Values.{rep_of}
use Rattle.object_graph.specs.Objects.{field_value, revalued, with_field}
use Rattle.object_graph.specs.Paths.{path_of}
use Rattle.shape_tree.specs.Shapes.{stepped}

-- the field of a new name
abbrev pub new_field : ℕ → Value → Field
new_field name value = record { name = name; rep = rep_of value; value = value }

-- where nothing is chosen, the test failed, and there is no other
pub none_chosen : (test : Bool) (value : Value) (rest : Option Value) → cond test (Some value) rest ≡ None
    → (test ≡ false) × (rest ≡ None)
none_chosen true value rest none = absurd (none-some value (sym none))
none_chosen false value rest none = (refl, none)

-- a field of a new name comes behind the others
pub with_field-new : (fields : List Field) (name : ℕ) (value : Value) → field_value fields name ≡ None
    → with_field fields name value ≡ fields ++ new_field name value ∷ []
with_field-new [] name value none = refl
with_field-new (field ∷ fields) name value none =
    let parts = none_chosen (field.name == name) field.value (field_value fields name) none in
    ap (λ test. cond test (revalued field value ∷ fields) (field ∷ with_field fields name value)) parts.0
    ∙ ap (λ fs. field ∷ fs) (with_field-new fields name value parts.1)

-- its path is that of the others with a step
pub path_of-push : (cap : ℕ) (fields : List Field) (field : Field)
    → path_of cap (fields ++ field ∷ []) ≡ stepped (path_of cap fields) field.name field.rep
path_of-push cap fields field =
    let part : Field → PathField = λ f. record { name = f.name; rep = f.rep } in
    ap (λ (fs : List PathField). record { cap = cap; fields = fs }) (map-append part fields (field ∷ []))

-- An element of a list with one more is an element of the list, or the one more.
pub push_cases : {X : Type 0} (xs : List X) (x : X) (k : ℕ) (y : X) → slice_get (xs ++ x ∷ []) k ≡ Some y
    → ((k < length xs) × (slice_get xs k ≡ Some y)) ⊎ ((k ≡ length xs) × (x ≡ y))
push_cases [] x zero y there = inr (refl, same_Some x y there)
push_cases [] x (suc k) y there = absurd (none-some y there)
push_cases (first ∷ xs) x zero y there = inl (omega arith, there)
push_cases (first ∷ xs) x (suc k) y there = elim (push_cases xs x k y there) [
  | inl old ↦ inl (omega (arith, old.0), old.1)
  | inr new ↦ inr (ap suc new.0, new.1)
]
