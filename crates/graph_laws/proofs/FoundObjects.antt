-- What a value refers to stands among the objects, at its number.
use Rattle.std.proofs.Common.{◌≡◌, ℕ, List, Option, Some, None, sym, ap, ◌∙◌}
use Rattle.std.specs.Prelude.{slice_get}
use Rattle.std.specs.Option.{option_and_then}
use Rattle.std.proofs.lemmas.Option.{none-some, same_Some}
use Rattle.object_graph.specs.declared.value.Value.{Value}
use Rattle.object_graph.specs.declared.value.Value.TheVariants.{Int, Undefined, Ref}
use Rattle.object_graph.specs.declared.object.Object.{Object}
use Rattle.object_graph.specs.declared.object.Object.TheVariants.{Plain, List as ListOf, Weak}
use Rattle.object_graph.specs.Graphs.{PlainObject, ListObject, WeakObject, found_at, plain_at, list_at, weak_at}
use Rattle.object_graph.specs.Graphs.{as_plain, as_list, as_weak}

-- a view of one kind finds nothing but such an object with its number
abbrev FindsOnly : (Kind : Type 0) → (ℕ → Object → Option Kind) → (Kind → ℕ) → (Kind → Object) → Type 0
FindsOnly Kind as_kind number_of object_of =
    (number : ℕ) (object : Object) (found : Kind) → as_kind number object ≡ Some found
    → (number ≡ number_of found) × (object ≡ object_of found)

-- where such a view finds something at a place, such an object stands there
seen_at : {Kind : Type 0} (as_kind : ℕ → Object → Option Kind) (number_of : Kind → ℕ) (object_of : Kind → Object)
    → FindsOnly Kind as_kind number_of object_of
    → (number : ℕ) (there : Option Object) (found : Kind) → option_and_then (as_kind number) there ≡ Some found
    → (number ≡ number_of found) × (there ≡ Some (object_of found))
seen_at as_kind number_of object_of views number None found is = absurd (none-some found is)
seen_at as_kind number_of object_of views number (Some object) found is =
    let seen = views number object found is in
    (seen.0, ap (λ o. Some o) seen.1)

-- what such a view finds at a value is an object of that kind, to which the value refers
found_at-is : {Kind : Type 0} (as_kind : ℕ → Object → Option Kind) (number_of : Kind → ℕ) (object_of : Kind → Object)
    → FindsOnly Kind as_kind number_of object_of
    → (objects : List Object) (target : Value) (found : Kind) → found_at as_kind objects target ≡ Some found
    → (target ≡ Ref (number_of found)) × (slice_get objects (number_of found) ≡ Some (object_of found))
found_at-is as_kind number_of object_of views objects (Int v) found is = cc
found_at-is as_kind number_of object_of views objects Undefined found is = cc
found_at-is as_kind number_of object_of views objects (Ref number) found is =
    let at = seen_at as_kind number_of object_of views number (slice_get objects number) found is in
    (ap (λ n. Ref n) at.0, ap (λ n. slice_get objects n) (sym at.0) ∙ at.1)

-- the view of plain objects finds nothing else
plain_views : FindsOnly PlainObject as_plain (λ p. p.number) (λ p. Plain p.cap p.proto p.fields)
plain_views number (Plain cap proto fields) found is =
    let same = same_Some _ found is in
    (ap (λ p. p.number) same, ap (λ p. Plain p.cap p.proto p.fields) same)
plain_views number (ListOf elements) found is = absurd (none-some found is)
plain_views number (Weak entries) found is = absurd (none-some found is)

-- the view of lists finds nothing else
list_views : FindsOnly ListObject as_list (λ p. p.number) (λ p. ListOf p.elements)
list_views number (Plain cap proto fields) found is = absurd (none-some found is)
list_views number (ListOf elements) found is =
    let same = same_Some _ found is in
    (ap (λ p. p.number) same, ap (λ p. ListOf p.elements) same)
list_views number (Weak entries) found is = absurd (none-some found is)

-- the view of weak maps finds nothing else
weak_views : FindsOnly WeakObject as_weak (λ p. p.number) (λ p. Weak p.entries)
weak_views number (Plain cap proto fields) found is = absurd (none-some found is)
weak_views number (ListOf elements) found is = absurd (none-some found is)
weak_views number (Weak entries) found is =
    let same = same_Some _ found is in
    (ap (λ p. p.number) same, ap (λ p. Weak p.entries) same)

-- the plain object that a value refers to stands at its number
pub plain_at-is : (objects : List Object) (target : Value) (plain : PlainObject) → plain_at objects target ≡ Some plain
    → (target ≡ Ref plain.number) × (slice_get objects plain.number ≡ Some (Plain plain.cap plain.proto plain.fields))
plain_at-is = found_at-is as_plain (λ p. p.number) (λ p. Plain p.cap p.proto p.fields) plain_views

-- so does the list
pub list_at-is : (objects : List Object) (target : Value) (list : ListObject) → list_at objects target ≡ Some list
    → (target ≡ Ref list.number) × (slice_get objects list.number ≡ Some (ListOf list.elements))
list_at-is = found_at-is as_list (λ p. p.number) (λ p. ListOf p.elements) list_views

-- and so does the weak map
pub weak_at-is : (objects : List Object) (target : Value) (weak : WeakObject) → weak_at objects target ≡ Some weak
    → (target ≡ Ref weak.number) × (slice_get objects weak.number ≡ Some (Weak weak.entries))
weak_at-is = found_at-is as_weak (λ p. p.number) (λ p. Weak p.entries) weak_views
