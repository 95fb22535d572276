-- Laws of reach: what a program can get to from its variables, and nothing more.
use Rattle.std.specs.Prelude.{◌≡◌, ◌⊎◌, ℕ, ◌<◌, Bool, true, length, Contains, Some, slice_get}
use Rattle.std.specs.FinMap.{get}
use Rattle.object_graph.specs.declared.value.Value.TheVariants.{Ref}
use Rattle.object_graph.specs.declared.object.Object.{Object}
use Rattle.object_graph.specs.declared.object.Object.TheVariants as kind
use Rattle.object_graph.specs.declared.object.Field.{Field}
use Rattle.object_graph.specs.declared.object.Entry.{Entry}
use Rattle.object_graph.specs.Graphs.{Graph}
use Rattle.object_graph.specs.Reach.{is_marked, reach}

-- where these objects are inside, the object refers to this number by its prototype, by a field, by an element, or by
-- the value of an entry whose key is inside
abbrev pub LinksTo : (ℕ → Bool) → Object → ℕ → Type 0
LinksTo inside (kind.Plain cap proto fields) number =
    (proto ≡ Some number) ⊎ ((field : Field) × Contains fields field × (field.value ≡ Ref number))
LinksTo inside (kind.List elements) number = Contains elements (Ref number)
LinksTo inside (kind.Weak entries) number =
    (entry : Entry) × Contains entries entry × (inside entry.key ≡ true) × (entry.value ≡ Ref number)

-- each object that a variable is bound to is inside
abbrev pub HasBound : Graph → (ℕ → Bool) → Type 0
HasBound graph inside =
    (x number : ℕ) → number < length graph.objects → get graph.bindings x ≡ Some (Ref number) → inside number ≡ true

-- each object that an object inside links to is inside
abbrev pub IsClosed : Graph → (ℕ → Bool) → Type 0
IsClosed graph inside =
    (holder : ℕ) (object : Object) (number : ℕ) → slice_get graph.objects holder ≡ Some object → inside holder ≡ true
    → number < length graph.objects → LinksTo inside object number → inside number ≡ true

-- what variables are bound to is reached
abbrev pub ReachHasBound : Type 0
ReachHasBound = (graph : Graph) → HasBound graph (is_marked (reach graph))

-- what reached objects link to is reached
abbrev pub ReachIsClosed : Type 0
ReachIsClosed = (graph : Graph) → IsClosed graph (is_marked (reach graph))

-- whatever has what variables are bound to, and what its objects link to, has each reached object
abbrev pub ReachIsLeast : Type 0
ReachIsLeast =
    (graph : Graph) (inside : ℕ → Bool) → HasBound graph inside → IsClosed graph inside
    → (number : ℕ) → is_marked (reach graph) number ≡ true → inside number ≡ true
