-- The value of a field that is looked for along prototypes.
use Rattle.std.proofs.Common.{◌≡◌, ℕ, zero, suc, Bool, true, List, length, Option, Some, None, refl, subst}
use Rattle.std.specs.Prelude.{All, option_and_then, unwrap_or}
use Rattle.std.specs.Option.{option_or}
use Rattle.std.specs.FinMap.{get}
use Rattle.object_graph.specs.declared.value.Value.{Value}
use Rattle.object_graph.specs.declared.value.Value.TheVariants.{Undefined, Ref}
use Rattle.object_graph.specs.declared.object.Object.{Object}
use Rattle.object_graph.specs.declared.object.Object.TheVariants.{Plain}
use Rattle.object_graph.specs.Objects.{field_value}
use Rattle.object_graph.specs.Graphs.{Graph, PlainObject, plain_at}
use Rattle.object_graph.specs.Prototypes.{proto_at, field_along}
use Rattle.object_graph.specs.Invariants.{IsValue, IsGraph}
use Rattle.graph_laws.proofs.FoundObjects.{plain_at-is}
use Rattle.graph_laws.proofs.FoundProtos.{proto_at-is}
use Rattle.graph_laws.proofs.HeldParts.{field_value_all}
use Rattle.graph_laws.proofs.MadeGraphs.{fields_held}
use Rattle.graph_laws.proofs.Inside.{IsInside, ProtoInside, StaysInside}

-- what the first of two values that may be there has, and the second, the one that is taken has
or_has : (P : Value → Type 0) (first second : Option Value) → P (unwrap_or first Undefined)
    → P (unwrap_or second Undefined) → P (unwrap_or (option_or first second) Undefined)
or_has P (Some value) second is other = is
or_has P None second is other = other

-- what `undefined` has, and what a step from each thing that is found comes to, the step from what may be found has
step_has : {A : Type 0} (P : Value → Type 0) (step : A → Option Value) (found : Option A) → P Undefined
    → ((a : A) → found ≡ Some a → P (unwrap_or (step a) Undefined))
    → P (unwrap_or (option_and_then step found) Undefined)
step_has P step None none each = none
step_has P step (Some a) none each = each a refl

-- What holds of the fields' values of objects, which stay such by their prototypes, holds of a field's value that is
-- found along prototypes.
pub along_all : (P : Value → Type 0) (Is : PlainObject → Type 0) (objects : List Object) → P Undefined
    → ((plain : PlainObject) → Is plain → All (λ f. P f.value) plain.fields)
    → ((plain next : PlainObject) → Is plain → proto_at objects plain ≡ Some next → Is next)
    → (k : ℕ) (plain : PlainObject) (name : ℕ) → Is plain
    → P (unwrap_or (field_along objects k plain name) Undefined)
along_all P Is objects none fields leads zero plain name is =
    field_value_all P plain.fields name none (fields plain is)
along_all P Is objects none fields leads (suc k) plain name is =
    or_has P (field_value plain.fields name)
    (option_and_then (λ next. field_along objects k next name) (proto_at objects plain))
    (field_value_all P plain.fields name none (fields plain is))
    (step_has P (λ next. field_along objects k next name) (proto_at objects plain) none
    (λ next at. along_all P Is objects none fields leads k next name (leads plain next is at)))

-- a value refers to the plain object
abbrev IsReferred : List Object → PlainObject → Type 0
IsReferred objects plain = (target : Value) × (plain_at objects target ≡ Some plain)

-- a field that is read along prototypes is a value over the graph's objects
pub along_held : (graph : Graph) (target : Value) (plain : PlainObject) (k name : ℕ)
    → IsGraph graph → plain_at graph.objects target ≡ Some plain
    → IsValue (length graph.objects) (unwrap_or (field_along graph.objects k plain name) Undefined)
along_held graph target plain k name is at =
    along_all (IsValue (length graph.objects)) (IsReferred graph.objects) graph.objects tt
    (λ p referred. (fields_held graph referred.0 p is referred.1).values)
    (λ p next referred leads. (Ref next.number, (proto_at-is graph.objects p next leads).1))
    k plain name (target, at)

-- the plain object is inside, and a reference to it finds it
record IsPlainInside (inside : ℕ → Bool) (objects : List Object) (plain : PlainObject) : Type 0 where
  found : plain_at objects (Ref plain.number) ≡ Some plain
  known : inside plain.number ≡ true

-- a field that is read along prototypes from a plain object inside is inside
along_from : (inside : ℕ → Bool) (graph : Graph) (plain : PlainObject) (k name : ℕ)
    → StaysInside inside graph → IsPlainInside inside graph.objects plain
    → IsInside inside (unwrap_or (field_along graph.objects k plain name) Undefined)
along_from inside graph plain k name stays is =
    let parts = λ (p : PlainObject) (here : IsPlainInside inside graph.objects p).
    stays.closed p.number (Plain p.cap p.proto p.fields) (plain_at-is graph.objects (Ref p.number) p here.found).1
    here.known in
    along_all (IsInside inside) (IsPlainInside inside graph.objects) graph.objects tt
    (λ p here. (parts p here).1)
    (λ p next here leads.
    let at = proto_at-is graph.objects p next leads in
    record { found = at.1; known = subst (ProtoInside inside) at.0 (parts p here).0 })
    k plain name is

-- a field that is read along prototypes is inside where a variable is bound to the object
pub along_inside : (inside : ℕ → Bool) (graph : Graph) (x : ℕ) (target : Value) (plain : PlainObject) (k name : ℕ)
    → StaysInside inside graph → get graph.bindings x ≡ Some target → plain_at graph.objects target ≡ Some plain
    → IsInside inside (unwrap_or (field_along graph.objects k plain name) Undefined)
along_inside inside graph x target plain k name stays bound at =
    let same = (plain_at-is graph.objects target plain at).0 in
    along_from inside graph plain k name stays
    (record {
      found = subst (λ value. plain_at graph.objects value ≡ Some plain) same at;
      known = subst (IsInside inside) same (stays.bound x target bound);
    })
