-- Prototypes: plain objects in which a field is looked for where an object has it not.
use Rattle.std.specs.Prelude.{◌≡◌, ◌≢◌, ℕ, zero, suc, Bool, false, ◌||◌, ◌==◌, List, length, Option, Some, None}
use Rattle.std.specs.Prelude.{option_and_then, option_map, unwrap_or, slice_get}
use Rattle.std.specs.Option.{option_or}
use Rattle.object_graph.specs.declared.value.Value.{Value}
use Rattle.object_graph.specs.declared.value.Value.TheVariants.{Int, Undefined, Ref}
use Rattle.object_graph.specs.declared.object.Object.{Object}
use Rattle.object_graph.specs.declared.object.Object.TheVariants as kind
use Rattle.object_graph.specs.Objects.{field_value}
use Rattle.object_graph.specs.Graphs.{Graph, PlainObject, plain_at, replace}

-- the prototype of an object, if it is a plain one that has one
abbrev pub proto_in : Object → Option ℕ
proto_in (kind.Plain cap proto fields) = proto
proto_in (kind.List elements) = None
proto_in (kind.Weak entries) = None

-- the prototype of the object of this number
abbrev pub proto_of : List Object → ℕ → Option ℕ
proto_of objects number = option_and_then proto_in (slice_get objects number)

-- the object that so many prototypes lead to, one after another from this one, if there are so many
abbrev pub after_protos : List Object → ℕ → ℕ → Option ℕ
after_protos objects zero number = Some number
after_protos objects (suc k) number = option_and_then (after_protos objects k) (proto_of objects number)

-- no object is reached from itself by one or more prototypes
abbrev pub HasNoRing : List Object → Type 0
HasNoRing objects = (k number : ℕ) → after_protos objects (suc k) number ≢ Some number

-- the object of this number is a plain one
abbrev pub IsPlainNumber : List Object → ℕ → Type 0
IsPlainNumber objects number = (plain : PlainObject) × (plain_at objects (Ref number) ≡ Some plain)

-- each prototype is a plain object, and none is in a ring
pub record AreProtos (objects : List Object) : Type 0 where
  pub plain : (number proto : ℕ) → proto_of objects number ≡ Some proto → IsPlainNumber objects proto
  pub no_ring : HasNoRing objects

-- the prototype of a plain object, if it has one
abbrev pub proto_at : List Object → PlainObject → Option PlainObject
proto_at objects plain = option_and_then (λ number. plain_at objects (Ref number)) plain.proto

-- the most prototypes in which a field is looked for
abbrev pub prototypes_most : ℕ
prototypes_most = 64

-- The value of the field of this name in the first object that has it: the plain object itself, or one of so many that
-- follow it by prototypes, the nearest first.
abbrev pub field_along : List Object → ℕ → PlainObject → ℕ → Option Value
field_along objects zero plain name = field_value plain.fields name
field_along objects (suc k) plain name =
    option_or (field_value plain.fields name)
    (option_and_then (λ next. field_along objects k next name) (proto_at objects plain))

-- the one object is the other, or comes to it by at most so many prototypes
abbrev pub leads_to : List Object → ℕ → ℕ → ℕ → Bool
leads_to objects zero number other = number == other
leads_to objects (suc k) number other =
    (number == other)
    || unwrap_or (option_map (λ next. leads_to objects k next other) (proto_of objects number)) false

-- With this prototype the object would be in a ring: the prototype is the object itself, or comes to it by prototypes.
-- A chain of prototypes has no more of them than there are objects.
abbrev pub makes_ring : List Object → ℕ → Option ℕ → Bool
makes_ring objects number None = false
makes_ring objects number (Some proto) = leads_to objects (length objects) proto number

-- The prototype that a value gives: none where it is `undefined`, the object where it refers to a plain one. Another
-- value gives nothing.
abbrev pub proto_for : List Object → Value → Option (Option ℕ)
proto_for objects (Int v) = None
proto_for objects Undefined = Some None
proto_for objects (Ref number) = option_map (λ plain. Some plain.number) (plain_at objects (Ref number))

-- the graph in which the plain object has this prototype, or none
abbrev pub with_proto : Graph → PlainObject → Option ℕ → Graph
with_proto graph plain proto = replace graph plain.number (kind.Plain plain.cap proto plain.fields)
