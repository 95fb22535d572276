-- A field that is found along prototypes is that of the nearest object that has it.
use Rattle.std.proofs.Common.{◌≡◌, ℕ, zero, suc, List, Option, Some, None, refl, sym, ap, ◌∙◌, subst, arith}
use Rattle.std.specs.Prelude.{slice_get, option_and_then}
use Rattle.std.specs.Option.{option_or}
use Rattle.std.proofs.lemmas.Option.{none-some, same_Some}
use Rattle.object_graph.specs.declared.value.Value.{Value}
use Rattle.object_graph.specs.declared.value.Value.TheVariants.{Ref}
use Rattle.object_graph.specs.declared.object.Object.{Object}
use Rattle.object_graph.specs.declared.object.Object.TheVariants.{Plain, List as ListOf, Weak}
use Rattle.object_graph.specs.Objects.{field_value}
use Rattle.object_graph.specs.Graphs.{PlainObject, as_plain, plain_at}
use Rattle.object_graph.specs.Prototypes.{proto_in, proto_of, after_protos, proto_at, field_along}
use Rattle.graph_laws.specs.ProtoLaws.{AllLack, IsNearest, NearestIsFound, NoneIsFound}
use Rattle.graph_laws.proofs.FoundObjects.{plain_at-is}
use Rattle.graph_laws.proofs.FoundProtos.{step_found, same_number, plain_at-number, proto_at-is}

-- two plain objects of one number are the same
same_plain : (objects : List Object) (a b : PlainObject) → a.number ≡ b.number
    → plain_at objects (Ref a.number) ≡ Some a → plain_at objects (Ref b.number) ≡ Some b → a ≡ b
same_plain objects a b same first second =
    same_Some a b (sym first ∙ ap (λ n. plain_at objects (Ref n)) same ∙ second)

-- the prototype of the number of a plain object is that of the object
number_proto : (objects : List Object) (plain : PlainObject) → plain_at objects (Ref plain.number) ≡ Some plain
    → proto_of objects plain.number ≡ plain.proto
number_proto objects plain at =
    ap (option_and_then proto_in) (plain_at-is objects (Ref plain.number) plain at).1

-- where a plain object lacks the field, and those after its prototype do, so do those after it
lack_more : (objects : List Object) (many name : ℕ) (plain : PlainObject)
    → plain_at objects (Ref plain.number) ≡ Some plain → field_value plain.fields name ≡ None
    → ((next : ℕ) → plain.proto ≡ Some next → AllLack objects many next name)
    → AllLack objects (suc many) plain.number name
lack_more objects many name plain at lacks later zero nearer less comes stands =
    let same = same_plain objects plain nearer (same_Some plain.number nearer.number comes) at stands in
    ap (λ (p : PlainObject). field_value p.fields name) (sym same) ∙ lacks
lack_more objects many name plain at lacks later (suc i) nearer less comes stands =
    let next = step_found (after_protos objects i) (proto_of objects plain.number) nearer.number comes in
    let leads = sym (number_proto objects plain at) ∙ next.1 in
    later next.0 leads i nearer (omega (arith, less)) next.2 stands

-- none comes after fewer prototypes than none
lack_first : (objects : List Object) (number name : ℕ) → AllLack objects zero number name
lack_first objects number name i nearer less comes stands = absurd (omega (arith, less))

-- the plain object itself is the nearest where it has the field
nearest_here : (objects : List Object) (k name : ℕ) (plain : PlainObject) (value : Value)
    → plain_at objects (Ref plain.number) ≡ Some plain → field_value plain.fields name ≡ Some value
    → IsNearest objects k plain.number name value
nearest_here objects k name plain value at has = record {
  steps = zero;
  few = omega arith;
  holder = plain;
  comes = refl;
  stands = at;
  has = has;
  before = lack_first objects plain.number name;
}

-- the nearest from the prototype is the nearest from the plain object where that lacks the field
nearest_after : (objects : List Object) (k name next : ℕ) (plain : PlainObject) (value : Value)
    → plain_at objects (Ref plain.number) ≡ Some plain → field_value plain.fields name ≡ None
    → plain.proto ≡ Some next → IsNearest objects k next name value
    → IsNearest objects (suc k) plain.number name value
nearest_after objects k name next plain value at lacks leads later = record {
  steps = suc later.steps;
  few = omega (arith, later.few);
  holder = later.holder;
  comes = ap (option_and_then (after_protos objects later.steps)) (number_proto objects plain at ∙ leads)
      ∙ later.comes;
  stands = later.stands;
  has = later.has;
  before = lack_more objects later.steps name plain at lacks
      (λ n is. subst (λ m. AllLack objects later.steps m name) (same_Some next n (sym leads ∙ is)) later.before);
}

-- the nearest is found in the plain object itself, or from its prototype
nearest_from : (objects : List Object) (k name : ℕ) (plain : PlainObject) (value : Value) (own : Option Value)
    → plain_at objects (Ref plain.number) ≡ Some plain → field_value plain.fields name ≡ own
    → option_or own (option_and_then (λ next. field_along objects k next name) (proto_at objects plain)) ≡ Some value
    → ((next : PlainObject) → plain_at objects (Ref next.number) ≡ Some next
    → field_along objects k next name ≡ Some value → IsNearest objects k next.number name value)
    → IsNearest objects (suc k) plain.number name value
nearest_from objects k name plain value (Some found) at own is each =
    nearest_here objects (suc k) name plain value at (own ∙ is)
nearest_from objects k name plain value None at own is each =
    let found = step_found (λ next. field_along objects k next name) (proto_at objects plain) value is in
    let next = proto_at-is objects plain found.0 found.1 in
    nearest_after objects k name found.0.number plain value at own next.0 (each found.0 next.1 found.2)

-- a field that is found is that of the nearest object that has it
pub nearest_is_found : NearestIsFound
nearest_is_found objects zero name plain value at is = nearest_here objects zero name plain value at is
nearest_is_found objects (suc k) name plain value at is =
    nearest_from objects k name plain value (field_value plain.fields name) at refl is
    (λ next there found. nearest_is_found objects k name next value there found)

-- where the first of two values that may be there is taken, and none is, neither is there
or_none : (first second : Option Value) → option_or first second ≡ None → (first ≡ None) × (second ≡ None)
or_none (Some value) second is = absurd (none-some value (sym is))
or_none None second is = (refl, is)

-- what is no plain object has no prototype
bare_unless_plain : (number : ℕ) (there : Option Object) → option_and_then (as_plain number) there ≡ None
    → option_and_then proto_in there ≡ None
bare_unless_plain number None none = refl
bare_unless_plain number (Some (Plain cap proto fields)) none = absurd (none-some _ (sym none))
bare_unless_plain number (Some (ListOf elements)) none = refl
bare_unless_plain number (Some (Weak entries)) none = refl

-- from what is no plain object there comes none
lack_unless_plain : (objects : List Object) (many name number : ℕ) → plain_at objects (Ref number) ≡ None
    → AllLack objects many number name
lack_unless_plain objects many name number none zero nearer less comes stands =
    let same = same_Some number nearer.number comes in
    absurd (none-some nearer (sym none ∙ ap (λ m. plain_at objects (Ref m)) same ∙ stands))
lack_unless_plain objects many name number none (suc i) nearer less comes stands =
    let next = step_found (after_protos objects i) (proto_of objects number) nearer.number comes in
    absurd (none-some next.0 (sym (bare_unless_plain number (slice_get objects number) none) ∙ next.1))

-- all after an object lack the field where they do if it is a plain one
lack_if_plain : (objects : List Object) (many name number : ℕ) (found : Option PlainObject)
    → plain_at objects (Ref number) ≡ found
    → ((plain : PlainObject) → plain_at objects (Ref plain.number) ≡ Some plain → found ≡ Some plain
    → AllLack objects many plain.number name)
    → AllLack objects many number name
lack_if_plain objects many name number None is each = lack_unless_plain objects many name number is
lack_if_plain objects many name number (Some plain) is each =
    let same = same_number number plain.number (plain_at-is objects (Ref number) plain is).0 in
    let at = plain_at-number objects (Ref number) plain is in
    subst (λ m. AllLack objects many m name) (sym same) (each plain at refl)

-- what is not found along prototypes is not found from the prototype
none_after : (objects : List Object) (k name next : ℕ) (plain proto : PlainObject)
    → option_and_then (λ p. field_along objects k p name) (proto_at objects plain) ≡ None
    → plain.proto ≡ Some next → plain_at objects (Ref next) ≡ Some proto → field_along objects k proto name ≡ None
none_after objects k name next plain proto none leads found =
    let at : proto_at objects plain ≡ Some proto =
    ap (option_and_then (λ n. plain_at objects (Ref n))) leads ∙ found in
    sym (ap (option_and_then (λ (p : PlainObject). field_along objects k p name)) at) ∙ none

-- a field that is not found is in no object so near
pub none_is_found : NoneIsFound
none_is_found objects zero name plain at is =
    lack_more objects zero name plain at is (λ next leads. lack_first objects next name)
none_is_found objects (suc k) name plain at is =
    let rest = option_and_then (λ (p : PlainObject). field_along objects k p name) (proto_at objects plain) in
    let none = or_none (field_value plain.fields name) rest is in
    lack_more objects (suc k) name plain at none.0
    (λ next leads. lack_if_plain objects (suc k) name next (plain_at objects (Ref next)) refl
    (λ proto there found.
    none_is_found objects k name proto there (none_after objects k name next plain proto none.1 leads found)))
