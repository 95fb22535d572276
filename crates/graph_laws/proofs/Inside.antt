-- A graph that stays inside a set of objects: variables, and the objects of the set, refer to objects of the set alone.
use Rattle.std.proofs.Common.{◌≡◌, ℕ, Bool, true, List, Option, Some, None, sym, subst}
use Rattle.std.specs.Prelude.{All, slice_get, option_and_then, unwrap_or}
use Rattle.std.specs.FinMap.{get}
use Rattle.std.proofs.lemmas.Option.{none-some, same_Some}
use Rattle.std.proofs.lemmas.List.Elements.{All-weaker}
use Rattle.heap_command.specs.declared.command.Operand.{Operand}
use Rattle.heap_command.specs.declared.command.Operand.TheVariants as operand
use Rattle.object_graph.specs.declared.value.Value.{Value}
use Rattle.object_graph.specs.declared.value.Value.TheVariants.{Int, Undefined, Ref}
use Rattle.object_graph.specs.declared.object.Field.{Field}
use Rattle.object_graph.specs.declared.object.Entry.{Entry}
use Rattle.object_graph.specs.declared.object.Object.{Object}
use Rattle.object_graph.specs.declared.object.Object.TheVariants.{Plain, List as ListOf, Weak}
use Rattle.object_graph.specs.Objects.{with_field, entry_value, with_entry}
use Rattle.object_graph.specs.Graphs.{Graph, PlainObject, ListObject, WeakObject, value_of, object_in, plain_at}
use Rattle.object_graph.specs.Graphs.{list_at, weak_at}
use Rattle.object_graph.specs.Prototypes.{proto_for}
use Rattle.graph_laws.proofs.FoundObjects.{plain_at-is, list_at-is, weak_at-is}
use Rattle.graph_laws.proofs.FoundProtos.{IsGiven, none_given, one_given, proto_for-is}
use Rattle.graph_laws.proofs.Held.{element_all}
use Rattle.graph_laws.proofs.HeldParts.{with_field_values, entry_value_all, with_entry_all}

-- if the value is an object, it is inside
abbrev pub IsInside : (ℕ → Bool) → Value → Type 0
IsInside inside (Int v) = Unit {0}
IsInside inside Undefined = Unit {0}
IsInside inside (Ref number) = inside number ≡ true

-- the prototype, if there is one, is inside
abbrev pub ProtoInside : (ℕ → Bool) → Option ℕ → Type 0
ProtoInside inside None = Unit {0}
ProtoInside inside (Some number) = inside number ≡ true

-- the values of the fields are inside
abbrev pub FieldsInside : (ℕ → Bool) → List Field → Type 0
FieldsInside inside fields = All (λ field. IsInside inside field.value) fields

-- if the key of the entry is inside, so is its value
abbrev pub EntryInside : (ℕ → Bool) → Entry → Type 0
EntryInside inside entry = inside entry.key ≡ true → IsInside inside entry.value

-- what the object refers to is inside, but for the values of entries whose keys are not
abbrev pub ObjectInside : (ℕ → Bool) → Object → Type 0
ObjectInside inside (Plain cap proto fields) = ProtoInside inside proto × FieldsInside inside fields
ObjectInside inside (ListOf elements) = All (IsInside inside) elements
ObjectInside inside (Weak entries) = All (EntryInside inside) entries

-- what variables are bound to is inside, and what objects inside refer to
pub record StaysInside (inside : ℕ → Bool) (graph : Graph) : Type 0 where
  pub bound : (x : ℕ) (value : Value) → get graph.bindings x ≡ Some value → IsInside inside value
  pub closed : (holder : ℕ) (object : Object) → slice_get graph.objects holder ≡ Some object → inside holder ≡ true
      → ObjectInside inside object

-- what an operand stands for is inside
pub operand_inside : (inside : ℕ → Bool) (graph : Graph) (operand : Operand) (value : Value)
    → StaysInside inside graph → value_of graph operand ≡ Some value → IsInside inside value
operand_inside inside graph (operand.Int v) value stays is = subst (IsInside inside) (same_Some (Int v) value is) tt
operand_inside inside graph operand.Undefined value stays is = subst (IsInside inside) (same_Some Undefined value is) tt
operand_inside inside graph (operand.Var x) value stays is = stays.bound x value is

-- the object that a value inside refers to is inside
number_inside : (inside : ℕ → Bool) (value : Value) (number : ℕ)
    → IsInside inside value → object_in value ≡ Some number → inside number ≡ true
number_inside inside (Int v) number is at = absurd (none-some number at)
number_inside inside Undefined number is at = absurd (none-some number at)
number_inside inside (Ref other) number is at = subst (λ n. inside n ≡ true) (same_Some other number at) is

-- the object that an operand stands for is inside
pub key_inside : (inside : ℕ → Bool) (graph : Graph) (operand : Operand) (value : Value) (number : ℕ)
    → StaysInside inside graph → value_of graph operand ≡ Some value → object_in value ≡ Some number
    → inside number ≡ true
key_inside inside graph operand value number stays is at =
    number_inside inside value number (operand_inside inside graph operand value stays is) at

-- what an object refers to that a variable is bound to is inside
object_inside : (inside : ℕ → Bool) (graph : Graph) (x : ℕ) (target : Value) (number : ℕ) (object : Object)
    → StaysInside inside graph → get graph.bindings x ≡ Some target
    → (target ≡ Ref number) × (slice_get graph.objects number ≡ Some object) → ObjectInside inside object
object_inside inside graph x target number object stays bound is =
    stays.closed number object is.1 (subst (IsInside inside) is.0 (stays.bound x target bound))

-- so are the values of the fields of a plain object
pub fields_inside : (inside : ℕ → Bool) (graph : Graph) (x : ℕ) (target : Value) (plain : PlainObject)
    → StaysInside inside graph → get graph.bindings x ≡ Some target → plain_at graph.objects target ≡ Some plain
    → FieldsInside inside plain.fields
fields_inside inside graph x target plain stays bound at =
    (object_inside inside graph x target plain.number (Plain plain.cap plain.proto plain.fields) stays bound
    (plain_at-is graph.objects target plain at)).1

-- so is its prototype
pub proto_inside : (inside : ℕ → Bool) (graph : Graph) (x : ℕ) (target : Value) (plain : PlainObject)
    → StaysInside inside graph → get graph.bindings x ≡ Some target → plain_at graph.objects target ≡ Some plain
    → ProtoInside inside plain.proto
proto_inside inside graph x target plain stays bound at =
    (object_inside inside graph x target plain.number (Plain plain.cap plain.proto plain.fields) stays bound
    (plain_at-is graph.objects target plain at)).0

-- the elements of a list
pub elements_inside : (inside : ℕ → Bool) (graph : Graph) (x : ℕ) (target : Value) (list : ListObject)
    → StaysInside inside graph → get graph.bindings x ≡ Some target → list_at graph.objects target ≡ Some list
    → All (IsInside inside) list.elements
elements_inside inside graph x target list stays bound at =
    object_inside inside graph x target list.number (ListOf list.elements) stays bound
    (list_at-is graph.objects target list at)

-- and the values of the entries of a weak map whose keys are inside
pub entries_inside : (inside : ℕ → Bool) (graph : Graph) (x : ℕ) (target : Value) (weak : WeakObject)
    → StaysInside inside graph → get graph.bindings x ≡ Some target → weak_at graph.objects target ≡ Some weak
    → All (EntryInside inside) weak.entries
entries_inside inside graph x target weak stays bound at =
    object_inside inside graph x target weak.number (Weak weak.entries) stays bound
    (weak_at-is graph.objects target weak at)

-- what a value inside gives as a prototype is inside
by_given : (inside : ℕ → Bool) (objects : List Object) (value : Value) (proto : Option ℕ)
    → IsInside inside value → IsGiven objects value proto → ProtoInside inside proto
by_given inside objects value proto is none_given = tt
by_given inside objects value proto is (one_given plain at) = is

-- so the prototype that a value inside gives is inside
pub given_inside : (inside : ℕ → Bool) (objects : List Object) (value : Value) (proto : Option ℕ)
    → IsInside inside value → proto_for objects value ≡ Some proto → ProtoInside inside proto
given_inside inside objects value proto is gives =
    by_given inside objects value proto is (proto_for-is objects value proto gives)

-- an element that is read is inside where all are
pub element_inside : (inside : ℕ → Bool) (elements : List Value) (place : Option ℕ) (value : Value)
    → All (IsInside inside) elements → option_and_then (slice_get elements) place ≡ Some value → IsInside inside value
element_inside inside elements place value all is = element_all (IsInside inside) elements place value all is

-- an entry of a key inside that is read is inside
pub entry_inside : (inside : ℕ → Bool) (entries : List Entry) (key : ℕ) → inside key ≡ true
    → All (EntryInside inside) entries → IsInside inside (unwrap_or (entry_value entries key) Undefined)
entry_inside inside entries key known all =
    let Has = λ (e : Entry). e.key ≡ key → IsInside inside e.value in
    let has = λ (e : Entry) (is : EntryInside inside e) (same : e.key ≡ key).
    is (subst (λ k. inside k ≡ true) (sym same) known) in
    entry_value_all (IsInside inside) entries key tt (All-weaker (EntryInside inside) Has has entries all)

-- fields stay inside after a value inside was written
pub with_field_inside : (inside : ℕ → Bool) (fields : List Field) (name : ℕ) (value : Value)
    → IsInside inside value → FieldsInside inside fields → FieldsInside inside (with_field fields name value)
with_field_inside inside fields name value is all = with_field_values (IsInside inside) fields name value is all

-- entries stay inside after a value inside was written
pub with_entry_inside : (inside : ℕ → Bool) (entries : List Entry) (key : ℕ) (value : Value)
    → IsInside inside value → All (EntryInside inside) entries → All (EntryInside inside) (with_entry entries key value)
with_entry_inside inside entries key value is all =
    with_entry_all (EntryInside inside) entries key value (λ known. is) all
