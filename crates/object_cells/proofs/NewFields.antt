-- The fields that writing one or taking one out makes are fields that the object may have.
use Rattle.std.proofs.Common.{◌≡◌, ℕ, ◌≤◌, ◌<◌, true, false, ◌&&◌, length, Option, Some, None}
use Rattle.std.proofs.Common.{slice_get, refl, arith}
use Rattle.std.proofs.Common.{inl, inr, nat_le}
use Rattle.std.specs.Prelude.{All, Contains, is_none, IsTrue}
use Rattle.std.proofs.lemmas.Bool.{cases_lt}
use Rattle.std.proofs.lemmas.Bool.Decides.{nat_tests}
use Rattle.std.proofs.lemmas.List.Elements.{All-contains, All-contains_itself, All-weaker}
use Rattle.heap_model.specs.Types.{Value, Field}
use Rattle.object_graph.specs.declared.value.Value.TheVariants.{Int, Undefined, Ref}
use Rattle.object_graph.specs.declared.object.Object.TheVariants.{Plain}
use Rattle.object_graph.specs.Objects.{field_value}
use Rattle.object_graph.specs.Graphs.{Graph, PlainObject}
use Rattle.object_graph.specs.Meaning.{Limits}
use Rattle.object_graph.specs.Reach.{is_marked, reach}
use Rattle.object_graph.specs.Invariants.{IsGraph, IsObject, IsValue, fields_most}
use Rattle.graph_laws.specs.GraphLaws.{HasFieldLimit}
use Rattle.graph_laws.proofs.Reaches.{reach_closed}
use Rattle.graph_laws.proofs.ShortPaths.{fields_are_few, with_field_few, without_field_few}
use Rattle.graph_laws.proofs.HeldParts.{with_field_values, without_field_values, with_field_held, without_field_held}
use Rattle.heap_model.proofs.SlotWords.{All-slice_get}
use Rattle.object_cells.specs.HeldValues.{IsReachedValue}
use Rattle.object_cells.specs.Refills.{WrittenFieldsAreNew, RestOfFieldsAreNew}

-- a value is one that can be reached where what it refers to can
pub value_reached : (graph : Graph) (value : Value) → IsValue (length graph.objects) value
    → ((number : ℕ) → value ≡ Ref number → number < length graph.objects → is_marked (reach graph) number ≡ true)
    → IsReachedValue graph value
value_reached graph (Int v) is reached = tt
value_reached graph Undefined is reached = tt
value_reached graph (Ref number) is reached = reached number refl is

-- the object is one of the graph
object_is : (graph : Graph) (plain : PlainObject) → IsGraph graph
    → slice_get graph.objects plain.number ≡ Some (Plain plain.cap plain.proto plain.fields)
    → IsObject (length graph.objects) (Plain plain.cap plain.proto plain.fields)
object_is graph plain is there =
    All-slice_get (IsObject (length graph.objects)) graph.objects plain.number
    (Plain plain.cap plain.proto plain.fields) is.made there

-- the values of an object that can be reached can be
pub fields_reached : (graph : Graph) (plain : PlainObject) → IsGraph graph
    → slice_get graph.objects plain.number ≡ Some (Plain plain.cap plain.proto plain.fields)
    → IsTrue (is_marked (reach graph) plain.number) → All (λ field. IsReachedValue graph field.value) plain.fields
fields_reached graph plain is there marked =
    let count : ℕ = length graph.objects in
    let P : Field → Type 0 = λ field. IsReachedValue graph field.value in
    let each : (field : Field) → Contains plain.fields field → P field = λ field among.
    value_reached graph field.value
    (All-contains (λ (f : Field). IsValue count f.value) plain.fields field (object_is graph plain is there).are.values
    among)
    (λ number refers below. reach_closed graph plain.number (Plain plain.cap plain.proto plain.fields) number there
    marked below (inr (field, among, refers))) in
    All-weaker (Contains plain.fields) P each plain.fields (All-contains_itself plain.fields)

-- limits that let each object have 64 fields
abbrev wide_limits : Limits
wide_limits = record { fields = λ cap. fields_most; paths = None }

-- these limits let no object have more fields than 64
wide_limits_are : HasFieldLimit wide_limits
wide_limits_are cap capped = omega arith

-- there is room where the name is there, or there are few fields
room_for : (found : Option Value) (count : ℕ) → (found ≡ None → fields_most ≤ count → ⊥)
    → (is_none found && nat_le fields_most count) ≡ false
room_for (Some value) count lacks = refl
room_for None count lacks = elim (cases_lt count fields_most) [
  | inl below ↦ grind (arith, nat_tests)
  | inr full ↦ absurd (lacks refl full)
]

-- with one field written
pub written_fields_are_new : WrittenFieldsAreNew
written_fields_are_new graph plain name value is there marked lacks is_value reached =
    let object = object_is graph plain is there in
    let few = fields_are_few graph plain.number plain.cap plain.proto plain.fields is there in
    let room = room_for (field_value plain.fields name) (length plain.fields)
    (λ fresh full. lacks (record { fresh = fresh; full = full })) in
    record {
      few = with_field_few wide_limits plain name value wide_limits_are object.capped room few;
      are = with_field_held (length graph.objects) plain.fields name value is_value object.are;
      reached = with_field_values (IsReachedValue graph) plain.fields name value reached
          (fields_reached graph plain is there marked);
    }

-- with one taken out
pub rest_of_fields_are_new : RestOfFieldsAreNew
rest_of_fields_are_new graph plain name is there marked =
    let object = object_is graph plain is there in
    record {
      few = without_field_few plain.fields name
          (fields_are_few graph plain.number plain.cap plain.proto plain.fields is there);
      are = without_field_held (length graph.objects) plain.fields name object.are;
      reached = without_field_values (IsReachedValue graph) plain.fields name
          (fields_reached graph plain is there marked);
    }
