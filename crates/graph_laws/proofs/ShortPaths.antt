-- How many fields an object has, before and after one is written or taken out.
use Rattle.std.proofs.Common.{◌≡◌, ℕ, suc, ◌≤◌, Bool, true, false, cond, eqb, List, [], ◌∷◌, length, Some}
use Rattle.std.proofs.Common.{refl, ap, arith}
use Rattle.std.specs.Prelude.{is_none, ◌&&◌, nat_le}
use Rattle.std.proofs.lemmas.Bool.{leb-false}
use Rattle.std.proofs.lemmas.List.{length-map}
use Rattle.std.proofs.lemmas.List.Elements.{All-contains}
use Rattle.object_graph.specs.declared.value.Value.{Value}
use Rattle.object_graph.specs.declared.object.Field.{Field}
use Rattle.object_graph.specs.declared.object.Object.TheVariants.{Plain}
use Rattle.object_graph.specs.Objects.{field_value, with_field, without_field, revalued}
use Rattle.object_graph.specs.Graphs.{Graph, PlainObject, plain_at}
use Rattle.object_graph.specs.Meaning.{Limits, no_room_for}
use Rattle.object_graph.specs.Paths.{path_of}
use Rattle.heap_command.specs.Commands.{cap_most}
use Rattle.object_graph.specs.Invariants.{fields_most, IsPath, HasItsPath, IsGraph}
use Rattle.graph_laws.specs.GraphLaws.{HasFieldLimit, FieldsAreFew}
use Rattle.graph_laws.proofs.FoundObjects.{plain_at-is}
use Rattle.graph_laws.proofs.Held.{held_at}

-- the path of fields has as many
pub length-path_of : (cap : ℕ) (fields : List Field) → length (path_of cap fields).fields ≡ length fields
length-path_of cap fields = simp length-map

-- a plain object of a graph has no more than 64 fields, as its path has
pub fields_are_few : FieldsAreFew
fields_are_few graph number cap proto fields is there =
    let among = held_at (HasItsPath graph.paths) graph.objects number (Plain cap proto fields) is.shaped there in
    let known = All-contains IsPath graph.paths (path_of cap fields) is.paths.each among in
    omega (arith, known.short, length-path_of cap fields)

-- and so it is where a value refers to it
pub fields_few : (graph : Graph) (target : Value) (plain : PlainObject)
    → IsGraph graph → plain_at graph.objects target ≡ Some plain → length plain.fields ≤ fields_most
fields_few graph target plain is at =
    fields_are_few graph plain.number plain.cap plain.proto plain.fields is
    (plain_at-is graph.objects target plain at).1

-- a field that is there is written over
length-with_field_there : (fields : List Field) (name : ℕ) (value : Value) → is_none (field_value fields name) ≡ false
    → length (with_field fields name value) ≡ length fields
length-with_field_there [] name value there = cc
length-with_field_there (field ∷ fields) name value there =
    let more = with_field fields name value in
    let IsThere = λ (same : Bool).
    is_none (cond same (Some field.value) (field_value fields name)) ≡ false
    → length (cond same (revalued field value ∷ fields) (field ∷ more)) ≡ suc (length fields)
    in
    elim (eqb field.name name) as IsThere [
      | true ↦ λ at. refl
      | false ↦ λ later. ap suc (length-with_field_there fields name value later)
    ] there

-- a field that is written makes one more at most
length-with_field : (fields : List Field) (name : ℕ) (value : Value)
    → length (with_field fields name value) ≤ suc (length fields)
length-with_field [] name value = omega arith
length-with_field (field ∷ fields) name value =
    let more = with_field fields name value in
    let rest = length-with_field fields name value in
    let IsFew = λ (same : Bool).
    length (cond same (revalued field value ∷ fields) (field ∷ more)) ≤ suc (suc (length fields))
    in
    elim (eqb field.name name) as IsFew [
      | true ↦ omega arith
      | false ↦ omega arith
    ]

-- where there is room for a name, no more fields than the most are there once it is written
with_field_few_if : (limit most : ℕ) (fields : List Field) (name : ℕ) (value : Value) (new : Bool)
    → is_none (field_value fields name) ≡ new → (new && nat_le limit (length fields)) ≡ false
    → limit ≤ most → length fields ≤ most → length (with_field fields name value) ≤ most
with_field_few_if limit most fields name value true new room within few =
    omega (arith, leb-false limit (length fields) room, length-with_field fields name value)
with_field_few_if limit most fields name value false there room within few =
    omega (arith, length-with_field_there fields name value there)

-- an object has no more than 64 fields after one was written for which there was room
pub with_field_few : (limits : Limits) (plain : PlainObject) (name : ℕ) (value : Value)
    → HasFieldLimit limits → plain.cap ≤ cap_most → no_room_for limits plain name ≡ false
    → length plain.fields ≤ fields_most → length (with_field plain.fields name value) ≤ fields_most
with_field_few limits plain name value limited capped room few =
    with_field_few_if (limits.fields plain.cap) fields_most plain.fields name value
    (is_none (field_value plain.fields name)) refl room (limited plain.cap capped) few

-- a field that is taken out adds none
length-without_field : (fields : List Field) (name : ℕ) → length (without_field fields name) ≤ length fields
length-without_field [] name = omega arith
length-without_field (field ∷ fields) name =
    let fewer = without_field fields name in
    let rest = length-without_field fields name in
    elim (eqb field.name name) as (λ same. length (cond same fields (field ∷ fewer)) ≤ suc (length fields)) [
      | true ↦ omega arith
      | false ↦ omega arith
    ]

-- an object has no more than 64 fields after one was taken out
pub without_field_few : (fields : List Field) (name : ℕ) → length fields ≤ fields_most
    → length (without_field fields name) ≤ fields_most
without_field_few fields name few = omega (arith, length-without_field fields name)
