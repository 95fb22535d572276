-- What `get` and `proto` make of a graph, by the nearest field and the prototype that a value gives.
use Rattle.std.proofs.Common.{◌≡◌, ℕ, suc, [], Option, Some, None, refl, sym, ap, ◌∙◌, subst}
use Rattle.std.proofs.Common.{◌⊎◌, inl, inr}
use Rattle.std.specs.Prelude.{unwrap_or}
use Rattle.std.specs.FinMap.{get}
use Rattle.heap_command.specs.declared.command.FaultWord.TheVariants.{NotObject, Ring, Unbound}
use Rattle.object_graph.specs.declared.value.Value.{Value}
use Rattle.object_graph.specs.declared.value.Value.TheVariants.{Ref, Undefined}
use Rattle.object_graph.specs.Graphs.{Graph, PlainObject, bind, plain_at, value_of}
use Rattle.object_graph.specs.Prototypes.{field_along, makes_ring, proto_for, proto_of, prototypes_most, with_proto}
use Rattle.object_graph.specs.Meaning.{done, given}
use Rattle.object_graph.proofs.Leads.{Leads, each, if_not}
use Rattle.graph_laws.specs.ProtoLaws.{AllLack, IsNearest, NoneMakesNoRing, RefersToPlain}
use Rattle.graph_laws.specs.ProtoLaws.{GetsNearest, GetsAreNearest, GetsProto, ProtosAreGiven}
use Rattle.graph_laws.proofs.FoundObjects.{plain_at-is}
use Rattle.graph_laws.proofs.FoundProtos.{plain_at-number}
use Rattle.graph_laws.proofs.NearestFields.{nearest_is_found, none_is_found}
use Rattle.graph_laws.proofs.NewProtos.{renewed_proto}

-- taking a prototype away never makes a ring
pub none_makes_no_ring : NoneMakesNoRing
none_makes_no_ring objects number = refl

-- the variable refers to the plain object that was found
refers_to : (graph : Graph) (x : ℕ) (target : Value) (plain : PlainObject) → get graph.bindings x ≡ Some target
    → plain_at graph.objects target ≡ Some plain → RefersToPlain graph x plain
refers_to graph x target plain bound at = record {
  refers = bound ∙ ap (λ value. Some value) (plain_at-is graph.objects target plain at).0;
  stands = plain_at-number graph.objects target plain at;
}

-- what is found along prototypes is the nearest field's value, or none has the field
found_or_none : (graph : Graph) (name : ℕ) (plain : PlainObject) (found : Option Value)
    → plain_at graph.objects (Ref plain.number) ≡ Some plain
    → field_along graph.objects prototypes_most plain name ≡ found
    → IsNearest graph.objects prototypes_most plain.number name (unwrap_or found Undefined)
    ⊎ ((unwrap_or found Undefined ≡ Undefined) × AllLack graph.objects (suc prototypes_most) plain.number name)
found_or_none graph name plain (Some value) at is =
    inl (nearest_is_found graph.objects prototypes_most name plain value at is)
found_or_none graph name plain None at is =
    inr (refl, none_is_found graph.objects prototypes_most name plain at is)

-- a `get` that is carried out gives the value of the nearest field, or `undefined`
pub gets_are_nearest : GetsAreNearest
gets_are_nearest limits names graph y x name after text is =
    let along : PlainObject → Option Value = λ plain. field_along graph.objects prototypes_most plain name in
    subst (Leads (GetsNearest graph y x name)) is
    (each (GetsNearest graph y x name) Unbound (get graph.bindings x)
    (λ target. given NotObject (plain_at graph.objects target) (λ plain.
    done (bind graph y (unwrap_or (along plain) Undefined)) []))
    (λ target bound.
    each (GetsNearest graph y x name) NotObject (plain_at graph.objects target)
    (λ plain. done (bind graph y (unwrap_or (along plain) Undefined)) [])
    (λ plain at.
    let to = refers_to graph x target plain bound at in
    record {
      plain = plain;
      target = to;
      value = unwrap_or (along plain) Undefined;
      found = found_or_none graph name plain (along plain) to.stands refl;
      bound = refl;
    })))

-- a `proto` that is carried out gives the prototype that the value gives
pub protos_are_given : ProtosAreGiven
protos_are_given limits names graph x operand after text is =
    let Holds : Graph → Type 0 = GetsProto graph x operand in
    subst (Leads Holds) is
    (each Holds Unbound (get graph.bindings x) _ (λ target bound.
    each Holds Unbound (value_of graph operand) _ (λ value read.
    each Holds NotObject (plain_at graph.objects target) _ (λ plain at.
    each Holds NotObject (proto_for graph.objects value) _ (λ proto gives.
    if_not Holds Ring (makes_ring graph.objects plain.number proto) _ (
    let to = refers_to graph x target plain bound at in
    let now : proto_of (with_proto graph plain proto).objects plain.number ≡ proto =
    renewed_proto graph.objects plain proto to.stands in
    record {
      plain = plain;
      target = to;
      value = value;
      read = read;
      gives = gives ∙ ap (λ one. Some one) (sym now);
      is = ap (with_proto graph plain) (sym now);
    }))))))
