-- A graph in which a plain object gets a prototype that makes no ring is a graph.
use Rattle.std.proofs.Common.{◌≡◌, ◌≢◌, ℕ, zero, suc, ◌+◌, true, false, List, length, set, Option, Some}
use Rattle.std.proofs.Common.{refl, sym, ap, ◌∙◌, subst, ◌⊎◌, inl, inr}
use Rattle.std.specs.Prelude.{option_and_then}
use Rattle.std.proofs.lemmas.Bool.{cases_eq}
use Rattle.std.proofs.lemmas.Option.{none-some, same_Some, slice_get_within}
use Rattle.object_graph.specs.declared.value.Value.{Value}
use Rattle.object_graph.specs.declared.value.Value.TheVariants.{Ref}
use Rattle.object_graph.specs.declared.object.Object.{Object}
use Rattle.object_graph.specs.declared.object.Object.TheVariants.{Plain}
use Rattle.object_graph.specs.Graphs.{Graph, PlainObject, plain_at}
use Rattle.object_graph.specs.Prototypes.{proto_in, proto_of, after_protos, HasNoRing, IsPlainNumber, AreProtos}
use Rattle.object_graph.specs.Prototypes.{makes_ring, proto_for, with_proto}
use Rattle.object_graph.specs.Invariants.{IsProto, IsPlain, HasItsPath, IsGraph}
use Rattle.object_graph.proofs.Lists.{slice_get-set_same, slice_get-set_other}
use Rattle.graph_laws.specs.ProtoLaws.{ProtosStayInOrder, RefusedMakeRings}
use Rattle.graph_laws.proofs.FoundObjects.{plain_at-is}
use Rattle.graph_laws.proofs.FoundProtos.{step_found, plain_at-number, IsGiven, none_given, one_given, proto_for-is}
use Rattle.graph_laws.proofs.Held.{held_at}
use Rattle.graph_laws.proofs.KeptProtos.{plain_numbers_stay}
use Rattle.graph_laws.proofs.MadeGraphs.{plain_held, puts}
use Rattle.graph_laws.proofs.ProtoChains.{after_join, plain_within, ring_is_found, ring_leads}

-- all objects but this one have the same prototypes
abbrev KeepOthers : List Object → List Object → ℕ → Type 0
KeepOthers old new number = (n : ℕ) → n ≢ number → proto_of new n ≡ proto_of old n

-- A chain among the new objects passes this one: it comes there as among the old objects, and goes on by at least one
-- prototype.
record Passes (old new : List Object) (number a b : ℕ) : Type 0 where
  early : ℕ
  late : ℕ
  comes : after_protos old early a ≡ Some number
  goes : after_protos new (suc late) number ≡ Some b

-- a chain among the new objects is one among the old ones, or passes the one object that has another prototype
kept_or_passes : (old new : List Object) (number : ℕ) → KeepOthers old new number
    → (k a b : ℕ) → after_protos new k a ≡ Some b → (after_protos old k a ≡ Some b) ⊎ Passes old new number a b
kept_or_passes old new number others zero a b is = inl is
kept_or_passes old new number others (suc k) a b is =
    elim (cases_eq a number) [
      | inl same ↦ inr (record {
        early = 0;
        late = k;
        comes = ap (λ n. Some n) same;
        goes = ap (after_protos new (suc k)) (sym same) ∙ is;
      })
      | inr apart ↦
          let next = step_found (after_protos new k) (proto_of new a) b is in
          let was = sym (others a apart) ∙ next.1 in
          elim (kept_or_passes old new number others k next.0 b next.2) [
            | inl kept ↦ inl (ap (option_and_then (after_protos old k)) was ∙ kept)
            | inr through ↦ inr (record {
              early = suc through.early;
              late = through.late;
              comes = ap (option_and_then (after_protos old through.early)) was ∙ through.comes;
              goes = through.goes;
            })
          ]
    ]

-- a chain among the new objects to one that comes to this one is a chain to this one among the old objects
comes_back : (old new : List Object) (number : ℕ) → KeepOthers old new number
    → (late v r early : ℕ) → after_protos new late v ≡ Some r → after_protos old early r ≡ Some number
    → (j : ℕ) × (after_protos old j v ≡ Some number)
comes_back old new number others late v r early goes comes =
    elim (kept_or_passes old new number others late v r goes) [
      | inl kept ↦ (late + early, after_join old late early (late + early) v r number refl kept comes)
      | inr through ↦ (through.early, through.comes)
    ]

-- with a prototype that makes no ring there is none
no_new_ring : (old new : List Object) (number : ℕ) (proto : Option ℕ) → KeepOthers old new number → AreProtos old
    → proto_of new number ≡ proto → makes_ring old number proto ≡ false → HasNoRing new
no_new_ring old new number proto others are has none k r ring =
    elim (kept_or_passes old new number others (suc k) r r ring) [
      | inl kept ↦ are.no_ring k r kept
      | inr through ↦
          let next = step_found (after_protos new through.late) (proto_of new number) r through.goes in
          let back = comes_back old new number others through.late next.0 r through.early next.2 through.comes in
          let found = ring_is_found old number next.0 back.0 are back.1 in
          let bad : false ≡ true = sym none ∙ ap (makes_ring old number) (sym has ∙ next.1) ∙ found in
          absurd (cc)
    ]

-- the prototype that a value gives is a plain object
given_plain : (objects : List Object) (value : Value) (proto : Option ℕ) (p : ℕ) → IsGiven objects value proto
    → proto ≡ Some p → IsPlainNumber objects p
given_plain objects value proto p none_given same = absurd (none-some p same)
given_plain objects value proto p (one_given plain at) same =
    subst (IsPlainNumber objects) (same_Some plain.number p same) (plain, at)

-- and so one of the objects
given_held : (objects : List Object) (value : Value) (proto : Option ℕ) → IsGiven objects value proto
    → IsProto (length objects) proto
given_held objects value proto none_given = tt
given_held objects value proto (one_given plain at) = plain_within objects plain.number (plain, at)

-- the plain object has the prototype that it gets
pub renewed_proto : (objects : List Object) (plain : PlainObject) (proto : Option ℕ)
    → plain_at objects (Ref plain.number) ≡ Some plain
    → proto_of (set objects plain.number (Plain plain.cap proto plain.fields)) plain.number ≡ proto
renewed_proto objects plain proto at =
    let there = (plain_at-is objects (Ref plain.number) plain at).1 in
    let within = slice_get_within objects plain.number (Plain plain.cap plain.proto plain.fields) there in
    ap (option_and_then proto_in)
    (slice_get-set_same objects plain.number (Plain plain.cap proto plain.fields) within)

-- the other objects keep theirs
renewed_others : (objects : List Object) (plain : PlainObject) (proto : Option ℕ)
    → KeepOthers objects (set objects plain.number (Plain plain.cap proto plain.fields)) plain.number
renewed_others objects plain proto n apart =
    ap (option_and_then proto_in)
    (slice_get-set_other objects plain.number n (Plain plain.cap proto plain.fields) apart)

-- prototypes are in order where a plain object gets one that is plain and makes no ring
protos_renewed : (objects : List Object) (plain : PlainObject) (value : Value) (proto : Option ℕ) → AreProtos objects
    → plain_at objects (Ref plain.number) ≡ Some plain → IsGiven objects value proto
    → makes_ring objects plain.number proto ≡ false
    → AreProtos (set objects plain.number (Plain plain.cap proto plain.fields))
protos_renewed objects plain value proto are at gives none =
    let old = Plain plain.cap plain.proto plain.fields in
    let new = Plain plain.cap proto plain.fields in
    let there = (plain_at-is objects (Ref plain.number) plain at).1 in
    let later = set objects plain.number new in
    let has = renewed_proto objects plain proto at in
    let others = renewed_others objects plain proto in
    let was_plain = λ (n p : ℕ) (is : proto_of later n ≡ Some p).
    (let known : IsPlainNumber objects p = elim (cases_eq n plain.number) [
      | inl same ↦ given_plain objects value proto p gives (sym has ∙ ap (proto_of later) (sym same) ∙ is)
      | inr apart ↦ are.plain n p (sym (others n apart) ∙ is)
    ] in known) in
    record {
      plain = λ n p is. plain_numbers_stay objects plain.number old new there
          (λ m was same. (record { number = m; cap = plain.cap; proto = proto; fields = plain.fields }, refl)) p
          (was_plain n p is);
      no_ring = no_new_ring objects later plain.number proto others are has none;
    }

-- with that prototype it is a graph
pub with_proto_is_graph : ProtosStayInOrder
with_proto_is_graph graph plain value proto is at gives none =
    let there = (plain_at-is graph.objects (Ref plain.number) plain at).1 in
    let given = proto_for-is graph.objects value proto gives in
    let was = plain_held graph (Ref plain.number) plain is at in
    let now : IsPlain (length graph.objects) plain.cap proto plain.fields =
    record { capped = was.capped; leads = given_held graph.objects value proto given; are = was.are } in
    let shaped = held_at (HasItsPath graph.paths) graph.objects plain.number
    (Plain plain.cap plain.proto plain.fields) is.shaped there in
    puts graph plain.number (Plain plain.cap proto plain.fields) graph.paths is
    (protos_renewed graph.objects plain value proto is.protos at given none) now is.paths (λ path known. known) shaped

-- and so it is where a value refers to the object
pub reproto_held : (graph : Graph) (target value : Value) (plain : PlainObject) (proto : Option ℕ)
    → IsGraph graph → plain_at graph.objects target ≡ Some plain → proto_for graph.objects value ≡ Some proto
    → makes_ring graph.objects plain.number proto ≡ false → IsGraph (with_proto graph plain proto)
reproto_held graph target value plain proto is at gives none =
    with_proto_is_graph graph plain value proto is (plain_at-number graph.objects target plain at) gives none

-- a chain to the one object that has another prototype is there among the new objects, or a shorter one is
still_comes : (old new : List Object) (number : ℕ) → KeepOthers old new number
    → (j b : ℕ) → after_protos old j b ≡ Some number → (k : ℕ) × (after_protos new k b ≡ Some number)
still_comes old new number others j b is =
    elim (kept_or_passes new old number (λ n apart. sym (others n apart)) j b number is) [
      | inl kept ↦ (j, kept)
      | inr through ↦ (through.early, through.comes)
    ]

-- a prototype that is refused would make a ring
pub refused_makes_ring : RefusedMakeRings
refused_makes_ring graph plain proto at refused none =
    let later = set graph.objects plain.number (Plain plain.cap (Some proto) plain.fields) in
    let back = ring_leads graph.objects plain.number proto refused in
    let others = renewed_others graph.objects plain (Some proto) in
    let still = still_comes graph.objects later plain.number others back.0 proto back.1 in
    none still.0 plain.number
    (ap (option_and_then (after_protos later still.0)) (renewed_proto graph.objects plain (Some proto) at) ∙ still.1)
