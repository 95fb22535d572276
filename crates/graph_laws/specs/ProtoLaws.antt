-- Laws of prototypes: chains are short and come back to no object, what follows by prototypes is reached, and a field
-- is found in the nearest object that has it.
use Rattle.std.specs.Prelude.{◌≡◌, ◌≢◌, ◌⊎◌, ℕ, suc, ◌<◌, ◌≤◌, true, false, List, length, Option, Some, None}
use Rattle.std.specs.FinMap.{get}
use Rattle.heap_command.specs.declared.command.Operand.{Operand}
use Rattle.heap_command.specs.declared.command.Command.TheVariants as command
use Rattle.object_graph.specs.declared.value.Value.{Value}
use Rattle.object_graph.specs.declared.value.Value.TheVariants.{Ref, Undefined}
use Rattle.object_graph.specs.declared.object.Object.{Object}
use Rattle.object_graph.specs.Objects.{field_value}
use Rattle.object_graph.specs.Graphs.{Graph, PlainObject, bind, plain_at, value_of}
use Rattle.object_graph.specs.Prototypes.{after_protos, HasNoRing, AreProtos, proto_at, field_along, leads_to}
use Rattle.object_graph.specs.Prototypes.{makes_ring, proto_for, proto_of, prototypes_most, with_proto}
use Rattle.object_graph.specs.Meaning.{Limits, done, meaning}
use Rattle.object_graph.specs.Reach.{is_marked, reach}
use Rattle.object_graph.specs.Invariants.{IsGraph}

-- what the test of leading finds comes after so many prototypes or fewer
abbrev pub LeadsIsAfter : Type 0
LeadsIsAfter =
    (objects : List Object) (k a b : ℕ) → leads_to objects k a b ≡ true
    → (j : ℕ) × (j ≤ k) × (after_protos objects j a ≡ Some b)

-- and the test finds what comes after so many prototypes or fewer
abbrev pub AfterLeads : Type 0
AfterLeads =
    (objects : List Object) (k j a b : ℕ) → j ≤ k → after_protos objects j a ≡ Some b → leads_to objects k a b ≡ true

-- a chain of prototypes has fewer of them than there are objects
abbrev pub ChainsAreShort : Type 0
ChainsAreShort =
    (objects : List Object) (k a b : ℕ) → AreProtos objects → after_protos objects (suc k) a ≡ Some b
    → suc k < length objects

-- a ring is found: the prototype comes to the object, so with it the object would be in a ring
abbrev pub RingsAreFound : Type 0
RingsAreFound =
    (objects : List Object) (a b j : ℕ) → AreProtos objects → after_protos objects j b ≡ Some a
    → makes_ring objects a (Some b) ≡ true

-- and nothing else is called a ring: where one would be, the prototype comes to the object
abbrev pub RingsLead : Type 0
RingsLead =
    (objects : List Object) (a b : ℕ) → makes_ring objects a (Some b) ≡ true
    → (j : ℕ) × (after_protos objects j b ≡ Some a)

-- the objects of a chain of prototypes differ
abbrev pub ProtosDiffer : Type 0
ProtosDiffer =
    (objects : List Object) (i j a b c : ℕ) → AreProtos objects → i < j → after_protos objects i a ≡ Some b
    → after_protos objects j a ≡ Some c → b ≢ c

-- the prototype of a reached object is reached
abbrev pub ProtosAreReached : Type 0
ProtosAreReached =
    (graph : Graph) (plain proto : PlainObject) → plain_at graph.objects (Ref plain.number) ≡ Some plain
    → is_marked (reach graph) plain.number ≡ true → proto_at graph.objects plain ≡ Some proto
    → is_marked (reach graph) proto.number ≡ true

-- a graph in which a plain object gets a prototype that makes no ring is a graph
abbrev pub ProtosStayInOrder : Type 0
ProtosStayInOrder =
    (graph : Graph) (plain : PlainObject) (value : Value) (proto : Option ℕ) → IsGraph graph
    → plain_at graph.objects (Ref plain.number) ≡ Some plain → proto_for graph.objects value ≡ Some proto
    → makes_ring graph.objects plain.number proto ≡ false → IsGraph (with_proto graph plain proto)

-- a prototype that is refused would make a ring: with it, some object of the graph would be in one
abbrev pub RefusedMakeRings : Type 0
RefusedMakeRings =
    (graph : Graph) (plain : PlainObject) (proto : ℕ) → plain_at graph.objects (Ref plain.number) ≡ Some plain
    → makes_ring graph.objects plain.number (Some proto) ≡ true
    → ¬ HasNoRing (with_proto graph plain (Some proto)).objects

-- of the plain objects that come after fewer prototypes than so many, none has the field of this name
abbrev pub AllLack : List Object → ℕ → ℕ → ℕ → Type 0
AllLack objects many number name =
    (i : ℕ) (nearer : PlainObject) → i < many → after_protos objects i number ≡ Some nearer.number
    → plain_at objects (Ref nearer.number) ≡ Some nearer → field_value nearer.fields name ≡ None

-- the value is that of the field of this name in the nearest object that has it, at most so many prototypes away
pub record IsNearest (objects : List Object) (most number name : ℕ) (value : Value) : Type 0 where
  -- the nearest object comes after so many prototypes
  pub steps : ℕ
  pub few : steps ≤ most
  pub holder : PlainObject
  pub comes : after_protos objects steps number ≡ Some holder.number
  pub stands : plain_at objects (Ref holder.number) ≡ Some holder
  -- its field has the value
  pub has : field_value holder.fields name ≡ Some value
  -- no nearer one has the field
  pub before : AllLack objects steps number name

-- a field that is found along prototypes is that of the nearest object that has it
abbrev pub NearestIsFound : Type 0
NearestIsFound =
    (objects : List Object) (k name : ℕ) (plain : PlainObject) (value : Value)
    → plain_at objects (Ref plain.number) ≡ Some plain → field_along objects k plain name ≡ Some value
    → IsNearest objects k plain.number name value

-- a field that is not found along prototypes is in no object after so many prototypes or fewer
abbrev pub NoneIsFound : Type 0
NoneIsFound =
    (objects : List Object) (k name : ℕ) (plain : PlainObject)
    → plain_at objects (Ref plain.number) ≡ Some plain → field_along objects k plain name ≡ None
    → AllLack objects (suc k) plain.number name

-- taking a prototype away never makes a ring
abbrev pub NoneMakesNoRing : Type 0
NoneMakesNoRing = (objects : List Object) (number : ℕ) → makes_ring objects number None ≡ false

-- A variable refers to this plain object.
pub record RefersToPlain (graph : Graph) (x : ℕ) (plain : PlainObject) : Type 0 where
  pub refers : get graph.bindings x ≡ Some (Ref plain.number)
  pub stands : plain_at graph.objects (Ref plain.number) ≡ Some plain

-- The variable `y` got the value of the field in the nearest object that has it, of the one that `x` refers to and at
-- most 64 that follow it by prototypes, or `undefined` where none of them has it. Nothing else changed.
pub record GetsNearest (graph : Graph) (y x name : ℕ) (after : Graph) : Type 0 where
  pub plain : PlainObject
  pub target : RefersToPlain graph x plain
  pub value : Value
  pub found : IsNearest graph.objects prototypes_most plain.number name value
      ⊎ ((value ≡ Undefined) × AllLack graph.objects (suc prototypes_most) plain.number name)
  pub bound : after ≡ bind graph y value

-- a `get` that is carried out does so
abbrev pub GetsAreNearest : Type 0
GetsAreNearest =
    (limits : Limits) (names : List (List ℕ)) (graph : Graph) (y x name : ℕ) (after : Graph) (text : List ℕ)
    → meaning limits names graph (command.Get y x name) ≡ done after text → GetsNearest graph y x name after

-- The plain object that `x` refers to got the prototype that the operand's value gives, and nothing else changed.
pub record GetsProto (graph : Graph) (x : ℕ) (operand : Operand) (after : Graph) : Type 0 where
  pub plain : PlainObject
  pub target : RefersToPlain graph x plain
  pub value : Value
  pub read : value_of graph operand ≡ Some value
  pub gives : proto_for graph.objects value ≡ Some (proto_of after.objects plain.number)
  pub is : after ≡ with_proto graph plain (proto_of after.objects plain.number)

-- a `proto` that is carried out gives it
abbrev pub ProtosAreGiven : Type 0
ProtosAreGiven =
    (limits : Limits) (names : List (List ℕ)) (graph : Graph) (x : ℕ) (operand : Operand) (after : Graph)
    (text : List ℕ) → meaning limits names graph (command.Proto x operand) ≡ done after text
    → GetsProto graph x operand after
