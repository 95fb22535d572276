-- A graph of which a part is changed is a graph.
use Rattle.std.proofs.Common.{◌≡◌, ℕ, ◌<◌, ◌≤◌, List, [], ◌∷◌, ◌++◌, length, set, Some, None, refl, sym}
use Rattle.std.proofs.Common.{subst, arith, length-append, length-set}
use Rattle.std.specs.Prelude.{All, Contains, ◌==◌}
use Rattle.std.specs.List.{IsDistinct}
use Rattle.std.specs.FinMap.{remove}
use Rattle.std.proofs.lemmas.Option.{none-some}
use Rattle.std.proofs.lemmas.List.Elements.{All-push, All-set, All-weaker}
use Rattle.std.proofs.lemmas.Simd.{map-map}
use Rattle.object_graph.specs.declared.value.Value.{Value}
use Rattle.object_graph.specs.declared.value.Value.TheVariants.{Ref}
use Rattle.object_graph.specs.declared.object.Field.{Field}
use Rattle.object_graph.specs.declared.object.Entry.{Entry}
use Rattle.object_graph.specs.declared.object.Object.{Object}
use Rattle.object_graph.specs.declared.object.Object.TheVariants.{Plain, List as ListOf, Weak}
use Rattle.object_graph.specs.declared.path.Path.{Path}
use Rattle.object_graph.specs.declared.path.PathField.{PathField}
use Rattle.object_graph.specs.Paths.{path_of, with_path}
use Rattle.object_graph.specs.Graphs.{Graph, PlainObject, ListObject, WeakObject, bind, make, plain_at, list_at}
use Rattle.object_graph.specs.Graphs.{weak_at}
use Rattle.object_graph.specs.Meaning.{Limits, relist, reweave, reshape}
use Rattle.heap_command.specs.Commands.{cap_most}
use Rattle.object_graph.specs.Invariants.{fields_most, IsValue, AreFields, AreElements, AreEntries, IsObject}
use Rattle.object_graph.specs.Invariants.{IsPlain}
use Rattle.object_graph.specs.Prototypes.{proto_in, AreProtos}
use Rattle.object_graph.specs.Invariants.{IsPath, ArePaths, HasItsPath, IsGraph}
use Rattle.object_graph.proofs.Leads.{Leads, each}
use Rattle.graph_laws.proofs.FoundObjects.{plain_at-is, list_at-is, weak_at-is}
use Rattle.graph_laws.proofs.KeptProtos.{KeepsProto, protos_push, protos_set}
use Rattle.graph_laws.proofs.Held.{held_at, object_grows, insert_bound, remove_bound, bound_grows}
use Rattle.graph_laws.proofs.ShortPaths.{length-path_of}
use Rattle.object_graph.proofs.AddedPaths.{adds}

-- a graph with a variable bound to one of its values is a graph
pub binds : (graph : Graph) (x : ℕ) (value : Value) → IsGraph graph → IsValue (length graph.objects) value
    → IsGraph (bind graph x value)
binds graph x value is held = record {
  bound = insert_bound (length graph.objects) graph.bindings x value held is.bound;
  made = is.made;
  paths = is.paths;
  shaped = is.shaped;
  protos = is.protos;
}

-- a graph with a variable unbound is a graph
pub unbinds : (graph : Graph) (x : ℕ) → IsGraph graph → IsGraph (record graph { bindings = remove graph.bindings x })
unbinds graph x is = record {
  bound = remove_bound (length graph.objects) graph.bindings x is.bound;
  made = is.made;
  paths = is.paths;
  shaped = is.shaped;
  protos = is.protos;
}

-- objects are objects of as many or more
objects_grow : (count more : ℕ) (objects : List Object) → count ≤ more → All (IsObject count) objects
    → All (IsObject more) objects
objects_grow count more objects grows all =
    All-weaker (IsObject count) (IsObject more) (λ object. object_grows count more object grows) objects all

-- a graph with one object more, which has no prototype, is a graph
pub makes : (graph : Graph) (x : ℕ) (object : Object) → IsGraph graph → IsObject (length graph.objects) object
    → HasItsPath graph.paths object → proto_in object ≡ None → IsGraph (make graph x object)
makes graph x object is held shaped bare =
    let count = length graph.objects in
    let more = length (graph.objects ++ object ∷ []) in
    let below : count < more = omega (arith, length-append graph.objects (object ∷ [])) in
    let grows : count ≤ more = omega arith in
    let before = bound_grows count more graph.bindings grows is.bound in
    let others = objects_grow count more graph.objects grows is.made in
    record {
      bound = insert_bound more graph.bindings x (Ref count) below before;
      made = All-push (IsObject more) graph.objects object others (object_grows count more object grows held);
      paths = is.paths;
      shaped = All-push (HasItsPath graph.paths) graph.objects object is.shaped shaped;
      protos = protos_push graph.objects object bare is.protos;
    }

-- an object has its path among paths that keep those before
path_kept : (old new : List Path) → ((path : Path) → Contains old path → Contains new path)
    → (object : Object) → HasItsPath old object → HasItsPath new object
path_kept old new keeps (Plain cap proto fields) has = keeps (path_of cap fields) has
path_kept old new keeps (ListOf elements) has = tt
path_kept old new keeps (Weak entries) has = tt

-- A graph with an object in the place of another, with which prototypes are in order, and with paths that keep those
-- before, is a graph.
pub puts : (graph : Graph) (number : ℕ) (object : Object) (paths : List Path)
    → IsGraph graph → AreProtos (set graph.objects number object)
    → IsObject (length graph.objects) object → ArePaths paths
    → ((path : Path) → Contains graph.paths path → Contains paths path) → HasItsPath paths object
    → IsGraph (record graph { objects = set graph.objects number object; paths = paths })
puts graph number object paths is protos held are keeps shaped =
    let count = length graph.objects in
    let objects = set graph.objects number object in
    let more = length objects in
    let grows : count ≤ more = omega (arith, length-set graph.objects number object) in
    let others = All-set (IsObject count) graph.objects number object held is.made in
    let kept = All-weaker (HasItsPath graph.paths) (HasItsPath paths) (path_kept graph.paths paths keeps) in
    record {
      bound = bound_grows count more graph.bindings grows is.bound;
      made = objects_grow count more objects grows others;
      paths = are;
      shaped = All-set (HasItsPath paths) graph.objects number object shaped (kept graph.objects is.shaped);
      protos = protos;
    }

-- the path of few fields of which no name stands twice may be a path
fields_are_path : (count cap : ℕ) (fields : List Field) → cap ≤ cap_most → length fields ≤ fields_most
    → AreFields count fields → IsPath (path_of cap fields)
fields_are_path count cap fields capped few are =
    let field_of = λ (f : Field). (let made : PathField = record { name = f.name; rep = f.rep } in made) in
    let names = map-map (λ (f : PathField). f.name) field_of fields in
    record {
      cap = capped;
      short = omega (arith, few, length-path_of cap fields);
      distinct = subst (IsDistinct ◌==◌) (sym names) are.distinct;
    }

-- a plain object of a graph has a cap of at most 8, and a prototype and fields of the graph's objects
pub plain_held : (graph : Graph) (target : Value) (plain : PlainObject)
    → IsGraph graph → plain_at graph.objects target ≡ Some plain
    → IsPlain (length graph.objects) plain.cap plain.proto plain.fields
plain_held graph target plain is at =
    let there = (plain_at-is graph.objects target plain at).1 in
    held_at (IsObject (length graph.objects)) graph.objects plain.number (Plain plain.cap plain.proto plain.fields)
    is.made there

-- a graph in which a plain object gets other fields, with their path added, is a graph
pub reshapes : (limits : Limits) (graph : Graph) (target : Value) (plain : PlainObject) (fields : List Field)
    → IsGraph graph → plain_at graph.objects target ≡ Some plain → plain.cap ≤ cap_most
    → length fields ≤ fields_most → AreFields (length graph.objects) fields
    → Leads IsGraph (reshape limits graph plain fields)
reshapes limits graph target plain fields is at capped few held =
    let path = path_of plain.cap fields in
    let fits = fields_are_path (length graph.objects) plain.cap fields capped few held in
    each IsGraph _ (with_path limits.paths graph.paths path) _ (λ paths added.
    let more = adds limits.paths graph.paths paths path added is.paths fits in
    let was = plain_held graph target plain is at in
    let now : IsPlain (length graph.objects) plain.cap plain.proto fields =
    record { capped = capped; leads = was.leads; are = held } in
    let keeps : KeepsProto (Plain plain.cap plain.proto plain.fields) (Plain plain.cap plain.proto fields) =
    record {
      same = refl;
      plain = λ m one same.
          (record { number = m; cap = plain.cap; proto = plain.proto; fields = fields }, refl);
    } in
    let protos = protos_set graph.objects plain.number (Plain plain.cap plain.proto plain.fields)
    (Plain plain.cap plain.proto fields) (plain_at-is graph.objects target plain at).1 keeps is.protos in
    puts graph plain.number (Plain plain.cap plain.proto fields) paths is protos now more.are more.keeps more.has)

-- a graph in which a list gets other elements is a graph
pub relists : (graph : Graph) (target : Value) (list : ListObject) (elements : List Value)
    → IsGraph graph → list_at graph.objects target ≡ Some list → AreElements (length graph.objects) elements
    → IsGraph (relist graph list elements)
relists graph target list elements is at held =
    let keeps : KeepsProto (ListOf list.elements) (ListOf elements) =
    record { same = refl; plain = λ m one same. absurd (none-some one same) } in
    let protos = protos_set graph.objects list.number (ListOf list.elements) (ListOf elements)
    (list_at-is graph.objects target list at).1 keeps is.protos in
    puts graph list.number (ListOf elements) graph.paths is protos held is.paths (λ path there. there) tt

-- a graph in which a weak map gets other entries is a graph
pub reweaves : (graph : Graph) (target : Value) (weak : WeakObject) (entries : List Entry)
    → IsGraph graph → weak_at graph.objects target ≡ Some weak → AreEntries (length graph.objects) entries
    → IsGraph (reweave graph weak entries)
reweaves graph target weak entries is at held =
    let keeps : KeepsProto (Weak weak.entries) (Weak entries) =
    record { same = refl; plain = λ m one same. absurd (none-some one same) } in
    let protos = protos_set graph.objects weak.number (Weak weak.entries) (Weak entries)
    (weak_at-is graph.objects target weak at).1 keeps is.protos in
    puts graph weak.number (Weak entries) graph.paths is protos held is.paths (λ path there. there) tt

-- its cap is at most 8
pub cap_held : (graph : Graph) (target : Value) (plain : PlainObject)
    → IsGraph graph → plain_at graph.objects target ≡ Some plain → plain.cap ≤ cap_most
cap_held graph target plain is at = (plain_held graph target plain is at).capped

-- its fields are of the graph's objects
pub fields_held : (graph : Graph) (target : Value) (plain : PlainObject)
    → IsGraph graph → plain_at graph.objects target ≡ Some plain → AreFields (length graph.objects) plain.fields
fields_held graph target plain is at = (plain_held graph target plain is at).are

-- a list of a graph has elements of the graph's objects, and no more than a list may have
pub elements_held : (graph : Graph) (target : Value) (list : ListObject)
    → IsGraph graph → list_at graph.objects target ≡ Some list → AreElements (length graph.objects) list.elements
elements_held graph target list is at =
    let there = (list_at-is graph.objects target list at).1 in
    held_at (IsObject (length graph.objects)) graph.objects list.number (ListOf list.elements) is.made there

-- a weak map of a graph has entries of the graph's objects
pub entries_held : (graph : Graph) (target : Value) (weak : WeakObject)
    → IsGraph graph → weak_at graph.objects target ≡ Some weak → AreEntries (length graph.objects) weak.entries
entries_held graph target weak is at =
    let there = (weak_at-is graph.objects target weak at).1 in
    held_at (IsObject (length graph.objects)) graph.objects weak.number (Weak weak.entries) is.made there
