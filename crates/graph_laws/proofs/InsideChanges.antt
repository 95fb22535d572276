-- A graph that stays inside a set of objects does so after each command, where an object that is made is in the set.
use Rattle.std.proofs.Common.{◌≡◌, ℕ, suc, zero, Bool, true, List, [], ◌∷◌, ◌++◌, length, set, Option, Some, None, refl}
use Rattle.std.proofs.Common.{ap, subst, ◌⊎◌, inl, inr}
use Rattle.std.specs.Prelude.{All, slice_get, is_some, IsTrue}
use Rattle.std.specs.FinMap.{remove}
use Rattle.std.proofs.lemmas.Option.{none-some, same_Some}
use Rattle.std.proofs.lemmas.List.Elements.{All-nil, All-push, All-set, All-take, All-drop}
use Rattle.heap_command.specs.declared.command.Command.{Command}
use Rattle.heap_command.specs.declared.command.Command.TheVariants as command
use Rattle.object_graph.specs.declared.value.Value.{Value}
use Rattle.object_graph.specs.declared.value.Value.TheVariants.{Ref}
use Rattle.object_graph.specs.declared.object.Field.{Field}
use Rattle.object_graph.specs.declared.object.Entry.{Entry}
use Rattle.object_graph.specs.declared.object.Object.{Object}
use Rattle.object_graph.specs.declared.object.Object.TheVariants.{Plain, List as ListOf, Weak}
use Rattle.object_graph.specs.declared.path.Path.{Path}
use Rattle.object_graph.specs.Objects.{without_field, without_entry}
use Rattle.object_graph.specs.Paths.{path_of, with_path}
use Rattle.object_graph.specs.Graphs.{Graph, PlainObject, ListObject, WeakObject, bind, make}
use Rattle.object_graph.specs.Meaning.{Limits, relist, reweave, reshape, meaning}
use Rattle.object_graph.specs.Prototypes.{with_proto}
use Rattle.object_graph.proofs.Leads.{Leads, each, if_not, if_there}
use Rattle.graph_laws.specs.ReachAfter.{made_for}
use Rattle.graph_laws.proofs.Held.{insert_all, remove_all}
use Rattle.graph_laws.proofs.HeldParts.{without_field_values, without_entry_all}
use Rattle.graph_laws.proofs.Inside.{IsInside, ProtoInside, FieldsInside, EntryInside, ObjectInside, StaysInside}
use Rattle.graph_laws.proofs.Inside.{operand_inside, key_inside, proto_inside, fields_inside, elements_inside}
use Rattle.graph_laws.proofs.Inside.{entries_inside, element_inside, entry_inside, with_field_inside}
use Rattle.graph_laws.proofs.Inside.{with_entry_inside, given_inside}
use Rattle.graph_laws.proofs.FieldsAlong.{along_inside}

-- after one was added at the end, an element is that one, at its place, or it was there
pub pushed : {X : Type 0} (xs : List X) (added : X) (i : ℕ) (x : X) → slice_get (xs ++ added ∷ []) i ≡ Some x
    → (slice_get xs i ≡ Some x) ⊎ ((i ≡ length xs) × (added ≡ x))
pushed [] added zero x there = inr (refl, same_Some added x there)
pushed [] added (suc i) x there = absurd (none-some x there)
pushed (first ∷ xs) added zero x there = inl there
pushed (first ∷ xs) added (suc i) x there = elim (pushed xs added i x there) [
  | inl old ↦ inl old
  | inr new ↦ inr (ap suc new.0, new.1)
]

-- after one was put in the place of another, an element is that one or was there
put_or_old : {X : Type 0} (xs : List X) (place : ℕ) (put : X) (i : ℕ) (x : X) → slice_get (set xs place put) i ≡ Some x
    → (slice_get xs i ≡ Some x) ⊎ (put ≡ x)
put_or_old [] place put i x there = inl there
put_or_old (first ∷ xs) zero put zero x there = inr (same_Some put x there)
put_or_old (first ∷ xs) zero put (suc i) x there = inl there
put_or_old (first ∷ xs) (suc place) put zero x there = inl there
put_or_old (first ∷ xs) (suc place) put (suc i) x there = put_or_old xs place put i x there

-- a graph stays inside with a variable bound to a value inside
binds : (inside : ℕ → Bool) (graph : Graph) (x : ℕ) (value : Value) → StaysInside inside graph → IsInside inside value
    → StaysInside inside (bind graph x value)
binds inside graph x value stays is = record {
  bound = insert_all (IsInside inside) graph.bindings x value is stays.bound;
  closed = stays.closed;
}

-- and with a variable unbound
unbinds : (inside : ℕ → Bool) (graph : Graph) (x : ℕ) → StaysInside inside graph
    → StaysInside inside (record graph { bindings = remove graph.bindings x })
unbinds inside graph x stays =
    record { bound = remove_all (IsInside inside) graph.bindings x stays.bound; closed = stays.closed }

-- and with one object more, which is inside and refers to objects inside
makes : (inside : ℕ → Bool) (graph : Graph) (x : ℕ) (object : Object) → inside (length graph.objects) ≡ true
    → StaysInside inside graph → ObjectInside inside object → StaysInside inside (make graph x object)
makes inside graph x object known stays is = record {
  bound = insert_all (IsInside inside) graph.bindings x (Ref (length graph.objects)) known stays.bound;
  closed = λ holder found there held. elim (pushed graph.objects object holder found there) [
    | inl old ↦ stays.closed holder found old held
    | inr new ↦ subst (ObjectInside inside) new.1 is
  ];
}

-- and with an object that refers to objects inside in the place of another
puts : (inside : ℕ → Bool) (graph : Graph) (number : ℕ) (object : Object) (paths : List Path)
    → StaysInside inside graph → ObjectInside inside object
    → StaysInside inside (record graph { objects = set graph.objects number object; paths = paths })
puts inside graph number object paths stays is = record {
  bound = stays.bound;
  closed = λ holder found there held. elim (put_or_old graph.objects number object holder found there) [
    | inl old ↦ stays.closed holder found old held
    | inr new ↦ subst (ObjectInside inside) new is
  ];
}

-- and where a plain object gets other fields, with values inside
reshapes : (inside : ℕ → Bool) (limits : Limits) (graph : Graph) (plain : PlainObject) (fields : List Field)
    → StaysInside inside graph → ProtoInside inside plain.proto → FieldsInside inside fields
    → Leads (StaysInside inside) (reshape limits graph plain fields)
reshapes inside limits graph plain fields stays leads all =
    each (StaysInside inside) _ (with_path limits.paths graph.paths (path_of plain.cap fields)) _ (λ paths added.
    puts inside graph plain.number (Plain plain.cap plain.proto fields) paths stays (leads, all))

-- and where a plain object gets another prototype, which is inside, or none
reprotos : (inside : ℕ → Bool) (graph : Graph) (plain : PlainObject) (proto : Option ℕ)
    → StaysInside inside graph → ProtoInside inside proto → FieldsInside inside plain.fields
    → StaysInside inside (with_proto graph plain proto)
reprotos inside graph plain proto stays leads all =
    puts inside graph plain.number (Plain plain.cap proto plain.fields) graph.paths stays (leads, all)

-- and where a list gets other elements, all inside
relists : (inside : ℕ → Bool) (graph : Graph) (list : ListObject) (elements : List Value)
    → StaysInside inside graph → All (IsInside inside) elements → StaysInside inside (relist graph list elements)
relists inside graph list elements stays all = puts inside graph list.number (ListOf elements) graph.paths stays all

-- and where a weak map gets other entries, with values inside where their keys are
reweaves : (inside : ℕ → Bool) (graph : Graph) (weak : WeakObject) (entries : List Entry)
    → StaysInside inside graph → All (EntryInside inside) entries → StaysInside inside (reweave graph weak entries)
reweaves inside graph weak entries stays all = puts inside graph weak.number (Weak entries) graph.paths stays all

-- fields without one have values inside where all have
fewer_fields : (inside : ℕ → Bool) (fields : List Field) (name : ℕ) → FieldsInside inside fields
    → FieldsInside inside (without_field fields name)
fewer_fields inside fields name all = without_field_values (IsInside inside) fields name all

-- entries without one do so too
fewer_entries : (inside : ℕ → Bool) (entries : List Entry) (key : ℕ) → All (EntryInside inside) entries
    → All (EntryInside inside) (without_entry entries key)
fewer_entries inside entries key all = without_entry_all (EntryInside inside) entries key all

-- each command, if it is carried out, leaves a graph that stays inside, where what it makes is inside
pub leads : (inside : ℕ → Bool) (limits : Limits) (names : List (List ℕ)) (graph : Graph) (command : Command)
    → (IsTrue (is_some (made_for command)) → inside (length graph.objects) ≡ true) → StaysInside inside graph
    → Leads (StaysInside inside) (meaning limits names graph command)
leads inside limits names graph (command.New x cap) known is =
    makes inside graph x (Plain cap None []) (known refl) is (tt, All-nil _)
leads inside limits names graph (command.List x) known is = makes inside graph x (ListOf []) (known refl) is (All-nil _)
leads inside limits names graph (command.Weak x) known is = makes inside graph x (Weak []) (known refl) is (All-nil _)
leads inside limits names graph (command.LetValue x v) known is = search (each, binds, operand_inside)
leads inside limits names graph (command.DropVar x) known is = search (each, unbinds)
leads inside limits names graph (command.Add x v) known is =
    search (each, if_not, binds inside graph x) depth 12
leads inside limits names graph (command.Set x f v) known is =
    search (
      each,
      if_not,
      reshapes,
      proto_inside inside graph x,
      fields_inside inside graph x,
      with_field_inside,
      operand_inside,
    ) depth 14
leads inside limits names graph (command.Get y x f) known is =
    search (each, binds, along_inside inside graph x) depth 12
leads inside limits names graph (command.Del x f) known is =
    search (each, if_there, reshapes, proto_inside inside graph x, fields_inside inside graph x, fewer_fields) depth 14
leads inside limits names graph (command.Proto x v) known is =
    search (each, if_not, reprotos, given_inside, operand_inside, fields_inside inside graph x) depth 14
leads inside limits names graph (command.Push x v) known is =
    search (each, if_not, relists, All-push, elements_inside inside graph x, operand_inside) depth 12
leads inside limits names graph (command.Put x i v) known is =
    search (each, relists, All-set, elements_inside inside graph x, operand_inside) depth 14
leads inside limits names graph (command.At y x i) known is =
    search (each, binds, element_inside, elements_inside inside graph x) depth 14
leads inside limits names graph (command.Shift x n) known is =
    search (each, relists, All-drop, elements_inside inside graph x) depth 12
leads inside limits names graph (command.Trunc x n) known is =
    search (each, relists, All-take, elements_inside inside graph x) depth 12
leads inside limits names graph (command.WPut m k v) known is =
    search (each, if_not, reweaves, with_entry_inside, operand_inside, entries_inside inside graph m) depth 14
leads inside limits names graph (command.WGet y m k) known is =
    search (each, binds, entry_inside, key_inside inside graph k, entries_inside inside graph m) depth 14
leads inside limits names graph (command.WDel m k) known is =
    search (each, reweaves, fewer_entries, entries_inside inside graph m) depth 14
leads inside limits names graph (command.Print v) known is = search each
leads inside limits names graph (command.Same a b) known is = search each
leads inside limits names graph (command.Alike x y) known is = search each depth 12
leads inside limits names graph (command.Shape x) known is = search each
leads inside limits names graph _ known is = is
