-- The meaning of each command.
use Rattle.std.specs.Prelude.{ℕ, suc, Bool, true, false, not, ◌&&◌, List, [], ◌∷◌, ◌++◌, length, take}
use Rattle.std.specs.Prelude.{drop, Option, Some, None, is_none, option_and_then, nat_le, ◌==◌, ℤ, pos, negsuc, ◌+ℤ◌}
use Rattle.std.specs.Prelude.{int_le, count_by, unwrap_or, slice_get, slice_set, if◌then◌else◌}
use Rattle.std.specs.Ordering.{int_eq}
use Rattle.std.specs.FinMap.{get, remove}
use Rattle.heap_command.specs.declared.command.Command.{Command}
use Rattle.heap_command.specs.declared.command.Command.TheVariants as command
use Rattle.heap_command.specs.declared.command.FaultWord.{FaultWord}
use Rattle.heap_command.specs.declared.command.FaultWord.TheVariants.{Unbound, NotObject, NotList, NotWeak, NotInt}
use Rattle.heap_command.specs.declared.command.FaultWord.TheVariants.{BadKey, Range, Overflow, FieldsFull, ListFull}
use Rattle.heap_command.specs.declared.command.FaultWord.TheVariants.{WeakFull, ShapesFull, Ring}
use Rattle.object_graph.specs.declared.value.Value.{Value}
use Rattle.object_graph.specs.declared.value.Value.TheVariants.{Int, Undefined, Ref}
use Rattle.object_graph.specs.declared.object.Object.TheVariants.{Plain, List as ListOf, Weak}
use Rattle.object_graph.specs.declared.object.Field.{Field}
use Rattle.object_graph.specs.declared.object.Entry.{Entry}
use Rattle.object_graph.specs.declared.path.Path.{Path}
use Rattle.object_graph.specs.Objects.{field_value, with_field, without_field, entry_value, with_entry, without_entry}
use Rattle.object_graph.specs.Paths.{path_of, same_path, with_path}
use Rattle.object_graph.specs.Graphs.{Graph, PlainObject, ListObject, WeakObject, bind, make, replace, value_of}
use Rattle.object_graph.specs.Graphs.{integer_in, object_in, plain_at, list_at, weak_at}
use Rattle.object_graph.specs.Prototypes.{field_along, prototypes_most, makes_ring, proto_for, with_proto}
use Rattle.object_graph.specs.Texts.{line, value_text, truth_text, shape_text, census_text}
use Rattle.object_graph.specs.Reach.{is_marked, reach, reached_objects, reached_entries}

-- how much a graph may hold
pub record Limits : Type 0 where
  -- the most fields of an object, by its cap
  pub fields : ℕ → ℕ
  -- the most field paths; None is no limit
  pub paths : Option ℕ

-- the most elements of a list
abbrev pub list_most : ℕ
list_most = 1000

-- the most entries of a weak map whose key can be reached
abbrev pub weak_most : ℕ
weak_most = 256

-- what a command comes to: the graph after it and the bytes that it writes, or a fault
pub data Outcome : Type 0 where
  done : Graph → List ℕ → Outcome
  fault : FaultWord → Outcome

-- goes on with what is there, and is else this fault
abbrev pub given : {A : Type 0} → FaultWord → Option A → (A → Outcome) → Outcome
given word None next = fault word
given word (Some found) next = next found

-- is this fault where the test holds, and goes on where not
abbrev pub unless : FaultWord → Bool → Outcome → Outcome
unless word true next = fault word
unless word false next = next

-- an integer is outside 64 bits
abbrev pub is_outside : ℤ → Bool
is_outside v = not (int_le (negsuc 9223372036854775807) v && int_le v (pos 9223372036854775807))

-- the number that an integer is, if it is below this one
abbrev pub below : ℕ → ℤ → Option ℕ
below most (pos n) = if nat_le (suc n) most then Some n else None
below most (negsuc n) = None

-- the name is new to the object, and the object has as many fields as it may have
abbrev pub no_room_for : Limits → PlainObject → ℕ → Bool
no_room_for limits plain name =
    is_none (field_value plain.fields name) && nat_le (limits.fields plain.cap) (length plain.fields)

-- Of the entries whose key can be reached none has this key, and there are as many as a weak map may have. Entries with
-- other keys do not count.
abbrev pub no_entry_for : List Bool → List Entry → ℕ → Bool
no_entry_for marks entries key =
    (count_by (λ entry. is_marked marks entry.key && (entry.key == key)) entries == 0)
    && nat_le weak_most (count_by (λ entry. is_marked marks entry.key) entries)

-- the graph with these fields in the object in place of its own, and these paths
abbrev pub refill : Graph → PlainObject → List Field → List Path → Graph
refill graph plain fields paths =
    record graph { objects = slice_set graph.objects plain.number (Plain plain.cap plain.proto fields); paths = paths }

-- gives the object these fields, and adds the path and its prefixes
abbrev pub reshape : Limits → Graph → PlainObject → List Field → Outcome
reshape limits graph plain fields =
    given ShapesFull (with_path limits.paths graph.paths (path_of plain.cap fields)) (λ paths.
    done (refill graph plain fields paths) [])

-- gives the object these fields where the field is there, and changes nothing where it is not
abbrev pub reshape_if : Limits → Graph → PlainObject → Option Value → List Field → Outcome
reshape_if limits graph plain None fields = done graph []
reshape_if limits graph plain (Some value) fields = reshape limits graph plain fields

-- the graph with these elements in the list in place of its own
abbrev pub relist : Graph → ListObject → List Value → Graph
relist graph list elements = replace graph list.number (ListOf elements)

-- the graph with these entries in the weak map in place of its own
abbrev pub reweave : Graph → WeakObject → List Entry → Graph
reweave graph weak entries = replace graph weak.number (Weak entries)

-- two values are the same integer, both undefined, or the same object
abbrev pub same_value : Value → Value → Bool
same_value (Int a) (Int b) = int_eq a b
same_value Undefined Undefined = true
same_value (Ref a) (Ref b) = a == b
same_value _ _ = false

-- The meaning of a command. `names` are the field names by number. Variables that the command reads are
-- read from left to right, and the first that is unbound is the fault; then come the other faults, in order.
abbrev pub meaning : Limits → List (List ℕ) → Graph → Command → Outcome
meaning limits names graph (command.New x cap) = done (make graph x (Plain cap None [])) []
meaning limits names graph (command.List x) = done (make graph x (ListOf [])) []
meaning limits names graph (command.Weak x) = done (make graph x (Weak [])) []
meaning limits names graph (command.LetValue x v) =
    given Unbound (value_of graph v) (λ value.
    done (bind graph x value) [])
meaning limits names graph (command.DropVar x) =
    given Unbound (get graph.bindings x) (λ _.
    done (record graph { bindings = remove graph.bindings x }) [])
meaning limits names graph (command.Add x v) =
    given Unbound (get graph.bindings x) (λ first.
    given Unbound (value_of graph v) (λ second.
    given NotInt (integer_in first) (λ a.
    given NotInt (integer_in second) (λ b.
    unless Overflow (is_outside (a +ℤ b)) (
    done (bind graph x (Int (a +ℤ b))) [])))))
meaning limits names graph (command.Set x f v) =
    given Unbound (get graph.bindings x) (λ target.
    given Unbound (value_of graph v) (λ value.
    given NotObject (plain_at graph.objects target) (λ plain.
    unless FieldsFull (no_room_for limits plain f) (
    reshape limits graph plain (with_field plain.fields f value)))))
meaning limits names graph (command.Get y x f) =
    given Unbound (get graph.bindings x) (λ target.
    given NotObject (plain_at graph.objects target) (λ plain.
    done (bind graph y (unwrap_or (field_along graph.objects prototypes_most plain f) Undefined)) []))
meaning limits names graph (command.Del x f) =
    given Unbound (get graph.bindings x) (λ target.
    given NotObject (plain_at graph.objects target) (λ plain.
    reshape_if limits graph plain (field_value plain.fields f) (without_field plain.fields f)))
meaning limits names graph (command.Proto x v) =
    given Unbound (get graph.bindings x) (λ target.
    given Unbound (value_of graph v) (λ value.
    given NotObject (plain_at graph.objects target) (λ plain.
    given NotObject (proto_for graph.objects value) (λ proto.
    unless Ring (makes_ring graph.objects plain.number proto) (
    done (with_proto graph plain proto) [])))))
meaning limits names graph (command.Push x v) =
    given Unbound (get graph.bindings x) (λ target.
    given Unbound (value_of graph v) (λ value.
    given NotList (list_at graph.objects target) (λ list.
    unless ListFull (nat_le list_most (length list.elements)) (
    done (relist graph list (list.elements ++ value ∷ [])) []))))
meaning limits names graph (command.Put x i v) =
    given Unbound (get graph.bindings x) (λ target.
    given Unbound (value_of graph i) (λ index.
    given Unbound (value_of graph v) (λ value.
    given NotList (list_at graph.objects target) (λ list.
    given NotInt (integer_in index) (λ n.
    given Range (below (length list.elements) n) (λ at.
    done (relist graph list (slice_set list.elements at value)) []))))))
meaning limits names graph (command.At y x i) =
    given Unbound (get graph.bindings x) (λ target.
    given Unbound (value_of graph i) (λ index.
    given NotList (list_at graph.objects target) (λ list.
    given NotInt (integer_in index) (λ n.
    given Range (option_and_then (slice_get list.elements) (below (length list.elements) n)) (λ value.
    done (bind graph y value) [])))))
meaning limits names graph (command.Shift x n) =
    given Unbound (get graph.bindings x) (λ target.
    given Unbound (value_of graph n) (λ count.
    given NotList (list_at graph.objects target) (λ list.
    given NotInt (integer_in count) (λ k.
    given Range (below (suc (length list.elements)) k) (λ gone.
    done (relist graph list (drop gone list.elements)) [])))))
meaning limits names graph (command.Trunc x n) =
    given Unbound (get graph.bindings x) (λ target.
    given Unbound (value_of graph n) (λ count.
    given NotList (list_at graph.objects target) (λ list.
    given NotInt (integer_in count) (λ k.
    given Range (below (suc (length list.elements)) k) (λ kept.
    done (relist graph list (take kept list.elements)) [])))))
meaning limits names graph (command.WPut m k v) =
    given Unbound (get graph.bindings m) (λ target.
    given Unbound (value_of graph k) (λ key.
    given Unbound (value_of graph v) (λ value.
    given NotWeak (weak_at graph.objects target) (λ weak.
    given BadKey (object_in key) (λ number.
    unless WeakFull (no_entry_for (reach graph) weak.entries number) (
    done (reweave graph weak (with_entry weak.entries number value)) []))))))
meaning limits names graph (command.WGet y m k) =
    given Unbound (get graph.bindings m) (λ target.
    given Unbound (value_of graph k) (λ key.
    given NotWeak (weak_at graph.objects target) (λ weak.
    given BadKey (object_in key) (λ number.
    done (bind graph y (unwrap_or (entry_value weak.entries number) Undefined)) []))))
meaning limits names graph (command.WDel m k) =
    given Unbound (get graph.bindings m) (λ target.
    given Unbound (value_of graph k) (λ key.
    given NotWeak (weak_at graph.objects target) (λ weak.
    given BadKey (object_in key) (λ number.
    done (reweave graph weak (without_entry weak.entries number)) []))))
meaning limits names graph (command.Print v) =
    given Unbound (value_of graph v) (λ value.
    done graph (line (value_text graph.objects value)))
meaning limits names graph (command.Same a b) =
    given Unbound (value_of graph a) (λ first.
    given Unbound (value_of graph b) (λ second.
    done graph (line (truth_text (same_value first second)))))
meaning limits names graph (command.Alike x y) =
    given Unbound (get graph.bindings x) (λ first.
    given Unbound (get graph.bindings y) (λ second.
    given NotObject (plain_at graph.objects first) (λ a.
    given NotObject (plain_at graph.objects second) (λ b.
    done graph (line (truth_text (same_path (path_of a.cap a.fields) (path_of b.cap b.fields))))))))
meaning limits names graph (command.Shape x) =
    given Unbound (get graph.bindings x) (λ target.
    given NotObject (plain_at graph.objects target) (λ plain.
    done graph (line (shape_text names plain.cap plain.fields))))
meaning limits names graph command.Scavenge = done graph []
meaning limits names graph command.Mark = done graph []
meaning limits names graph command.Finish = done graph []
meaning limits names graph command.Gc = done graph []
meaning limits names graph command.Census =
    done graph (line (census_text (reached_objects graph) (reached_entries graph)))
