-- What a command that is carried out changes.
use Rattle.std.proofs.Common.{◌≡◌, ℕ, List, [], length, take, set, Option, Some, None, refl, sym, ap, ◌∙◌, arith}
use Rattle.std.specs.Prelude.{slice_get, option_and_then}
use Rattle.std.specs.Ordering.{nat_cmp}
use Rattle.std.specs.FinMap.{FinMap, get}
use Rattle.std.proofs.lemmas.List.{take_at, take_all}
use Rattle.heap_command.specs.declared.command.Command.{Command}
use Rattle.heap_command.specs.declared.command.Command.TheVariants as command
use Rattle.object_graph.specs.declared.value.Value.{Value}
use Rattle.object_graph.specs.declared.value.Value.TheVariants.{Ref}
use Rattle.object_graph.specs.declared.object.Field.{Field}
use Rattle.object_graph.specs.declared.object.Entry.{Entry}
use Rattle.object_graph.specs.declared.object.Object.{Object}
use Rattle.object_graph.specs.declared.object.Object.TheVariants.{Plain, List as ListOf, Weak}
use Rattle.object_graph.specs.declared.path.Path.{Path}
use Rattle.object_graph.specs.Paths.{path_of, with_path, missing}
use Rattle.object_graph.specs.Objects.{field_value, without_field}
use Rattle.object_graph.specs.Graphs.{Graph, PlainObject, ListObject, WeakObject, make, plain_at, list_at, weak_at}
use Rattle.object_graph.specs.Meaning.{Limits, refill, relist, reweave, meaning}
use Rattle.object_graph.specs.Prototypes.{proto_in, with_proto}
use Rattle.object_graph.proofs.Leads.{Leads, each, if_not, if_there}
use Rattle.graph_laws.specs.Laws.{changes, MayChange, SameKind, GivesProtos, with_other_proto}
use Rattle.object_graph.proofs.AddedPaths.{with_path-is}
use Rattle.graph_laws.proofs.FoundObjects.{plain_at-is, list_at-is, weak_at-is}

-- a command that gives no prototype leaves that of the object, and one that gives a prototype leaves all else
pub record LeavesRest (command : Command) (old new : Object) : Type 0 where
  pub proto : ¬ GivesProtos command → proto_in new ≡ proto_in old
  pub rest : GivesProtos command → (other : Option ℕ) × (new ≡ with_other_proto other old)

-- a command that gives no prototype leaves the rest where it leaves the prototype
leaves_proto : (command : Command) (old new : Object) → ¬ GivesProtos command → proto_in new ≡ proto_in old
    → LeavesRest command old new
leaves_proto command old new none same = record { proto = λ no. same; rest = λ gives. absurd (none gives) }

-- a command that gives a prototype leaves the rest where it leaves all but the prototype
leaves_fields : (command : Command) (old : Object) (other : Option ℕ) → GivesProtos command
    → LeavesRest command old (with_other_proto other old)
leaves_fields command old other gives = record { proto = λ no. absurd (no gives); rest = λ given. (other, refl) }

-- a command of another kind than those that give a prototype gives none
gives_none : ⊥ → ⊥
gives_none gives = gives

-- the command binds and unbinds variables, makes an object, or puts one in the place of another of its kind
pub data Changes (graph : Graph) (command : Command) : Graph → Type 0 where
  binds : (bindings : FinMap nat_cmp Value) → Changes graph command (record graph { bindings = bindings })
  makes : (x : ℕ) (object : Object) → proto_in object ≡ None → Changes graph command (make graph x object)
  puts : (number : ℕ) (old new : Object) (paths : List Path)
      → MayChange graph command number → slice_get graph.objects number ≡ Some old → SameKind old new
      → LeavesRest command old new → take (length graph.paths) paths ≡ graph.paths
      → Changes graph command (record graph { objects = set graph.objects number new; paths = paths })

-- the paths are their own first ones
same_paths : (paths : List Path) → take (length paths) paths ≡ paths
same_paths paths = take_all (length paths) paths (omega arith)

-- the paths are the first ones after others were added
more_paths : (most : Option ℕ) (old new : List Path) (path : Path) → with_path most old path ≡ Some new
    → take (length old) new ≡ old
more_paths most old new path is =
    ap (λ paths. take (length old) paths) (sym (with_path-is most old new path is))
    ∙ take_at old (missing old path) (length old) refl

-- the variable of the command refers to what it changes
may_change : (graph : Graph) (command : Command) (x : ℕ) (target : Value) (number : ℕ)
    → changes command ≡ Some x → get graph.bindings x ≡ Some target → target ≡ Ref number
    → MayChange graph command number
may_change graph command x target number changed bound is =
    ap (λ y. option_and_then (λ z. get graph.bindings z) y) changed ∙ bound ∙ ap (λ t. Some t) is

-- what a value refers to becomes another object of its kind, and paths are added
rewrites : (graph : Graph) (command : Command) (x : ℕ) (target : Value) (number : ℕ)
    (old new : Object) (paths : List Path)
    → changes command ≡ Some x → get graph.bindings x ≡ Some target
    → (target ≡ Ref number) × (slice_get graph.objects number ≡ Some old)
    → SameKind old new → LeavesRest command old new → take (length graph.paths) paths ≡ graph.paths
    → Changes graph command (record graph { objects = set graph.objects number new; paths = paths })
rewrites graph command x target number old new paths changed bound is same leaves added =
    puts number old new paths (may_change graph command x target number changed bound is.0) is.1 same leaves added

-- a list gets other elements
relists : (graph : Graph) (command : Command) (x : ℕ) (none : ¬ GivesProtos command) (target : Value)
    (list : ListObject) (elements : List Value)
    → changes command ≡ Some x → get graph.bindings x ≡ Some target → list_at graph.objects target ≡ Some list
    → Changes graph command (relist graph list elements)
relists graph command x none target list elements changed bound at =
    rewrites graph command x target list.number (ListOf list.elements) (ListOf elements) graph.paths changed bound
    (list_at-is graph.objects target list at) tt
    (leaves_proto command (ListOf list.elements) (ListOf elements) none refl) (same_paths graph.paths)

-- a weak map gets other entries
reweaves : (graph : Graph) (command : Command) (x : ℕ) (none : ¬ GivesProtos command) (target : Value)
    (weak : WeakObject) (entries : List Entry)
    → changes command ≡ Some x → get graph.bindings x ≡ Some target → weak_at graph.objects target ≡ Some weak
    → Changes graph command (reweave graph weak entries)
reweaves graph command x none target weak entries changed bound at =
    rewrites graph command x target weak.number (Weak weak.entries) (Weak entries) graph.paths changed bound
    (weak_at-is graph.objects target weak at) tt
    (leaves_proto command (Weak weak.entries) (Weak entries) none refl) (same_paths graph.paths)

-- a plain object gets other fields, and paths are added
refills : (limits : Limits) (graph : Graph) (command : Command) (x : ℕ) (none : ¬ GivesProtos command)
    (target : Value) (plain : PlainObject) (fields : List Field) (paths : List Path)
    → changes command ≡ Some x → get graph.bindings x ≡ Some target → plain_at graph.objects target ≡ Some plain
    → with_path limits.paths graph.paths (path_of plain.cap fields) ≡ Some paths
    → Changes graph command (refill graph plain fields paths)
refills limits graph command x none target plain fields paths changed bound at added =
    rewrites graph command x target plain.number (Plain plain.cap plain.proto plain.fields)
    (Plain plain.cap plain.proto fields) paths changed bound
    (plain_at-is graph.objects target plain at) refl
    (leaves_proto command (Plain plain.cap plain.proto plain.fields) (Plain plain.cap plain.proto fields) none refl)
    (more_paths limits.paths graph.paths paths (path_of plain.cap fields) added)

-- a plain object gets another prototype, or none
reprotos : (graph : Graph) (command : Command) (x : ℕ) (gives : GivesProtos command) (target : Value)
    (plain : PlainObject) (proto : Option ℕ)
    → changes command ≡ Some x → get graph.bindings x ≡ Some target → plain_at graph.objects target ≡ Some plain
    → Changes graph command (with_proto graph plain proto)
reprotos graph command x gives target plain proto changed bound at =
    rewrites graph command x target plain.number (Plain plain.cap plain.proto plain.fields)
    (Plain plain.cap proto plain.fields) graph.paths changed bound
    (plain_at-is graph.objects target plain at) refl
    (leaves_fields command (Plain plain.cap plain.proto plain.fields) proto gives) (same_paths graph.paths)

-- the graph stays as it was
stays : (graph : Graph) (command : Command) → Changes graph command graph
stays graph command = binds graph.bindings

-- each command, if it is carried out, changes only so much
pub changed : (limits : Limits) (names : List (List ℕ)) (graph : Graph) (command : Command)
    → Leads (Changes graph command) (meaning limits names graph command)
changed limits names graph (command.New x cap) = makes x (Plain cap None []) refl
changed limits names graph (command.List x) = makes x (ListOf []) refl
changed limits names graph (command.Weak x) = makes x (Weak []) refl
changed limits names graph (command.LetValue x v) = search (each, binds)
changed limits names graph (command.DropVar x) = search (each, binds)
changed limits names graph (command.Add x v) = search (each, if_not, binds) depth 12
changed limits names graph (command.Set x f v) =
    search (each, if_not, refills limits graph (command.Set x f v) x gives_none) depth 12
changed limits names graph (command.Get y x f) = search (each, binds)
changed limits names graph (command.Del x f) =
    let gone = λ (plain : PlainObject). without_field plain.fields f in
    each _ _ (get graph.bindings x) _ (λ target bound.
    each _ _ (plain_at graph.objects target) _ (λ plain at.
    if_there (Changes graph (command.Del x f)) limits graph plain (field_value plain.fields f) (gone plain)
    (stays graph (command.Del x f))
    (each _ _ (with_path limits.paths graph.paths (path_of plain.cap (gone plain))) _ (λ paths added.
    refills limits graph (command.Del x f) x gives_none target plain (gone plain) paths refl bound at added))))
changed limits names graph (command.Proto x v) =
    search (each, if_not, reprotos graph (command.Proto x v) x tt) depth 14
changed limits names graph (command.Push x v) =
    search (each, if_not, relists graph (command.Push x v) x gives_none) depth 12
changed limits names graph (command.Put x i v) = search (each, relists graph (command.Put x i v) x gives_none) depth 12
changed limits names graph (command.At y x i) = search (each, binds) depth 12
changed limits names graph (command.Shift x n) = search (each, relists graph (command.Shift x n) x gives_none) depth 12
changed limits names graph (command.Trunc x n) = search (each, relists graph (command.Trunc x n) x gives_none) depth 12
changed limits names graph (command.WPut m k v) =
    search (each, if_not, reweaves graph (command.WPut m k v) m gives_none) depth 12
changed limits names graph (command.WGet y m k) = search (each, binds) depth 12
changed limits names graph (command.WDel m k) = search (each, reweaves graph (command.WDel m k) m gives_none) depth 12
changed limits names graph (command.Print v) = search (each, stays)
changed limits names graph (command.Same a b) = search (each, stays)
changed limits names graph (command.Alike x y) = search (each, stays) depth 12
changed limits names graph (command.Shape x) = search (each, stays)
changed limits names graph _ = stays graph _
