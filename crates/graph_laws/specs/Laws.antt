-- Laws of the meaning: what a command leaves as it was, and how a run grows line by line.
use Rattle.std.specs.Prelude.{◌≡◌, ℕ, ◌≤◌, List, [], ◌∷◌, ◌++◌, length, take, Option, Some, None}
use Rattle.std.specs.Prelude.{slice_get, option_and_then}
use Rattle.std.specs.FinMap.{get}
use Rattle.heap_command.specs.declared.command.Command.{Command}
use Rattle.heap_command.specs.declared.command.Command.TheVariants.{Set, Del, Proto, Push, Put, Shift, Trunc, WPut}
use Rattle.heap_command.specs.declared.command.Command.TheVariants.{WDel, Scavenge, Mark, Finish, Gc}
use Rattle.object_graph.specs.declared.value.Value.TheVariants.{Ref}
use Rattle.object_graph.specs.declared.object.Object.{Object}
use Rattle.object_graph.specs.declared.object.Object.TheVariants.{Plain, List as ListOf, Weak}
use Rattle.object_graph.specs.Graphs.{Graph}
use Rattle.object_graph.specs.Prototypes.{proto_of}
use Rattle.object_graph.specs.Meaning.{Limits, done, meaning}
use Rattle.heap_command.specs.Executed.{Executed}
use Rattle.object_graph.specs.Run.{Told, tell, run_of, run_from, Ending, EndsAfter}

-- the run after one line more is the run after the lines before it, and then that line
abbrev pub RunsAgree : Type 0
RunsAgree =
    (limits : Limits) (names : List (List ℕ)) (lines : List Executed) (line : Executed)
    → run_of limits names (lines ++ line ∷ [])
    ≡ option_and_then (λ so_far. tell limits names so_far line.command) (run_of limits names lines)

-- runs with the same first lines go on from the same point: after those lines and more, the run is what the later lines
-- make of the run of the first ones
abbrev pub RunsGoOn : Type 0
RunsGoOn =
    (limits : Limits) (names : List (List ℕ)) (same more : List Executed)
    → run_of limits names (same ++ more)
    ≡ option_and_then (λ so_far. run_from limits names so_far more) (run_of limits names same)

-- what was written stays: more lines only add bytes after it
abbrev pub BytesStay : Type 0
BytesStay =
    (limits : Limits) (names : List (List ℕ)) (same more : List Executed) (before after : Told)
    → run_of limits names same ≡ Some before → run_of limits names (same ++ more) ≡ Some after
    → (later : List ℕ) × (after.bytes ≡ before.bytes ++ later)

-- a run ends once: two ways in which the run of these lines ends are one, after the same number of them with the same
-- told
abbrev pub RunsEndOnce : Type 0
RunsEndOnce =
    (limits : Limits) (names : List (List ℕ)) (lines : List Executed) (n m : ℕ) (a b : Told) (e f : Ending)
    → EndsAfter limits names lines n a e → EndsAfter limits names lines m b f
    → (n ≡ m) × (a ≡ b) × (e ≡ f)

-- each run ends: after some number of its lines, in some way
abbrev pub RunsEnd : Type 0
RunsEnd =
    (limits : Limits) (names : List (List ℕ)) (lines : List Executed)
    → (n : ℕ) × (so_far : Told) × (how : Ending) × EndsAfter limits names lines n so_far how

-- after a line with a fault there is no graph, however many lines come
abbrev pub FaultsStay : Type 0
FaultsStay =
    (limits : Limits) (names : List (List ℕ)) (lines more : List Executed)
    → run_of limits names lines ≡ None → run_of limits names (lines ++ more) ≡ None

-- the variable whose object the command changes, if it changes one
abbrev pub changes : Command → Option ℕ
changes (Set x f v) = Some x
changes (Del x f) = Some x
changes (Proto x v) = Some x
changes (Push x v) = Some x
changes (Put x i v) = Some x
changes (Shift x n) = Some x
changes (Trunc x n) = Some x
changes (WPut m k v) = Some m
changes (WDel m k) = Some m
changes _ = None

-- the command may change the object of this number: this variable refers to it
abbrev pub MayChange : Graph → Command → ℕ → Type 0
MayChange graph command number = option_and_then (λ x. get graph.bindings x) (changes command) ≡ Some (Ref number)

-- the two are of one kind: plain objects of the same cap, two lists, or two weak maps
abbrev pub SameKind : Object → Object → Type 0
SameKind (Plain cap proto fields) (Plain other_cap other_proto others) = cap ≡ other_cap
SameKind (ListOf elements) (ListOf others) = Unit {0}
SameKind (Weak entries) (Weak others) = Unit {0}
SameKind _ _ = ⊥

-- the command gives an object a prototype, or takes it away
abbrev pub GivesProtos : Command → Type 0
GivesProtos (Proto x v) = Unit {0}
GivesProtos _ = ⊥

-- the object with another prototype, or none, if it is a plain one
abbrev pub with_other_proto : Option ℕ → Object → Object
with_other_proto other (Plain cap proto fields) = Plain cap other fields
with_other_proto other (ListOf elements) = ListOf elements
with_other_proto other (Weak entries) = Weak entries

-- the objects of the graph are those of the graph after the command, by the same numbers
pub record ObjectsKept (graph : Graph) (command : Command) (after : Graph) : Type 0 where
  -- none is taken out
  pub none_lost : length graph.objects ≤ length after.objects
  -- each keeps its kind and its cap
  pub kinds : (number : ℕ) (object : Object) → slice_get graph.objects number ≡ Some object
      → (later : Object) × (slice_get after.objects number ≡ Some later) × SameKind object later
  -- those that the command may not change stay as they are
  pub others : (number : ℕ) (object : Object) → slice_get graph.objects number ≡ Some object
      → ¬ MayChange graph command number → slice_get after.objects number ≡ Some object
  -- each keeps its prototype, unless the command gives prototypes
  pub protos : (number : ℕ) → ¬ GivesProtos command
      → proto_of after.objects number ≡ proto_of graph.objects number
  -- a command that gives a prototype leaves all else of each object
  pub rest : GivesProtos command → (number : ℕ) (object : Object) → slice_get graph.objects number ≡ Some object
      → (other : Option ℕ) × (slice_get after.objects number ≡ Some (with_other_proto other object))

-- a command that is carried out keeps the objects
abbrev pub ObjectsStay : Type 0
ObjectsStay =
    (limits : Limits) (names : List (List ℕ)) (graph : Graph) (command : Command) (after : Graph) (text : List ℕ)
    → meaning limits names graph command ≡ done after text → ObjectsKept graph command after

-- the paths of the graph are the first paths of the graph after a command that is carried out
abbrev pub PathsStay : Type 0
PathsStay =
    (limits : Limits) (names : List (List ℕ)) (graph : Graph) (command : Command) (after : Graph) (text : List ℕ)
    → meaning limits names graph command ≡ done after text → take (length graph.paths) after.paths ≡ graph.paths

-- the command collects, or begins or ends a cycle of marking
abbrev pub IsCollection : Command → Type 0
IsCollection Scavenge = Unit {0}
IsCollection Mark = Unit {0}
IsCollection Finish = Unit {0}
IsCollection Gc = Unit {0}
IsCollection _ = ⊥

-- a collection changes nothing and writes nothing
abbrev pub CollectionsChangeNothing : Type 0
CollectionsChangeNothing =
    (limits : Limits) (names : List (List ℕ)) (graph : Graph) (command : Command)
    → IsCollection command → meaning limits names graph command ≡ done graph []
