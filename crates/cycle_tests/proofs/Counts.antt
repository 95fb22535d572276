-- How many objects a command makes.
use Rattle.std.proofs.Common.{◌≡◌, ℕ, ◌+◌, List, [], None, length, sym, subst, ◌∙◌, add-zero}
use Rattle.std.specs.Prelude.{slice_set}
use Rattle.std.specs.Ordering.{nat_cmp}
use Rattle.std.specs.FinMap.{FinMap}
use Rattle.std.proofs.Math.ListN.{length-set}
use Rattle.std.proofs.lemmas.List.{length_push}
use Rattle.heap_model.specs.Types.{Command, Value, Object, Path}
use Rattle.heap_command.specs.declared.command.Command.TheVariants as command
use Rattle.object_graph.specs.declared.object.Object.TheVariants.{Plain, List as ListOf, Weak}
use Rattle.object_graph.specs.Graphs.{Graph}
use Rattle.object_graph.specs.Meaning.{Limits, done, meaning}
use Rattle.object_graph.specs.Limits.{ideal_limits}
use Rattle.object_graph.proofs.Leads.{Leads, each, if_not, if_there}

-- how many objects a command makes
abbrev pub objects_made : Command → ℕ
objects_made (command.New x cap) = 1
objects_made (command.List x) = 1
objects_made (command.Weak x) = 1
objects_made _ = 0

-- the graph has so many objects more than the other
abbrev HasMore : ℕ → Graph → Graph → Type 0
HasMore n graph after = length after.objects ≡ length graph.objects + n

-- no object is made by binding variables
binds : (graph : Graph) (bindings : FinMap nat_cmp Value) → HasMore 0 graph (record graph { bindings = bindings })
binds graph bindings = sym (add-zero (length graph.objects))

-- nor by putting an object in the place of another
puts : (graph : Graph) (number : ℕ) (object : Object) (paths : List Path)
    → HasMore 0 graph (record graph { objects = slice_set graph.objects number object; paths = paths })
puts graph number object paths = length-set graph.objects number object ∙ sym (add-zero (length graph.objects))

-- a command makes the objects that it is said to make
leads-objects : (limits : Limits) (names : List (List ℕ)) (graph : Graph) (command : Command)
    → Leads (HasMore (objects_made command) graph) (meaning limits names graph command)
leads-objects limits names graph (command.New x cap) = length_push graph.objects (Plain cap None [])
leads-objects limits names graph (command.List x) = length_push graph.objects (ListOf [])
leads-objects limits names graph (command.Weak x) = length_push graph.objects (Weak [])
leads-objects limits names graph (command.LetValue x v) = search (each, binds)
leads-objects limits names graph (command.DropVar x) = search (each, binds)
leads-objects limits names graph (command.Add x v) = search (each, if_not, binds) depth 12
leads-objects limits names graph (command.Set x f v) = search (each, if_not, puts) depth 12
leads-objects limits names graph (command.Get y x f) = search (each, binds)
leads-objects limits names graph (command.Del x f) = search (each, if_there, binds, puts) depth 12
leads-objects limits names graph (command.Proto x v) = search (each, if_not, puts) depth 12
leads-objects limits names graph (command.Push x v) = search (each, if_not, puts) depth 12
leads-objects limits names graph (command.Put x i v) = search (each, puts) depth 12
leads-objects limits names graph (command.At y x i) = search (each, binds) depth 12
leads-objects limits names graph (command.Shift x n) = search (each, puts) depth 12
leads-objects limits names graph (command.Trunc x n) = search (each, puts) depth 12
leads-objects limits names graph (command.WPut m k v) = search (each, if_not, puts) depth 12
leads-objects limits names graph (command.WGet y m k) = search (each, binds) depth 12
leads-objects limits names graph (command.WDel m k) = search (each, puts) depth 12
leads-objects limits names graph (command.Print v) = search (each, binds)
leads-objects limits names graph (command.Same a b) = search (each, binds)
leads-objects limits names graph (command.Alike x y) = search (each, binds) depth 12
leads-objects limits names graph (command.Shape x) = search (each, binds)
leads-objects limits names graph command.Scavenge = binds graph graph.bindings
leads-objects limits names graph command.Mark = binds graph graph.bindings
leads-objects limits names graph command.Finish = binds graph graph.bindings
leads-objects limits names graph command.Gc = binds graph graph.bindings
leads-objects limits names graph command.Census = binds graph graph.bindings

-- so many objects more are there behind it
pub length-meaning : (names : List (List ℕ)) (graph after : Graph) (command : Command) (text : List ℕ)
    → meaning ideal_limits names graph command ≡ done after text
    → length after.objects ≡ length graph.objects + objects_made command
length-meaning names graph after command text e =
    subst (Leads (HasMore (objects_made command) graph)) e (leads-objects ideal_limits names graph command)
