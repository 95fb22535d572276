-- A command that is carried out on a graph leaves a graph.
use Rattle.std.proofs.Common.{ℕ, List, [], length, None, refl, subst, arith}
use Rattle.std.proofs.lemmas.List.Elements.{All-nil}
use Rattle.heap_command.specs.declared.command.Command.{Command}
use Rattle.heap_command.specs.declared.command.Command.TheVariants as command
use Rattle.object_graph.specs.declared.object.Object.TheVariants.{Plain, List as ListOf, Weak}
use Rattle.object_graph.specs.Graphs.{Graph}
use Rattle.object_graph.specs.Meaning.{Limits, meaning}
use Rattle.object_graph.specs.Invariants.{AreFields, IsGraph}
use Rattle.object_graph.proofs.Leads.{Leads, each, if_fails, if_not, if_there}
use Rattle.graph_laws.specs.GraphLaws.{HasFieldLimit, FitsCommand, GraphsStay}
use Rattle.object_graph.proofs.DistinctLists.{nil-distinct}
use Rattle.object_graph.proofs.FirstPaths.{has_empty}
use Rattle.graph_laws.proofs.Held.{operand_held, key_held, sum_held, element_held}
use Rattle.graph_laws.proofs.HeldParts.{entry_held, with_field_held, without_field_held, with_entry_held}
use Rattle.graph_laws.proofs.HeldParts.{without_entry_held}
use Rattle.graph_laws.proofs.FieldsAlong.{along_held}
use Rattle.graph_laws.proofs.NewProtos.{reproto_held}
use Rattle.graph_laws.proofs.HeldElements.{push_held, put_held, drop_held, take_held}
use Rattle.graph_laws.proofs.MadeGraphs.{binds, unbinds, makes, reshapes, relists, reweaves, cap_held, fields_held}
use Rattle.graph_laws.proofs.MadeGraphs.{elements_held, entries_held}
use Rattle.graph_laws.proofs.ShortPaths.{fields_few, with_field_few, without_field_few}

-- each command, if it is carried out, makes a graph of a graph
pub leads : (limits : Limits) (names : List (List ℕ)) (graph : Graph) (command : Command)
    → HasFieldLimit limits → FitsCommand command → IsGraph graph → Leads IsGraph (meaning limits names graph command)
leads limits names graph (command.New x cap) limited fits is =
    let none : AreFields (length graph.objects) [] = record { values = All-nil _; distinct = nil-distinct } in
    makes graph x (Plain cap None []) is (record { capped = fits; leads = tt; are = none })
    (has_empty graph.paths cap is.paths.begins fits) refl
leads limits names graph (command.List x) limited fits is =
    makes graph x (ListOf []) is (record { values = All-nil _; few = omega arith }) tt refl
leads limits names graph (command.Weak x) limited fits is =
    makes graph x (Weak []) is (record { keys_and_values = All-nil _; distinct = nil-distinct }) tt refl
leads limits names graph (command.LetValue x v) limited fits is = search (each, binds, operand_held)
leads limits names graph (command.DropVar x) limited fits is = search (each, unbinds)
leads limits names graph (command.Add x v) limited fits is = search (each, if_fails, binds, sum_held) depth 12
leads limits names graph (command.Set x f v) limited fits is =
    search (
      each,
      if_fails,
      reshapes,
      cap_held,
      fields_held,
      fields_few,
      with_field_held,
      with_field_few,
      operand_held,
    ) depth 14
leads limits names graph (command.Get y x f) limited fits is = search (each, binds, along_held) depth 12
leads limits names graph (command.Del x f) limited fits is =
    search (each, if_there, reshapes, cap_held, fields_held, fields_few, without_field_held, without_field_few) depth 14
leads limits names graph (command.Proto x v) limited fits is = search (each, if_fails, reproto_held) depth 14
leads limits names graph (command.Push x v) limited fits is =
    search (each, if_fails, relists, push_held, elements_held, operand_held) depth 12
leads limits names graph (command.Put x i v) limited fits is =
    search (each, relists, put_held, elements_held, operand_held) depth 14
leads limits names graph (command.At y x i) limited fits is = search (each, binds, element_held, elements_held) depth 14
leads limits names graph (command.Shift x n) limited fits is =
    search (each, relists, drop_held, elements_held) depth 12
leads limits names graph (command.Trunc x n) limited fits is =
    search (each, relists, take_held, elements_held) depth 12
leads limits names graph (command.WPut m k v) limited fits is =
    search (each, if_not, reweaves, with_entry_held, key_held, operand_held, entries_held) depth 14
leads limits names graph (command.WGet y m k) limited fits is = search (each, binds, entry_held, entries_held) depth 14
leads limits names graph (command.WDel m k) limited fits is =
    search (each, reweaves, without_entry_held, entries_held) depth 14
leads limits names graph (command.Print v) limited fits is = search each
leads limits names graph (command.Same a b) limited fits is = search each
leads limits names graph (command.Alike x y) limited fits is = search each depth 12
leads limits names graph (command.Shape x) limited fits is = search each
leads limits names graph _ limited fits is = is

-- a command leaves a graph
pub graphs_stay : GraphsStay
graphs_stay limits names graph command after text limited fits is holds =
    subst (Leads IsGraph) is (leads limits names graph command limited fits holds)
