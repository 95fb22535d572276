-- A heap in which a plain object's cells show other fields shows the graph in which it has these.
use Rattle.std.proofs.Common.{◌≡◌, ℕ, List, [], length, Some, refl}
use Rattle.std.proofs.Common.{Option, slice_get, inl, inr, ap, subst, ◌<◌, IsTrue}
use Rattle.std.specs.Prelude.{All, option_and_then}
use Rattle.std.proofs.lemmas.List.Elements.{All-contains}
use Rattle.object_graph.specs.declared.object.Object.TheVariants.{Plain}
use Rattle.object_graph.specs.declared.value.Value.TheVariants.{Ref}
use Rattle.heap_model.specs.Types.{Field, Path, Object}
use Rattle.heap_command.specs.declared.command.FaultWord.TheVariants.{ShapesFull}
use Rattle.object_graph.specs.Paths.{path_of, with_path}
use Rattle.object_graph.specs.Graphs.{Graph, PlainObject, as_plain}
use Rattle.object_graph.specs.Meaning.{refill, given, done}
use Rattle.object_graph.specs.Reach.{is_marked, reach}
use Rattle.object_graph.specs.Invariants.{IsGraph, IsObject, IsProto}
use Rattle.object_graph.specs.Limits.{paths_most, ideal_limits}
use Rattle.object_graph.proofs.Leads.{Leads}
use Rattle.graph_laws.proofs.MadeGraphs.{reshapes}
use Rattle.graph_laws.proofs.Reaches.{reach_closed}
use Rattle.heap_model.proofs.SlotWords.{All-slice_get}
use Rattle.write_barrier.specs.MutatorState.{heap_of}
use Rattle.object_cells.specs.HeldValues.{IsReachedValue}
use Rattle.object_cells.specs.Refills.{AreNewFields, RefillsShow}
use Rattle.object_cells.proofs.ReplacedObjects.{HasReachedLinks, ReplacesCells, replaced_shows}

-- what an object of fields links to is what one of their values refers to
pub links_reached : (graph : Graph) (cap : ℕ) (proto : Option ℕ) (fields : List Field)
    → ((number : ℕ) → proto ≡ Some number → IsTrue (is_marked (reach graph) number))
    → All (λ field. IsReachedValue graph field.value) fields → HasReachedLinks graph (Plain cap proto fields)
links_reached graph cap proto fields leads reached number (inl same) = leads number same
links_reached graph cap proto fields leads reached number (inr link) =
    subst (IsReachedValue graph) link.2
    (All-contains (λ field. IsReachedValue graph field.value) fields link.0 reached link.1)

-- the prototype of an object that can be reached can be
proto_reached : (graph : Graph) (plain : PlainObject) → IsGraph graph
    → slice_get graph.objects plain.number ≡ Some (Plain plain.cap plain.proto plain.fields)
    → IsTrue (is_marked (reach graph) plain.number)
    → (number : ℕ) → plain.proto ≡ Some number → IsTrue (is_marked (reach graph) number)
proto_reached graph plain is there marked number same =
    let what : Object = Plain plain.cap plain.proto plain.fields in
    let object : IsObject (length graph.objects) what =
    All-slice_get (IsObject (length graph.objects)) graph.objects plain.number what is.made there in
    let below : number < length graph.objects = subst (IsProto (length graph.objects)) same object.leads in
    reach_closed graph plain.number what number there marked below (inl same)

-- it is a graph again
refills_are_graphs : (graph : Graph) (plain : PlainObject) (fields : List Field) (paths : List Path) → IsGraph graph
    → slice_get graph.objects plain.number ≡ Some (Plain plain.cap plain.proto plain.fields) → AreNewFields graph fields
    → with_path (Some paths_most) graph.paths (path_of plain.cap fields) ≡ Some paths
    → IsGraph (refill graph plain fields paths)
refills_are_graphs graph plain fields paths is there new added =
    let object : IsObject (length graph.objects) (Plain plain.cap plain.proto plain.fields) =
    All-slice_get (IsObject (length graph.objects)) graph.objects plain.number
    (Plain plain.cap plain.proto plain.fields) is.made there in
    let at = ap (λ found. option_and_then (as_plain plain.number) found) there in
    let leads =
    reshapes ideal_limits graph (Ref plain.number) plain fields is at object.capped new.few new.are in
    let P : Option (List Path) → Type 0 = λ found.
    Leads IsGraph (given ShapesFull found (λ more. done (refill graph plain fields more) [])) in
    subst P added leads

-- so the heap shows it
pub refills_show : RefillsShow
refills_show old new graph plain fields gone came made shows there marked are added rest refills keeps =
    let replaces : ReplacesCells (heap_of old) (heap_of new) graph plain.number (Plain plain.cap plain.proto fields)
    gone came made = record {
      cells = refills.cells;
      own = refills.own;
      only = refills.only;
      no_object = refills.no_object;
      cell = refills.cell;
      among = refills.among;
      carries = refills.carries;
      shows = λ marks reached. (refills.shows, refills.leads);
    } in
    record {
      paths = new.paths;
      added = added;
      shows = replaced_shows plain.number (Plain plain.cap plain.proto fields) new.paths shows
          (refills_are_graphs graph plain fields new.paths shows.is_graph there are added) refl
          (links_reached graph plain.cap plain.proto fields
          (proto_reached graph plain shows.is_graph there marked) are.reached) rest replaces keeps;
    }
