-- There may not be as many paths as other fields of an object need.
use Rattle.std.proofs.Common.{◌≡◌, List, refl, subst}
use Rattle.heap_model.specs.Types.{Field, Path, ShapesFull}
use Rattle.object_graph.specs.Paths.{path_of}
use Rattle.object_graph.specs.Graphs.{Graph, PlainObject}
use Rattle.shape_tree.specs.Shapes.{LacksPathsFor}
use Rattle.write_barrier.specs.MutatorState.{Mutator, MainShows}
use Rattle.shape_change.specs.FieldChanges.{IsFullOfPaths}

-- the paths of the heap are those of the graph, so what is lacking of the one is lacking of the other
pub full_of_paths : {main : Mutator} {graph : Graph} {full : ShapesFull} (plain : PlainObject) (fields : List Field)
    (path : Path) (paths : List Path) → MainShows main graph → path ≡ path_of plain.cap fields
    → LacksPathsFor main.paths paths path full → IsFullOfPaths graph plain fields full
full_of_paths {main} {graph} {full} plain fields path paths shows same is =
    let of_main : LacksPathsFor main.paths main.paths path full =
    record { refused = is.refused; counted = is.counted; lacking = is.lacking; stays = refl } in
    subst (λ (all : List Path). LacksPathsFor all all (path_of plain.cap fields) full) shows.shows.paths
    (subst (λ (one : Path). LacksPathsFor main.paths main.paths one full) same of_main)
