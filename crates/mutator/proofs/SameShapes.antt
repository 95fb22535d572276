-- Two plain objects are alike exactly where their shapes agree.
use Rattle.std.proofs.Common.{◌≡◌, ℕ, ◌==◌, sym, ◌∙◌, ap}
use Rattle.std.proofs.lemmas.Bool.Decides.{Decides-eqb, Decides-like, same_from_decides}
use Rattle.heap_model.specs.Types.{Path, Value}
use Rattle.object_graph.specs.Paths.{path_of, same_path}
use Rattle.object_graph.specs.Graphs.{Graph}
use Rattle.object_graph.proofs.EqualPaths.{Decides-same_path}
use Rattle.shape_tree.specs.Shapes.{IsShapeOf, shape_path}
use Rattle.shape_tree.proofs.ShapePaths.{one_shape}
use Rattle.write_barrier.specs.MutatorState.{Mutator, MainShows}
use Rattle.mutator.specs.declared.lookups.Found.{Found}
use Rattle.mutator.specs.Reading.{IsFound}

-- the test of two shapes is that of their paths
shapes_alike : {main : Mutator} {graph : Graph} (a b : ℕ) (first second : Path) → MainShows main graph
    → IsShapeOf main.paths first a → IsShapeOf main.paths second b → (a == b) ≡ same_path first second
shapes_alike {main} a b first second shows of_a of_b =
    let there : a ≡ b → first ≡ second = λ same.
    sym of_a.of_path ∙ ap (shape_path main.paths) same ∙ of_b.of_path in
    let back : first ≡ second → a ≡ b = λ same.
    one_shape main.paths a b shows.shows.whole.sized.shapes.are.distinct of_a.is_shape of_b.is_shape
    (of_a.of_path ∙ same ∙ sym of_b.of_path) in
    same_from_decides (a == b) (same_path first second) (Decides-like (a == b) there back (Decides-eqb a b))
    (Decides-same_path first second)

-- so it is of two objects that were found
pub found_alike : {main : Mutator} {graph : Graph} {one other : Value} {a b : Found} → MainShows main graph
    → (first : IsFound main graph one a) → (second : IsFound main graph other b)
    → (a.shape == b.shape)
    ≡ same_path (path_of first.plain.cap first.plain.fields) (path_of second.plain.cap second.plain.fields)
found_alike {a = a} {b} shows first second =
    shapes_alike a.shape b.shape (path_of first.plain.cap first.plain.fields)
    (path_of second.plain.cap second.plain.fields) shows first.shaped second.shaped
