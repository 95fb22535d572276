-- The commands that make objects, and the cells of the objects that they make.
use Rattle.std.proofs.Common.{◌≡◌, ℕ, ◌+◌, ◌≤◌, ◌<◌, ◌^◌, [], length, None, refl, sym, subst, arith}
use Rattle.heap_model.specs.Types.{Header, Kind, Object, Cell}
use Rattle.tagged_word.specs.Headers.{IsHeader}
use Rattle.tagged_word.specs.Cells.{plain_head}
use Rattle.object_graph.specs.declared.object.Object.TheVariants.{Plain}
use Rattle.object_graph.specs.Graphs.{Graph, make}
use Rattle.object_graph.specs.Reach.{reach}
use Rattle.heap_command.specs.Commands.{cap_most}
use Rattle.graph_laws.specs.GraphLaws.{FitsCommand}
use Rattle.shape_tree.specs.Shapes.{IsShapeOf}
use Rattle.heap_model.specs.Heaps.{Heap}
use Rattle.heap_model.specs.Kinds.{IsSoundOf}
use Rattle.heap_model.specs.Showing.{ShowsObject}
use Rattle.nursery.specs.Young.{HasRoom}
use Rattle.write_barrier.specs.MutatorState.{Mutator, MainShows}
use Rattle.mutator.proofs.EmptyCells.{no_fields, plain_cell, plain_fresh, plain_laid, IsEmptyCell, empty_is_sound}
use Rattle.mutator.proofs.EmptyCells.{empty_shows, empty_is_bare}
use Rattle.mutator.proofs.EmptyCounted.{IsCountedKind, counted_cell, counted_fresh, object_of_counted}
use Rattle.mutator.specs.Making.{CountedCell, making_of}
use Rattle.mutator.proofs.NewCells.{cell_of, CountsNone}
use Rattle.object_cells.specs.Contents.{next_at}
use Rattle.mutator.proofs.PutCells.{with_cell_words}
use Rattle.heap_command.specs.declared.command.Command.TheVariants as command
use Rattle.mutator.proofs.MadeHeaps.{IsSoundNewCell, made_heap, room_for}
use Rattle.mutator.proofs.Makings.{IsMaking}

-- what `new` makes
pub plain_making : (graph : Graph) (x cap : ℕ) → FitsCommand (command.New x cap)
    → IsMaking graph (command.New x cap) x (plain_head + cap) (Plain cap None [])
plain_making graph x cap few = record {
  fits = few;
  done = λ names. refl;
  need = λ rooms. refl;
  gives = λ rooms number. refl;
}

-- what `list` makes, or `weak`
pub counted_making : (graph : Graph) (counted : CountedCell) (x : ℕ)
    → IsMaking graph (making_of counted x) x 3 (object_of_counted counted)
counted_making graph CountedCell.list x =
    record { fits = tt; done = λ names. refl; need = λ rooms. refl; gives = λ rooms number. refl }
counted_making graph CountedCell.weak x =
    record { fits = tt; done = λ names. refl; need = λ rooms. refl; gives = λ rooms number. refl }

-- the layout word of a shape of paths is that of plain cells, so the cell of a plain object without fields is made
pub plain_made : {main : Mutator} {graph : Graph} {header : Header} {cap : ℕ} (x : ℕ) → MainShows main graph
    → IsHeader header → cap ≤ cap_most → IsShapeOf main.paths (no_fields cap) header.shape
    → HasRoom main.young (plain_head + cap) → header.object ≡ length graph.objects
    → IsSoundNewCell main graph x (plain_cell header cap) (Plain cap None [])
plain_made {main} {header = header} {cap} x shows is_header few shaped room carries =
    let sized = shows.shows.whole.sized in
    let fits = room_for (plain_cell header cap) shows (plain_fresh header cap is_header few)
    (omega (arith, shaped.is_shape.below, sized.shapes.few)) (plain_laid cap shaped) room in
    let is : IsEmptyCell (made_heap main (plain_cell header cap)) (next_at main) header cap =
    record { shaped = shaped; words = with_cell_words fits } in
    record {
      fits = fits;
      sound = empty_is_sound is;
      shows = (empty_shows is, empty_is_bare is);
      counts = tt;
      carries = carries;
    }

-- and so is that of a list without elements, or of a weak map without entries
pub counted_made : {main : Mutator} {graph : Graph} {k : Kind} {shape object : ℕ} {what : Object} (x : ℕ)
    → IsCountedKind k shape what → MainShows main graph → HasRoom main.young 3 → object < 2 ^ 32
    → object ≡ length graph.objects
    → IsSoundNewCell main graph x (counted_cell k (record { shape = shape; object = object })) what
counted_made {main} {graph} {k} {shape} {object} {what} x is shows room small carries =
    let header : Header = record { shape = shape; object = object } in
    let fits = room_for (counted_cell k header) shows
    (counted_fresh header is (record { shape = omega (arith, is.known); object = small })) is.known
    (is.laid main.paths) room in
    let heap : Heap = made_heap main (counted_cell k header) in
    let at : ℕ = next_at main in
    let cell : Cell = cell_of at (counted_cell k header) in
    let words = sym (with_cell_words fits) in
    record {
      fits = fits;
      sound = subst (IsSoundOf k heap cell) words (is.sound heap at header);
      shows = subst (λ all. ShowsObject heap (reach (make graph x what)) cell all what) words
          (is.shows heap (reach (make graph x what)) at header);
      counts = subst (λ all. CountsNone all what) words (is.counts header);
      carries = carries;
    }
