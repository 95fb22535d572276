-- A heap keeps exactly what can be reached where it shows the graph, and each of its cells is needed.
use Rattle.std.proofs.Common.{◌≡◌, ℕ, ◌<◌, false, Bool, List, IsTrue, refl, sym, ◌∙◌, subst}
use Rattle.std.proofs.lemmas.Bool.{false≢true}
use Rattle.tagged_word.specs.declared.layout.Kind.TheVariants as kind
use Rattle.tagged_word.specs.Cells.{is_free_kind}
use Rattle.page_space.specs.Extents.{eden_start}
use Rattle.object_graph.specs.Graphs.{Graph}
use Rattle.object_graph.specs.Reach.{is_marked, reach}
use Rattle.heap_model.specs.Types.{Kind, Cell}
use Rattle.heap_model.specs.Heaps.{Heap, words_of_cell}
use Rattle.heap_model.specs.Slots.{is_object_kind}
use Rattle.heap_model.specs.Wholeness.{IsOwnedKind}
use Rattle.heap_model.specs.Showing.{Shows}
use Rattle.heap_model.proofs.OneOwner.{object_is_not_owned}
use Rattle.heap_model.proofs.StaysCollectable.{object_not_free, owned_not_free}
use Rattle.live_cells.specs.Exact.{IsNamedByObject, Exact}
use Rattle.slow_check.specs.NeededCells.{IsNeeded, AreNeeded}
use Rattle.slow_check.proofs.ComersFound.{own_words_there}
use Rattle.slow_check.proofs.OnlyPlaces.{place_at, place_stands}

-- a cell that is no object's and not free is a store, a table or a box
pub rest_is_owned : (k : Kind) → is_object_kind k ≡ false → is_free_kind k ≡ false → IsOwnedKind k
rest_is_owned kind.Plain object free = absurd (false≢true (sym object))
rest_is_owned kind.List object free = absurd (false≢true (sym object))
rest_is_owned kind.Weak object free = absurd (false≢true (sym object))
rest_is_owned kind.Store object free = tt
rest_is_owned kind.Table object free = tt
rest_is_owned kind.Boxed object free = tt
rest_is_owned kind.Filler object free = absurd (false≢true (sym free))
rest_is_owned kind.Gap object free = absurd (false≢true (sym free))

-- an object's cell is needed where its object is marked
pub needed_if_marked : (heap : Heap) (marks : List Bool) (cell : Cell) → IsTrue (is_object_kind cell.layout.kind)
    → IsTrue (is_marked marks cell.header.object) → IsNeeded heap marks cell
needed_if_marked heap marks cell object marked = record {
  reached = λ is. marked;
  named = λ owned. absurd (object_is_not_owned cell.layout.kind object owned);
  packed = λ free. absurd (object_not_free cell.layout.kind object free);
}

-- a free cell where it is of a page
pub needed_if_packed : (heap : Heap) (marks : List Bool) (cell : Cell) → IsTrue (is_free_kind cell.layout.kind)
    → cell.at < eden_start heap.space → IsNeeded heap marks cell
needed_if_packed heap marks cell free below = record {
  reached = λ object. absurd (object_not_free cell.layout.kind object free);
  named = λ owned. absurd (owned_not_free cell.layout.kind owned free);
  packed = λ is. below;
}

-- and any other where an object's cell names it
pub needed_if_named : (heap : Heap) (marks : List Bool) (cell : Cell) → is_object_kind cell.layout.kind ≡ false
    → is_free_kind cell.layout.kind ≡ false → IsNamedByObject heap cell.at → IsNeeded heap marks cell
needed_if_named heap marks cell no_object no_free named = record {
  reached = λ object. absurd (false≢true (sym no_object ∙ object));
  named = λ owned. named;
  packed = λ free. absurd (false≢true (sym no_free ∙ free));
}

-- a heap whose cells are all needed keeps exactly what can be reached
pub exact_from_cells : (heap : Heap) (graph : Graph) → Shows heap graph → AreNeeded heap (reach graph)
    → Exact heap graph
exact_from_cells heap graph shows needed = record {
  keeps = record {
    shows = shows;
    reached = λ number at place.
        subst (λ (n : ℕ). IsTrue (is_marked (reach graph) n)) place.carries
        ((needed place.cell (place_stands place)).reached place.object);
    named = λ cell words has owned. (needed cell (own_words_there has)).named owned;
  };
  packed = λ cell words has free. (needed cell (own_words_there has)).packed free;
}

-- and so they are in one that does
pub cells_of_exact : (heap : Heap) (graph : Graph) → Exact heap graph → AreNeeded heap (reach graph)
cells_of_exact heap graph exact cell stands = record {
  reached = λ object. exact.keeps.reached cell.header.object cell.at
      (place_at stands (record { object = object; carries = refl }));
  named = λ owned. exact.keeps.named cell (words_of_cell heap cell) stands owned;
  packed = λ free. exact.packed cell (words_of_cell heap cell) stands free;
}
