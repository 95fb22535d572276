-- A heap that is whole and shows a graph is so, whichever of its cells are asked for.
use Rattle.std.proofs.Common.{ℕ}
use Rattle.object_graph.specs.Graphs.{Graph}
use Rattle.heap_model.specs.Heaps.{Heap}
use Rattle.heap_model.specs.Wholeness.{Whole}
use Rattle.heap_model.specs.Showing.{Shows}
use Rattle.heap_moves.specs.Standing.{WholeFor, ShowsFor}

-- it is whole
pub whole_for : {heap : Heap} (live : ℕ → Type 0) → Whole heap → WholeFor heap live
whole_for live whole = record {
  sized = whole.sized;
  rows = whole.rows;
  roots = whole.roots;
  sound = λ cell words has stays. whole.sound cell words has;
  owned = λ owner another slot other named stays stays_too. whole.owned owner another slot other named;
}

-- and shows the graph
pub shows_for : {heap : Heap} {graph : Graph} (live : ℕ → Type 0) → Shows heap graph → ShowsFor heap graph live
shows_for live shows = record {
  whole = whole_for live shows.whole;
  paths = shows.paths;
  bindings = shows.bindings;
  no_others = shows.no_others;
  reached = shows.reached;
  made = shows.made;
}
