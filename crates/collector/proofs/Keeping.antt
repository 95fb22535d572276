-- What stays of a heap whose mutator's side became another one.
use Rattle.std.proofs.Common.{◌≡◌, ◌∙◌, Bool, length, ap, sym}
use Rattle.object_graph.specs.Graphs.{Graph}
use Rattle.page_space.specs.Extents.{Space, roots_start}
use Rattle.write_barrier.specs.MutatorState.{Mutator, MainShows}
use Rattle.scavenger.specs.Laws.{KeepsGraphs}
use Rattle.collector.specs.States.{HeapState, HeapShows, Rest, with_cycle, with_collected}

-- a heap with the same parts is the same
pub same_heap : (heap after : HeapState) → after.main ≡ heap.main → after.rest ≡ heap.rest
    → after.collected ≡ heap.collected → after ≡ heap
same_heap heap after main rest noted =
    ap (λ (m : Mutator). record after { main = m }) main
    ∙ ap (λ (s : Rest). record { main = heap.main; rest = s; collected = after.collected }) rest
    ∙ ap (λ (collected : Bool). record heap { collected = collected }) noted

-- where the mutator's side shows a graph, and the regions, the phase and the number of rows of free runs are the same,
-- the heap shows it
pub still_shows : (heap after : HeapState) (graph : Graph) {before : Graph} → HeapShows heap before
    → after.rest ≡ heap.rest → after.main.seat.space ≡ heap.main.seat.space
    → after.main.seat.phase ≡ heap.main.seat.phase → length after.main.free ≡ length heap.main.free
    → MainShows after.main graph → HeapShows after graph
still_shows heap after graph shown rest space phase rows shows = record {
  main = shows;
  quiet = phase ∙ shown.quiet;
  rows = rows ∙ shown.rows ∙ ap (λ (one : Space). one.sizes.pages) (sym space);
  listed = rw (rest, space) shown.listed;
  marks = ap (λ (s : Rest). s.marks) rest ∙ shown.marks ∙ ap roots_start (sym space);
}

-- a heap shows what it shows, whether a cycle is open or not
pub cycled_shows : (heap : HeapState) (cycle : Bool) (graph : Graph) → HeapShows heap graph
    → HeapShows (record heap { rest = with_cycle heap.rest cycle }) graph
cycled_shows heap cycle graph shown = record {
  main = shown.main;
  quiet = shown.quiet;
  rows = shown.rows;
  listed = shown.listed;
  marks = shown.marks;
}

-- and whether a full collection came or not
pub noted_shows : (heap : HeapState) (collected : Bool) (graph : Graph) → HeapShows heap graph
    → HeapShows (with_collected heap collected) graph
noted_shows heap collected graph shown = record {
  main = shown.main;
  quiet = shown.quiet;
  rows = shown.rows;
  listed = shown.listed;
  marks = shown.marks;
}

-- where nothing changes, each graph that was shown is shown, with the same rooms
pub keeps_itself : (main : Mutator) → KeepsGraphs main main
keeps_itself main = record { shows = λ graph shown. shown; rooms = λ graph rooms shown. (λ has. has, λ has. has) }
