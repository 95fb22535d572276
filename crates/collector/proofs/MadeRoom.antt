-- A heap that is scavenged, and serves words.
use Rattle.std.proofs.Common.{◌≡◌, ◌∙◌, ℕ, length, ap, length-set}
use Rattle.object_graph.specs.Graphs.{Graph}
use Rattle.write_barrier.specs.MutatorState.{Mutator}
use Rattle.scavenger.specs.Laws.{KeepsGraphs}
use Rattle.collector.specs.Making.{Serves}
use Rattle.collector.specs.States.{HeapState, HeapShows}

-- graphs that are kept twice are kept, with the same rooms
pub keeps_twice : {old mid new : Mutator} → KeepsGraphs old mid → KeepsGraphs mid new → KeepsGraphs old new
keeps_twice first then = record {
  shows = λ graph shown. then.shows graph (first.shows graph shown);
  rooms = λ graph rooms shown.
      let one = first.rooms graph rooms shown in
      let other = then.rooms graph rooms (first.shows graph shown) in
      (λ has. other.0 (one.0 has), λ has. one.1 (other.1 has));
}

-- what a heap shows that became another one, it shows
pub some_shown : {old new : HeapState} → ((graph : Graph) → HeapShows old graph → HeapShows new graph)
    → (graph : Graph) × HeapShows old graph → (graph : Graph) × HeapShows new graph
some_shown shows (graph, shown) = (graph, shows graph shown)

-- and so many pages have rows of free runs
pub served_rows : {old new : Mutator} {n : ℕ} → Serves old new n → length new.free ≡ length old.free
served_rows (Serves.eden room same) = ap (λ (main : Mutator). length main.free) same
served_rows {old = old} (Serves.granted lacks grants keeps) =
    ap length grants.takes.others ∙ length-set old.free grants.takes.page grants.takes.row
