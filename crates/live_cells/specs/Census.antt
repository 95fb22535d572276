-- How many objects' cells a heap has, and how many pairs its weak maps count, against the census.
use Rattle.std.specs.Prelude.{◌≡◌, ℕ, List, length, filter, sum_by}
use Rattle.std.specs.List.{flat_map}
use Rattle.tagged_word.specs.declared.layout.Kind.TheVariants as kind
use Rattle.object_graph.specs.Graphs.{Graph}
use Rattle.object_graph.specs.Invariants.{IsGraph}
use Rattle.object_graph.specs.Reach.{reached_objects, reached_entries}
use Rattle.heap_model.specs.Types.{Kind, Cell}
use Rattle.heap_model.specs.Heaps.{Heap, Row, AreRows}
use Rattle.tagged_word.specs.Cells.{is_object_kind}
use Rattle.heap_model.specs.Needs.{count_at}
use Rattle.live_cells.specs.Exact.{KeepsNoOther}

-- the objects' cells of rows
abbrev pub objects_in : List Row → List Cell
objects_in rows = filter (λ cell. is_object_kind cell.layout.kind) (flat_map (λ row. row.cells) rows)

-- how many pairs the cell of this kind at an address counts: a weak map those of its table
abbrev pub pairs_counted : Heap → Kind → ℕ → ℕ
pairs_counted heap kind.Weak at = count_at heap at
pairs_counted heap _ at = 0

-- There are as many objects' cells as objects can be reached; and weak maps count as many pairs together as there are
-- entries whose map and key can be reached.
pub record HasCensus (heap : Heap) (graph : Graph) (rows : List Row) : Type 0 where
  pub objects : length (objects_in rows) ≡ reached_objects graph
  pub entries : sum_by (λ cell. pairs_counted heap cell.layout.kind cell.at) (objects_in rows) ≡ reached_entries graph

-- So it is in a heap that keeps nothing but what can be reached.
abbrev pub KeepsTheCensus : Type 0
KeepsTheCensus =
    (heap : Heap) (graph : Graph) (rows : List Row) → IsGraph graph → KeepsNoOther heap graph → AreRows heap rows
    → HasCensus heap graph rows
