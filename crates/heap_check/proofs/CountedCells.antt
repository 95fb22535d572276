-- How a count goes from cell to cell: on to the next one, and to the end behind the last.
use Rattle.std.proofs.Common.{ℕ, inl, inr, List, arith}
use Rattle.std.proofs.lemmas.Bool.{cases_lt}
use Rattle.page_space.specs.Extents.{roots_start}
use Rattle.heap_model.specs.Types.{Cell}
use Rattle.heap_model.specs.Heaps.{Heap, Row, AreRows}
use Rattle.heap_model.specs.Wholeness.{HasRows}
use Rattle.image_walk.specs.Finding.{IsFirstCell, HasNoCellFrom}
use Rattle.image_walk.specs.NextCell.{IsBoundary}
use Rattle.live_cells.specs.Census.{objects_in}
use Rattle.live_cells.specs.Counting.{CountsCellsAndPairs, CountsTo}
use Rattle.live_cells.proofs.CountSteps.{counts_further, counts_all}

-- a walk begins at the first address
pub boundary_first : (heap : Heap) → IsBoundary heap 0
boundary_first heap = record {
  apart = λ cell words has before. absurd (omega (arith, before));
  reached = λ row among used here. omega arith;
}

-- a count that has come to an address comes to the first cell from there on
pub counts_on : {heap : Heap} {at objects entries : ℕ} {cell : Cell} → IsFirstCell heap at cell
    → CountsTo heap at objects entries → CountsTo heap cell.at objects entries
counts_on first counts =
    counts_further first.reached (λ other words has object from below.
    let past = first.first other words has from in
    absurd (omega (arith, past, below))) counts

-- where no cell stands from there on, all are counted
pub counts_over_all : {heap : Heap} {rows : List Row} {at objects entries : ℕ} → HasRows heap → AreRows heap rows
    → HasNoCellFrom heap at → CountsTo heap at objects entries
    → CountsCellsAndPairs heap (objects_in rows) objects entries
counts_over_all {heap} {rows} {at} whole are none counts =
    elim (cases_lt at (roots_start heap.space)) [
      | inl before ↦
          counts_all {to = roots_start heap.space} whole are (omega arith) (counts_further (omega (arith, before))
          (λ other words has object from below.
          let short = none other words has in
          absurd (omega (arith, from, short))) counts)
      | inr past ↦ counts_all whole are past counts
    ]
