-- The frame of a heap.
use Rattle.heap_model.specs.Heaps.{Heap}
use Rattle.heap_model.specs.Wholeness.{HasSizes, HasRows, Blank}
use Rattle.heap_check.specs.Roots.{HasRoots}

-- All that a whole heap and a blank one have apart from what their cells hold: their words and layouts, their rows,
-- their roots, and no word that no cell uses but 0.
pub record HasFrame (heap : Heap) : Type 0 where
  pub sized : HasSizes heap
  pub rows : HasRows heap
  pub blank : Blank heap
  pub roots : HasRoots heap

-- the words, the layout words and the rows of a whole heap, and no word that no cell uses but 0
pub record HasBlankRows (heap : Heap) : Type 0 where
  pub sized : HasSizes heap
  pub rows : HasRows heap
  pub blank : Blank heap
