-- A pair that holds something was kept, or put: where its value comes from, and what it shows.
use Rattle.std.proofs.Common.{◌≡◌, ℕ, List, refl}
use Rattle.heap_model.specs.Types.{Cell}
use Rattle.heap_model.specs.Heaps.{Heap}
use Rattle.heap_model.specs.Kinds.{Pair, IsFilledPair}
use Rattle.object_cells.specs.OwnSlots.{IsNoBoxOf, ComesFrom}
use Rattle.weak_pairs.specs.Pairs.{IsFilledAt}
use Rattle.ephemeron_table.specs.PairWrites.{HasValue, ShowsPair}

-- The pair stood at the place `origin` before, and none of the boxes that were written is its value; or it was put, at
-- the place `one`, and its value comes from where it may.
pub data PairComes (new : Heap) (before : List Pair) (others made : List Cell) (origin one at : ℕ) (pair : Pair)
    : Type 0 where
  kept : IsFilledAt before origin pair → IsNoBoxOf others pair.value
      → PairComes new before others made origin one at pair
  put : (number : ℕ) → at ≡ one → IsFilledPair new pair number
      → ComesFrom new (HasValue before) made origin one at pair.value
      → PairComes new before others made origin one at pair

module _ {new : Heap} {before : List Pair} {others made : List Cell} {origin one at : ℕ} {pair : Pair} where
  -- so its value comes from where it may
  pub value_comes : PairComes new before others made origin one at pair
      → ComesFrom new (HasValue before) made origin one at pair.value
  value_comes (PairComes.kept stood no_box) = ComesFrom.moved (pair, stood, refl)
  value_comes (PairComes.put number is_one is comes) = comes

  -- and it shows what it may
  pub pair_shows : PairComes new before others made origin one at pair
      → ShowsPair new before others origin one at pair
  pair_shows (PairComes.kept stood no_box) = ShowsPair.kept stood no_box
  pair_shows (PairComes.put number is_one is comes) = ShowsPair.put number is_one is
