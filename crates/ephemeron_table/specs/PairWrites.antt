-- A change of the entries of one weak map, pair by pair: the map's cell, its table and its boxes stay where they are,
-- or a table and a box are made.
use Rattle.std.specs.Prelude.{◌≡◌, ℕ, List, not, count_by}
use Rattle.tagged_word.specs.declared.layout.Kind.TheVariants as kind
use Rattle.heap_model.specs.Types.{Cell}
use Rattle.heap_model.specs.Heaps.{Heap, words_of_cell}
use Rattle.heap_model.specs.Slots.{RefersToPlace}
use Rattle.heap_model.specs.Kinds.{HasWord, Pair, is_free_pair, IsFilledPair, IsProbed}
use Rattle.heap_model.specs.Kinds.{count_offset}
use Rattle.object_cells.specs.CellWrites.{WritesOwnCells}
use Rattle.object_cells.specs.OwnSlots.{IsNoBoxOf, Refills}
use Rattle.weak_pairs.specs.Pairs.{HasPairs, IsFilledAt}

-- Words of a weak map's own cells were written.
abbrev pub WritesWeak : Heap → Heap → Cell → List Cell → List Cell → Type 0
WritesWeak old new cell others made = WritesOwnCells kind.Weak kind.Table old new cell cell others made

-- the pair at the place holds something, and the word is its value
abbrev pub HasValue : List Pair → ℕ → ℕ → Type 0
HasValue pairs at word = (pair : Pair) × IsFilledAt pairs at pair × (pair.value ≡ word)

-- What a pair that holds something shows: what the one at the place `origin` showed before, and none of the boxes that
-- were written is its value; or it was put, which is so at the place `one` alone.
pub data ShowsPair (new : Heap) (before : List Pair) (others : List Cell) (origin one at : ℕ) (pair : Pair)
    : Type 0 where
  kept : IsFilledAt before origin pair → IsNoBoxOf others pair.value → ShowsPair new before others origin one at pair
  put : (number : ℕ) → at ≡ one → IsFilledPair new pair number → ShowsPair new before others origin one at pair

-- The pairs of a weak map become others, place by place. `others` are cells that belong to the map and were written,
-- and `made` those that were made: a table, which the map has, and boxes.
pub record RefillsPairs (old new : Heap) (cell : Cell) (others made : List Cell) : Type 0 where
  -- the pairs before and after
  pub before : List Pair
  pub were : HasPairs old (words_of_cell old cell) before
  pub now : List Pair
  pub are : HasPairs new (words_of_cell new cell) now
  -- how many of them hold something
  pub counted : HasWord (words_of_cell new cell) count_offset (count_by (λ pair. not (is_free_pair pair)) now)
  -- from where the value of each comes, and what it shows
  pub refills : Refills kind.Table old new cell cell others made (HasValue before) (HasValue now)
  pub each_pair : (at : ℕ) (pair : Pair) → IsFilledAt now at pair
      → ShowsPair new before others (refills.origin at) refills.one at pair
  -- probing finds each
  pub probed : (at number : ℕ) (pair : Pair) → IsFilledAt now at pair → RefersToPlace new pair.key number
      → IsProbed now number at
