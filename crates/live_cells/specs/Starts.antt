-- What is live where a marking was given cells to start at, besides those that root words refer to. None of them is a
-- weak table: a table that its map has outgrown is cleared with no map, so its pairs would keep dead keys.
use Rattle.std.specs.Prelude.{◌≡◌, ℕ, List, Contains}
use Rattle.tagged_word.specs.Cells.{scavenge_offsets}
use Rattle.heap_model.specs.Types.{Cell}
use Rattle.heap_model.specs.Heaps.{Heap, HasCell}
use Rattle.heap_model.specs.Slots.{reference_word}
use Rattle.heap_model.specs.Kinds.{HasWord, Pair}
use Rattle.heap_model.specs.Wholeness.{Whole}
use Rattle.live_cells.specs.Live.{IsLive, IsStart, AreNoTables, AreLiveFrom}
use Rattle.live_cells.specs.Cleared.{HasLiveKeysFrom, IsPairOfMap, TakesPairs}

-- Each live table is that of a live weak map: so its keys are live where those of live maps are.
abbrev pub MapsTellFromStarts : Type 0
MapsTellFromStarts =
    (heap : Heap) (given marked : List ℕ) → Whole heap → AreNoTables heap (Contains given)
    → AreLiveFrom heap (IsStart heap given) marked
    → ((map key : ℕ) (pair : Pair) → Contains marked map → IsPairOfMap heap map pair → pair.key ≡ reference_word key
    → Contains marked key)
    → HasLiveKeysFrom heap (IsStart heap given)

-- Then what a slot of a live cell refers to is live, also of those that a scavenge visits and marking does not.
abbrev pub LiveIsClosedFromStarts : Type 0
LiveIsClosedFromStarts =
    (heap : Heap) (given : List ℕ) (cell : Cell) (words : List ℕ) (offset at : ℕ) → Whole heap
    → AreNoTables heap (Contains given) → HasLiveKeysFrom heap (IsStart heap given)
    → IsLive heap (IsStart heap given) cell.at → HasCell heap cell words
    → Contains (scavenge_offsets cell.layout cell.length) offset → HasWord words offset (reference_word at)
    → IsLive heap (IsStart heap given) at

-- The same cells are live after pairs of live weak maps were taken away whose key is not.
abbrev pub TakenPairsLeaveStarts : Type 0
TakenPairsLeaveStarts =
    (old new : Heap) (given marked : List ℕ) → Whole old → AreNoTables old (Contains given)
    → AreLiveFrom old (IsStart old given) marked → TakesPairs old new marked
    → AreLiveFrom new (IsStart new given) marked
