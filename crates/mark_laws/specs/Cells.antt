-- Cells stay what they are when words of them change.
use Rattle.std.specs.Prelude.{◌≡◌, ℕ, IsTrue, false, List, slice_set, Some, IsSomeAnd}
use Rattle.mark_laws.specs.Types.{Reading, Event, World}
use Rattle.tagged_word.specs.Readings.{read_cell}
use Rattle.mark_world.specs.declared.event.Event.TheVariants as event
use Rattle.mark_world.specs.Pages.{is_free, is_head_of, slots_of}
use Rattle.mark_world.specs.Safety.{Includes}
use Rattle.mark_world.specs.AfterEvents.{after, Possible}
use Rattle.mark_world.specs.Coverage.{cell_of}
use Rattle.mark_world.specs.Soundness.{HasCells}

-- a store into a word that is neither the header of a cell, nor a length that its size is read from, leaves the cell
-- as it was
abbrev pub StoresKeepCells : Type 0
StoresKeepCells =
    (words layouts : List ℕ) (start bound at word : ℕ) (cell : Reading)
    → read_cell words layouts start bound ≡ Some cell
    → is_head_of start (Some cell) at ≡ false → read_cell (slice_set words at word) layouts start bound ≡ Some cell

-- the event stores a header at this address
abbrev pub StoresHeader : Event → ℕ → Type 0
StoresHeader (event.StoreHeader at word) start = at ≡ start
StoresHeader _ start = ⊥

-- each free start reads its cell as before through each possible event but a store of its own header
abbrev pub FreeStartsKeepCells : Type 0
FreeStartsKeepCells =
    (world : World) (of : Event) → HasCells world → Possible world of → (start : ℕ) → (StoresHeader of start → ⊥)
    → IsTrue (is_free world.main start) → (cell : Reading) → cell_of world start ≡ Some cell
    → cell_of (after world of) start ≡ Some cell

-- a cell has the size of another one, and each of its tagged slots
pub record Widens (before now : Reading) : Type 0 where
  pub size : now.size ≡ before.size
  pub slots : Includes (slots_of now) (slots_of before)

-- after a possible store of its header a free start reads a cell of as many words, with at least the tagged slots of
-- before
abbrev pub HeadersKeepSizes : Type 0
HeadersKeepSizes =
    (world : World) (start word : ℕ) → Possible world (event.StoreHeader start word)
    → (cell : Reading) → cell_of world start ≡ Some cell
    → IsSomeAnd (cell_of (after world (event.StoreHeader start word)) start) (Widens cell)

-- each address that is a free start after an event was one before
abbrev pub NoStartTurnsFree : Type 0
NoStartTurnsFree =
    (world : World) (of : Event) → (start : ℕ) → IsTrue (is_free (after world of).main start)
    → IsTrue (is_free world.main start)
