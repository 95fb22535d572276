-- Laws of claimed cells: what a step asks of the mutator holds of their words, from step to step.
use Rattle.std.specs.Prelude.{◌≡◌, ℕ, ◌+◌, ◌<◌, ◌≤◌, true, false, List, Contains, Some, IsTrue, length, slice_index}
use Rattle.page_space.specs.Extents.{eden_start}
use Rattle.mark_world.specs.Pages.{OfTarget, is_free, is_quiet}
use Rattle.mark_world.specs.Safety.{FitsTaggedSlot, IsSafe}
use Rattle.mark_world.specs.Conditions.{AreSureAfter, MayStoreSlot, MayStoreOwned, MayStoreHeader, MayBeNew}
use Rattle.mark_world.specs.AfterEvents.{Possible, WerePossible, after, after_all, moment}
use Rattle.mark_world.specs.Coverage.{cell_of}
use Rattle.mark_laws.specs.Types.{Kind, Event, Reading, World}
use Rattle.mark_laws.specs.PageWords.{HasMainSound}
use Rattle.mark_laws.specs.Runs.{IsSoundAndBorn}
use Rattle.heap_model.specs.Types.{Cell}
use Rattle.heap_model.specs.Heaps.{Heap, HasCell}
use Rattle.heap_model.specs.Wholeness.{Whole}
use Rattle.mark_world.specs.Cycles.{Cycle}
use Rattle.cycle_state.specs.Claims.{GoesOn, Claims, is_head_in}
use Rattle.cycle_state.specs.Cycles.{IsWorldOf}
use Rattle.cycle_state.specs.Resting.{Rests}

-- a world goes on to itself
abbrev pub GoesOnItself : Type 0
GoesOnItself = (world : World) → GoesOn world world

-- and where one goes on to another, to what that goes on to
abbrev pub GoesOnAgain : Type 0
GoesOnAgain = (first next last : World) → GoesOn first next → GoesOn next last → GoesOn first last

-- it goes on through each possible event: a step of the mutator or of a helper, a seat lent or taken back
abbrev pub EventsGoOn : Type 0
EventsGoOn = (world : World) (of : Event) → HasMainSound world → Possible world of → GoesOn world (after world of)

-- so it does along a list of events that were possible, from a sound world where marking reaches only born cells
abbrev pub GoesOnAlong : Type 0
GoesOnAlong =
    (start : World) (events : List Event) → IsSoundAndBorn start → WerePossible start events (length events)
    → GoesOn start (after_all start events)

-- from each moment of events to each later one
abbrev pub MomentsGoOn : Type 0
MomentsGoOn =
    (start : World) (events : List Event) (from to : ℕ) → IsSoundAndBorn start → from ≤ to → to ≤ length events
    → WerePossible start events to → GoesOn (moment start events from) (moment start events to)

-- Where a heap rests in a cycle, the words of each cell of a page are claimed, whatever helpers are at work.
abbrev pub PageCellsAreClaimed : Type 0
PageCellsAreClaimed =
    (heap : Heap) (cycle : Cycle) (world : World) (cell : Cell) (words : List ℕ) → Whole heap → Rests heap cycle
    → IsWorldOf heap cycle world → HasCell heap cell words → cell.at < eden_start heap.space
    → Claims world cell.at cell.size cell.layout.kind

-- They stay claimed while the world goes on.
abbrev pub ClaimsGoOn : Type 0
ClaimsGoOn =
    (world next : World) (at size : ℕ) (kind : Kind) → GoesOn world next → Claims world at size kind
    → Claims next at size kind

-- A word with no target or a born one stays such a word, and one of whose target the mutator is sure.
abbrev pub TargetsGoOn : Type 0
TargetsGoOn =
    (world next : World) (word : ℕ) → GoesOn world next
    → (OfTarget world.old word (Contains world.main.born) → OfTarget next.old word (Contains next.main.born))
    × (OfTarget world.old word (Contains world.main.sure) → OfTarget next.old word (Contains next.main.sure))

-- A word that a slot may hold, with no target or a born one, may be stored in a claimed cell, but as its header or its
-- length.
abbrev pub ClaimsAllowSlots : Type 0
ClaimsAllowSlots =
    (world : World) (at size : ℕ) (kind : Kind) (offset word : ℕ) → Claims world at size kind → offset < size
    → is_head_in kind offset ≡ false → FitsTaggedSlot word → OfTarget world.old word (Contains world.main.born)
    → MayStoreSlot world.old world.words world.layouts world.main (at + offset) word

-- Any word may be stored in a claimed cell that is no free start. In one that is, it may go where the cell that is read
-- there then has neither a header, nor a length, nor a tagged slot.
abbrev pub ClaimsAllowOwned : Type 0
ClaimsAllowOwned =
    (world : World) (at size : ℕ) (kind : Kind) (offset : ℕ) → Claims world at size kind → offset < size
    → (IsTrue (is_free world.main at) → (cell : Reading) → cell_of world at ≡ Some cell
    → is_quiet cell offset ≡ true)
    → MayStoreOwned world.old world.words world.layouts world.main (at + offset)

-- The header of a claimed cell may be changed safely, where the mutator is sure of the targets of its new tagged slots,
-- if the cell is a free start.
abbrev pub ClaimsAllowHeaders : Type 0
ClaimsAllowHeaders =
    (world : World) (at size : ℕ) (kind : Kind) (word : ℕ) → Claims world at size kind → 0 < size
    → IsSafe world.layouts (slice_index world.words at) word
    → (IsTrue (is_free world.main at) → AreSureAfter world.old world.words world.layouts world.main at word)
    → MayStoreHeader world.old world.words world.layouts world.main at word

-- A new cell may begin at any word of a claimed cell that the mutator made black itself.
abbrev pub ClaimsAllowCells : Type 0
ClaimsAllowCells =
    (world : World) (at size : ℕ) (kind : Kind) (offset : ℕ) → Claims world at size kind → offset < size
    → Contains world.main.mine at → MayBeNew world.old world.words world.layouts world.main (at + offset)
