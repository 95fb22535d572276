-- How a scavenge goes on: what is known before and behind each of its steps.
use Rattle.std.specs.Prelude.{◌≡◌, ℕ, ◌+◌, ◌-◌, ◌<◌, ◌≤◌, ◌↔◌, ◌⊎◌, Bool, true, List, [], length, Contains, sum_by}
use Rattle.std.specs.Prelude.{Some, slice_get}
use Rattle.tagged_word.specs.Cells.{scavenge_offsets}
use Rattle.page_space.specs.Sizes.{page_words}
use Rattle.page_space.specs.Extents.{Space, eden_start, segments_start, roots_start, marks_start}
use Rattle.cell_layout.specs.Cells.{IsSized}
use Rattle.nursery.specs.Young.{other_half}
use Rattle.free_runs.specs.FreeRuns.{FitsNowhere, TakesFront}
use Rattle.write_barrier.specs.Seats.{heap_words}
use Rattle.heap_model.specs.Types.{Cell, Run}
use Rattle.heap_model.specs.Remembered.{RefersToYoung}
use Rattle.write_barrier.specs.MutatorState.{Mutator, MayStore}
use Rattle.write_barrier.specs.FreeCells.{with_free_cell}
use Rattle.scav_copy.specs.declared.places.Home.{Home}
use Rattle.scav_copy.specs.Places.{Fixed, size_of, offsets_of, StoodAt}
use Rattle.scav_copy.specs.Renamings.{RefersToAddress}
use Rattle.scavenger.specs.declared.spaces.Spaces.{Spaces}
use Rattle.scavenger.specs.declared.progress.Progress.{Progress}
use Rattle.scavenger.specs.Starts.{Start, SegmentCopies, IsBegun, IsFreeRun, start_of, start_with, room_start}
use Rattle.scavenger.specs.Filling.{CopiesFillRooms, Front, OthersAreDone, ChangesWords, IsSegmentStart}
use Rattle.scavenger.specs.Following.{half_start, half_end, moved_words, IsFreeAt, IsFromSpace}

-- the address behind the room that copies go to
abbrev pub room_end : Space → ℕ → ℕ
room_end space half = room_start space half + space.sizes.young

-- these are the spaces of a scavenge that leaves a half, and promotes all or only what was a survivor already
pub record AreSpaces (space : Space) (emptied : ℕ) (all : Bool) (spaces : Spaces) : Type 0 where
  pub eden : spaces.eden ≡ eden_start space
  pub eden_end : spaces.eden_end ≡ segments_start space
  pub half : spaces.half ≡ emptied
  pub left : spaces.left ≡ half_start space emptied
  pub left_end : spaces.left_end ≡ half_end space emptied
  pub room : spaces.room ≡ room_start space (other_half emptied)
  pub room_end : spaces.room_end ≡ room_end space (other_half emptied)
  pub before_marks : spaces.room_end ≤ marks_start space
  pub promote_all : spaces.promote_all ≡ all

-- the cell at the address is to be promoted: it is a survivor, or all are
abbrev pub IsToPromote : Space → Bool → ℕ → Type 0
IsToPromote space all at = (all ≡ true) ⊎ (segments_start space ≤ at)

-- Where copies are, by a size that no free run has: only cells that are to be promoted are in pages, and such a cell is
-- not in a page only where it has that many words or more.
pub record IsWellPlaced (start : Start) (fixed : Fixed) (rows : List (List Run)) (homes : List Home) (all : Bool)
    (refused : ℕ) : Type 0 where
  pub promoted : (home : Home) → Contains homes home → home.to < eden_start start.heap.space
      → IsToPromote start.heap.space all home.from
  pub stayed : (home : Home) → Contains homes home → IsToPromote start.heap.space all home.from
      → (home.to < eden_start start.heap.space) ⊎ (refused ≤ size_of fixed home.from)
  pub none_fits : (n : ℕ) → 1 ≤ n → refused ≤ n → n ≤ page_words → FitsNowhere rows n

-- a copy goes to the segment
abbrev pub stays_young : Progress → ℕ → Progress
stays_young progress size = record progress { fill = progress.fill + size }

-- the address is that of a slot of a home copy in a page
pub record IsPromotedSlot (start : Start) (fixed : Fixed) (homes : List Home) (at : ℕ) : Type 0 where
  pub home : Home
  pub among : Contains homes home
  pub in_page : home.to < eden_start start.heap.space
  pub offset : ℕ
  pub visited : Contains (offsets_of fixed home.from) offset
  pub stands : home.to + offset ≡ at

-- the word at the address refers to a segment of the half that copies go to
pub record RefersToRoom (start : Start) (words : List ℕ) (at : ℕ) : Type 0 where
  pub cell : ℕ
  pub refers : RefersToAddress words at cell
  pub from : half_start start.heap.space start.half ≤ cell
  pub below : cell < half_end start.heap.space start.half

-- Recorded are, of the slots that were, those that refer to a young cell, and of the slots of copies in pages those
-- that refer to a copy in a segment.
abbrev pub AreKept : Start → Fixed → List ℕ → List Home → List ℕ → Type 0
AreKept start fixed words homes now =
    (at : ℕ) → Contains now at
    ↔ ((Contains start.recorded at × RefersToYoung (eden_start start.heap.space) words at)
    ⊎ (IsPromotedSlot start fixed homes at × RefersToRoom start words at))

-- A scavenge may begin with what the mutator has.
pub record MayBegin (main : Mutator) : Type 0 where
  pub fixed : Fixed
  pub begun : IsBegun (start_of main) fixed
  pub two : main.young.half ≤ 1
  pub bounded : main.recorded.bound ≡ eden_start main.seat.space

-- A scavenge that began with one mutator, and with copies that helpers handed over, has come to another. The list has
-- home copies, no more than words were copied, and each live slot that refers to a cell is to do.
pub record Scavenging (start : Mutator) (handed : List SegmentCopies) (now : Mutator) (all : Bool) (progress : Progress)
    (todo : List ℕ) (front : Front) : Type 0 where
  pub fixed : Fixed
  pub homes : List Home
  pub two : start.young.half ≤ 1
  pub bounded : start.recorded.bound ≡ eden_start start.seat.space
  pub quiet : MayStore now
  pub begun : IsBegun (start_with start handed) fixed
  pub filled : CopiesFillRooms (start_with start handed) fixed (heap_words now.seat) now.free homes progress.fill
  pub copied : progress.copied ≡ sum_by (λ home. size_of fixed home.from) homes
  pub placed : IsWellPlaced (start_with start handed) fixed now.free homes all progress.refused
  pub kept : AreKept (start_with start handed) fixed (heap_words now.seat) homes now.recorded.slots
  pub listed : (at : ℕ) → Contains todo at → (home : Home) × Contains homes home × (home.to ≡ at)
  pub few : length todo ≤ progress.copied
  pub others : OthersAreDone (start_with start handed) fixed (heap_words now.seat) homes todo front
  pub changes : ChangesWords start now

-- The slot is live in a scavenge, so it may be followed.
pub record MayFollow (now : Mutator) (all : Bool) (progress : Progress) (todo : List ℕ) (slot : ℕ) : Type 0 where
  pub start : Mutator
  pub handed : List SegmentCopies
  pub front : Front
  pub scavenging : Scavenging start handed now all progress todo front
  pub place : ℕ
  pub stood : StoodAt scavenging.fixed scavenging.homes slot place

-- More words were copied, and the list became longer by no more than these.
pub record HasGrown (before after : Progress) (todo left : List ℕ) : Type 0 where
  pub more : before.copied ≤ after.copied
  pub grows : length left + before.copied ≤ length todo + after.copied

-- A scavenge went on: no home was lost.
pub record HasCopiedMore (start : Mutator) (handed : List SegmentCopies) (old new : Mutator) (all : Bool)
    (before after : Progress) (todo left : List ℕ) (front : Front)
    (state : Scavenging start handed old all before todo front) : Type 0 where
  pub next : Scavenging start handed new all after left front
  pub same : next.fixed ≡ state.fixed
  pub kept : (home : Home) → Contains state.homes home → Contains next.homes home
  pub grown : HasGrown before after todo left

-- And the slot is done: it refers to no cell that is to be copied.
pub record HasFollowed (start : Mutator) (handed : List SegmentCopies) (old new : Mutator) (all : Bool)
    (before after : Progress) (todo left : List ℕ) (front : Front) (slot : ℕ)
    (state : Scavenging start handed old all before todo front) : Type 0 where
  pub on : HasCopiedMore start handed old new all before after todo left front state
  pub done : (place cell : ℕ) → StoodAt on.next.fixed on.next.homes slot place
      → RefersToAddress (heap_words new.seat) slot cell → Contains on.next.fixed.cells cell → ⊥

-- A live slot refers to an address that is left.
pub record MayMove (now : Mutator) (all : Bool) (progress : Progress) (todo : List ℕ) (at : ℕ) : Type 0 where
  pub slot : ℕ
  pub may : MayFollow now all progress todo slot
  pub refers : RefersToAddress (heap_words now.seat) slot at
  pub left : IsFromSpace now.seat.space now.young.half at

-- The cell at an address has its home at another then, and each slot that was live refers to what it did.
pub record HasMoved (start : Mutator) (handed : List SegmentCopies) (old new : Mutator) (all : Bool)
    (before after : Progress) (todo left : List ℕ) (front : Front) (at to : ℕ)
    (state : Scavenging start handed old all before todo front) : Type 0 where
  pub on : HasCopiedMore start handed old new all before after todo left front state
  pub home : Home
  pub among : Contains on.next.homes home
  pub from : home.from ≡ at
  pub stands : home.to ≡ to
  pub live : (slot place cell : ℕ) → StoodAt state.fixed state.homes slot place
      → RefersToAddress (heap_words old.seat) slot cell → RefersToAddress (heap_words new.seat) slot cell

-- The first words of a free cell, so many, were taken, and the others are one free cell, of which nothing is recorded;
-- else what was recorded is.
pub record CutsFreeCell (old new : Mutator) (size : ℕ) (run : Run) (free : Cell) : Type 0 where
  pub changes : ChangesWords old new
  pub words : heap_words new.seat ≡ with_free_cell (heap_words old.seat) (run.at + size) (free.size - size)
  pub recorded : (a : ℕ) → a < old.recorded.bound → Contains new.recorded.slots a
      ↔ (Contains old.recorded.slots a × ((run.at + size ≤ a) × (a < run.at + free.size) → ⊥))
  pub beyond : (a : ℕ) → old.recorded.bound ≤ a → Contains new.recorded.slots a → Contains old.recorded.slots a

-- Where a copy of so many words goes. To the segment: the cell is not to be promoted, or no free run has its words,
-- which is kept. Or to a free run, and what is left of that is one free cell.
pub data Places (old new : Mutator) (all : Bool) (at size : ℕ) (before : Progress) : Progress → ℕ → Type 0 where
  stays : new ≡ old → (IsToPromote old.seat.space all at → ⊥)
      → Places old new all at size before (stays_young before size) before.fill
  passes : new ≡ old → IsToPromote old.seat.space all at → before.refused ≤ size
      → Places old new all at size before (stays_young before size) before.fill
  refuses : new ≡ old → IsToPromote old.seat.space all at → size < before.refused → FitsNowhere old.free size
      → Places old new all at size before (stays_young (record before { refused = size }) size) before.fill
  promotes : (run : Run) (free : Cell) → IsToPromote old.seat.space all at → TakesFront old.free new.free size run
      → IsFreeAt old.seat.space (heap_words old.seat) free run.at → CutsFreeCell old new size run free
      → Places old new all at size before before run.at

-- The words of the cell were copied to an address, and its header refers to the copy. Nothing is recorded of the copy;
-- else what was recorded is, but for the word of the cell's header.
pub record CopiesCell (old new : Mutator) (cell : Cell) (to : ℕ) : Type 0 where
  pub changes : ChangesWords old new
  pub free : new.free ≡ old.free
  pub words : heap_words new.seat ≡ moved_words (heap_words old.seat) cell to
  pub recorded : (a : ℕ) → Contains new.recorded.slots a → Contains old.recorded.slots a
  pub others : (a : ℕ) → Contains old.recorded.slots a → ((to ≤ a) × (a < to + cell.size) → ⊥)
      → (a ≡ cell.at → ⊥) → Contains new.recorded.slots a
  pub wiped : (a : ℕ) → a < old.recorded.bound → to ≤ a → a < to + cell.size → Contains new.recorded.slots a → ⊥

-- the home copy is this cell, with all its slots
pub record IsCopyOf (fixed : Fixed) (home : Home) (cell : Cell) : Type 0 where
  pub stands : home.to ≡ cell.at
  pub size : size_of fixed home.from ≡ cell.size
  pub offsets : offsets_of fixed home.from ≡ scavenge_offsets cell.layout cell.length
  pub sized : IsSized cell

-- A copy is at hand: it is this cell. The front says which of its slots are to do.
pub record IsScanned (start : Mutator) (handed : List SegmentCopies) (now : Mutator) (all : Bool) (progress : Progress)
    (todo : List ℕ) (cell : Cell) (front : Front) : Type 0 where
  pub scavenging : Scavenging start handed now all progress todo front
  pub home : Home
  pub among : Contains scavenging.homes home
  pub is : IsCopyOf scavenging.fixed home cell

-- a copy stands at the address
pub record IsCopyAt (now : Mutator) (at : ℕ) : Type 0 where
  pub start : Mutator
  pub handed : List SegmentCopies
  pub all : Bool
  pub progress : Progress
  pub todo : List ℕ
  pub front : Front
  pub scavenging : Scavenging start handed now all progress todo front
  pub home : Home
  pub among : Contains scavenging.homes home
  pub stands : home.to ≡ at

-- each free run is a free cell
abbrev pub StandFree : Mutator → Type 0
StandFree main =
    (run : Run) → IsFreeRun main.free run
    → (free : Cell) × IsFreeAt main.seat.space (heap_words main.seat) free run.at × (free.size ≡ run.words)

-- the front when these slots that helpers left are still to do, and no root or recorded slot was followed
abbrev pub at_left : Space → List ℕ → Front
at_left space left = record { root = roots_start space; recorded = 0; from = 0; to = 0; left = left }

-- the front when the roots are being followed, from an address on; when the recorded slots are; when copies are; and
-- with the slots of a copy still to do from an address on
abbrev pub at_root : ℕ → Front
at_root root = record { root = root; recorded = 0; from = 0; to = 0; left = [] }

abbrev pub at_recorded : ℕ → ℕ → Front
at_recorded end slot = record { root = end; recorded = slot; from = 0; to = 0; left = [] }

abbrev pub at_copy : (end eden from to : ℕ) → Front
at_copy end eden from to = record { root = end; recorded = eden; from = from; to = to; left = [] }

-- where the room has a word more behind the copies, that is 0, and no other word has changed
pub record EndsCopies (old new : List ℕ) (fill end : ℕ) : Type 0 where
  pub count : length new ≡ length old
  pub behind : fill < end → slice_get new fill ≡ Some 0
  pub others : (at : ℕ) → ((at ≡ fill) × (fill < end) → ⊥) → slice_get new at ≡ slice_get old at

-- the first word of each segment of a half is 0, words that were 0 are, and no other word has changed
pub record EmptiesSegments (space : Space) (half : ℕ) (old new : List ℕ) : Type 0 where
  pub count : length new ≡ length old
  pub zeros : (at : ℕ) → slice_get old at ≡ Some 0 → slice_get new at ≡ Some 0
  pub starts : (at : ℕ) → IsSegmentStart space half at → slice_get new at ≡ Some 0
  pub others : (at : ℕ) → (IsSegmentStart space half at → ⊥) → slice_get new at ≡ slice_get old at

-- all slots of the copy at hand are to do
pub record MayScan (now : Mutator) (spaces : Spaces) (progress : Progress) (todo : List ℕ) (cell : Cell) : Type 0 where
  pub start : Mutator
  pub handed : List SegmentCopies
  pub all : Bool
  pub end : ℕ
  pub are : AreSpaces now.seat.space now.young.half all spaces
  pub scanned : IsScanned start handed now all progress todo cell
      (at_copy end (eden_start now.seat.space) cell.at (cell.at + cell.size))
