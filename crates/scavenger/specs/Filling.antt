-- How far a scavenge has come: the copies that fill the rooms, what stands in pages, and which slots are to do.
use Rattle.std.specs.Prelude.{◌≡◌, ℕ, ◌+◌, ◌*◌, ◌<◌, ◌≤◌, ◌↔◌, ◌⊎◌, List, [], ◌∷◌, ◌++◌, Contains, sum_by, slice_get}
use Rattle.std.specs.Prelude.{Some}
use Rattle.std.specs.Prelude.{length, map, slice_index, IsTrue}
use Rattle.std.specs.List.{flat_map}
use Rattle.tagged_word.specs.Cells.{is_free_kind}
use Rattle.page_space.specs.declared.region.Region.TheVariants.{Segment}
use Rattle.page_space.specs.Sizes.{page_words}
use Rattle.page_space.specs.Extents.{Space, StartsAt, eden_start}
use Rattle.cell_layout.specs.Cells.{IsRow}
use Rattle.write_barrier.specs.Seats.{RestStays, heap_words}
use Rattle.free_runs.specs.FreeRuns.{AreFree}
use Rattle.free_runs.specs.Laws.{IsFreeWord}
use Rattle.heap_model.specs.Types.{Cell, Run}
use Rattle.heap_model.specs.Heaps.{HasCell}
use Rattle.heap_model.specs.Kinds.{HasNoNumber}
use Rattle.write_barrier.specs.MutatorState.{Mutator}
use Rattle.scav_copy.specs.declared.places.Home.{Home}
use Rattle.scav_copy.specs.Places.{Fixed, size_of, IsInCopy, IsInCopies, StoodAt}
use Rattle.scav_copy.specs.Renamings.{RefersToAddress}
use Rattle.scav_copy.specs.Copies.{Copying}
use Rattle.scavenger.specs.Starts.{Start, SegmentCopies, IsFreeRun, helping_workers, room_start, segment_from}
use Rattle.scavenger.specs.Backs.{AreBacks}

-- the copies stand one behind another from an address to another, in this order
pub data Tiles (fixed : Fixed) : ℕ → ℕ → List Home → Type 0 where
  none : (at : ℕ) → Tiles fixed at at []
  next : (home : Home) (end : ℕ) (homes : List Home) → Tiles fixed (home.to + size_of fixed home.from) end homes
      → Tiles fixed home.to end (home ∷ homes)

-- how many words home copies have
abbrev pub words_of_homes : Fixed → List Home → ℕ
words_of_homes fixed homes = sum_by (λ home. size_of fixed home.from) homes

-- the address behind the copies in a worker's segment of a half, which fill it from its start on
abbrev pub segment_filled : Space → ℕ → Fixed → SegmentCopies → ℕ
segment_filled space half fixed segment =
    segment_from space half segment.worker + words_of_homes fixed segment.homes

-- they do fill it so
abbrev pub FillsSegment : Space → ℕ → Fixed → SegmentCopies → Type 0
FillsSegment space half fixed segment =
    Tiles fixed (segment_from space half segment.worker) (segment_filled space half fixed segment) segment.homes

-- and behind them a 0 stands, where the segment goes on
abbrev pub EndsSegment : Space → ℕ → Fixed → List ℕ → SegmentCopies → Type 0
EndsSegment space half fixed words segment =
    segment_filled space half fixed segment < segment_from space half segment.worker + space.sizes.young
    → slice_index words (segment_filled space half fixed segment) ≡ 0

-- the home copies in all segments
abbrev pub homes_in : List SegmentCopies → List Home
homes_in segments = flat_map (λ segment. segment.homes) segments

-- how many words these have
abbrev pub words_of_segments : Fixed → List SegmentCopies → ℕ
words_of_segments fixed segments = sum_by (λ segment. words_of_homes fixed segment.homes) segments

-- What a cell of a page is while a scavenge goes on: one that stood there before and is no free run; a home copy; or
-- what a free run is now.
pub data IsOfPage (start : Start) (rows : List (List Run)) (homes : List Home) (cell : Cell) : Type 0 where
  stays : (words : List ℕ) → HasCell start.heap cell words
      → ((run : Run) → IsFreeRun start.rows run → run.at ≡ cell.at → ⊥) → IsOfPage start rows homes cell
  copy : (home : Home) → Contains homes home → home.to ≡ cell.at → IsOfPage start rows homes cell
  free : (run : Run) → IsFreeRun rows run → run.at ≡ cell.at → run.words ≡ cell.size
      → IsTrue (is_free_kind cell.layout.kind) → HasNoNumber cell → IsOfPage start rows homes cell

-- the address is one of the page's
pub record IsInPage (page at : ℕ) : Type 0 where
  pub from : page_words * page ≤ at
  pub below : at < page_words * page + page_words

-- one of these cells stands at the address
pub record StandsIn (cells : List Cell) (at : ℕ) : Type 0 where
  pub cell : Cell
  pub among : Contains cells cell
  pub stands : cell.at ≡ at

-- A page while a scavenge goes on: a row of such cells, and of all of them.
pub record PageStands (start : Start) (words : List ℕ) (rows : List (List Run)) (homes : List Home) (page : ℕ)
    : Type 0 where
  pub cells : List Cell
  pub row : IsRow start.heap.space words (page_words * page) (page_words * page + page_words) cells
  pub each : (cell : Cell) → Contains cells cell → IsOfPage start rows homes cell
  pub stay : (cell : Cell) (were : List ℕ) → HasCell start.heap cell were → IsInPage page cell.at
      → ((run : Run) → IsFreeRun start.rows run → run.at ≡ cell.at → ⊥) → Contains cells cell
  pub copies : (home : Home) → Contains homes home → IsInPage page home.to → StandsIn cells home.to
  pub runs : (run : Run) → IsFreeRun rows run → IsInPage page run.at → StandsIn cells run.at

-- all pages
abbrev pub PagesStand : Start → List ℕ → List (List Run) → List Home → Type 0
PagesStand start words rows homes =
    (page : ℕ) → page < start.heap.space.sizes.pages → PageStands start words rows homes page

-- the address is a word of a home copy in a page
abbrev pub IsInPromoted : Start → Fixed → List Home → ℕ → Type 0
IsInPromoted start fixed homes at =
    (home : Home) × Contains homes home × (home.to < eden_start start.heap.space) × IsInCopy fixed home at

-- Words, free runs and homes between two slots. Some home copies fill the main side's segment from its start to `fill`,
-- one behind another; the others stand in pages, or are those that helpers handed over, which fill segments of the same
-- half. Each word that was in a free run is in one, or in a copy, and each free run is the back of one that was.
pub record CopiesFillRooms (start : Start) (fixed : Fixed) (words : List ℕ) (rows : List (List Run)) (homes : List Home)
    (fill : ℕ)
    : Type 0 where
  pub copying : Copying fixed words homes
  pub stayed : List Home
  pub tiles : Tiles fixed (room_start start.heap.space start.half) fill stayed
  pub promoted : List Home
  pub in_pages : (home : Home) → Contains promoted home → home.to < eden_start start.heap.space
  pub handed_by : map (λ segment. segment.worker) start.handed ≡ helping_workers start.heap.space
  pub handed : (segment : SegmentCopies) → Contains start.handed segment
      → FillsSegment start.heap.space start.half fixed segment
  pub behind : (segment : SegmentCopies) → Contains start.handed segment
      → EndsSegment start.heap.space start.half fixed words segment
  pub same : (home : Home) → Contains homes home ↔ Contains (stayed ++ (promoted ++ homes_in start.handed)) home
  pub long : fill + words_of_segments fixed start.handed
      ≤ room_start start.heap.space start.half + words_of_homes fixed homes
  pub pages : PagesStand start words rows homes
  pub left : (at : ℕ) → IsFreeWord start.rows at ↔ (IsFreeWord rows at ⊎ IsInPromoted start fixed homes at)
  pub free : AreFree rows
  pub backs : AreBacks start.rows rows
  pub apart : (at : ℕ) → IsFreeWord rows at → IsInCopies fixed homes at → ⊥

-- Up to where slots are done: first root words before `root`, recorded ones before `recorded`; of the copy at hand the
-- words from one address to another are still to do; and of the slots that helpers left, these.
pub record Front : Type 0 where
  pub root : ℕ
  pub recorded : ℕ
  pub from : ℕ
  pub to : ℕ
  pub left : List ℕ

-- The slot is to do: it is a root or a recorded slot that is not done, one of the copy at hand, one that a helper left,
-- or one of a copy on the list.
pub data IsToDo (start : Start) (fixed : Fixed) (homes : List Home) (todo : List ℕ) (front : Front) (slot : ℕ)
    : Type 0 where
  root : front.root ≤ slot → IsToDo start fixed homes todo front slot
  recorded : front.recorded ≤ slot → slot < eden_start start.heap.space → Contains start.recorded slot
      → IsToDo start fixed homes todo front slot
  at_hand : front.from ≤ slot → slot < front.to → IsToDo start fixed homes todo front slot
  left : Contains front.left slot → IsToDo start fixed homes todo front slot
  listed : (home : Home) → Contains homes home → Contains todo home.to → IsInCopy fixed home slot
      → IsToDo start fixed homes todo front slot

-- each live slot that refers to one of the cells is to do
abbrev pub OthersAreDone : Start → Fixed → List ℕ → List Home → List ℕ → Front → Type 0
OthersAreDone start fixed words homes todo front =
    (slot place cell : ℕ) → StoodAt fixed homes slot place → RefersToAddress words slot cell
    → Contains fixed.cells cell → IsToDo start fixed homes todo front slot

-- no live slot refers to one of the cells
abbrev pub AllAreDone : Fixed → List ℕ → List Home → Type 0
AllAreDone fixed words homes =
    (slot place cell : ℕ) → StoodAt fixed homes slot place → RefersToAddress words slot cell
    → Contains fixed.cells cell → ⊥

-- of all that the mutator has only heap words, free runs and what is recorded are others; as many pages have a row of
-- free runs
pub record ChangesWords (old new : Mutator) : Type 0 where
  pub seat : RestStays old.seat new.seat
  pub paths : new.paths ≡ old.paths
  pub cycle : new.cycle ≡ old.cycle
  pub young : new.young ≡ old.young
  pub count : length (heap_words new.seat) ≡ length (heap_words old.seat)
  pub bound : new.recorded.bound ≡ old.recorded.bound
  pub rows : length new.free ≡ length old.free

-- the address is the first one of a segment of this half
abbrev pub IsSegmentStart : Space → ℕ → ℕ → Type 0
IsSegmentStart space half at = (worker : ℕ) × StartsAt space (Segment half worker) at

-- Behind the copies, where the room has a word more, and in the first word of each segment of the half that is left
-- stands a 0, and no other word has changed.
pub record IsEmptied (space : Space) (left fill end : ℕ) (old new : List ℕ) : Type 0 where
  pub count : length new ≡ length old
  pub behind : fill < end → slice_get new fill ≡ Some 0
  pub starts : (at : ℕ) → IsSegmentStart space left at → slice_get new at ≡ Some 0
  pub others : (at : ℕ) → ((at ≡ fill) × (fill < end) → ⊥) → (IsSegmentStart space left at → ⊥)
      → slice_get new at ≡ slice_get old at
