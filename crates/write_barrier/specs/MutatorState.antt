-- The mutator's side of a heap as those above it see it.
use Rattle.std.specs.Prelude.{◌≡◌, ℕ, ◌+◌, ◌*◌, ◌<◌, ◌≤◌, Bool, false, not, nat_lt, if◌then◌else◌}
use Rattle.std.specs.Prelude.{List, [], length, Contains, Option, Some, None, slice_get, slice_set}
use Rattle.heap_model.specs.Types.{Path, Header, Run, Held}
use Rattle.object_graph.specs.Graphs.{Graph}
use Rattle.object_graph.specs.Invariants.{IsGraph}
use Rattle.tagged_word.specs.Headers.{header_bits}
use Rattle.tagged_word.specs.Readings.{reference_in}
use Rattle.tagged_word.specs.Shapes.{gap_shape}
use Rattle.tagged_word.specs.Cells.{length_offset}
use Rattle.page_space.specs.Sizes.{page_words}
use Rattle.page_space.specs.Extents.{Space, eden_start, segments_start, marks_start}
use Rattle.handle_roots.specs.Roots.{with_root}
use Rattle.nursery.specs.Young.{Young, new_young, next_of, bumped, other_half}
use Rattle.free_runs.specs.FreeRuns.{whole_rows}
use Rattle.remembered_set.specs.Recorded.{Recorded, noted, forgotten}
use Rattle.mark_world.specs.declared.world.World.{World}
use Rattle.mark_world.specs.Cycles.{Cycle}
use Rattle.mark_laws.specs.PageWords.{HasMainSound}
use Rattle.cycle_state.specs.Cycles.{world_in}
use Rattle.cycle_state.specs.Resting.{Rests}
use Rattle.heap_table.specs.Overviews.{unopened}
use Rattle.heap_table.specs.Phases.{Phase, Quiet, Mark, Paused}
use Rattle.mark_barrier.specs.CycleSteps.{sure_of_target}
use Rattle.write_barrier.specs.Seats.{Seat, RestStays, fresh, heap_words}
use Rattle.heap_model.specs.Heaps.{Heap}
use Rattle.heap_model.specs.Showing.{Shows}
use Rattle.heap_model.specs.Changes.{AreFillers}
use Rattle.heap_model.specs.Collectable.{IsCollectable, AreFreeRuns}
use Rattle.heap_model.specs.Remembered.{AreRemembered}

-- the seat, the shapes, the young generation, the free runs of pages, which slots of pages are recorded, and what is
-- known of the open cycle
pub record Mutator : Type 0 where
  pub seat : Seat
  pub paths : List Path
  pub young : Young
  pub free : List (List Run)
  pub recorded : Recorded
  pub cycle : Cycle

-- the heap that stands in the words
abbrev pub heap_of : Mutator → Heap
heap_of main = record {
  space = main.seat.space;
  used = main.young.used;
  survivors = main.young.survivors;
  paths = main.paths;
  words = heap_words main.seat;
}

-- the world of marking that the heap's pages are by what is known of the cycle, without colours, board or helpers
abbrev pub world_of : Mutator → World
world_of main = world_in (heap_of main) main.cycle

-- each granted word is a filler of one page, where there are any
abbrev pub AreGranted : Heap → Run → Type 0
AreGranted heap run = 0 < run.words → AreFillers heap run.at (run.at + run.words)

-- no free run begins in this run
abbrev pub AvoidsFree : Run → List (List Run) → Type 0
AvoidsFree run rows =
    (row : List Run) (one : Run) → Contains rows row → Contains row one → run.at ≤ one.at
    → one.at < run.at + run.words → ⊥

-- the seat and the nursery are of the same regions, and what is granted are fillers
pub record IsTied (main : Mutator) : Type 0 where
  pub space : main.young.space ≡ main.seat.space
  pub granted : AreGranted (heap_of main) main.young.granted

-- The heap rests in an open cycle. The mutator's view is as in a sound world, what is kept is closed, and the mutator's
-- part is done. No word of a page is granted, so the next cells are young. There are at least as many objects as the
-- cycle counts, so the next one is none of these.
pub record RestsInCycle (main : Mutator) (graph : Graph) : Type 0 where
  pub view : HasMainSound (world_of main)
  pub rests : Rests (heap_of main) main.cycle
  pub granted : main.young.granted.words ≡ 0
  pub counted : main.cycle.made ≤ length graph.objects

-- Calm, as between two commands: where a cycle is open and does not wait, the heap rests in it. Of one that waits
-- nothing is asked: a scavenge moves cells then, and no command is carried out.
abbrev pub IsCalm : Mutator → Graph → Type 0
IsCalm main graph = main.seat.phase ≡ Mark → RestsInCycle main graph

-- The parts agree, the mutator is calm, and the heap shows the graph, which is one that a script makes. A scavenge
-- may come: the half that the survivors are not in is empty, each free run is one free cell, no such begins in what is
-- granted, and recorded are exactly the slots of pages that refer to young cells.
pub record MainShows (main : Mutator) (graph : Graph) : Type 0 where
  pub tied : IsTied main
  pub is_graph : IsGraph graph
  pub calm : IsCalm main graph
  pub shows : Shows (heap_of main) graph
  pub collectable : IsCollectable (heap_of main) (other_half main.young.half)
  pub free : AreFreeRuns (heap_of main) main.free
  pub apart : AvoidsFree main.young.granted main.free
  pub bounded : main.recorded.bound ≡ eden_start main.seat.space
  pub remembered : AreRemembered (heap_of main) main.recorded.slots

-- the mutator may store words of cells of pages, whatever they are: no cycle is open, or it waits
abbrev pub MayStore : Mutator → Type 0
MayStore main = main.seat.phase ≡ Mark → ⊥

-- one word of the table is another
abbrev pub put_word : Mutator → ℕ → ℕ → Mutator
put_word main at word = record main { seat = record main.seat { table = slice_set main.seat.table at word } }

-- the words from an address of a page up to another are not recorded
abbrev pub wiped : Recorded → ℕ → ℕ → Recorded
wiped recorded from to = if nat_lt from recorded.bound then forgotten recorded from to else recorded

-- the same of what the mutator has
abbrev pub forgets : Mutator → ℕ → ℕ → Mutator
forgets main from to = record main { recorded = wiped main.recorded from to }

-- whether a reference is one to the young generation, which begins at the bound of pages
abbrev pub is_young : ℕ → Option ℕ → Bool
is_young bound (Some at) = not (nat_lt at bound)
is_young bound None = false

-- the address of a page is recorded where the word refers to a young cell, and not else
abbrev pub judged : Recorded → ℕ → ℕ → Recorded
judged recorded at word =
    if nat_lt at recorded.bound
    then (if is_young recorded.bound (reference_in word) then noted recorded at else forgotten recorded at (at + 1))
    else recorded

-- one word, which is no slot's, is another
abbrev pub with_word : Mutator → ℕ → ℕ → Mutator
with_word main at word = put_word (forgets main at (at + 1)) at word

-- what is known of a cycle becomes another, if the cycle is open and does not wait
abbrev pub while_open : Phase → Cycle → Cycle → Cycle
while_open Mark was next = next
while_open Quiet was next = was
while_open Paused was next = was

-- what is known of the cycle after a step that goes with the word at an address: another, if the word is one of a page
abbrev pub cycle_after : Mutator → ℕ → Cycle → Cycle
cycle_after main at next =
    if nat_lt at main.recorded.bound then while_open main.seat.phase main.cycle next else main.cycle

-- a word that a scavenge takes as that of a slot, and marking does not, is another
abbrev pub with_weak : Mutator → ℕ → ℕ → Mutator
with_weak main at word = put_word (record main { recorded = judged main.recorded at word }) at word

-- The word of one slot is another. In an open cycle the mutator is sure of the target of a word that it stores in a
-- page.
abbrev pub with_slot : Mutator → ℕ → ℕ → Mutator
with_slot main at word =
    record (with_weak main at word) {
      cycle = cycle_after main at (sure_of_target (eden_start main.seat.space) main.cycle word);
    }

-- so many words more are used: of eden, or of what is granted
abbrev pub reserved : Mutator → ℕ → Mutator
reserved main more = record main { young = bumped main.young more }

-- The run is the next so many words in which cells are made: it ends before the segments, and before the marks.
pub record IsNextRun (young : Young) (n : ℕ) (run : Run) : Type 0 where
  pub at : run.at ≡ next_of young
  pub words : run.words ≡ n
  pub in_cells : run.at + run.words ≤ segments_start young.space
  pub before_marks : run.at + run.words ≤ marks_start young.space

-- the table has other words
abbrev pub with_table : Mutator → List ℕ → Mutator
with_table main table = record main { seat = record main.seat { table = table } }

-- both root words of a variable are those of a value
abbrev pub with_variable : Mutator → ℕ → Held → Mutator
with_variable main variable held =
    record main { seat = record main.seat { table = with_root main.seat.space main.seat.table variable held } }

-- the header of a gap
abbrev pub gap_header : Header
gap_header = record { shape = gap_shape; object = 0 }

-- a page is one gap
pub record IsOneGap (words : List ℕ) (page : ℕ) : Type 0 where
  pub header : slice_get words (page_words * page) ≡ Some (header_bits gap_header)
  pub size : slice_get words (page_words * page + length_offset) ≡ Some page_words

-- nothing of the pages is recorded
abbrev pub none_recorded : Space → Recorded
none_recorded space = record { bound = eden_start space; slots = [] }

-- A heap that was just opened: nothing is used and nothing has survived, each page is one gap and one free run, nothing
-- is recorded, and no cycle was ever open. There may be a shared table.
pub record IsOpened (main : Mutator) : Type 0 where
  pub young : main.young ≡ new_young main.seat.space
  pub free : main.free ≡ whole_rows main.seat.space.sizes.pages
  pub recorded : main.recorded ≡ none_recorded main.seat.space
  pub cycle : main.cycle ≡ unopened
  pub beside : RestStays (fresh main.seat.space main.seat.shared) main.seat
  pub pages : (page : ℕ) → page < main.seat.space.sizes.pages → IsOneGap (heap_words main.seat) page
