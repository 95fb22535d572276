-- What of a heap the lines of a script spend: words of eden, and words of the free runs of pages.
use Rattle.std.specs.Prelude.{◌≡◌, ◌≢◌, ℕ, ◌+◌, ◌<◌, ◌≤◌, false, List, IsTrue}
use Rattle.tagged_word.specs.Cells.{length_offset}
use Rattle.page_space.specs.Extents.{eden_start}
use Rattle.free_runs.specs.FreeRuns.{TakesFront}
use Rattle.free_runs.specs.Laws.{IsOfRun}
use Rattle.heap_model.specs.Types.{Run}
use Rattle.heap_model.specs.Heaps.{Heap}
use Rattle.heap_model.specs.Needs.{lacks_room}
use Rattle.write_barrier.specs.MutatorState.{Mutator, heap_of}

-- a heap between two lines, and the free runs of its pages, in rows by pages
pub record Stage : Type 0 where
  pub heap : Heap
  pub rows : List (List Run)

-- what the mutator has
abbrev pub stage_of : Mutator → Stage
stage_of main = record { heap = heap_of main; rows = main.free }

-- Which collections of the heap came since the last line: none; a scavenge; a full collection, by itself or behind a
-- scavenge; or the one with which a run ends that counts its heap.
pub data Collections : Type 0 where
  uncollected : Collections
  scavenged : Collections
  fully_collected : Collections
  finally_collected : Collections

-- A line spends so many words, before which these collections came since the last line: words of eden, which had them;
-- or, where a collection came, and left eden empty and without so many, the first words of a free run of a page, while
-- eden stays empty.
pub data SpendsWords (old new : Stage) (collections : Collections) (n : ℕ) : Type 0 where
  of_eden : lacks_room old.heap n ≡ false → new.heap.used ≡ old.heap.used + n → new.rows ≡ old.rows
      → SpendsWords old new collections n
  of_page : (run : Run) → collections ≢ uncollected → IsTrue (lacks_room old.heap n) → old.heap.used ≡ 0
      → new.heap.used ≡ 0 → TakesFront old.rows new.rows n run → SpendsWords old new collections n

-- The word is one of the first n of a free run, or of the head of the free cell that covers what is left of it: its
-- header, and its length if it has one. No other word of the run is written where its front is taken.
pub record IsCutWord (run : Run) (n word : ℕ) : Type 0 where
  pub of_run : IsOfRun run word
  pub head : word ≤ run.at + n + length_offset

-- The word is spent: of eden, it is one of the n behind the used ones; of a page, one of the front of the run that was
-- cut, or of the head of the free cell that is left.
abbrev pub IsSpentWord : {old new : Stage} {collections : Collections} {n : ℕ} → SpendsWords old new collections n → ℕ
    → Type 0
IsSpentWord {old} {n = n} (SpendsWords.of_eden room used rows) word =
    (eden_start old.heap.space + old.heap.used ≤ word) × (word < eden_start old.heap.space + old.heap.used + n)
IsSpentWord {n = n} (SpendsWords.of_page run behind lacks empty stays takes) word = IsCutWord takes.takes.run n word
