-- How words of a free run of a page are granted: so that cells are made there.
use Rattle.std.specs.Prelude.{◌≡◌, ◌≢◌, ℕ, ◌+◌, ◌-◌, ◌≤◌, ◌⊎◌, ◌↔◌, List, Contains, slice_get, IsTrue}
use Rattle.tagged_word.specs.Cells.{is_free_kind}
use Rattle.page_space.specs.Extents.{eden_start}
use Rattle.nursery.specs.Young.{HasRoom, with_granted}
use Rattle.free_runs.specs.FreeRuns.{AreFree, TakesFront}
use Rattle.object_graph.specs.Graphs.{Graph}
use Rattle.write_barrier.specs.Seats.{RestStays, heap_words}
use Rattle.heap_model.specs.Types.{Cell, Run}
use Rattle.heap_model.specs.Heaps.{HasCell}
use Rattle.heap_model.specs.Needs.{capacity_at}
use Rattle.heap_model.specs.Reaching.{IsTight}
use Rattle.heap_model.specs.Slots.{IsPlace}
use Rattle.write_barrier.specs.MutatorState.{Mutator, MayStore, MainShows, heap_of}
use Rattle.write_barrier.specs.FreeCells.{with_free_cell, with_fillers}
use Rattle.scavenger.specs.Laws.{KeepsGraphs}

-- the words with fillers in the first n words of a run, and one free cell over what is left of it
abbrev pub granted_words : List ℕ → Run → ℕ → List ℕ
granted_words words run n = with_fillers (with_free_cell words (run.at + n) (run.words - n)) run.at n

-- The first n words of a free run are granted, of which there are some: they are fillers, a cell each, and in no free
-- run any more; what is left of the run is one free cell. Free runs had no word in common before. All other cells stand
-- as they stood, and all words from eden on stay. The same slots are recorded, and the same is known of a cycle, which
-- is not open, or waits.
pub record Grants (old new : Mutator) (n : ℕ) : Type 0 where
  pub run : Run
  pub some : 1 ≤ n
  pub quiet : MayStore old
  pub own : AreFree old.free
  pub takes : TakesFront old.free new.free n run
  pub young : new.young ≡ with_granted old.young run
  pub beside : RestStays old.seat new.seat
  pub paths : new.paths ≡ old.paths
  pub cycle : new.cycle ≡ old.cycle
  pub bound : new.recorded.bound ≡ old.recorded.bound
  pub recorded : (at : ℕ) → Contains new.recorded.slots at ↔ Contains old.recorded.slots at
  pub words : heap_words new.seat ≡ granted_words (heap_words old.seat) takes.takes.run n
  pub kept : (cell : Cell) (words : List ℕ) → HasCell (heap_of old) cell words → cell.at ≢ run.at
      → HasCell (heap_of new) cell words
  pub back : (cell : Cell) (words : List ℕ) → HasCell (heap_of new) cell words
      → (HasCell (heap_of old) cell words × (cell.at ≢ run.at)) ⊎ IsTrue (is_free_kind cell.layout.kind)
  pub outside : (at : ℕ) → eden_start old.seat.space ≤ at
      → slice_get (heap_words new.seat) at ≡ slice_get (heap_words old.seat) at

-- There is room for so many words then.
abbrev pub GrantsMakeRoom : Type 0
GrantsMakeRoom = (old new : Mutator) (n : ℕ) → Grants old new n → HasRoom new.young n

-- A heap in which words were granted shows what it showed, with the same rooms.
abbrev pub GrantsKeepGraphs : Type 0
GrantsKeepGraphs =
    (old new : Mutator) (graph : Graph) (n : ℕ) → MainShows old graph → Grants old new n → KeepsGraphs old new

-- Objects stand where they stood, with stores and tables of as many slots.
abbrev pub GrantsKeepStores : Type 0
GrantsKeepStores =
    (old new : Mutator) (graph : Graph) (n : ℕ) → MainShows old graph → Grants old new n → (number at : ℕ)
    → (IsPlace (heap_of old) number at ↔ IsPlace (heap_of new) number at)
    × (IsPlace (heap_of old) number at → capacity_at (heap_of new) at ≡ capacity_at (heap_of old) at)

-- Of young cells only those are kept that are reached, if it was so.
abbrev pub GrantsStayTight : Type 0
GrantsStayTight =
    (old new : Mutator) (graph : Graph) (n : ℕ) → MainShows old graph → Grants old new n → IsTight (heap_of old)
    → IsTight (heap_of new)
