-- How a heap is opened: what has changed on the way, and what stands in the words at the end.
use Rattle.std.specs.Prelude.{◌≡◌, ℕ, ◌+◌, ◌<◌, ◌≤◌, ◌⊎◌, List, length, Some, slice_get, Option, Result, Ok, Err}
use Rattle.atomic_table.specs.Seated.{TableId}
use Rattle.page_space.specs.Sizes.{AreWithin}
use Rattle.free_runs.specs.FreeRuns.{whole_rows}
use Rattle.page_space.specs.Extents.{Space, segments_start, roots_start, layouts_start, marks_start}
use Rattle.nursery.specs.Young.{new_young}
use Rattle.object_graph.specs.Paths.{empty_paths}
use Rattle.heap_model.specs.Types.{Path, ShapesFull}
use Rattle.shape_tree.specs.Shapes.{Leads, LacksPathsFor}
use Rattle.handle_roots.specs.declared.held.Held.TheVariants.{Unbound}
use Rattle.handle_roots.specs.Roots.{root_at, first_word}
use Rattle.heap_table.specs.Overviews.{unopened}
use Rattle.write_barrier.specs.Seats.{RestStays, fresh, heap_words}
use Rattle.heap_model.specs.Wholeness.{HasSizes}
use Rattle.write_barrier.specs.MutatorState.{Mutator, IsOneGap, heap_of, none_recorded}
use Rattle.write_barrier.specs.Layouts.{HasLayouts}

-- of all that the mutator has, only heap words from an address to another have changed
pub record ChangesWithin (old new : Mutator) (from to : ℕ) : Type 0 where
  pub seat : RestStays old.seat new.seat
  pub paths : new.paths ≡ old.paths
  pub young : new.young ≡ old.young
  pub free : new.free ≡ old.free
  pub recorded : new.recorded ≡ old.recorded
  pub cycle : new.cycle ≡ old.cycle
  pub count : length (heap_words new.seat) ≡ length (heap_words old.seat)
  pub beside : (a : ℕ) → (a < from) ⊎ (to ≤ a) → slice_get (heap_words new.seat) a ≡ slice_get (heap_words old.seat) a

-- The path was there, or it and its missing prefixes were added behind the others, and their layout words were put; its
-- shape is this one. Nothing else has changed.
pub record LaysPath (old new : Mutator) (path : Path) (shape : ℕ) : Type 0 where
  pub leads : Leads old.paths new.paths path shape
  pub sized : HasSizes (heap_of new)
  pub changes : ChangesWithin (record old { paths = new.paths }) new (layouts_start old.seat.space)
      (marks_start old.seat.space)

-- it was; or there may not be as many paths, and nothing has changed
abbrev pub LaysPathOr : Mutator → Mutator → Path → Result ℕ ShapesFull → Type 0
LaysPathOr old new path (Ok shape) = LaysPath old new path shape
LaysPathOr old new path (Err full) = LacksPathsFor old.paths new.paths path full × (new ≡ old)

-- the words from an address to another are 0
abbrev pub AreZero : List ℕ → ℕ → ℕ → Type 0
AreZero words from to = (a : ℕ) → from ≤ a → a < to → slice_get words a ≡ Some 0

-- each variable is bound to nothing, by its first root word
abbrev pub AreUnbound : Mutator → Type 0
AreUnbound main = (variable : ℕ) → variable < main.seat.space.variables
    → slice_get (heap_words main.seat) (root_at main.seat.space variable) ≡ Some (first_word Unbound)

-- each page is one gap
abbrev pub AreGaps : Mutator → Type 0
AreGaps main = (page : ℕ) → page < main.seat.space.sizes.pages → IsOneGap (heap_words main.seat) page

-- nothing is written, nothing is used, each page is a free run, nothing is recorded, there are the nine empty paths,
-- and no cycle was ever open
abbrev pub blank : Space → Option TableId → Mutator
blank space shared = record {
  seat = fresh space shared;
  paths = empty_paths;
  young = new_young space;
  free = whole_rows space.sizes.pages;
  recorded = none_recorded space;
  cycle = unopened;
}

-- the same, but for the layout words, which are there
pub record IsLaid (main : Mutator) (space : Space) : Type 0 where
  pub changes : ChangesWithin (blank space main.seat.shared) main (layouts_start space) (marks_start space)
  pub layouts : HasLayouts main

-- Nothing is used, each page is one gap, segments hold 0, each variable is bound to nothing, and the layout words are
-- there.
pub record IsStarted (main : Mutator) : Type 0 where
  pub beside : RestStays (fresh main.seat.space main.seat.shared) main.seat
  pub paths : main.paths ≡ empty_paths
  pub young : main.young ≡ new_young main.seat.space
  pub free : main.free ≡ whole_rows main.seat.space.sizes.pages
  pub recorded : main.recorded ≡ none_recorded main.seat.space
  pub cycle : main.cycle ≡ unopened
  pub within : AreWithin main.seat.space.sizes main.seat.space.variables
  pub count : length (heap_words main.seat) ≡ marks_start main.seat.space
  pub gaps : AreGaps main
  pub segments : AreZero (heap_words main.seat) (segments_start main.seat.space) (roots_start main.seat.space)
  pub unbound : AreUnbound main
  pub seconds : (variable : ℕ) → variable < main.seat.space.variables
      → slice_get (heap_words main.seat) (root_at main.seat.space variable + 1) ≡ Some 0
  pub layouts : HasLayouts main
