-- The layout words of a heap, which the mutator reads, and those of the shared table, which helpers read.
use Rattle.std.specs.Prelude.{◌≡◌, ℕ, ◌+◌, ◌<◌, ◌≤◌, ◌⊎◌, List, ◌++◌, length, replicate, IfSome, Some, slice_get}
use Rattle.tagged_word.specs.Shapes.{shapes_most}
use Rattle.page_space.specs.Extents.{layouts_start, marks_start}
use Rattle.heap_model.specs.Types.{Path}
use Rattle.shape_tree.specs.ShapeLayouts.{layout_word}
use Rattle.core_parts.specs.Boards.{empty_board}
use Rattle.mark_world.specs.Steps.{white}
use Rattle.heap_table.specs.Overviews.{cycle_in, overview}
use Rattle.heap_table.specs.Seats.{Seat as TableSeat, Beside}
use Rattle.write_barrier.specs.Seats.{RestStays, heap_words, told_of}
use Rattle.write_barrier.specs.MutatorState.{Mutator}

-- the words from an address on are the layout words of the shapes, and else 0
abbrev pub AreLayouts : List ℕ → ℕ → List Path → Type 0
AreLayouts words from paths =
    (shape : ℕ) → shape < shapes_most → slice_get words (from + shape) ≡ Some (layout_word paths shape)

-- no cell of so many words has a colour, and none is on the board
pub record IsUnmarked (many : ℕ) (beside : Beside) : Type 0 where
  pub colours : beside.colours ≡ replicate many white
  pub board : beside.board ≡ empty_board

-- the layout words of the heap are those of the shapes, and else 0
abbrev pub HasLayouts : Mutator → Type 0
HasLayouts main = AreLayouts (heap_words main.seat) (layouts_start main.seat.space) main.paths

-- of the words from an address on those of the shapes below one are their layout words, and those from it on are 0
pub record AreLayoutsBelow (words : List ℕ) (from : ℕ) (paths : List Path) (count : ℕ) : Type 0 where
  pub known : (shape : ℕ) → shape < count → shape < shapes_most
      → slice_get words (from + shape) ≡ Some (layout_word paths shape)
  pub rest : (shape : ℕ) → count ≤ shape → shape < shapes_most → slice_get words (from + shape) ≡ Some 0

-- the layout words that helpers read, where there is a shared table, are those of the shapes, and else 0
abbrev pub ReadLayouts : TableSeat → List Path → Type 0
ReadLayouts seat paths = IfSome seat.shared (λ beside. AreLayouts beside.layouts 0 paths)

-- both the own layout words and those that helpers read are those of the shapes, and else 0
pub record HasBoth (seat : TableSeat) (paths : List Path) : Type 0 where
  pub own : AreLayouts seat.table (layouts_start seat.space) paths
  pub read : ReadLayouts seat paths

-- both are so for the shapes below one, and 0 from it on
pub record HasBothBelow (seat : TableSeat) (paths : List Path) (count : ℕ) : Type 0 where
  pub own : AreLayoutsBelow seat.table (layouts_start seat.space) paths count
  pub read : IfSome seat.shared (λ beside. AreLayoutsBelow beside.layouts 0 paths count)

-- both are those of so many paths, behind which others were added
pub record HasFirst (seat : TableSeat) (paths : List Path) (count : ℕ) : Type 0 where
  pub first : List Path
  pub more : List Path
  pub all : paths ≡ first ++ more
  pub counted : length first ≡ count
  pub both : HasBoth seat first

-- no word has changed but layout words, and what is known of the cycle has not, nor the mutator's view of it, nor
-- colours and board
pub record PutsLayouts (old new : TableSeat) : Type 0 where
  pub rest : RestStays (told_of old) (told_of new)
  pub cycle : cycle_in new ≡ cycle_in old
  pub view : (overview new).view ≡ (overview old).view
  pub colours : (overview new).colours ≡ (overview old).colours
  pub marks : (many : ℕ) → IfSome old.shared (IsUnmarked many) → IfSome new.shared (IsUnmarked many)
  pub beside : (a : ℕ) → (a < layouts_start old.space) ⊎ (marks_start old.space ≤ a)
      → slice_get new.table a ≡ slice_get old.table a
