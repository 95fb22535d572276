-- Where a spot of the world is in the table, and the lists with a word put there.
use Rattle.std.specs.Prelude.{◌≡◌, ◌≢◌, ℕ, ◌+◌, ◌<◌, ◌≤◌, true, List, Contains, slice_index, slice_set, IfSome}
use Rattle.tagged_word.specs.Readings.{reference_in}
use Rattle.page_space.specs.Extents.{board_words}
use Rattle.core_parts.specs.Boards.{IsBoardWord}
use Rattle.mark_laws.specs.Types.{Spot}
use Rattle.mark_world.specs.Steps.{white, black}
use Rattle.shared_table.specs.declared.overview.Counts.{Counts}
use Rattle.shared_table.specs.declared.overview.Overview.{Overview}

-- the number of a spot's word in the table
abbrev pub place_of : Counts → Spot → ℕ
place_of counts (Spot.Heap at) = at
place_of counts (Spot.Layout shape) = counts.old + shape
place_of counts (Spot.Colour at) = counts.old + (counts.shapes + at)
place_of counts (Spot.Board place) = counts.old + (counts.shapes + (counts.old + place))

-- the table has the spot
abbrev pub HasSpot : Counts → Spot → Type 0
HasSpot counts (Spot.Heap at) = at < counts.old
HasSpot counts (Spot.Layout shape) = shape < counts.shapes
HasSpot counts (Spot.Colour at) = at < counts.old
HasSpot counts (Spot.Board place) = place < board_words

-- the words of the pages with a word put at a spot
abbrev pub words_with : Spot → ℕ → List ℕ → List ℕ
words_with (Spot.Heap at) word words = slice_set words at word
words_with (Spot.Layout shape) word words = words
words_with (Spot.Colour at) word words = words
words_with (Spot.Board place) word words = words

-- the layout words
abbrev pub layouts_with : Spot → ℕ → List ℕ → List ℕ
layouts_with (Spot.Heap at) word layouts = layouts
layouts_with (Spot.Layout shape) word layouts = slice_set layouts shape word
layouts_with (Spot.Colour at) word layouts = layouts
layouts_with (Spot.Board place) word layouts = layouts

-- the colours
abbrev pub colours_with : Spot → ℕ → List ℕ → List ℕ
colours_with (Spot.Heap at) word colours = colours
colours_with (Spot.Layout shape) word colours = colours
colours_with (Spot.Colour at) word colours = slice_set colours at word
colours_with (Spot.Board place) word colours = colours

-- and the board
abbrev pub board_with : Spot → ℕ → List ℕ → List ℕ
board_with (Spot.Heap at) word board = board
board_with (Spot.Layout shape) word board = board
board_with (Spot.Colour at) word board = board
board_with (Spot.Board place) word board = slice_set board place word

-- what the main seat knows with a word put at a spot
abbrev pub with_spot : Overview → Spot → ℕ → Overview
with_spot main spot word = record main {
  words = words_with spot word main.words;
  layouts = layouts_with spot word main.layouts;
  colours = colours_with spot word main.colours;
  board = board_with spot word main.board;
}

-- A colour was found while helpers may mark: black where the mutator made the cell black, and only a born cell is not
-- white.
pub record FindsInMark (main : Overview) (at found : ℕ) : Type 0 where
  pub mine : Contains main.view.mine at → found ≡ black
  pub born : found ≢ white → Contains main.view.born at

-- A colour was found: one of three, the one that the main seat knows where it knows the colours, and as it is while
-- helpers may mark.
pub record FindsColour (main : Overview) (at found : ℕ) : Type 0 where
  pub three : found ≤ black
  pub home : main.home ≡ true → found ≡ slice_index main.colours at
  pub mark : FindsInMark main at found

-- A word of the board was found: 0 or a reference, and the one that the main seat knows where it knows the board. The
-- cell that it refers to, if any, is born.
pub record FindsBoard (main : Overview) (place found : ℕ) : Type 0 where
  pub word : IsBoardWord found
  pub home : main.home ≡ true → found ≡ slice_index main.board place
  pub born : IfSome (reference_in found) (λ at. Contains main.view.born at)

-- what the main seat knows of the word found at a spot
abbrev pub Finds : Overview → Spot → ℕ → Type 0
Finds main (Spot.Heap at) found = found ≡ slice_index main.words at
Finds main (Spot.Layout shape) found = found ≡ slice_index main.layouts shape
Finds main (Spot.Colour at) found = FindsColour main at found
Finds main (Spot.Board place) found = FindsBoard main place found
