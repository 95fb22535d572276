-- The word at a spot of the world, in the table.
use Rattle.std.proofs.Common.{◌≡◌, ◌≤◌, ℕ, true, List, length, set, slice_index, length-set, refl, ap}
use Rattle.std.proofs.Common.{Option, Some, None, IfSome, Contains, arith}
use Rattle.std.proofs.lemmas.List.Elements.{All-get_or, All-contains}
use Rattle.tagged_word.specs.Readings.{reference_in}
use Rattle.core_parts.specs.Boards.{IsBoardWord}
use Rattle.mark_laws.specs.Types.{MainView, Spot}
use Rattle.mark_laws.specs.Runs.{IsSoundAndBorn}
use Rattle.mark_world.specs.AfterEvents.{IsMarked, word_at, with_word}
use Rattle.mark_world.specs.Coverage.{colour_of}
use Rattle.mark_world.specs.Steps.{black}
use Rattle.shared_table.specs.declared.overview.Counts.{Counts}
use Rattle.shared_table.specs.declared.overview.Overview.{Overview}
use Rattle.shared_table.specs.declared.overview.View.{View}
use Rattle.shared_table.specs.Worlds.{world}
use Rattle.shared_table.specs.Keeping.{FitsCounts, joined_words}
use Rattle.shared_table.specs.Spots.{place_of, HasSpot, words_with, layouts_with, colours_with, board_with, with_spot}
use Rattle.shared_table.specs.Spots.{Finds, FindsInMark}
use Rattle.shared_table.proofs.Joined.{word_get, word_set, layout_get, layout_set, colour_get, colour_set, board_get}
use Rattle.shared_table.proofs.Joined.{board_set}

-- each list keeps its length
pub length-words_with : (spot : Spot) (x : ℕ) (words : List ℕ) → length (words_with spot x words) ≡ length words
length-words_with (Spot.Heap at) x words = length-set words at x
length-words_with (Spot.Layout shape) x words = refl
length-words_with (Spot.Colour at) x words = refl
length-words_with (Spot.Board place) x words = refl

-- so do the layout words
pub length-layouts_with : (spot : Spot) (x : ℕ) (layouts : List ℕ)
    → length (layouts_with spot x layouts) ≡ length layouts
length-layouts_with (Spot.Heap at) x layouts = refl
length-layouts_with (Spot.Layout shape) x layouts = length-set layouts shape x
length-layouts_with (Spot.Colour at) x layouts = refl
length-layouts_with (Spot.Board place) x layouts = refl

-- the colours
pub length-colours_with : (spot : Spot) (x : ℕ) (colours : List ℕ)
    → length (colours_with spot x colours) ≡ length colours
length-colours_with (Spot.Heap at) x colours = refl
length-colours_with (Spot.Layout shape) x colours = refl
length-colours_with (Spot.Colour at) x colours = length-set colours at x
length-colours_with (Spot.Board place) x colours = refl

-- and the board
pub length-board_with : (spot : Spot) (x : ℕ) (board : List ℕ) → length (board_with spot x board) ≡ length board
length-board_with (Spot.Heap at) x board = refl
length-board_with (Spot.Layout shape) x board = refl
length-board_with (Spot.Colour at) x board = refl
length-board_with (Spot.Board place) x board = length-set board place x

-- a word that is put at a spot's place of the table is put at the spot
pub spot_put : (counts : Counts) (old : ℕ) (words layouts colours board : List ℕ) (spot : Spot) (x : ℕ)
    → FitsCounts counts old words layouts colours board → HasSpot counts spot
    → set (joined_words words layouts colours board) (place_of counts spot) x
    ≡ joined_words (words_with spot x words) (layouts_with spot x layouts) (colours_with spot x colours)
    (board_with spot x board)
spot_put counts old words layouts colours board (Spot.Heap at) x fits inside =
    word_set words layouts colours board counts.old at fits.words x inside
spot_put counts old words layouts colours board (Spot.Layout shape) x fits inside =
    layout_set words layouts colours board counts.old shape fits.words x (omega (arith, inside, fits.layouts))
spot_put counts old words layouts colours board (Spot.Colour at) x fits inside =
    colour_set words layouts colours board counts.old at fits.words counts.shapes fits.layouts x
    (omega (arith, inside, fits.colours))
spot_put counts old words layouts colours board (Spot.Board place) x fits inside =
    board_set words layouts colours board counts.old place fits.words counts.shapes fits.layouts x fits.colours

-- and the word there is that at the spot
pub spot_found : (counts : Counts) (main : Overview) (others : List View) (colours board : List ℕ) (spot : Spot)
    → FitsCounts counts main.old main.words main.layouts colours board → HasSpot counts spot
    → slice_index (joined_words main.words main.layouts colours board) (place_of counts spot)
    ≡ word_at (world main others colours board) (Some spot)
spot_found counts main others colours board (Spot.Heap at) fits inside =
    word_get main.words main.layouts colours board counts.old at fits.words inside
spot_found counts main others colours board (Spot.Layout shape) fits inside =
    layout_get main.words main.layouts colours board counts.old shape fits.words (omega (arith, inside, fits.layouts))
spot_found counts main others colours board (Spot.Colour at) fits inside =
    colour_get main.words main.layouts colours board counts.old at fits.words counts.shapes fits.layouts
    (omega (arith, inside, fits.colours))
spot_found counts main others colours board (Spot.Board place) fits inside =
    board_get main.words main.layouts colours board counts.old place fits.words counts.shapes fits.layouts fits.colours

-- the world with a word put at a spot is that of the lists with it
pub world_put : (main : Overview) (others : List View) (colours board : List ℕ) (view : MainView) (spot : Spot) (x : ℕ)
    → record (with_word (world main others colours board) (Some spot) x) { main = view }
    ≡ world (record (with_spot main spot x) { view = view }) others (colours_with spot x colours)
    (board_with spot x board)
world_put main others colours board view (Spot.Heap at) x = refl
world_put main others colours board view (Spot.Layout shape) x = refl
world_put main others colours board view (Spot.Colour at) x = refl
world_put main others colours board view (Spot.Board place) x = refl

-- what the main seat knows of the colour of a cell in a whole world
pub mark_finds : (main : Overview) (others : List View) (colours board : List ℕ) (at : ℕ)
    → IsSoundAndBorn (world main others colours board) → FindsInMark main at (slice_index colours at)
mark_finds main others colours board at whole = record {
  mine = λ own. All-contains (λ (one : ℕ). colour_of (world main others colours board) one ≡ black) main.view.mine at
      whole.0.cells.mine_black own;
  born = λ some. whole.1.reached at (record { start = whole.0.lists.coloured at some; coloured = some });
}

-- a published cell that is not white is born in a whole world
marked_born : (main : Overview) (others : List View) (colours board : List ℕ)
    → IsSoundAndBorn (world main others colours board) → (some : Option ℕ)
    → IfSome some (IsMarked (world main others colours board)) → IfSome some (λ at. Contains main.view.born at)
marked_born main others colours board whole None marked = tt
marked_born main others colours board whole (Some at) marked = whole.1.reached at marked

-- what the main seat knows of the word at a spot of a whole world
pub spot_finds : (counts : Counts) (main : Overview) (others : List View) (colours board : List ℕ) (spot : Spot)
    → FitsCounts counts main.old main.words main.layouts colours board → HasSpot counts spot
    → (main.home ≡ true → (colours ≡ main.colours) × (board ≡ main.board))
    → IsSoundAndBorn (world main others colours board)
    → Finds main spot (word_at (world main others colours board) (Some spot))
spot_finds counts main others colours board (Spot.Heap at) fits inside home whole = refl
spot_finds counts main others colours board (Spot.Layout shape) fits inside home whole = refl
spot_finds counts main others colours board (Spot.Board place) fits inside home whole = record {
  word = All-get_or IsBoardWord board place 0 (omega (arith, inside, fits.board)) whole.0.sizes.board.each;
  home = λ h. ap (λ (all : List ℕ). slice_index all place) (home h).1;
  born = marked_born main others colours board whole (reference_in (slice_index board place))
      (All-get_or (λ (word : ℕ). IfSome (reference_in word) (IsMarked (world main others colours board))) board place 0
      (omega (arith, inside, fits.board)) whole.0.lists.board);
}
spot_finds counts main others colours board (Spot.Colour at) fits inside home whole = record {
  three = All-get_or (λ (colour : ℕ). colour ≤ black) colours at 0 (omega (arith, inside, fits.colours)) fits.three;
  home = λ h. ap (λ (all : List ℕ). slice_index all at) (home h).0;
  mark = mark_finds main others colours board at whole;
}
