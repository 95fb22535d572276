-- What single events make of a seat and its cycle.
use Rattle.std.proofs.Common.{◌≡◌, ◌≢◌, ◌≤◌, ◌<◌, ℕ, true, IsTrue, is_some, List, length, Option, None, slice_index}
use Rattle.std.proofs.Common.{slice_set}
use Rattle.std.proofs.Common.{refl, sym, ap, subst, ◌∙◌}
use Rattle.std.proofs.lemmas.List.{get_or-set_same}
use Rattle.page_space.specs.Extents.{eden_start}
use Rattle.core_parts.specs.Boards.{given_word, joined_by}
use Rattle.mark_laws.specs.Types.{Event, MainView}
use Rattle.mark_world.specs.Cycles.{Cycle, cycle_of}
use Rattle.mark_world.specs.declared.event.Event.TheVariants as event
use Rattle.mark_world.specs.Pages.{target}
use Rattle.mark_world.specs.Steps.{black, shaded, white}
use Rattle.mark_laws.proofs.Colours.{shaded_rises}
use Rattle.mark_laws.proofs.Coverage.{shaded_coloured}
use Rattle.shared_table.specs.declared.colour.Colour.{Colour}
use Rattle.shared_table.specs.Colours.{number_of}
use Rattle.shared_table.proofs.ColourNumbers.{black_most}
use Rattle.heap_table.specs.Overviews.{cycle_in, knowing, overview, stepped}
use Rattle.heap_table.specs.Seats.{Seat}
use Rattle.mark_barrier.specs.CycleSteps.{made_black, published, sure_of, sure_of_target}
use Rattle.mark_barrier.proofs.Darker.{darkens_at, darkens_itself, darkens_twice, shaded_black, taken_at, taken_twice}
use Rattle.mark_barrier.proofs.Darker.{untaken}
use Rattle.mark_barrier.specs.Paid.{Darkens, IsBlackened, IsColoured, MovesTo, StepsTo}

-- the mutator's view after a step, by the word found
abbrev stepped_view : Seat → Event → ℕ → MainView
stepped_view seat of found = (overview (stepped seat of found)).view

-- moves after moves
moves_on : (first second third : Seat) (words more : List ℕ) (one other : Cycle) → MovesTo first second words one
    → MovesTo second third more other → MovesTo first third more other
moves_on first second third words more one other a b = record {
  space = b.space ∙ a.space;
  phase = b.phase ∙ a.phase;
  table = b.table;
  cycle = b.cycle;
  id = b.id ∙ a.id;
  shared = b.shared;
  layouts = b.layouts ∙ a.layouts;
  home = b.home ∙ a.home;
  out = b.out ∙ a.out;
  lent = b.lent ∙ a.lent;
  darkens = λ home. darkens_twice (overview first).colours (overview second).colours (overview third).colours
      (a.darkens home) (b.darkens (a.home ∙ home));
}

-- steps after steps
pub steps_on : (first second third : Seat) (words more : List ℕ) (one other : Cycle) → StepsTo first second words one
    → StepsTo second third more other → StepsTo first third more other
steps_on first second third words more one other a b = record {
  moves = moves_on first second third words more one other a.moves b.moves;
  board = taken_twice (overview first).board (overview second).board (overview third).board a.board b.board;
}

-- steps after which own words and cycle are as before add nothing to steps before them
pub steps_after : (first second third : Seat) (words : List ℕ) (cycle : Cycle) → StepsTo first second words cycle
    → StepsTo second third second.table (cycle_in second) → StepsTo first third words cycle
steps_after first second third words cycle a b =
    subst (λ (ws : List ℕ). StepsTo first third ws cycle) a.moves.table
    (subst (λ (c : Cycle). StepsTo first third second.table c) a.moves.cycle
    (steps_on first second third words second.table cycle (cycle_in second) a b))

-- the view of the cycle, the colours and the board are others, and nothing else
pub view_moves : (seat : Seat) (view : MainView) (colours board : List ℕ)
    → ((overview seat).home ≡ true → Darkens (overview seat).colours colours)
    → MovesTo seat (knowing seat seat.table (record (overview seat) {
      view = view;
      colours = colours;
      board = board;
    })) seat.table (cycle_of view (overview seat).reached (overview seat).made (overview seat).dead)
view_moves seat view colours board darkens = record {
  space = refl;
  phase = refl;
  table = refl;
  cycle = refl;
  id = refl;
  shared = refl;
  layouts = refl;
  home = refl;
  out = refl;
  lent = refl;
  darkens = darkens;
}

-- nothing changes
pub same_steps : (seat : Seat) → IsTrue (is_some seat.shared) → StepsTo seat seat seat.table (cycle_in seat)
same_steps seat shared = record {
  moves = record {
    space = refl;
    phase = refl;
    table = refl;
    cycle = refl;
    id = refl;
    shared = shared;
    layouts = refl;
    home = refl;
    out = refl;
    lent = refl;
    darkens = λ home. darkens_itself (overview seat).colours;
  };
  board = untaken (overview seat).board;
}

module _ (seat : Seat) (at : ℕ) where
  abbrev colours : List ℕ
  colours = (overview seat).colours

  abbrev board : List ℕ
  board = (overview seat).board

  -- the colour that was found is that of the cell, where colours are at home
  abbrev pub IsFound : ℕ → Type 0
  IsFound found = (overview seat).home ≡ true → found ≡ slice_index colours at

  -- a cell is shaded
  pub shade_steps : (found : ℕ) → IsFound found → StepsTo seat (stepped seat (event.ShadeMain at) found) seat.table
      (sure_of (cycle_in seat) at)
  shade_steps found is = record {
    moves = view_moves seat (stepped_view seat (event.ShadeMain at) found) (slice_set colours at (shaded found)) board
        (λ home. darkens_at colours at (shaded found)
        (subst (λ (c : ℕ). c ≤ shaded found) (is home) (shaded_rises found))
        (subst (λ (c : ℕ). c ≡ black → shaded found ≡ black) (is home) (shaded_black found)));
    board = untaken board;
  }

  -- it is not white then
  pub shade_colours : (found : ℕ) → IsFound found → at < length colours
      → IsColoured (stepped seat (event.ShadeMain at) found) at
  shade_colours found is within home =
      subst (λ (c : ℕ). slice_index (slice_set colours at (shaded c)) at ≢ white) (sym (is home))
      (shaded_coloured colours at within)

  -- a cell is made black, in whatever colour it was, and the view becomes another
  black_moves : (view : MainView) (colour : Colour) → IsFound (number_of colour)
      → MovesTo seat (knowing seat seat.table (record (overview seat) {
        view = view;
        colours = slice_set colours at black;
        board = board;
      })) seat.table (cycle_of view (overview seat).reached (overview seat).made (overview seat).dead)
  black_moves view colour is = view_moves seat view (slice_set colours at black) board (λ home.
      darkens_at colours at black (subst (λ (c : ℕ). c ≤ black) (is home) (black_most colour)) (λ was. refl))

  -- so a born one
  pub black_steps : (colour : Colour) → IsFound (number_of colour)
      → StepsTo seat (stepped seat (event.Blacken at) (number_of colour)) seat.table
      (made_black (overview seat).old (overview seat).words (overview seat).layouts (cycle_in seat) at)
  black_steps colour is = record {
    moves = black_moves (stepped_view seat (event.Blacken at) (number_of colour)) colour is;
    board = untaken board;
  }

  -- and one that was just made, which is published
  pub publish_steps : (colour : Colour) → IsFound (number_of colour)
      → StepsTo seat (stepped seat (event.NewBlack at) black) seat.table (published (cycle_in seat) at)
  publish_steps colour is = record {
    moves = black_moves (stepped_view seat (event.NewBlack at) black) colour is;
    board = untaken board;
  }

  -- each is black then
  pub black_there : (view : MainView) → at < length colours
      → IsBlackened (knowing seat seat.table (record (overview seat) {
        view = view;
        colours = slice_set colours at black;
        board = board;
      })) at
  black_there view within home = get_or-set_same colours at black 0 within

-- nothing happens where a word has no target
pub none_shaded : (seat : Seat) (word : ℕ) → IsTrue (is_some seat.shared)
    → target (eden_start seat.space) word ≡ None
    → StepsTo seat seat seat.table (sure_of_target (eden_start seat.space) (cycle_in seat) word)
none_shaded seat word shared none =
    subst (StepsTo seat seat seat.table)
    (sym (ap (λ (to : Option ℕ). record (cycle_in seat) { sure = joined_by (cycle_in seat).sure to }) none))
    (same_steps seat shared)

-- a place of the board is taken from
pub take_steps : (seat : Seat) (place found : ℕ)
    → StepsTo seat (stepped seat (event.TakeMain place) found) seat.table (cycle_in seat)
take_steps seat place found = record {
  moves = view_moves seat (stepped_view seat (event.TakeMain place) found) (overview seat).colours
      (slice_set (overview seat).board place 0) (λ home. darkens_itself (overview seat).colours);
  board = taken_at (overview seat).board place;
}

-- a cell is given to one
pub give_moves : (seat : Seat) (place at found : ℕ)
    → MovesTo seat (stepped seat (event.GiveMain place at) found) seat.table (cycle_in seat)
give_moves seat place at found =
    view_moves seat (stepped_view seat (event.GiveMain place at) found) (overview seat).colours
    (slice_set (overview seat).board place (given_word found at)) (λ home. darkens_itself (overview seat).colours)
