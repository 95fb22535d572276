-- What each step on a word of the table tells its seat.
use Rattle.std.specs.Prelude.{◌≡◌, ◌≤◌, ℕ, ◌+◌, ◌-◌, true, List, [], length, slice_index, Option, Some, None}
use mathlib.Core.Option as core
use Rattle.atomic_table.specs.Table.{Me, Step}
use Rattle.tagged_word.specs.Readings.{reference_in}
use Rattle.mark_laws.specs.Types.{Event, Spot}
use Rattle.mark_laws.specs.PageWords.{MainSound}
use Rattle.mark_laws.specs.Runs.{IsSoundAndBorn}
use Rattle.mark_world.specs.declared.event.Event.TheVariants as event
use Rattle.mark_world.specs.BetweenCommands.{Fresh}
use Rattle.mark_world.specs.Cycles.{Cycle}
use Rattle.mark_world.specs.Soundness.{AreIn}
use Rattle.mark_world.specs.Steps.{becomes, main_spot, black}
use Rattle.shared_table.specs.declared.overview.Overview.{Overview}
use Rattle.shared_table.specs.declared.overview.View.{View}
use Rattle.shared_table.specs.declared.overview.View.TheVariants.{Main}
use Rattle.shared_table.specs.declared.phase.Phase.TheVariants.{Mark}
use Rattle.shared_table.specs.Owned.{Own}
use Rattle.shared_table.specs.Worlds.{overview_of, world_at_home}
use Rattle.shared_table.specs.Spots.{with_spot, Finds, FindsInMark}
use Rattle.shared_table.specs.Changes.{IsContinued, told, opened, resumed, paused, closed, home_with}

-- what the main seat knows of the word found by an event
abbrev pub FindsBy : Overview → Option Spot → ℕ → Type 0
FindsBy main None found = Unit {0}
FindsBy main (Some spot) found = Finds main spot found

-- no own words, and no regions
abbrev pub no_own : Own
no_own = record { space = record { sizes = record { pages = 0; young = 0; helpers = 0 }; variables = 0 }; words = [] }

-- the own words that a step announces
abbrev pub said_own : core.Option Own → Own
said_own core.none = no_own
said_own (core.some own) = own

-- the cell that a word refers to; 0 where there is none
abbrev pub cell_referred : Option ℕ → ℕ
cell_referred None = 0
cell_referred (Some at) = at

module _ {S : Type 0} where
  -- the cell whose colour a step touches, and the place of the board
  abbrev pub coloured_cell : Overview → Step S → ℕ
  coloured_cell main st = st.word - (main.old + length main.layouts)

  abbrev pub board_at : Overview → Step S → ℕ
  board_at main st = st.word - (main.old + (length main.layouts + main.old))

  -- the event that a step is, by what the main seat knows
  abbrev pub slot_event : Overview → Step S → Event
  slot_event main st = event.StoreSlot st.word st.first

  abbrev pub layout_event : Overview → Step S → Event
  layout_event main st = event.AddLayout (st.word - main.old) st.first

  abbrev pub shade_event : Overview → Step S → Event
  shade_event main st = event.ShadeMain (coloured_cell main st)

  abbrev pub blacken_event : Overview → Step S → Event
  blacken_event main st = event.Blacken (coloured_cell main st)

  abbrev pub new_event : Overview → Step S → Event
  new_event main st = event.NewBlack (coloured_cell main st)

  abbrev pub give_event : Overview → Step S → Event
  give_event main st = event.GiveMain (board_at main st) (cell_referred (reference_in st.second))

  abbrev pub take_event : Overview → Step S → Event
  take_event main st = event.TakeMain (board_at main st)

  -- a step is an event
  abbrev pub tells_event : (Overview → Step S → Event) → Step S → Me S View → ℕ → Me S View → Type 0
  tells_event of st me found now =
      now ≡ (Main (told (overview_of me.0) (of (overview_of me.0) st) found), me.1)

  -- and the word found is as the main seat knows
  abbrev pub tells_found : (Overview → Step S → Event) → Step S → Me S View → ℕ → Me S View → Type 0
  tells_found of st me found now = tells_event of st me found now
      × FindsBy (overview_of me.0) (main_spot (of (overview_of me.0) st)) found

  -- a load is the event where it finds the word that the event leaves; else the main seat learns nothing
  abbrev pub tells_left : (Overview → Step S → Event) → Step S → Me S View → ℕ → Me S View → Type 0
  tells_left of st me found now =
      (becomes (of (overview_of me.0) st) found ≡ found → tells_found of st me found now)
      × ((becomes (of (overview_of me.0) st) found ≡ found → ⊥) → now ≡ me)

  -- a word is put at a spot
  abbrev pub tells_put : (Overview → Step S → Spot) → Step S → Me S View → ℕ → Me S View → Type 0
  tells_put spot st me found now =
      now ≡ (Main (with_spot (overview_of me.0) (spot (overview_of me.0) st) st.first), me.1)

  -- the spot of a step
  abbrev pub heap_spot : Overview → Step S → Spot
  heap_spot main st = Spot.Heap st.word

  abbrev pub shape_spot : Overview → Step S → Spot
  shape_spot main st = Spot.Layout (st.word - main.old)

  abbrev pub colour_spot : Overview → Step S → Spot
  colour_spot main st = Spot.Colour (coloured_cell main st)

  -- A colour is read: one of three, and the one that the main seat knows where it knows the colours. While helpers may
  -- mark, it is black where the mutator made the cell black, and only a born cell is not white.
  abbrev pub tells_colour : Step S → Me S View → ℕ → Me S View → Type 0
  tells_colour st me found now = (now ≡ me) × (found ≤ black)
      × ((overview_of me.0).home ≡ true
      → found ≡ slice_index (overview_of me.0).colours (coloured_cell (overview_of me.0) st))
      × ((overview_of me.0).phase ≡ Mark → FindsInMark (overview_of me.0) (coloured_cell (overview_of me.0) st) found)

  -- the mutator's view is as it is in a sound world, and what waits with it is born
  abbrev pub tells_sound : Step S → Me S View → ℕ → Me S View → Type 0
  tells_sound st me found now = (now ≡ me) × MainSound (overview_of me.0).old (overview_of me.0).words
      (overview_of me.0).layouts (overview_of me.0).view
      × AreIn (overview_of me.0).view.born (overview_of me.0).view.grey

  -- the world with no seat out is sound, and marking reaches born cells alone
  abbrev pub tells_whole : Step S → Me S View → ℕ → Me S View → Type 0
  tells_whole st me found now = (now ≡ me) × IsSoundAndBorn (world_at_home (overview_of me.0))

  -- a cycle waits, and was whole
  abbrev pub tells_paused : Step S → Me S View → ℕ → Me S View → Type 0
  tells_paused st me found now = (now ≡ (Main (paused (overview_of me.0)), me.1))
      × IsSoundAndBorn (world_at_home (overview_of me.0))

  -- a cycle is closed, and was whole
  abbrev pub tells_closed : Step S → Me S View → ℕ → Me S View → Type 0
  tells_closed st me found now = (now ≡ (Main (closed (overview_of me.0)), me.1))
      × IsSoundAndBorn (world_at_home (overview_of me.0))

  -- colours and board are known again
  abbrev pub tells_home : Step S → Me S View → ℕ → Me S View → Type 0
  tells_home st me found now = (colours : List ℕ) × (board : List ℕ) × (length colours ≡ (overview_of me.0).old)
      × (now ≡ (Main (home_with (overview_of me.0) colours board), me.1))

-- A cycle is opened, one that the caller's predicate allows for the announced own words, the number of objects made,
-- and what the main seat knew. The world with no seat out is fresh.
abbrev pub tells_opened : (Own → ℕ → Overview → Cycle → Type 0) → Step Own → Me Own View → ℕ → Me Own View → Type 0
tells_opened fits st me found now = (cycle : Cycle) × fits (said_own st.said) st.first (overview_of me.0) cycle
    × Fresh (world_at_home (opened (overview_of me.0) cycle))
    × (now ≡ (Main (opened (overview_of me.0) cycle), me.1))

-- A cycle goes on, as one that the caller's predicate allows. Its lists are those of the cycle that waited, with
-- promoted cells joined. The world with no seat out is sound.
abbrev pub tells_resumed : (Own → ℕ → Overview → Cycle → Type 0) → Step Own → Me Own View → ℕ → Me Own View → Type 0
tells_resumed fits st me found now = (cycle : Cycle) × fits (said_own st.said) st.first (overview_of me.0) cycle
    × IsContinued (overview_of me.0) cycle × IsSoundAndBorn (world_at_home (resumed (overview_of me.0) cycle))
    × (now ≡ (Main (resumed (overview_of me.0) cycle), me.1))
