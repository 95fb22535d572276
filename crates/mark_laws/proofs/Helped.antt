-- A step of a helper leaves words, layouts and what the mutator knows.
use Rattle.std.proofs.Common.{ℕ, ◌+◌, ◌≡◌, List, slice_set, Option, Some, None, refl, ap}
use Rattle.std.proofs.lemmas.List.{set-get_or}
use Rattle.std.specs.Option.{option_and_then, option_map}
use Rattle.tagged_word.specs.Cells.{length_offset}
use Rattle.mark_laws.specs.Types.{Event, Snap, Spot, HelperView, World}
use Rattle.mark_world.specs.declared.event.Event.TheVariants as event
use Rattle.mark_world.specs.Steps.{helper_learns, helper_spot, layout_spot, settled}
use Rattle.mark_world.specs.AfterEvents.{after_helper, with_word, word_at}
use Rattle.mark_laws.proofs.Listing.{IsLoad, loads_heap, loads_layout}

-- the world with other colours, another board and other views
abbrev pub helped : World → List ℕ → List ℕ → List HelperView → World
helped world colours board helpers = record world { colours = colours; board = board; helpers = helpers }

-- a world is an earlier one with these views, and maybe other colours and another board
pub record IsHelped (world later : World) (helpers : List HelperView) : Type 0 where
  pub colours : List ℕ
  pub board : List ℕ
  pub is : later ≡ helped world colours board helpers

-- a word that is put back leaves the world
put_back : (world : World) (spot : Option Spot) → IsLoad spot → with_word world spot (word_at world spot) ≡ world
put_back world None is = refl
put_back world (Some (Spot.Heap at)) is = ap (λ (ws : List ℕ). record world { words = ws })
    (set-get_or world.words at 0)
put_back world (Some (Spot.Layout at)) is = ap (λ (ls : List ℕ). record world { layouts = ls })
    (set-get_or world.layouts at 0)
put_back world (Some (Spot.Colour at)) is = absurd is
put_back world (Some (Spot.Board place)) is = absurd is

-- a load leaves all but the views
load_helped : (world : World) (spot : Option Spot) (helpers : List HelperView) → IsLoad spot
    → IsHelped world (record (with_word world spot (word_at world spot)) { helpers = helpers }) helpers
load_helped world spot helpers load = record {
  colours = world.colours;
  board = world.board;
  is = ap (λ (w : World). record w { helpers = helpers }) (put_back world spot load);
}

-- the end of a snap leaves all but colours and views
settle_helped : (world : World) (snap : Option Snap) (word : ℕ) (helpers : List HelperView)
    → IsHelped world (record (with_word world (option_map (λ s. Spot.Colour s.cell) snap) word) { helpers = helpers })
    helpers
settle_helped world None word helpers = record { colours = world.colours; board = world.board; is = refl }
settle_helped world (Some snap) word helpers =
    record { colours = slice_set world.colours snap.cell word; board = world.board; is = refl }

-- the views after a step of a helper
abbrev pub views_after : World → ℕ → HelperView → Event → List HelperView
views_after world number view of =
    slice_set world.helpers number (helper_learns world.old view of (word_at world (helper_spot view of)))

-- a step of a helper leaves all but colours, the board and its view
pub helper_helped : (world : World) (number : ℕ) (view : HelperView) (of : Event)
    → IsHelped world (after_helper world number of (Some view)) (views_after world number view of)
helper_helped world number view (event.LoadHeader n cell) =
    load_helped world (Some (Spot.Heap cell)) (views_after world number view (event.LoadHeader n cell)) tt
helper_helped world number view (event.LoadLayout n) =
    load_helped world (option_and_then layout_spot view.snap) (views_after world number view (event.LoadLayout n))
    (loads_layout view.snap)
helper_helped world number view (event.LoadLength n) =
    load_helped world (option_map (λ (s : Snap). Spot.Heap (s.cell + length_offset)) view.snap)
    (views_after world number view (event.LoadLength n)) (loads_heap length_offset view.snap)
helper_helped world number view (event.LoadSlot n offset) =
    load_helped world (option_map (λ (s : Snap). Spot.Heap (s.cell + offset)) view.snap)
    (views_after world number view (event.LoadSlot n offset)) (loads_heap offset view.snap)
helper_helped world number view (event.Settle n) =
    settle_helped world view.snap (settled (word_at world (option_map (λ (s : Snap). Spot.Colour s.cell) view.snap)))
    (views_after world number view (event.Settle n))
helper_helped world number view (event.ShadeHelper n at) = record {
  colours = (after_helper world number (event.ShadeHelper n at) (Some view)).colours;
  board = world.board;
  is = refl;
}
helper_helped world number view (event.Give n place at) = record {
  colours = world.colours;
  board = (after_helper world number (event.Give n place at) (Some view)).board;
  is = refl;
}
helper_helped world number view (event.Take n place) = record {
  colours = world.colours;
  board = (after_helper world number (event.Take n place) (Some view)).board;
  is = refl;
}
helper_helped world number view _ = record { colours = world.colours; board = world.board; is = refl }
