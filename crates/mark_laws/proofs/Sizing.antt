-- The sizes of a world stay right.
use Rattle.std.proofs.Common.{ℕ, ◌+◌, ◌<◌, ◌≤◌, ◌^◌, ◌∙◌, inl, inr, List, length, slice_index}
use Rattle.std.proofs.Common.{slice_set, slice_get}
use Rattle.std.proofs.Common.{Option, Some, None, IsSomeAnd, refl, sym, subst, arith}
use Rattle.std.proofs.lemmas.Bool.{cases_lt}
use Rattle.std.proofs.lemmas.Bool.Decides.{nat_tests}
use Rattle.std.proofs.lemmas.List.{get_or_past, length-set}
use Rattle.std.proofs.lemmas.List.Elements.{All-contains, All-set}
use Rattle.std.specs.Option.{option_and_then, option_map}
use Rattle.mark_laws.specs.Types.{Header, Event, Actor, Spot, Snap, HelperView, MainView, World}
use Rattle.tagged_word.specs.Cells.{length_offset}
use Rattle.tagged_word.specs.Readings.{header_in}
use Rattle.page_space.specs.Extents.{board_words}
use Rattle.core_parts.specs.Boards.{IsBoardWord}
use Rattle.core_parts.proofs.Handing.{board_with, given_is_board_word}
use Rattle.mark_world.specs.declared.event.Event.TheVariants as event
use Rattle.mark_world.specs.Steps.{actor, becomes, black, helper_learns, helper_spot, layout_spot, main_learns}
use Rattle.mark_world.specs.Steps.{main_spot}
use Rattle.mark_world.specs.Steps.{settled, shaded}
use Rattle.mark_world.specs.Conditions.{MayHelper, MayMain}
use Rattle.mark_world.specs.AfterEvents.{after, after_helper, after_return, after_step, IsMarked, MayStep, Possible}
use Rattle.mark_world.specs.AfterEvents.{PossibleStep, with_word, word_at}
use Rattle.mark_world.specs.Soundness.{HasLists, HasSizes, HasViewLists}
use Rattle.mark_laws.proofs.Colours.{each_colour}
use Rattle.mark_laws.proofs.Joins.{of_get, some_and}

-- a word leaves the sizes right at a spot: a colour is one of three, and a word of the board is one of a board
abbrev SizedSpot : Option Spot → ℕ → Type 0
SizedSpot (Some (Spot.Colour at)) word = word ≤ black
SizedSpot (Some (Spot.Board place)) word = IsBoardWord word
SizedSpot _ word = Unit {0}

-- so it does
with_word_sized : (world : World) (spot : Option Spot) (word : ℕ) → HasSizes world → SizedSpot spot word
    → HasSizes (with_word world spot word)
with_word_sized world None word sizes fits = sizes
with_word_sized world (Some (Spot.Heap at)) word sizes fits = record {
  pages = sizes.pages;
  addresses = sizes.addresses;
  words = omega (arith, sizes.words, length-set world.words at word);
  colours = sizes.colours;
  three = sizes.three;
  board = sizes.board;
  layouts = sizes.layouts;
}
with_word_sized world (Some (Spot.Layout shape)) word sizes fits = record {
  pages = sizes.pages;
  addresses = sizes.addresses;
  words = sizes.words;
  colours = sizes.colours;
  three = sizes.three;
  board = sizes.board;
  layouts = length-set world.layouts shape word ∙ sizes.layouts;
}
with_word_sized world (Some (Spot.Colour at)) word sizes fits = record {
  pages = sizes.pages;
  addresses = sizes.addresses;
  words = sizes.words;
  colours = length-set world.colours at word ∙ sizes.colours;
  three = All-set (λ (colour : ℕ). colour ≤ black) world.colours at word fits sizes.three;
  board = sizes.board;
  layouts = sizes.layouts;
}
with_word_sized world (Some (Spot.Board place)) word sizes fits = record {
  pages = sizes.pages;
  addresses = sizes.addresses;
  words = sizes.words;
  colours = sizes.colours;
  three = sizes.three;
  board = board_with world.board place word sizes.board fits;
  layouts = sizes.layouts;
}

-- views have no part in the sizes
views_sized : (world : World) (main : MainView) (helpers : List HelperView) → HasSizes world
    → HasSizes (record world { main = main; helpers = helpers })
views_sized world main helpers sizes = record {
  pages = sizes.pages;
  addresses = sizes.addresses;
  words = sizes.words;
  colours = sizes.colours;
  three = sizes.three;
  board = sizes.board;
  layouts = sizes.layouts;
}

-- a shaded colour is one of three
shaded_three : (colour : ℕ) → colour ≤ black → shaded colour ≤ black
shaded_three colour three = grind (arith, nat_tests)

-- and so is a settled one
settled_three : (colour : ℕ) → colour ≤ black → settled colour ≤ black
settled_three colour three = grind (arith, nat_tests)

-- a reached cell has an address of 32 bits
pub reached_fits : (world : World) → HasSizes world → (at : ℕ) → IsMarked world at → at < 2 ^ 32
reached_fits world sizes at reached = elim (cases_lt at (length world.colours)) [
  | inl within ↦ omega (arith, sizes.colours, sizes.addresses)
  | inr past ↦ absurd (reached.coloured (get_or_past world.colours at 0 past))
]

-- a word of the board to which a reached cell is given is one of a board
given_sized : (world : World) → HasSizes world → (place at : ℕ) → place < board_words
    → IsMarked world at
    → IsBoardWord (becomes (event.GiveMain place at) (slice_index world.board place))
given_sized world sizes place at on_board reached =
    given_is_board_word (slice_index world.board place) at (reached_fits world sizes at reached)
    (sizes.board.each place 0 (omega (arith, sizes.board.count)))

-- a step of the mutator leaves the sizes right
main_sized : (world : World) (of : Event) → HasSizes world → HasLists world
    → MayMain world.old world.words world.layouts world.main of
    → SizedSpot (main_spot of) (becomes of (word_at world (main_spot of)))
main_sized world (event.ShadeMain at) sizes lists may = shaded_three (slice_index world.colours at)
    (each_colour world sizes at)
main_sized world (event.Blacken at) sizes lists may = omega arith
main_sized world (event.NewBlack at) sizes lists may = omega arith
main_sized world (event.GiveMain place at) sizes lists may =
    given_sized world sizes place at may.on_board (All-contains (IsMarked world) world.main.grey at lists.main may.had)
main_sized world (event.TakeMain place) sizes lists may = inl refl
main_sized world _ sizes lists may = tt

-- the end of a snap leaves the sizes right
settle_sized : (world : World) → HasSizes world → (snap : Option Snap)
    → SizedSpot (option_map (λ s. Spot.Colour s.cell) snap)
    (settled (word_at world (option_map (λ s. Spot.Colour s.cell) snap)))
settle_sized world sizes None = tt
settle_sized world sizes (Some snap) = settled_three (slice_index world.colours snap.cell)
    (each_colour world sizes snap.cell)

-- words of the heap and layout words have no part in them
load_sized : (offset word : ℕ) (snap : Option Snap)
    → SizedSpot (option_map (λ s. Spot.Heap (s.cell + offset)) snap) word
load_sized offset word None = tt
load_sized offset word (Some snap) = tt

-- the spot of a layout leaves the sizes right, whatever the word
layout_sized : (word : ℕ) (header : Option Header) → SizedSpot (option_map (λ h. Spot.Layout h.shape) header) word
layout_sized word None = tt
layout_sized word (Some header) = tt

-- so does the one that a snap names
layout_of_sized : (word : ℕ) (snap : Option Snap) → SizedSpot (option_and_then layout_spot snap) word
layout_of_sized word None = tt
layout_of_sized word (Some snap) = layout_sized word (header_in snap.header)

-- nor does a step of a helper
helper_sized : (world : World) (view : HelperView) (of : Event) → HasSizes world → HasViewLists world view
    → MayHelper view of → SizedSpot (helper_spot view of) (becomes of (word_at world (helper_spot view of)))
helper_sized world view (event.ShadeHelper number at) sizes lists may = shaded_three (slice_index world.colours at)
    (each_colour world sizes at)
helper_sized world view (event.Settle number) sizes lists may = settle_sized world sizes view.snap
helper_sized world view (event.Give number place at) sizes lists may =
    given_sized world sizes place at may.on_board (All-contains (IsMarked world) view.grey at lists.grey may.had)
helper_sized world view (event.Take number place) sizes lists may = inl refl
helper_sized world view (event.LoadLayout number) sizes lists may =
    layout_of_sized (word_at world (option_and_then layout_spot view.snap)) view.snap
helper_sized world view (event.LoadLength number) sizes lists may =
    load_sized length_offset (word_at world (option_map (λ (s : Snap). Spot.Heap (s.cell + length_offset)) view.snap))
    view.snap
helper_sized world view (event.LoadSlot number offset) sizes lists may =
    load_sized offset (word_at world (option_map (λ (s : Snap). Spot.Heap (s.cell + offset)) view.snap)) view.snap
helper_sized world view _ sizes lists may = tt

-- a step of a helper that may make it
step_of_helper : (world : World) (number : ℕ) (of : Event) → HasSizes world → HasLists world
    → IsSomeAnd (slice_get world.helpers number) (MayStep world of)
    → HasSizes (after_helper world number of (slice_get world.helpers number))
step_of_helper world number of sizes lists may =
    let v = some_and (MayStep world of) (slice_get world.helpers number) may in
    let view : HelperView = v.0 in
    let has : HasViewLists world view = of_get (HasViewLists world) world.helpers number view v.1 lists.helpers in
    let spot : Option Spot = helper_spot view of in
    let word : ℕ = becomes of (word_at world spot) in
    subst (λ (o : Option HelperView). HasSizes (after_helper world number of o)) (sym v.1)
    (views_sized (with_word world spot word) (with_word world spot word).main
    (slice_set world.helpers number (helper_learns world.old view of (word_at world spot)))
    (with_word_sized world spot word sizes (helper_sized world view of sizes has v.2.may)))

-- a seat that is taken back
step_of_return : (world : World) (number : ℕ) → HasSizes world → (view : Option HelperView)
    → HasSizes (after_return world number view)
step_of_return world number sizes None = sizes
step_of_return world number sizes (Some view) =
    views_sized world (after_return world number (Some view)).main (after_return world number (Some view)).helpers sizes

-- every step
pub step_sized : (world : World) (of : Event) (by : Actor) → HasSizes world → HasLists world
    → PossibleStep world of by → HasSizes (after_step world of by)
step_sized world of Actor.Mutator sizes lists may =
    let spot : Option Spot = main_spot of in
    let word : ℕ = becomes of (word_at world spot) in
    views_sized (with_word world spot word)
    (main_learns world.old world.words world.layouts world.main of (word_at world spot))
    (with_word world spot word).helpers (with_word_sized world spot word sizes (main_sized world of sizes lists may))
step_sized world of (Actor.Helper number) sizes lists may = step_of_helper world number of sizes lists may
step_sized world of Actor.Lends sizes lists may =
    views_sized world world.main (after_step world of Actor.Lends).helpers sizes
step_sized world of (Actor.Returns number) sizes lists may = step_of_return world number sizes
    (slice_get world.helpers number)

-- a possible event leaves the sizes right
pub sizes_stay : (world : World) (of : Event) → HasSizes world → HasLists world
    → Possible world of → HasSizes (after world of)
sizes_stay world of = step_sized world of (actor of)
