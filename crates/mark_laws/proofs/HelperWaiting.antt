-- Each grey published cell waits, and goes on waiting through the steps of a helper until it is black.
use Rattle.std.proofs.Common.{ℕ, ◌<◌, ◌≡◌, ◌==◌, ◌∙◌, ◌⊎◌, inl, inr, List, length, set, slice_index}
use Rattle.std.proofs.Common.{slice_set, slice_get, Option, Some, None, IfSome, IsSomeAnd, Any, Contains, refl, sym, ap}
use Rattle.std.proofs.Common.{subst, arith}
use Rattle.std.specs.Option.{option_map}
use Rattle.std.proofs.lemmas.Bool.{cases_lt}
use Rattle.std.proofs.lemmas.Bool.Decides.{nat_tests}
use Rattle.std.proofs.lemmas.List.{get_or_past, get_or-set_same, length-set}
use Rattle.std.proofs.lemmas.List.Elements.{All-contains}
use Rattle.std.proofs.lemmas.Option.{slice_get_within}
use Rattle.tagged_word.specs.Cells.{length_offset}
use Rattle.tagged_word.specs.Readings.{reference_in}
use Rattle.page_space.specs.Extents.{board_words}
use Rattle.core_parts.proofs.Leaving.{left_keeps}
use Rattle.mark_laws.specs.Types.{Event, Spot, Snap, HelperView, MainView, World}
use Rattle.mark_world.specs.declared.event.Event.TheVariants as event
use Rattle.mark_world.specs.Steps.{becomes, grey, helper_learns, helper_spot, joined_if_white, settled, snap_settled}
use Rattle.mark_world.specs.Steps.{white, with_layout, with_length, with_slot}
use Rattle.mark_world.specs.Conditions.{MayHelper}
use Rattle.mark_world.specs.AfterEvents.{after_helper, IsMarked, with_word, word_at}
use Rattle.mark_world.specs.Coverage.{colour_of}
use Rattle.mark_world.specs.Soundness.{HasGrey, HasLists, HasSizes, HasViewLists, Waits}
use Rattle.mark_laws.proofs.Colours.{helper_rises}
use Rattle.mark_laws.proofs.Joins.{any_through, joined_by_keeps}
use Rattle.mark_laws.proofs.Listing.{IsLoad, load_board, load_colours, loads_heap, loads_layout, settle_board}
use Rattle.mark_laws.proofs.Sureness.{helper_main}
use Rattle.mark_laws.proofs.Sizing.{reached_fits}
use Rattle.mark_laws.proofs.Waiting.{OnBoard, one_or_other, white_keeps, white_there, give_waits, give_keeps}
use Rattle.mark_laws.proofs.Waiting.{take_waits, grey_not_white, InView, grey_waits}

-- a reached cell has a colour
reached_within : (world : World) (at : ℕ) → IsMarked world at → at < length world.colours
reached_within world at reached = elim (cases_lt at (length world.colours)) [
  | inl within ↦ within
  | inr past ↦ absurd (reached.coloured (get_or_past world.colours at 0 past))
]

-- settling leaves no cell grey
settled_not_grey : (colour : ℕ) → settled colour ≡ grey → ⊥
settled_not_grey colour e = grind (arith, nat_tests)

-- a cell whose snap was settled is not grey
settle_not_grey : (world : World) (at : ℕ) (snap : Snap) → HasLists world → IsMarked world snap.cell → snap.cell ≡ at
    → slice_index (slice_set world.colours snap.cell (settled (slice_index world.colours snap.cell))) at ≡ grey → ⊥
settle_not_grey world at snap lists reached same is_grey =
    let there : slice_index (slice_set world.colours snap.cell (settled (slice_index world.colours snap.cell)))
    snap.cell
    ≡ settled (slice_index world.colours snap.cell) =
    get_or-set_same world.colours snap.cell (settled (slice_index world.colours snap.cell)) 0
    (reached_within world snap.cell reached) in
    let here = ap (slice_index (slice_set world.colours snap.cell (settled (slice_index world.colours snap.cell)))) same
    ∙ is_grey in
    settled_not_grey (slice_index world.colours snap.cell) (sym there ∙ here)

-- a cell that waits in a view goes on so when its snap ends, where it is grey still
settle_waits : (world : World) (view : HelperView) (snap : Option Snap) → view.snap ≡ snap → HasLists world
    → IfSome snap (λ s. IsMarked world s.cell)
    → (at : ℕ) → colour_of (with_word world (option_map (λ s. Spot.Colour s.cell) snap)
    (settled (word_at world (option_map (λ s. Spot.Colour s.cell) snap)))) at ≡ grey → InView at view
    → InView at (snap_settled world.old view (word_at world (option_map (λ s. Spot.Colour s.cell) snap)) snap)
settle_waits world view None e lists has at is_grey waits = waits
settle_waits world view (Some snap) e lists has at is_grey (inl main) = inl main
settle_waits world view (Some snap) e lists has at is_grey (inr reads) =
    absurd (settle_not_grey world at snap lists has
    (subst (λ (o : Option Snap). IsSomeAnd o (λ s. s.cell ≡ at)) e reads)
    is_grey)

-- a snap of which more was read is of the same cell
reads_on : (at : ℕ) (f : Snap → Snap) → ((s : Snap) → (f s).cell ≡ s.cell) → (snap : Option Snap)
    → IsSomeAnd snap (λ s. s.cell ≡ at)
    → IsSomeAnd (option_map f snap) (λ s. s.cell ≡ at)
reads_on at f same None h = h
reads_on at f same (Some snap) h = same snap ∙ h

-- so a cell waits in the view as before
more_waits : (at : ℕ) (view : HelperView) (f : Snap → Snap) → ((s : Snap) → (f s).cell ≡ s.cell) → InView at view
    → InView at (record view { snap = option_map f view.snap })
more_waits at view f same (inl main) = inl main
more_waits at view f same (inr reads) = inr (reads_on at f same view.snap reads)

-- a cell that waits in a view goes on waiting through a step of that helper that leaves it grey, there or on the board
view_waits : (world : World) (number : ℕ) (view : HelperView) (of : Event) → HasSizes world → HasLists world
    → HasViewLists world view
    → MayHelper view of → (at : ℕ)
    → colour_of (after_helper world number of (Some view)) at ≡ grey → InView at view
    → InView at (helper_learns world.old view of (word_at world (helper_spot view of)))
    ⊎ OnBoard at (after_helper world number of (Some view)).board
view_waits world number view (event.LoadHeader n cell) sizes lists has may at is_grey (inl main) = elim
    (one_or_other at cell) [
      | inl same ↦ inl (inr (sym same))
      | inr other ↦ inl (inl (left_keeps view.grey cell at other main))
    ]
view_waits world number view (event.LoadHeader n cell) sizes lists has may at is_grey (inr reads) =
    absurd (subst (λ (o : Option Snap). IsSomeAnd o (λ s. s.cell ≡ at)) may.snap reads)
view_waits world number view (event.LoadLayout n) sizes lists has may at is_grey waits =
    inl (more_waits at view (with_layout (word_at world (helper_spot view (event.LoadLayout n)))) (λ s. refl) waits)
view_waits world number view (event.LoadLength n) sizes lists has may at is_grey waits =
    inl (more_waits at view (with_length (word_at world (helper_spot view (event.LoadLength n)))) (λ s. refl) waits)
view_waits world number view (event.LoadSlot n offset) sizes lists has may at is_grey waits =
    inl (more_waits at view (with_slot offset (word_at world (helper_spot view (event.LoadSlot n offset))))
    (λ s. refl) waits)
view_waits world number view (event.Settle n) sizes lists has may at is_grey waits =
    inl (settle_waits world view view.snap refl lists has.snap at is_grey waits)
view_waits world number view (event.ShadeHelper n a) sizes lists has may at is_grey (inl main) =
    inl (inl (white_keeps view.grey a at (slice_index world.colours a == white) main))
view_waits world number view (event.ShadeHelper n a) sizes lists has may at is_grey (inr reads) = inl (inr reads)
view_waits world number view (event.Give n place a) sizes lists has may at is_grey (inl main) =
    elim (give_waits view.grey world.board place a at
    (let many : length world.board ≡ board_words = sizes.board.count in
    omega (arith, many, may.on_board))
    (reached_fits world sizes a (All-contains (IsMarked world) view.grey a has.grey may.had)) main) [
      | inl still ↦ inl (inl still)
      | inr given ↦ inr given
    ]
view_waits world number view (event.Give n place a) sizes lists has may at is_grey (inr reads) = inl (inr reads)
view_waits world number view (event.Take n place) sizes lists has may at is_grey (inl main) =
    inl (inl (joined_by_keeps view.grey (reference_in (slice_index world.board place)) at main))
view_waits world number view (event.Take n place) sizes lists has may at is_grey (inr reads) = inl (inr reads)
view_waits world number view _ sizes lists has may at is_grey waits = inl waits

-- a cell on the board stays there through a step of a helper, or joins its list
helper_on_board : (world : World) (number : ℕ) (view : HelperView) (of : Event) → HasSizes world → MayHelper view of
    → (at : ℕ)
    → OnBoard at world.board → OnBoard at (after_helper world number of (Some view)).board
    ⊎ InView at (helper_learns world.old view of (word_at world (helper_spot view of)))
helper_on_board world number view (event.Give n place a) sizes may at on =
    inl (give_keeps world.board place a at (let many : length world.board ≡ board_words = sizes.board.count in
    omega (arith, many, may.on_board)) on)
helper_on_board world number view (event.Take n place) sizes may at on =
    elim (take_waits view.grey world.board place at on) [ inl still ↦ inl still | inr taken ↦ inr (inl taken) ]
helper_on_board world number view (event.LoadLayout n) sizes may at on =
    inl (subst (OnBoard at) (sym (load_board world (helper_spot view (event.LoadLayout n))
    (word_at world (helper_spot view (event.LoadLayout n))) (loads_layout view.snap))) on)
helper_on_board world number view (event.LoadLength n) sizes may at on =
    inl (subst (OnBoard at) (sym (load_board world (helper_spot view (event.LoadLength n))
    (word_at world (helper_spot view (event.LoadLength n))) (loads_heap length_offset view.snap))) on)
helper_on_board world number view (event.LoadSlot n offset) sizes may at on =
    inl (subst (OnBoard at) (sym (load_board world (helper_spot view (event.LoadSlot n offset))
    (word_at world (helper_spot view (event.LoadSlot n offset))) (loads_heap offset view.snap))) on)
helper_on_board world number view (event.Settle n) sizes may at on =
    inl (subst (OnBoard at) (sym (settle_board world
    (becomes (event.Settle n) (word_at world (helper_spot view (event.Settle n)))) view.snap)) on)
helper_on_board world number view _ sizes may at on = inl on

-- a white cell does not turn grey by a load
load_not_grey : (world : World) (spot : Option Spot) (word at : ℕ) → IsLoad spot → colour_of world at ≡ white
    → colour_of (with_word world spot word) at ≡ grey → ⊥
load_not_grey world spot word at is was is_grey =
    let same = ap (λ (cs : List ℕ). slice_index cs at) (load_colours world spot word is) in
    omega (arith, was, is_grey, same)

-- nor by the end of a snap
settle_not_new : (world : World) (snap : Option Snap) → IfSome snap (λ s. IsMarked world s.cell) → (word at : ℕ)
    → colour_of world at ≡ white
    → colour_of (with_word world (option_map (λ s. Spot.Colour s.cell) snap) word) at ≡ grey → ⊥
settle_not_new world None has word at was is_grey = omega (arith, was, is_grey)
settle_not_new world (Some snap) has word at was is_grey = elim (one_or_other at snap.cell) [
  | inl same ↦ has.coloured (ap (slice_index world.colours) (sym same) ∙ was)
  | inr other ↦ grey_not_white world.colours snap.cell at word other was is_grey
]

-- a cell that turns grey by a step of a helper waits with it
helper_new : (world : World) (number : ℕ) (view : HelperView) (of : Event) → HasViewLists world view → (at : ℕ)
    → colour_of world at ≡ white
    → colour_of (after_helper world number of (Some view)) at ≡ grey
    → InView at (helper_learns world.old view of (word_at world (helper_spot view of)))
helper_new world number view (event.ShadeHelper n a) has at was is_grey = elim (one_or_other at a) [
  | inl same ↦ inl (subst (λ (x : ℕ). Contains (joined_if_white view.grey (slice_index world.colours a) a) x) (sym same)
      (white_there view.grey a (slice_index world.colours a) (ap (slice_index world.colours) (sym same) ∙ was)))
  | inr other ↦ absurd (grey_not_white world.colours a at
      (becomes (event.ShadeHelper n a) (slice_index world.colours a))
      other was is_grey)
]
helper_new world number view (event.Settle n) has at was is_grey =
    absurd (settle_not_new world view.snap has.snap
    (becomes (event.Settle n) (word_at world (helper_spot view (event.Settle n)))) at was is_grey)
helper_new world number view (event.LoadLayout n) has at was is_grey =
    absurd (load_not_grey world (helper_spot view (event.LoadLayout n))
    (word_at world (helper_spot view (event.LoadLayout n))) at
    (loads_layout view.snap) was is_grey)
helper_new world number view (event.LoadLength n) has at was is_grey =
    absurd (load_not_grey world (helper_spot view (event.LoadLength n))
    (word_at world (helper_spot view (event.LoadLength n))) at
    (loads_heap length_offset view.snap) was is_grey)
helper_new world number view (event.LoadSlot n offset) has at was is_grey =
    absurd (load_not_grey world (helper_spot view (event.LoadSlot n offset))
    (word_at world (helper_spot view (event.LoadSlot n offset))) at
    (loads_heap offset view.snap) was is_grey)
helper_new world number view _ has at was is_grey = absurd (omega (arith, was, is_grey))

-- what waits in a view that was put waits in one of the views
in_views : (views : List HelperView) (number at : ℕ) (view : HelperView) → number < length views → InView at view
    → Any (InView at) (set views number view)
in_views views number at view within waits = (
  number,
  view,
  omega (arith, length-set views number view, within),
  get_or-set_same views number view view within,
  waits,
)

-- a cell that waits goes on waiting through a step of a helper that leaves it grey
helper_keeps : (world : World) (number : ℕ) (view : HelperView) (of : Event)
    → slice_get world.helpers number ≡ Some view → HasSizes world → HasLists world
    → HasViewLists world view → MayHelper view of → (at : ℕ)
    → colour_of (after_helper world number of (Some view)) at ≡ grey → Waits world at
    → Waits (after_helper world number of (Some view)) at
helper_keeps world number view of there sizes lists has may at is_grey (inl main) =
    inl (subst (λ (m : MainView). Contains m.grey at) (sym (helper_main world number of (Some view))) main)
helper_keeps world number view of there sizes lists has may at is_grey (inr (inl helper)) =
    elim (any_through (InView at) (OnBoard at (after_helper world number of (Some view)).board) world.helpers number
    view
    (helper_learns world.old view of (word_at world (helper_spot view of))) there
    (view_waits world number view of sizes lists has may at is_grey) helper) [
      | inl some ↦ inr (inl some)
      | inr on ↦ inr (inr on)
    ]
helper_keeps world number view of there sizes lists has may at is_grey (inr (inr on)) =
    elim (helper_on_board world number view of sizes may at on) [
      | inl still ↦ inr (inr still)
      | inr taken ↦ inr (inl (in_views world.helpers number at
          (helper_learns world.old view of (word_at world (helper_spot view of)))
          (slice_get_within world.helpers number view there) taken))
    ]

-- a step of a helper leaves each grey cell waiting
pub helper_greys : (world : World) (number : ℕ) (view : HelperView) (of : Event)
    → slice_get world.helpers number ≡ Some view → HasSizes world
    → HasLists world → HasGrey world → HasViewLists world view → MayHelper view of → (at : ℕ)
    → colour_of (after_helper world number of (Some view)) at ≡ grey
    → Waits (after_helper world number of (Some view)) at
helper_greys world number view of there sizes lists greys has may at is_grey =
    let rise = helper_rises world number of (Some view) at in
    elim (cases_lt (colour_of world at) 1) [
      | inl below ↦ inr (inl (in_views world.helpers number at
          (helper_learns world.old view of (word_at world (helper_spot view of)))
          (slice_get_within world.helpers number view there)
          (helper_new world number view of has at (omega arith) is_grey)))
      | inr from ↦
          let was : colour_of world at ≡ grey = omega (arith, rise, is_grey, from) in
          helper_keeps world number view of there sizes lists has may at is_grey (grey_waits world lists greys at was)
    ]
