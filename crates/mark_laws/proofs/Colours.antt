-- The colours of a world, and how events change them.
use Rattle.std.proofs.Common.{ℕ, ◌+◌, ◌≤◌, ◌≡◌, ◌⊎◌, inl, inr, List, length, slice_index, slice_set}
use Rattle.std.proofs.Common.{Option, Some, None, sym, subst, arith, slice_get}
use Rattle.std.proofs.lemmas.Bool.{cases_lt}
use Rattle.std.proofs.lemmas.Bool.Decides.{nat_tests}
use Rattle.std.proofs.lemmas.List.{get_or_past, get_or-set_same, get_or-set_other}
use Rattle.std.specs.Option.{option_and_then, option_map}
use Rattle.mark_laws.specs.Types.{Header, Event, Actor, Spot, HelperView, Snap, World}
use Rattle.tagged_word.specs.Cells.{length_offset}
use Rattle.tagged_word.specs.Readings.{header_in}
use Rattle.mark_world.specs.declared.event.Event.TheVariants as event
use Rattle.mark_world.specs.Steps.{actor, becomes, black, helper_spot, layout_spot, main_spot, settled, shaded}
use Rattle.mark_world.specs.AfterEvents.{after, after_helper, after_return, after_step, with_word, word_at}
use Rattle.mark_world.specs.Coverage.{colour_of}
use Rattle.mark_world.specs.Soundness.{HasSizes}

-- each colour is one of three
pub each_colour : (world : World) → HasSizes world → (at : ℕ) → colour_of world at ≤ black
each_colour world sizes at = elim (cases_lt at (length world.colours)) [
  | inl within ↦ sizes.three at 0 within
  | inr past ↦ let none : slice_index world.colours at ≡ 0 = get_or_past world.colours at 0 past in omega (arith, none)
]

-- the number that is raised is not lowered
raised_there : (list : List ℕ) (at word : ℕ) → slice_index list at ≤ word → (a : ℕ) → a ≡ at
    → slice_index list a ≤ slice_index (slice_set list at word) a
raised_there list at word more a e = elim (cases_lt at (length list)) [
  | inl within ↦
      let there : slice_index (slice_set list at word) at ≡ word = get_or-set_same list at word 0 within in
      subst (λ (k : ℕ). slice_index list k ≤ slice_index (slice_set list at word) k) (sym e)
      (omega (arith, there, more))
  | inr past ↦
      let none : slice_index list a ≡ 0 = get_or_past list a 0 (omega arith) in
      omega (arith, none)
]

-- a list with one number raised has no number lowered
pub raised : (list : List ℕ) (at word : ℕ) → slice_index list at ≤ word → (a : ℕ)
    → slice_index list a ≤ slice_index (slice_set list at word) a
raised list at word more a = elim (cases_lt at a) [
  | inl other ↦ let same = get_or-set_other list at a word 0 (λ e. absurd (omega (arith, e))) in omega (arith, same)
  | inr not_above ↦ elim (cases_lt a at) [
    | inl other ↦ let same = get_or-set_other list at a word 0 (λ e. absurd (omega (arith, e))) in omega (arith, same)
    | inr not_below ↦ raised_there list at word more a (omega arith)
  ]
]

-- shading makes no colour lighter
pub shaded_rises : (colour : ℕ) → colour ≤ shaded colour
shaded_rises colour = grind (arith, nat_tests)

-- nor does settling
settled_rises : (colour : ℕ) → colour ≤ settled colour
settled_rises colour = grind (arith, nat_tests)

-- a word at a spot is no lighter colour
abbrev RaisesSpot : Option Spot → (found word : ℕ) → Type 0
RaisesSpot (Some (Spot.Colour at)) found word = found ≤ word
RaisesSpot _ found word = Unit {0}

-- a step of the mutator makes no colour lighter
main_raises : (world : World) (of : Event) → HasSizes world
    → RaisesSpot (main_spot of) (word_at world (main_spot of)) (becomes of (word_at world (main_spot of)))
main_raises world (event.ShadeMain at) sizes = shaded_rises (slice_index world.colours at)
main_raises world (event.Blacken at) sizes = each_colour world sizes at
main_raises world (event.NewBlack at) sizes = each_colour world sizes at
main_raises world _ sizes = tt

-- the end of a snap makes no colour lighter
settle_raises : (world : World) (number : ℕ) (snap : Option Snap)
    → RaisesSpot (option_map (λ s. Spot.Colour s.cell) snap) (word_at world (option_map (λ s. Spot.Colour s.cell) snap))
    (settled (word_at world (option_map (λ s. Spot.Colour s.cell) snap)))
settle_raises world number None = tt
settle_raises world number (Some snap) = settled_rises (slice_index world.colours snap.cell)

-- the words of a snap's cell and of its layout are no colours
load_raises : (world : World) (offset : ℕ) (snap : Option Snap) (found word : ℕ)
    → RaisesSpot (option_map (λ s. Spot.Heap (s.cell + offset)) snap) found word
load_raises world offset None found word = tt
load_raises world offset (Some snap) found word = tt

-- the spot of the layout that a header names is no colour, so it raises
layout_raises : (header : Option Header) (found word : ℕ)
    → RaisesSpot (option_map (λ h. Spot.Layout h.shape) header) found word
layout_raises None found word = tt
layout_raises (Some header) found word = tt

-- so is the one that a snap names
layout_of_raises : (snap : Option Snap) (found word : ℕ) → RaisesSpot (option_and_then layout_spot snap) found word
layout_of_raises None found word = tt
layout_of_raises (Some snap) found word = layout_raises (header_in snap.header) found word

-- nor does a step of a helper
helper_raises : (world : World) (view : HelperView) (of : Event)
    → RaisesSpot (helper_spot view of) (word_at world (helper_spot view of))
    (becomes of (word_at world (helper_spot view of)))
helper_raises world view (event.ShadeHelper number at) = shaded_rises (slice_index world.colours at)
helper_raises world view (event.Settle number) = settle_raises world number view.snap
helper_raises world view (event.LoadLayout number) =
    layout_of_raises view.snap (word_at world (option_and_then layout_spot view.snap))
    (word_at world (option_and_then layout_spot view.snap))
helper_raises world view (event.LoadLength number) =
    let spot = option_map (λ (s : Snap). Spot.Heap (s.cell + length_offset)) view.snap in
    load_raises world length_offset view.snap (word_at world spot) (word_at world spot)
helper_raises world view (event.LoadSlot number offset) =
    let spot = option_map (λ (s : Snap). Spot.Heap (s.cell + offset)) view.snap in
    load_raises world offset view.snap (word_at world spot) (word_at world spot)
helper_raises world view _ = tt

-- a word at a spot that is no lighter colour leaves no colour lighter
with_word_rises : (world : World) (spot : Option Spot) (word : ℕ) → RaisesSpot spot (word_at world spot) word
    → (at : ℕ) → colour_of world at ≤ colour_of (with_word world spot word) at
with_word_rises world None word more at = omega arith
with_word_rises world (Some (Spot.Heap a)) word more at = omega arith
with_word_rises world (Some (Spot.Layout a)) word more at = omega arith
with_word_rises world (Some (Spot.Colour a)) word more at = raised world.colours a word more at
with_word_rises world (Some (Spot.Board a)) word more at = omega arith

-- a step of some helper makes no colour lighter
pub helper_rises : (world : World) (number : ℕ) (of : Event) (view : Option HelperView) (at : ℕ)
    → colour_of world at ≤ colour_of (after_helper world number of view) at
helper_rises world number of None at = omega arith
helper_rises world number of (Some view) at =
    with_word_rises world (helper_spot view of) (becomes of (word_at world (helper_spot view of)))
    (helper_raises world view of) at

-- taking a seat back makes none lighter
return_rises : (world : World) (number : ℕ) (view : Option HelperView) (at : ℕ)
    → colour_of world at ≤ colour_of (after_return world number view) at
return_rises world number None at = omega arith
return_rises world number (Some view) at = omega arith

-- no step does
pub step_rises : (world : World) (of : Event) (by : Actor) → HasSizes world → (at : ℕ)
    → colour_of world at ≤ colour_of (after_step world of by) at
step_rises world of Actor.Mutator sizes at =
    with_word_rises world (main_spot of) (becomes of (word_at world (main_spot of))) (main_raises world of sizes) at
step_rises world of (Actor.Helper number) sizes at = helper_rises world number of (slice_get world.helpers number) at
step_rises world of Actor.Lends sizes at = omega arith
step_rises world of (Actor.Returns number) sizes at = return_rises world number (slice_get world.helpers number) at

-- no event makes a cell's colour lighter
pub colours_rise : (world : World) (of : Event) → HasSizes world → (at : ℕ)
    → colour_of world at ≤ colour_of (after world of) at
colours_rise world of = step_rises world of (actor of)

-- a number stands where another was put, or it is as before
pub put_or_stays : (list : List ℕ) (at word k : ℕ)
    → (k ≡ at) ⊎ (slice_index (slice_set list at word) k ≡ slice_index list k)
put_or_stays list at word k = elim (cases_lt k at) [
  | inl below ↦ inr (get_or-set_other list at k word 0 (λ e. absurd (omega (arith, e))))
  | inr from ↦ elim (cases_lt at k) [
    | inl above ↦ inr (get_or-set_other list at k word 0 (λ e. absurd (omega (arith, e))))
    | inr there ↦ inl (omega arith)
  ]
]
