-- Which free starts turn black: none by a step of the mutator, and by a helper's step only the one whose snap it
-- settles.
use Rattle.std.proofs.Common.{ℕ, ◌≡◌, ◌≢◌, ◌∙◌, ◌⊎◌, inl, inr, IsTrue, List, length, Option, Some, None}
use Rattle.std.proofs.Common.{Contains, IsSomeAnd, slice_index, slice_set, sym, ap, subst, arith}
use Rattle.std.specs.Option.{option_map}
use Rattle.std.proofs.lemmas.Bool.{cases_lt}
use Rattle.std.proofs.lemmas.Bool.Decides.{nat_tests}
use Rattle.std.proofs.lemmas.List.{get_or_past, get_or-set_other, get_or-set_same, length-set}
use Rattle.tagged_word.specs.Cells.{length_offset}
use Rattle.core_parts.specs.Lists.{joined}
use Rattle.core_parts.proofs.Joining.{joined_in}
use Rattle.mark_laws.specs.Types.{Event, Spot, Snap, HelperView, World}
use Rattle.mark_world.specs.declared.event.Event.TheVariants as event
use Rattle.mark_world.specs.Pages.{is_free}
use Rattle.mark_world.specs.Steps.{black, grey, helper_spot, settled, shaded}
use Rattle.mark_world.specs.AfterEvents.{after_helper, after_main, with_word, word_at}
use Rattle.mark_world.specs.Coverage.{colour_of}
use Rattle.mark_laws.proofs.Stores.{free_is}
use Rattle.mark_laws.proofs.Listing.{load_colours, loads_heap, loads_layout}
use Rattle.mark_laws.proofs.Waiting.{one_or_other}

-- a colour that is put is there, or the list ends before it
put_black : (colours : List ℕ) (at word : ℕ) → slice_index (slice_set colours at word) at ≡ black → word ≡ black
put_black colours at word is_black = elim (cases_lt at (length colours)) [
  | inl within ↦ sym (get_or-set_same colours at word 0 within) ∙ is_black
  | inr past ↦
      let none : slice_index (slice_set colours at word) at ≡ 0 =
      get_or_past (slice_set colours at word) at 0 (omega (arith, length-set colours at word, past)) in
      absurd (omega (arith, none, is_black))
]

-- a colour that is black where another was put was so before
other_black : (colours : List ℕ) (a word at : ℕ) → at ≢ a → slice_index (slice_set colours a word) at ≡ black
    → slice_index colours at ≡ black
other_black colours a word at other is_black = sym (get_or-set_other colours a at word 0 other) ∙ is_black

-- what is black once it was shaded was so before
shaded_black : (colour : ℕ) → shaded colour ≡ black → colour ≡ black
shaded_black colour e = grind (arith, nat_tests)

-- a cell that is black where one was shaded was so before
shade_black : (colours : List ℕ) (a at : ℕ)
    → slice_index (slice_set colours a (shaded (slice_index colours a))) at ≡ black → slice_index colours at ≡ black
shade_black colours a at is_black = elim (one_or_other at a) [
  | inl same ↦
      let put : shaded (slice_index colours a) ≡ black = put_black colours a (shaded (slice_index colours a))
      (ap (slice_index (slice_set colours a (shaded (slice_index colours a)))) (sym same) ∙ is_black) in
      ap (slice_index colours) same ∙ shaded_black (slice_index colours a) put
  | inr other ↦ other_black colours a (shaded (slice_index colours a)) at other is_black
]

-- a free start that is black after a step of the mutator was so before: what it makes black itself is none
pub main_black : (world : World) (of : Event) (at : ℕ) → IsTrue (is_free (after_main world of).main at)
    → colour_of (after_main world of) at ≡ black → colour_of world at ≡ black
main_black world (event.ShadeMain a) at free is_black = shade_black world.colours a at is_black
main_black world (event.Blacken a) at free is_black = elim (one_or_other at a) [
  | inl same ↦ absurd ((free_is (after_main world (event.Blacken a)).main at free).1
      (subst (Contains (joined world.main.mine a)) (sym same) (joined_in world.main.mine a)))
  | inr other ↦ other_black world.colours a black at other is_black
]
main_black world (event.NewBlack a) at free is_black = elim (one_or_other at a) [
  | inl same ↦ absurd ((free_is (after_main world (event.NewBlack a)).main at free).1
      (subst (Contains (joined world.main.mine a)) (sym same) (joined_in world.main.mine a)))
  | inr other ↦ other_black world.colours a black at other is_black
]
main_black world _ at free is_black = is_black

-- the event settles a snap of the cell, which is grey
abbrev pub Settles : World → HelperView → Event → ℕ → Type 0
Settles world view (event.Settle number) at = (colour_of world at ≡ grey) × IsSomeAnd view.snap (λ snap. snap.cell ≡ at)
Settles world view _ at = ⊥

-- what is black once it was settled was so before, or was grey
settled_black : (colour : ℕ) → settled colour ≡ black → (colour ≡ black) ⊎ (colour ≡ grey)
settled_black colour e = elim (one_or_other colour 1) [
  | inl is_grey ↦ inr is_grey
  | inr other ↦ inl (grind (arith, nat_tests))
]

-- a cell that is black when a snap ends was so before, or was grey, and the snap's
settle_black : (world : World) (snap : Option Snap) (at : ℕ)
    → colour_of (with_word world (option_map (λ s. Spot.Colour s.cell) snap)
    (settled (word_at world (option_map (λ s. Spot.Colour s.cell) snap)))) at ≡ black
    → (colour_of world at ≡ black) ⊎ ((colour_of world at ≡ grey) × IsSomeAnd snap (λ s. s.cell ≡ at))
settle_black world None at is_black = inl is_black
settle_black world (Some snap) at is_black = elim (one_or_other at snap.cell) [
  | inl same ↦
      let colour : ℕ = slice_index world.colours snap.cell in
      let put : settled colour ≡ black = put_black world.colours snap.cell (settled colour)
      (ap (slice_index (slice_set world.colours snap.cell (settled colour))) (sym same) ∙ is_black) in
      elim (settled_black colour put) [
        | inl before ↦ inl (ap (slice_index world.colours) same ∙ before)
        | inr was_grey ↦ inr (ap (slice_index world.colours) same ∙ was_grey, sym same)
      ]
  | inr other ↦ inl (other_black world.colours snap.cell (settled (slice_index world.colours snap.cell)) at other
      is_black)
]

-- a cell that is black after a load was so before
load_black : (world later : World) (at : ℕ) → later.colours ≡ world.colours → colour_of later at ≡ black
    → colour_of world at ≡ black
load_black world later at same is_black = subst (λ (cs : List ℕ). slice_index cs at ≡ black) same is_black

-- a cell that is black after a step of a helper was so before, or it settles its snap
pub helper_black : (world : World) (number : ℕ) (view : HelperView) (of : Event) (at : ℕ)
    → colour_of (after_helper world number of (Some view)) at ≡ black
    → (colour_of world at ≡ black) ⊎ Settles world view of at
helper_black world number view (event.ShadeHelper n a) at is_black = inl (shade_black world.colours a at is_black)
helper_black world number view (event.Settle n) at is_black = settle_black world view.snap at is_black
helper_black world number view (event.LoadLayout n) at is_black =
    inl (load_black world (after_helper world number (event.LoadLayout n) (Some view)) at
    (load_colours world (helper_spot view (event.LoadLayout n)) (word_at world (helper_spot view (event.LoadLayout n)))
    (loads_layout view.snap)) is_black)
helper_black world number view (event.LoadLength n) at is_black =
    inl (load_black world (after_helper world number (event.LoadLength n) (Some view)) at
    (load_colours world (helper_spot view (event.LoadLength n)) (word_at world (helper_spot view (event.LoadLength n)))
    (loads_heap length_offset view.snap)) is_black)
helper_black world number view (event.LoadSlot n offset) at is_black =
    inl (load_black world (after_helper world number (event.LoadSlot n offset) (Some view)) at
    (load_colours world (helper_spot view (event.LoadSlot n offset))
    (word_at world (helper_spot view (event.LoadSlot n offset))) (loads_heap offset view.snap)) is_black)
helper_black world number view _ at is_black = inl is_black
