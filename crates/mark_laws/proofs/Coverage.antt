-- What is covered stays covered.
use Rattle.std.proofs.Common.{ℕ, ◌<◌, ◌≡◌, ◌≢◌, ◌==◌, ◌⊎◌, ◌∷◌, inl, inr, Bool, true, false}
use Rattle.std.proofs.Common.{IsTrue, List, [], length}
use Rattle.std.proofs.Common.{slice_get, slice_index, slice_set, Option, Some, None, IsSome, IsSomeAnd, All, Any}
use Rattle.std.proofs.Common.{Contains}
use Rattle.std.proofs.Common.{refl, sym, ap, subst, ◌∙◌, arith}
use Rattle.std.proofs.Common.{if◌then◌else◌, is_some, eqb-true, eq-eqb}
use Rattle.std.proofs.lemmas.Bool.Decides.{nat_tests}
use Rattle.std.proofs.lemmas.List.{get_or-set_same, get_or_append_left, length-append}
use Rattle.std.proofs.lemmas.List.Elements.{All-contains}
use Rattle.core_parts.specs.Lists.{left}
use Rattle.core_parts.proofs.Joining.{decided}
use Rattle.core_parts.proofs.Leaving.{left_keeps}
use Rattle.mark_laws.specs.Types.{Event, Actor, Spot, Snap, HelperView, World, MainView}
use Rattle.mark_world.specs.declared.event.Event.TheVariants as event
use Rattle.mark_world.specs.Pages.{target, targets_joined}
use Rattle.mark_world.specs.Naming.{IsReadOut, named, read_offsets}
use Rattle.mark_world.specs.Steps.{actor, all_joined, becomes, black, free_slot_words, helper_learns, helper_spot, lent}
use Rattle.mark_world.specs.Steps.{main_spot, returned}
use Rattle.mark_world.specs.Steps.{shaded, white}
use Rattle.mark_world.specs.Conditions.{MayHelper, MayMain}
use Rattle.mark_world.specs.AfterEvents.{after, after_helper, after_main, after_return, after_step, MayStep, Possible}
use Rattle.mark_world.specs.AfterEvents.{PossibleStep, with_word, word_at}
use Rattle.mark_world.specs.Coverage.{IsCovered, colour_of}
use Rattle.mark_world.specs.Soundness.{HasCells, HasLists, HasSizes, HasViewLists}
use Rattle.mark_world.specs.BornCells.{Born}
use Rattle.mark_laws.proofs.Colours.{helper_rises, step_rises}
use Rattle.mark_laws.proofs.Starts.{start_old}
use Rattle.mark_laws.proofs.Joins.{all_keep, all_there, any_through, joined_by_keeps, of_get, targets_keep, some_and}

-- shading leaves no cell white
pub shaded_not_white : (colour : ℕ) → shaded colour ≡ 0 → ⊥
shaded_not_white colour e = grind (arith, nat_tests)

-- a cell that was shaded is not white
pub shaded_coloured : (colours : List ℕ) (at : ℕ) → at < length colours
    → slice_index (slice_set colours at (shaded (slice_index colours at))) at ≢ white
shaded_coloured colours at within is_white =
    let there : slice_index (slice_set colours at (shaded (slice_index colours at))) at
    ≡ shaded (slice_index colours at) =
    get_or-set_same colours at (shaded (slice_index colours at)) 0 within in
    shaded_not_white (slice_index colours at) (sym there ∙ is_white)

-- a list that a shaded cell leaves keeps what it has, or the cell is not white
left_or_coloured : (list colours : List ℕ) (a at : ℕ) → a < length colours → Contains list at
    → (slice_index (slice_set colours a (shaded (slice_index colours a))) at ≢ white) ⊎ Contains (left list a) at
left_or_coloured list colours a at within there = elim (decided (at == a)) [
  | inl same ↦
      let e : a ≡ at = sym (eqb-true _ _ same) in
      inl (subst (λ (k : ℕ). slice_index (slice_set colours a (shaded (slice_index colours a))) k ≢ white) e
      (shaded_coloured colours a within))
  | inr other ↦ inr (left_keeps list a at
      (λ e. let t = eq-eqb at a e in absurd (let both : true ≡ false = sym t ∙ other in cc)) there)
]

-- what is owed stays so where a cell turns black, since targets only join
pub black_keeps : (old : ℕ) (owed words : List ℕ) (was_black : Bool) (at : ℕ) → Contains owed at
    → Contains (if was_black then owed else targets_joined old owed words) at
black_keeps old owed words true at c = c
black_keeps old owed words false at c = targets_keep old owed words at c

-- what the mutator owes stays owed through its steps, or is not white
main_owes : (world : World) (of : Event) → HasSizes world → HasCells world
    → MayMain world.old world.words world.layouts world.main of → (at : ℕ) → Contains world.main.owed at
    → (colour_of (after_main world of) at ≢ white) ⊎ Contains (after_main world of).main.owed at
main_owes world (event.StoreSlot a word) sizes cells may at c =
    inr (joined_by_keeps world.main.owed (target world.old word) at c)
main_owes world (event.ShadeMain a) sizes cells may at c =
    left_or_coloured world.main.owed world.colours a at
    (start_old world sizes cells a (All-contains (Contains world.main.starts) world.main.born a cells.born may)) c
main_owes world (event.Blacken a) sizes cells may at c =
    inr (black_keeps world.old world.main.owed (free_slot_words world.old world.words world.layouts world.main a)
    (slice_index world.colours a == black) at c)
main_owes world _ sizes cells may at c = inr c

-- a word that is put leaves the views
pub with_word_views : (world : World) (spot : Option Spot) (word : ℕ)
    → (with_word world spot word).helpers ≡ world.helpers
with_word_views world None word = refl
with_word_views world (Some (Spot.Heap a)) word = refl
with_word_views world (Some (Spot.Layout a)) word = refl
with_word_views world (Some (Spot.Colour a)) word = refl
with_word_views world (Some (Spot.Board a)) word = refl

-- and the mutator's view
pub with_word_main : (world : World) (spot : Option Spot) (word : ℕ) → (with_word world spot word).main ≡ world.main
with_word_main world None word = refl
with_word_main world (Some (Spot.Heap a)) word = refl
with_word_main world (Some (Spot.Layout a)) word = refl
with_word_main world (Some (Spot.Colour a)) word = refl
with_word_main world (Some (Spot.Board a)) word = refl

-- some helper is to visit the cell
abbrev SomeVisits : ℕ → List HelperView → Type 0
SomeVisits at views = Any (λ view. Contains view.visit at) views

-- a step of the mutator keeps what is covered
main_covers : (world : World) (of : Event) → HasSizes world → HasCells world
    → MayMain world.old world.words world.layouts world.main of
    → ((at : ℕ) → colour_of world at ≢ white → colour_of (after_main world of) at ≢ white)
    → (at : ℕ) → IsCovered world at → IsCovered (after_main world of) at
main_covers world of sizes cells may rise at (inl coloured) = inl (rise at coloured)
main_covers world of sizes cells may rise at (inr (inl owed)) = elim (main_owes world of sizes cells may at owed) [
  | inl coloured ↦ inl coloured
  | inr owes ↦ inr (inl owes)
]
main_covers world of sizes cells may rise at (inr (inr visit)) =
    inr (inr (subst (SomeVisits at)
    (sym (with_word_views world (main_spot of) (becomes of (word_at world (main_spot of))))) visit))

-- a helper with a snap has nothing to visit
settles_empty : (view : HelperView) (P : Snap → Type 0) → (IsSome view.snap → view.visit ≡ [])
    → (snap : Option Snap) → view.snap ≡ snap
    → IsSomeAnd snap P → view.visit ≡ []
settles_empty view P one None e h = absurd h
settles_empty view P one (Some snap) e h = one (ap is_some e)

-- what a helper is to visit it still is after a step of its own, or it is not white
helper_visits : (world : World) (number : ℕ) (view : HelperView) (of : Event) → MayHelper view of
    → (IsSome view.snap → view.visit ≡ []) → ((a : ℕ) → Contains view.visit a → a < length world.colours)
    → (at : ℕ) → Contains view.visit at
    → Contains (helper_learns world.old view of (word_at world (helper_spot view of))).visit at
    ⊎ (colour_of (after_helper world number of (Some view)) at ≢ white)
helper_visits world number view (event.Settle n) may one old at c =
    absurd (omega (
      arith,
      c.1,
      ap length
          (settles_empty view (λ snap. IsReadOut (named snap) (read_offsets snap)) one view.snap refl may),
    ))
helper_visits world number view (event.ShadeHelper n a) may one old at c =
    elim (left_or_coloured view.visit world.colours a at (old a may) c)
    [ inl coloured ↦ inr coloured | inr still ↦ inl still ]
helper_visits world number view _ may one old at c = inl c

-- a step of a helper keeps what is covered
helper_covers : (world : World) (number : ℕ) (of : Event) (view : HelperView)
    → slice_get world.helpers number ≡ Some view
    → MayHelper view of → (IsSome view.snap → view.visit ≡ [])
    → ((a : ℕ) → Contains view.visit a → a < length world.colours)
    → ((at : ℕ) → colour_of world at ≢ white → colour_of (after_helper world number of (Some view)) at ≢ white)
    → (at : ℕ) → IsCovered world at → IsCovered (after_helper world number of (Some view)) at
helper_covers world number of view there may one old rise at (inl coloured) = inl (rise at coloured)
helper_covers world number of view there may one old rise at (inr (inl owed)) =
    inr (inl (subst (λ (main : MainView). Contains main.owed at)
    (sym (with_word_main world (helper_spot view of) (becomes of (word_at world (helper_spot view of))))) owed))
helper_covers world number of view there may one old rise at (inr (inr visit)) =
    elim (any_through (λ v. Contains v.visit at) (colour_of (after_helper world number of (Some view)) at ≢ white)
    world.helpers number view
    (helper_learns world.old view of (word_at world (helper_spot view of))) there
    (helper_visits world number view of may one old at) visit) [
      | inl some ↦ inr (inr some)
      | inr coloured ↦ inl coloured
    ]

-- taking a seat back keeps what is covered: what it was to visit is owed
return_covers : (world : World) (number : ℕ) (view : HelperView) → slice_get world.helpers number ≡ Some view
    → (at : ℕ) → IsCovered world at → IsCovered (after_return world number (Some view)) at
return_covers world number view there at (inl coloured) = inl coloured
return_covers world number view there at (inr (inl owed)) = inr (inl (all_keep world.main.owed view.visit at owed))
return_covers world number view there at (inr (inr visit)) =
    elim (any_through (λ v. Contains v.visit at) (Contains (all_joined world.main.owed view.visit) at) world.helpers
    number view
    returned there (λ visits. inr (all_there world.main.owed view.visit at visits)) visit) [
      | inl some ↦ inr (inr some)
      | inr owed ↦ inr (inl owed)
    ]

-- lending a seat keeps what is covered
lend_covers : (world : World) (of : Event) (at : ℕ) → IsCovered world at
    → IsCovered (after_step world of Actor.Lends) at
lend_covers world of at (inl coloured) = inl coloured
lend_covers world of at (inr (inl owed)) = inr (inl owed)
lend_covers world of at (inr (inr (k, view, l, e, visits))) = inr (inr (
  k,
  view,
  omega (arith, length-append world.helpers (lent ∷ []), l),
  get_or_append_left world.helpers (lent ∷ []) view k l ∙ e,
  visits,
))

-- a step of a helper that may make it keeps what is covered
step_of_helper : (world : World) (number : ℕ) (of : Event) → HasSizes world → HasCells world → HasLists world
    → Born world
    → IsSomeAnd (slice_get world.helpers number) (MayStep world of) → (at : ℕ) → IsCovered world at
    → IsCovered (after_helper world number of (slice_get world.helpers number)) at
step_of_helper world number of sizes cells lists born may at covered =
    let v = some_and (MayStep world of) (slice_get world.helpers number) may in
    let view : HelperView = v.0 in
    let has : HasViewLists world view = of_get (HasViewLists world) world.helpers number view v.1 lists.helpers in
    let visits : All (λ a. Contains world.main.born a) view.visit =
    of_get (λ w. All (λ a. Contains world.main.born a) w.visit) world.helpers number view v.1 born.visits in
    let old : (a : ℕ) → Contains view.visit a → a < length world.colours = λ a c.
    start_old world sizes cells a (All-contains (Contains world.main.starts) world.main.born a cells.born
    (All-contains (Contains world.main.born) view.visit a visits c)) in
    subst (λ (o : Option HelperView). IsCovered (after_helper world number of o) at) (sym v.1)
    (helper_covers world number of view v.1 v.2.may has.one_at_once old
    (λ a coloured is_white. coloured (let rise = helper_rises world number of (Some view) a in
    let none : colour_of world a ≡ 0 = omega (arith, rise, is_white) in none)) at covered)

-- a seat that is taken back, if there is one, keeps what is covered
step_of_return : (world : World) (number : ℕ) → IsSomeAnd (slice_get world.helpers number) (λ view. IsTrue view.out)
    → (at : ℕ) → IsCovered world at → IsCovered (after_return world number (slice_get world.helpers number)) at
step_of_return world number may at covered =
    let v = some_and (λ view. IsTrue view.out) (slice_get world.helpers number) may in
    subst (λ (o : Option HelperView). IsCovered (after_return world number o) at) (sym v.1)
    (return_covers world number v.0 v.1 at covered)

-- every step keeps what is covered
pub step_covers : (world : World) (of : Event) (by : Actor) → HasSizes world → HasCells world → HasLists world
    → Born world
    → PossibleStep world of by → (at : ℕ) → IsCovered world at → IsCovered (after_step world of by) at
step_covers world of Actor.Mutator sizes cells lists born may =
    main_covers world of sizes cells may
    (λ a coloured is_white. coloured (let rise = step_rises world of Actor.Mutator sizes a in
    let none : colour_of world a ≡ 0 = omega (arith, rise, is_white) in none))
step_covers world of (Actor.Helper number) sizes cells lists born may =
    step_of_helper world number of sizes cells lists born may
step_covers world of Actor.Lends sizes cells lists born may = lend_covers world of
step_covers world of (Actor.Returns number) sizes cells lists born may = step_of_return world number may

-- a cell that is covered is covered after each possible event
pub covered_stays : (world : World) (of : Event) → HasSizes world → HasCells world → HasLists world → Born world
    → Possible world of
    → (at : ℕ) → IsCovered world at → IsCovered (after world of) at
covered_stays world of = step_covers world of (actor of)
