-- Each grey published cell waits, and goes on waiting through every event until it is black.
use Rattle.std.proofs.Common.{ℕ, ◌≡◌, ◌∙◌, inl, inr, IsTrue, List, [], ◌∷◌, slice_get, Option, Some, None}
use Rattle.std.proofs.Common.{IsSomeAnd, Contains, sym, subst, arith}
use Rattle.std.specs.Option.{option_map}
use Rattle.std.proofs.lemmas.List.{get_or_append_left, length-append}
use Rattle.core_parts.specs.Lists.{joined}
use Rattle.core_parts.specs.Boards.{joined_by}
use Rattle.core_parts.proofs.Joining.{joined_in}
use Rattle.mark_laws.specs.Types.{Event, Actor, Snap, HelperView, MainView, World}
use Rattle.mark_world.specs.Steps.{actor, all_joined, grey, lent, returned, taken_back}
use Rattle.mark_world.specs.AfterEvents.{after, after_helper, after_return, after_step, MayStep, Possible, PossibleStep}
use Rattle.mark_world.specs.Coverage.{colour_of}
use Rattle.mark_world.specs.Soundness.{HasCells, HasGrey, HasLists, HasSizes, HasViewLists, Waits}
use Rattle.mark_laws.proofs.Joins.{all_from, all_keep, all_there, any_through, joined_by_keeps, of_get, some_and}
use Rattle.mark_laws.proofs.Waiting.{InView, grey_waits}
use Rattle.mark_laws.proofs.MainWaiting.{main_greys}
use Rattle.mark_laws.proofs.HelperWaiting.{helper_greys}

-- the cell of a snap joins
snap_taken : (list : List ℕ) (snap : Option Snap) (at : ℕ) → IsSomeAnd snap (λ s. s.cell ≡ at)
    → Contains (joined_by list (option_map (λ (s : Snap). s.cell) snap)) at
snap_taken list None at reads = absurd reads
snap_taken list (Some snap) at reads = subst (Contains (joined list snap.cell)) reads (joined_in list snap.cell)

-- what waited with a seat that was taken back waits with the mutator
view_taken : (main : MainView) (view : HelperView) (at : ℕ) → InView at view → Contains (taken_back main view).grey at
view_taken main view at (inl waits) =
    joined_by_keeps (all_joined main.grey view.grey) (option_map (λ (s : Snap). s.cell) view.snap) at
    (all_there main.grey view.grey at waits)
view_taken main view at (inr reads) = snap_taken (all_joined main.grey view.grey) view.snap at reads

-- taking a seat back leaves each grey cell waiting
return_greys : (world : World) (number : ℕ) (view : HelperView) → slice_get world.helpers number ≡ Some view
    → (at : ℕ) → Waits world at
    → Waits (after_return world number (Some view)) at
return_greys world number view there at (inl main) =
    inl (joined_by_keeps (all_joined world.main.grey view.grey) (option_map (λ (s : Snap). s.cell) view.snap) at
    (all_keep world.main.grey view.grey at main))
return_greys world number view there at (inr (inl helper)) =
    elim (any_through (InView at) (Contains (taken_back world.main view).grey at) world.helpers number view returned
    there
    (λ waits. inr (view_taken world.main view at waits)) helper) [ inl some ↦ inr (inl some) | inr main ↦ inl main ]
return_greys world number view there at (inr (inr on)) = inr (inr on)

-- lending one does
lend_greys : (world : World) (of : Event) (at : ℕ) → Waits world at → Waits (after_step world of Actor.Lends) at
lend_greys world of at (inl main) = inl main
lend_greys world of at (inr (inl (k, view, l, e, waits))) = inr (inl (
  k,
  view,
  omega (arith, length-append world.helpers (lent ∷ []), l),
  get_or_append_left world.helpers (lent ∷ []) view k l ∙ e,
  waits,
))
lend_greys world of at (inr (inr on)) = inr (inr on)

-- every step does
step_greys : (world : World) (of : Event) (by : Actor) → HasSizes world → HasCells world → HasLists world
    → HasGrey world
    → PossibleStep world of by → (at : ℕ) → colour_of (after_step world of by) at ≡ grey
    → Waits (after_step world of by) at
step_greys world of Actor.Mutator sizes cells lists greys may at is_grey = main_greys world of sizes cells lists greys
    may at is_grey
step_greys world of (Actor.Helper number) sizes cells lists greys may at is_grey =
    let v = some_and (MayStep world of) (slice_get world.helpers number) may in
    let P : Option HelperView → Type 0 = λ o. colour_of (after_helper world number of o) at ≡ grey
    → Waits (after_helper world number of o) at in
    subst P (sym v.1) (helper_greys world number v.0 of v.1 sizes lists greys
    (of_get (HasViewLists world) world.helpers number v.0 v.1 lists.helpers) v.2.may at) is_grey
step_greys world of Actor.Lends sizes cells lists greys may at is_grey = lend_greys world of at
    (grey_waits world lists greys at is_grey)
step_greys world of (Actor.Returns number) sizes cells lists greys may at is_grey =
    let v = some_and (λ (view : HelperView). IsTrue view.out) (slice_get world.helpers number) may in
    let P : Option HelperView → Type 0 = λ o. colour_of (after_return world number o) at ≡ grey
    → Waits (after_return world number o) at in
    subst P (sym v.1) (λ same. return_greys world number v.0 v.1 at (grey_waits world lists greys at same)) is_grey

-- after a possible event each grey published cell waits
pub greys_wait : (world : World) (of : Event) → HasSizes world → HasCells world → HasLists world → HasGrey world
    → Possible world of → HasGrey (after world of)
greys_wait world of sizes cells lists greys may =
    all_from (λ (at : ℕ). colour_of (after world of) at ≡ grey → Waits (after world of) at) (after world of).main.starts
    (λ at start. step_greys world of (actor of) sizes cells lists greys may at)
