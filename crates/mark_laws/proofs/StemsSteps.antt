-- Each snap stems from the load of a header, at each moment of events that were possible.
use Rattle.std.proofs.Common.{ℕ, ◌+◌, ◌≤◌, ◌≡◌, inl, inr, false, List, length, slice_get, Option, Some, None}
use Rattle.std.proofs.Common.{IsSomeAnd, IsTrue, refl, sym, subst}
use Rattle.mark_laws.specs.Types.{Event, Snap, Actor, HelperView, World}
use Rattle.mark_world.specs.Steps.{actor, becomes, helper_learns, helper_spot, lent, main_spot, returned}
use Rattle.mark_world.specs.Conditions.{MayHelper}
use Rattle.mark_world.specs.AfterEvents.{MayStep, PossibleStep, WerePossible, after_helper, after_return, after_step}
use Rattle.mark_world.specs.AfterEvents.{moment, word_at}
use Rattle.mark_world.specs.Soundness.{HasViewLists, Sound}
use Rattle.mark_laws.specs.Runs.{HasNoneOut}
use Rattle.mark_laws.proofs.Coverage.{with_word_views}
use Rattle.mark_laws.proofs.Joins.{of_get, some_and}
use Rattle.mark_laws.proofs.Moments.{at_each, next_moment}
use Rattle.mark_laws.proofs.PutViews.{behind_cases, put_cases}
use Rattle.mark_laws.proofs.Slots.{and_some}
use Rattle.mark_laws.proofs.SnapOrigins.{Stems, own_stems, stays_stemming}

-- a helper has a snap
abbrev pub HasSnap : World → ℕ → Snap → Type 0
HasSnap world number snap = IsSomeAnd (slice_get world.helpers number) (λ view. view.snap ≡ Some snap)

-- each snap at a moment stems from a load
abbrev pub AllStem : World → List Event → ℕ → Type 0
AllStem start events k =
    (number : ℕ) (snap : Snap) → HasSnap (moment start events k) number snap → Stems start events k number snap

-- a view's snap stems from a load
view_stems : (start : World) (events : List Event) (k number : ℕ) (view : HelperView) (snap : Snap)
    → AllStem start events k → slice_get (moment start events k).helpers number ≡ Some view → view.snap ≡ Some snap
    → Stems start events k number snap
view_stems start events k number view snap before there has =
    before number snap (and_some (λ (v : HelperView). v.snap ≡ Some snap)
    (slice_get (moment start events k).helpers number) view there has)

-- each snap after a step of a helper does
helper_stems : (start : World) (events : List Event) (k by : ℕ) (of : Event) (view : HelperView)
    → slice_get events k ≡ Some of → actor of ≡ Actor.Helper by
    → slice_get (moment start events k).helpers by ≡ Some view → MayHelper view of → AllStem start events k
    → (number : ℕ) (snap : Snap) → HasSnap (after_helper (moment start events k) by of (Some view)) number snap
    → Stems start events (k + 1) number snap
helper_stems start events k by of view there is_by had may before number snap has =
    let world : World = moment start events k in
    let next : HelperView = helper_learns world.old view of (word_at world (helper_spot view of)) in
    let v = some_and (λ (w : HelperView). w.snap ≡ Some snap)
    (slice_get (after_helper world by of (Some view)).helpers number) has in
    elim (put_cases world.helpers by next number v.0 v.1) [
      | inl own ↦ subst (λ (n : ℕ). Stems start events (k + 1) n snap) own.0
          (own_stems start events k by view of there is_by may
          (λ s e. view_stems start events k by view s before had e) snap
          (subst (λ (w : HelperView). w.snap ≡ Some snap) (sym own.1) v.2))
      | inr other ↦ stays_stemming start events k number snap
          (view_stems start events k number v.0 snap before other v.2)
    ]

-- after a seat is taken back
return_stems : (start : World) (events : List Event) (k by : ℕ) (view : HelperView) → AllStem start events k
    → (number : ℕ) (snap : Snap) → HasSnap (after_return (moment start events k) by (Some view)) number snap
    → Stems start events (k + 1) number snap
return_stems start events k by view before number snap has =
    let world : World = moment start events k in
    let v = some_and (λ (w : HelperView). w.snap ≡ Some snap)
    (slice_get (after_return world by (Some view)).helpers number) has in
    elim (put_cases world.helpers by returned number v.0 v.1) [
      | inl own ↦
          let none : None ≡ Some snap = subst (λ (w : HelperView). w.snap ≡ Some snap) (sym own.1) v.2 in cc
      | inr other ↦ stays_stemming start events k number snap
          (view_stems start events k number v.0 snap before other v.2)
    ]

-- after a seat is lent
lend_stems : (start : World) (events : List Event) (k : ℕ) (of : Event) → AllStem start events k
    → (number : ℕ) (snap : Snap) → HasSnap (after_step (moment start events k) of Actor.Lends) number snap
    → Stems start events (k + 1) number snap
lend_stems start events k of before number snap has =
    let world : World = moment start events k in
    let v = some_and (λ (w : HelperView). w.snap ≡ Some snap)
    (slice_get (after_step world of Actor.Lends).helpers number) has in
    elim (behind_cases world.helpers lent number v.0 v.1) [
      | inl own ↦
          let none : None ≡ Some snap = subst (λ (w : HelperView). w.snap ≡ Some snap) (sym own) v.2 in cc
      | inr other ↦ stays_stemming start events k number snap
          (view_stems start events k number v.0 snap before other v.2)
    ]

-- after every step
step_stems : (start : World) (events : List Event) (k : ℕ) (of : Event) (by : Actor) → slice_get events k ≡ Some of
    → actor of ≡ by → PossibleStep (moment start events k) of by → AllStem start events k
    → (number : ℕ) (snap : Snap) → HasSnap (after_step (moment start events k) of by) number snap
    → Stems start events (k + 1) number snap
step_stems start events k of Actor.Mutator there is_by may before number snap has =
    let world : World = moment start events k in
    stays_stemming start events k number snap (before number snap
    (subst (λ (hs : List HelperView). IsSomeAnd (slice_get hs number) (λ view. view.snap ≡ Some snap))
    (with_word_views world (main_spot of) (becomes of (word_at world (main_spot of)))) has))
step_stems start events k of (Actor.Helper by) there is_by may before number snap has =
    let world : World = moment start events k in
    let v = some_and (MayStep world of) (slice_get world.helpers by) may in
    helper_stems start events k by of v.0 there is_by v.1 v.2.may before number snap
    (subst (λ (o : Option HelperView). HasSnap (after_helper world by of o) number snap) v.1 has)
step_stems start events k of Actor.Lends there is_by may before number snap has =
    lend_stems start events k of before number snap has
step_stems start events k of (Actor.Returns by) there is_by may before number snap has =
    let world : World = moment start events k in
    let v = some_and (λ (view : HelperView). IsTrue view.out) (slice_get world.helpers by) may in
    return_stems start events k by v.0 before number snap
    (subst (λ (o : Option HelperView). HasSnap (after_return world by o) number snap) v.1 has)

-- where no seat is out there is no snap
none_stem : (start : World) (events : List Event) → Sound start → HasNoneOut start → AllStem start events 0
none_stem start events sound none_out number snap has =
    let v = some_and (λ (w : HelperView). w.snap ≡ Some snap) (slice_get start.helpers number) has in
    let lists : HasViewLists start v.0 = of_get (HasViewLists start) start.helpers number v.0 v.1 sound.lists.helpers in
    let out : v.0.out ≡ false = of_get (λ (w : HelperView). w.out ≡ false) start.helpers number v.0 v.1 none_out in
    let none : v.0.snap ≡ None = (lists.in_hand out).snap in
    let some : v.0.snap ≡ Some snap = v.2 in cc

-- each snap at each moment stems from a load
pub stems_along : (start : World) (events : List Event) (count : ℕ) → Sound start
    → HasNoneOut start → count ≤ length events → WerePossible start events count
    → (k : ℕ) → k ≤ count → AllStem start events k
stems_along start events count sound none_out within were =
    at_each events count (AllStem start events) within (none_stem start events sound none_out)
    (λ k of early there before number snap has.
    step_stems start events k of (actor of) there refl (were k of early there) before number snap
    (subst (λ (w : World). HasSnap w number snap) (next_moment start events k of there) has))
