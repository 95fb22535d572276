-- The tagged slots of black free starts stay covered.
use Rattle.tagged_word.proofs.Cells.{some_same}
use Rattle.std.proofs.Common.{ℕ, ◌+◌, ◌≡◌, ◌∙◌, inl, inr, IsTrue, List, Option, Some, None, IsSomeAnd, Contains}
use Rattle.std.proofs.Common.{slice_get, slice_index, refl, sym, subst}
use Rattle.mark_laws.specs.Types.{Reading, Event, Actor, HelperView, MainView, World}
use Rattle.mark_world.specs.Pages.{is_free, slots_of}
use Rattle.mark_world.specs.Steps.{actor}
use Rattle.mark_world.specs.Conditions.{MayHelper, MayMain}
use Rattle.mark_world.specs.AfterEvents.{after, after_helper, after_main, after_return, after_step, MayStep, Possible}
use Rattle.mark_world.specs.AfterEvents.{PossibleStep}
use Rattle.mark_world.specs.Coverage.{EachSlot, HasCovered, IsCovered, cell_of}
use Rattle.mark_world.specs.Soundness.{HasBlack, HasCells, HasLists, HasSizes, HasSnaps, HasSure}
use Rattle.mark_world.specs.BornCells.{Born}
use Rattle.mark_laws.proofs.Blacks.{helper_black, main_black}
use Rattle.mark_laws.proofs.Coverage.{step_covers}
use Rattle.mark_laws.proofs.FreeStarts.{step_free}
use Rattle.mark_laws.proofs.Joins.{of_slot, some_and}
use Rattle.mark_laws.proofs.SamePages.{SamePages, helper_pages, return_pages, same_cells}
use Rattle.mark_laws.proofs.SettledSlots.{settle_slots}
use Rattle.mark_laws.proofs.Slots.{each_slot}
use Rattle.mark_laws.proofs.Starts.{value_of}
use Rattle.mark_laws.proofs.StoredSlots.{main_slots, same_covered}
use Rattle.mark_laws.proofs.Sureness.{helper_main}

-- a step of the mutator leaves them covered
main_blacks : (world : World) (of : Event) → HasCells world → HasSure world → HasBlack world
    → MayMain world.old world.words world.layouts world.main of
    → ((a : ℕ) → IsCovered world a → IsCovered (after_main world of) a) → HasBlack (after_main world of)
main_blacks world of cells sure blacks may keeps start free is_black =
    let later : World = after_main world of in
    let free_then = step_free world of Actor.Mutator start free in
    let was = value_of (cell_of world start) (cells.read start free_then) in
    each_slot later start (λ o. HasCovered later) (λ now f offset c.
    main_slots world of cells sure may keeps start free_then was.0 now was.1 f
    (blacks start free_then (main_black world of start free is_black)) offset c)

-- slots that were covered are so in a world with the same pages
same_slots : (world later : World) → SamePages world later → ((a : ℕ) → IsCovered world a → IsCovered later a)
    → (start : ℕ) (cell : Reading) → cell_of world start ≡ Some cell
    → ((offset : ℕ) → Contains (slots_of cell) offset → HasCovered later (slice_index world.words (start + offset)))
    → EachSlot later start (λ offset. HasCovered later)
same_slots world later same keeps start cell e each =
    each_slot later start (λ o. HasCovered later) (λ now f offset c.
    let is : now ≡ cell = some_same f (same_cells world later same start ∙ e) in
    subst (λ (words : List ℕ). HasCovered later (slice_index words (start + offset))) (sym same.words)
    (each offset (subst (λ (r : Reading). Contains (slots_of r) offset) is c)))

-- where the colours and the free starts are those of before too
same_blacks : (world later : World) → SamePages world later → ((a : ℕ) → IsCovered world a → IsCovered later a)
    → HasCells world → (start : ℕ) → IsTrue (is_free world.main start)
    → EachSlot world start (λ offset. HasCovered world) → EachSlot later start (λ offset. HasCovered later)
same_blacks world later same keeps cells start free each =
    let was = value_of (cell_of world start) (cells.read start free) in
    same_slots world later same keeps start was.0 was.1 (λ offset c.
    same_covered world later (slice_index world.words (start + offset)) (slice_index world.words (start + offset))
    refl same.old
    keeps (of_slot world start offset was.0 (λ o. HasCovered world) was.1 c each))

-- a step of a helper leaves them covered
helper_blacks : (world : World) (number : ℕ) (of : Event) (view : HelperView) → HasCells world → HasBlack world
    → HasSnaps world → slice_get world.helpers number ≡ Some view → MayHelper view of
    → ((a : ℕ) → IsCovered world a → IsCovered (after_helper world number of (Some view)) a)
    → HasBlack (after_helper world number of (Some view))
helper_blacks world number of view cells blacks snaps there may keeps start free is_black =
    let later : World = after_helper world number of (Some view) in
    let same = helper_pages world number of (Some view) in
    let free_then : IsTrue (is_free world.main start) =
    subst (λ (main : MainView). IsTrue (is_free main start)) (helper_main world number of (Some view)) free in
    let was = value_of (cell_of world start) (cells.read start free_then) in
    elim (helper_black world number view of start is_black) [
      | inl before ↦ same_blacks world later same keeps cells start free_then (blacks start free_then before)
      | inr settles ↦ same_slots world later same keeps start was.0 was.1
          (settle_slots world number view of snaps there may same.old keeps start settles was.0 was.1)
    ]

-- a step of a helper that may make it
step_of_helper : (world : World) (number : ℕ) (of : Event) → HasCells world → HasBlack world → HasSnaps world
    → IsSomeAnd (slice_get world.helpers number) (MayStep world of)
    → ((a : ℕ) → IsCovered world a → IsCovered (after_helper world number of (slice_get world.helpers number)) a)
    → HasBlack (after_helper world number of (slice_get world.helpers number))
step_of_helper world number of cells blacks snaps may keeps =
    let v = some_and (MayStep world of) (slice_get world.helpers number) may in
    subst (λ (o : Option HelperView). ((a : ℕ) → IsCovered world a → IsCovered (after_helper world number of o) a)
    → HasBlack (after_helper world number of o)) (sym v.1)
    (helper_blacks world number of v.0 cells blacks snaps v.1 v.2.may) keeps

-- a seat that is taken back
return_blacks : (world : World) (number : ℕ) (view : Option HelperView) → HasCells world → HasBlack world
    → ((a : ℕ) → IsCovered world a → IsCovered (after_return world number view) a)
    → HasBlack (after_return world number view)
return_blacks world number None cells blacks keeps = blacks
return_blacks world number (Some view) cells blacks keeps =
    λ start free is_black. same_blacks world (after_return world number (Some view))
    (return_pages world number (Some view)) keeps cells start free (blacks start free is_black)

-- every step leaves them covered
step_blackness : (world : World) (of : Event) (by : Actor) → HasSizes world → HasCells world → HasLists world
    → HasSure world → HasBlack world → HasSnaps world → Born world → PossibleStep world of by
    → HasBlack (after_step world of by)
step_blackness world of Actor.Mutator sizes cells lists sure blacks snaps born may =
    main_blacks world of cells sure blacks may (step_covers world of Actor.Mutator sizes cells lists born may)
step_blackness world of (Actor.Helper number) sizes cells lists sure blacks snaps born may =
    step_of_helper world number of cells blacks snaps may
    (step_covers world of (Actor.Helper number) sizes cells lists born may)
step_blackness world of Actor.Lends sizes cells lists sure blacks snaps born may =
    λ start free is_black. same_blacks world (after_step world of Actor.Lends)
    (record { old = refl; words = refl; layouts = refl })
    (step_covers world of Actor.Lends sizes cells lists born may) cells
    start free (blacks start free is_black)
step_blackness world of (Actor.Returns number) sizes cells lists sure blacks snaps born may =
    return_blacks world number (slice_get world.helpers number) cells blacks
    (step_covers world of (Actor.Returns number) sizes cells lists born may)

-- after a possible event the tagged slots of black free starts are covered
pub black_stays : (world : World) (of : Event) → HasSizes world → HasCells world → HasLists world → HasSure world
    → HasBlack world → HasSnaps world → Born world → Possible world of → HasBlack (after world of)
black_stays world of = step_blackness world of (actor of)
