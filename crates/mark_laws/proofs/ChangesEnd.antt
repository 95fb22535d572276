-- What the mutator's part is behind a list of events with changes of cells.
use Rattle.std.proofs.Common.{ℕ, ◌≡◌, inl, inr, List, [], ◌∷◌, All, Contains}
use Rattle.std.proofs.Common.{Option, None, Some, slice_get, refl, sym, subst, arith}
use Rattle.std.proofs.lemmas.List.{append-nil}
use Rattle.tagged_word.proofs.Members.{in_cases}
use Rattle.core_parts.specs.Lists.{joined}
use Rattle.core_parts.proofs.Joining.{joined_in, joined_keeps}
use Rattle.core_parts.proofs.Leaving.{left_keeps}
use Rattle.mark_laws.specs.Types.{Event, Actor, HelperView, World}
use Rattle.mark_world.specs.declared.event.Event.TheVariants as event
use Rattle.mark_world.specs.Pages.{target}
use Rattle.mark_world.specs.Steps.{actor, becomes, main_spot}
use Rattle.mark_world.specs.AfterEvents.{after, after_all, after_main, after_return, after_step, word_at}
use Rattle.mark_world.specs.Unfinished.{HasSureOrOwed, IsSureOrOwed, SettledBut, SettlingBut, made_after_all}
use Rattle.mark_laws.specs.Changes.{ChangesKeep, ChangesSettle, HasEnded, LeavesDone, StoredIsSure, steps_of}
use Rattle.mark_laws.specs.LayoutChanges.{LayoutChangesSettle, changed}
use Rattle.mark_laws.proofs.BetweenRuns.{settling_along}
use Rattle.mark_laws.proofs.ChangeSteps.{made_by_steps}
use Rattle.mark_laws.proofs.Changes.{apart_is_spared}
use Rattle.mark_laws.proofs.Joins.{all_from, all_keep, joined_by_keeps}
use Rattle.mark_laws.proofs.RestartSettles.{all_done_leave}
use Rattle.mark_laws.proofs.Settled.{done_settling, either_is_sure, more_may_be_made, settling_done}
use Rattle.mark_laws.proofs.Settling.{KeepsPromises, word_keeps}
use Rattle.mark_laws.proofs.SettlingSteps.{black_promises, helper_promises}
use Rattle.mark_laws.proofs.StoredSlots.{owed_target}
use Rattle.mark_laws.proofs.Listing.{some_weaker, with_word_old}
use Rattle.mark_laws.proofs.SamePages.{helper_pages, return_pages}
use Rattle.mark_laws.proofs.Waiting.{one_or_other}

-- the mutator's part stays under way but for the cells that are made and changed
pub changes_keep : ChangesKeep
changes_keep world made events whole has were leave =
    subst (SettlingBut (after_all world events)) (sym (made_by_steps made events))
    (settling_along world made events whole has (apart_is_spared world made events were leave))

-- so it is done once the changes have ended
pub changes_settle : ChangesSettle
changes_settle world made events whole done were leave ended =
    let later : World = after_all world events in
    let cells : List ℕ = made_after_all made (steps_of events) in
    let begun : SettlingBut world made =
    more_may_be_made world [] made (all_from (Contains made) [] (λ at c. absurd (omega (arith, c.1))))
    (done_settling world [] done) in
    let goes : SettlingBut later cells = changes_keep world made events whole begun were leave in
    all_done_leave later cells [] ended.done
    (subst (SettledBut later) (sym (append-nil cells)) (settling_done later cells ended.owed goes))

-- so it is with each change of a layout
pub layout_changes_settle : LayoutChangesSettle
layout_changes_settle world change events is whole done were leave ended =
    changes_settle world (changed change) events whole done were
    (subst (All (LeavesDone world (changed change))) (sym is) leave)
    (subst (λ (list : List Event). HasEnded (after_all world events) (made_after_all (changed change) list)) (sym is)
    ended)

-- what the mutator is sure of or owes stays so through a step of its own
main_promises : (world : World) (of : Event) → KeepsPromises world (after_main world of)
main_promises world (event.StoreSlot at word) to (inl is_sure) = inl is_sure
main_promises world (event.StoreSlot at word) to (inr owed) =
    inr (joined_by_keeps world.main.owed (target world.old word) to owed)
main_promises world (event.ShadeMain at) to (inl is_sure) = inl (joined_keeps world.main.sure at to is_sure)
main_promises world (event.ShadeMain at) to (inr owed) = elim (one_or_other to at) [
  | inl same ↦ inl (subst (Contains (joined world.main.sure at)) (sym same) (joined_in world.main.sure at))
  | inr other ↦ inr (left_keeps world.main.owed at to other owed)
]
main_promises world (event.Blacken at) to p = black_promises world at to p
main_promises world _ to p = p

-- and where a seat is taken back
return_promises : (world : World) (number : ℕ) (view : Option HelperView)
    → KeepsPromises world (after_return world number view)
return_promises world number None to p = p
return_promises world number (Some view) to (inl is_sure) = inl is_sure
return_promises world number (Some view) to (inr owed) = inr (all_keep world.main.owed view.visit to owed)

-- and through every step
step_promises : (world : World) (of : Event) (by : Actor) → KeepsPromises world (after_step world of by)
step_promises world of Actor.Mutator = main_promises world of
step_promises world of (Actor.Helper number) = helper_promises world number of (slice_get world.helpers number)
step_promises world of Actor.Lends = λ to p. p
step_promises world of (Actor.Returns number) = return_promises world number (slice_get world.helpers number)

-- no step changes how many words are old
step_old : (world : World) (of : Event) (by : Actor) → (after_step world of by).old ≡ world.old
step_old world of Actor.Mutator = with_word_old world (main_spot of) (becomes of (word_at world (main_spot of)))
step_old world of (Actor.Helper number) = (helper_pages world number of (slice_get world.helpers number)).old
step_old world of Actor.Lends = refl
step_old world of (Actor.Returns number) = (return_pages world number (slice_get world.helpers number)).old

-- a word with a sure or owed target has one behind a list of events
word_along : (world : World) (events : List Event) (word : ℕ) → HasSureOrOwed world word
    → HasSureOrOwed (after_all world events) word
word_along world [] word has = has
word_along world (of ∷ rest) word has =
    word_along (after world of) rest word
    (word_keeps world (after world of) word (step_old world of (actor of)) (step_promises world of (actor of)) has)

-- the target of a word that is stored in a slot is owed
stored_owed : (world : World) (at word : ℕ) → HasSureOrOwed (after_main world (event.StoreSlot at word)) word
stored_owed world at word =
    let later : World = after_main world (event.StoreSlot at word) in
    some_weaker (Contains later.main.owed) (IsSureOrOwed later) (target world.old word) (λ to owed. inr owed)
    (owed_target world.main.owed (target world.old word))

-- so it is behind each list of events in which the word is stored
stored_along : (world : World) (events : List Event) (at word : ℕ) → Contains events (event.StoreSlot at word)
    → HasSureOrOwed (after_all world events) word
stored_along world [] at word c = absurd (omega (arith, c.1))
stored_along world (of ∷ rest) at word c = elim (in_cases of rest (event.StoreSlot at word) c) [
  | inl first ↦ word_along (after world of) rest word
      (subst (λ (e : Event). HasSureOrOwed (after world e) word) (sym first) (stored_owed world at word))
  | inr later ↦ stored_along (after world of) rest at word later
]

-- it is sure once nothing is owed
pub stored_is_sure : StoredIsSure
stored_is_sure world events at word c none =
    either_is_sure (after_all world events) none word (stored_along world events at word c)
