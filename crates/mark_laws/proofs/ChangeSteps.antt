-- Steps of changes among a list of events: what they store, and the cells that they make.
use Rattle.std.proofs.Common.{ℕ, ◌≡◌, ◌∙◌, List, [], ◌∷◌, All}
use Rattle.std.proofs.Common.{slice_get}
use Rattle.std.proofs.Common.{refl, sym, ap}
use Rattle.std.proofs.lemmas.List.Elements.{All-head, All-tail}
use Rattle.mark_laws.specs.Types.{Event, Actor, World}
use Rattle.mark_world.specs.declared.event.Event.TheVariants as event
use Rattle.mark_world.specs.Steps.{actor}
use Rattle.mark_world.specs.AfterEvents.{after, after_main}
use Rattle.mark_world.specs.AfterEvents.{after_step}
use Rattle.mark_world.specs.Unfinished.{made_after, made_after_all}
use Rattle.mark_laws.specs.Changes.{LeavesDone, WordsAreStored, all_stored, steps_of, stored}
use Rattle.mark_laws.proofs.SamePages.{helper_pages, return_pages}

-- a step of the mutator stores what it says
main_stores : (world : World) (of : Event) → (after_main world of).words ≡ stored world.words of
main_stores world (event.StoreSlot at word) = refl
main_stores world _ = refl

-- no other event stores a word
other_stores : (words : List ℕ) (of : Event) (by : Actor) → actor of ≡ by → (by ≡ Actor.Mutator → ⊥)
    → stored words of ≡ words
other_stores words (event.StoreSlot at word) by is other = absurd (other (sym is))
other_stores words (event.StoreOwned at word) by is other = absurd (other (sym is))
other_stores words (event.StoreHeader at word) by is other = absurd (other (sym is))
other_stores words _ by is other = refl

-- each event stores what it says
step_stores : (world : World) (of : Event) (by : Actor) → actor of ≡ by
    → (after_step world of by).words ≡ stored world.words of
step_stores world of Actor.Mutator is = main_stores world of
step_stores world of (Actor.Helper number) is =
    (helper_pages world number of (slice_get world.helpers number)).words
    ∙ sym (other_stores world.words of (Actor.Helper number) is (λ e. absurd (cc)))
step_stores world of Actor.Lends is = sym (other_stores world.words of Actor.Lends is (λ e. absurd (cc)))
step_stores world of (Actor.Returns number) is =
    (return_pages world number (slice_get world.helpers number)).words
    ∙ sym (other_stores world.words of (Actor.Returns number) is (λ e. absurd (cc)))

-- an event that is no step of a change stores nothing
stored_first : (words : List ℕ) (of : Event) (rest : List Event)
    → all_stored words (steps_of (of ∷ rest)) ≡ all_stored (stored words of) (steps_of rest)
stored_first words (event.StoreSlot at word) rest = refl
stored_first words _ rest = refl

-- the words of a world change by the steps of changes alone
pub words_are_stored : WordsAreStored
words_are_stored world [] = refl
words_are_stored world (of ∷ rest) =
    words_are_stored (after world of) rest
    ∙ ap (λ (words : List ℕ). all_stored words (steps_of rest)) (step_stores world of (actor of) refl)
    ∙ sym (stored_first world.words of rest)

-- an event that is no step of a change makes no cell
made_first : (made : List ℕ) (of : Event) (rest : List Event)
    → made_after_all made (steps_of (of ∷ rest)) ≡ made_after_all (made_after made of) (steps_of rest)
made_first made (event.NewBlack at) rest = refl
made_first made _ rest = refl

-- the cells that are made come by the steps alone
pub made_by_steps : (made : List ℕ) (events : List Event)
    → made_after_all made (steps_of events) ≡ made_after_all made events
made_by_steps made [] = refl
made_by_steps made (of ∷ rest) = made_first made of rest ∙ made_by_steps (made_after made of) rest

-- what is no step leaves alone what the mutator is done with
pub step_leaves : (world : World) (made : List ℕ) (of : Event) (rest : List Event)
    → All (LeavesDone world made) (steps_of (of ∷ rest))
    → LeavesDone world made of × All (LeavesDone world made) (steps_of rest)
step_leaves world made (event.StoreSlot at word) rest each =
    let of : Event = event.StoreSlot at word in
    (All-head (LeavesDone world made) of (steps_of rest) each, All-tail (LeavesDone world made) of (steps_of rest) each)
step_leaves world made (event.StoreOwned at word) rest each =
    let of : Event = event.StoreOwned at word in
    (All-head (LeavesDone world made) of (steps_of rest) each, All-tail (LeavesDone world made) of (steps_of rest) each)
step_leaves world made (event.StoreHeader at word) rest each =
    let of : Event = event.StoreHeader at word in
    (All-head (LeavesDone world made) of (steps_of rest) each, All-tail (LeavesDone world made) of (steps_of rest) each)
step_leaves world made (event.AddLayout shape word) rest each =
    (tt, All-tail (LeavesDone world made) (event.AddLayout shape word) (steps_of rest) each)
step_leaves world made (event.Blacken at) rest each =
    let of : Event = event.Blacken at in
    (All-head (LeavesDone world made) of (steps_of rest) each, All-tail (LeavesDone world made) of (steps_of rest) each)
step_leaves world made (event.NewBlack at) rest each =
    (tt, All-tail (LeavesDone world made) (event.NewBlack at) (steps_of rest) each)
step_leaves world made _ rest each = (tt, each)
