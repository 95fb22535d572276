-- Lists of events, one after the other.
use Rattle.std.proofs.Common.{ℕ, ◌<◌, ◌+◌, ◌≡◌, true, List, [], ◌∷◌, ◌++◌, length, take, get_or}
use Rattle.std.proofs.Common.{refl, ap, sym, subst, ◌∙◌}
use Rattle.std.proofs.lemmas.List.{take_more}
use Rattle.scav_core.specs.declared.event.Event.{Event}
use Rattle.scav_core.specs.declared.world.World.{World}
use Rattle.scav_core.specs.Steps.{after}
use Rattle.scav_core.specs.Possible.{is_possible}
use Rattle.scav_core.specs.Runs.{ArePossible, after_all}

-- one event more is possible, if it is after those before it
pub possible_more : (start : World) (events : List Event) (event : Event) → ArePossible start events
    → is_possible (after_all start events) event ≡ true → ArePossible start (events ++ event ∷ [])
possible_more start [] event before is = (is, tt)
possible_more start (first ∷ events) event before is =
    (before.0, possible_more (after start first) events event before.1 is)

-- the world after one event more is that after it
pub after_more : (start : World) (events : List Event) (event : Event)
    → after_all start (events ++ event ∷ []) ≡ after (after_all start events) event
after_more start [] event = refl
after_more start (first ∷ events) event = after_more (after start first) events event

-- a list of events that are possible, and one more
pub possible_next : (start world : World) (events : List Event) (at : ℕ) (d : Event) → at < length events
    → ArePossible start (take at events) → world ≡ after_all start (take at events)
    → is_possible world (get_or events at d) ≡ true → ArePossible start (take (at + 1) events)
possible_next start world events at d within before e is =
    subst (ArePossible start) (sym (take_more events at d within))
    (possible_more start (take at events) (get_or events at d) before
    (subst (λ (w : World). is_possible w (get_or events at d) ≡ true) e is))

-- the world after one more
pub world_next : (start world next : World) (events : List Event) (at : ℕ) (d : Event) → at < length events
    → world ≡ after_all start (take at events) → next ≡ after world (get_or events at d)
    → next ≡ after_all start (take (at + 1) events)
world_next start world next events at d within e is =
    is ∙ ap (λ (w : World). after w (get_or events at d)) e
    ∙ sym (after_more start (take at events) (get_or events at d))
    ∙ ap (after_all start) (sym (take_more events at d within))
