-- No free start comes with an event.
use Rattle.std.proofs.Common.{ℕ, inl, inr, IsTrue, Option, Some, None, Contains, slice_get, sym, subst}
use Rattle.core_parts.specs.Lists.{joined}
use Rattle.core_parts.proofs.Joining.{joined_in, joined_from, joined_keeps}
use Rattle.mark_laws.specs.Types.{Event, Actor, HelperView, MainView, World}
use Rattle.mark_world.specs.declared.event.Event.TheVariants as event
use Rattle.mark_world.specs.Pages.{is_free}
use Rattle.mark_world.specs.Steps.{actor}
use Rattle.mark_world.specs.AfterEvents.{after, after_main, after_return, after_step}
use Rattle.mark_laws.proofs.Sureness.{helper_main}
use Rattle.mark_laws.proofs.Stores.{free_is, free_made}
use Rattle.mark_laws.proofs.Waiting.{one_or_other}

-- no start turns free where only others are published, and what the mutator made black it still has
fewer_free : (main later : MainView) (at : ℕ)
    → (Contains later.starts at → (Contains later.mine at → ⊥) → Contains main.starts at)
    → (Contains main.mine at → Contains later.mine at) → IsTrue (is_free later at) → IsTrue (is_free main at)
fewer_free main later at starts mine free =
    let is = free_is later at free in free_made main at (starts is.0 is.1) (λ had. is.1 (mine had))

-- a new cell that the mutator made black itself is no free start, so the free ones were published before
new_start : (main : MainView) (new at : ℕ) → Contains (joined main.starts new) at
    → (Contains (joined main.mine new) at → ⊥) → Contains main.starts at
new_start main new at start other = elim (one_or_other at new) [
  | inl same ↦ absurd (other (subst (Contains (joined main.mine new)) (sym same) (joined_in main.mine new)))
  | inr differs ↦ joined_from main.starts new at differs start
]

-- no start turns free by a step of the mutator
main_free : (world : World) (of : Event) (at : ℕ) → IsTrue (is_free (after_main world of).main at)
    → IsTrue (is_free world.main at)
main_free world (event.Blacken a) at free =
    fewer_free world.main (after_main world (event.Blacken a)).main at (λ start other. start)
    (joined_keeps world.main.mine a at) free
main_free world (event.NewBlack a) at free =
    fewer_free world.main (after_main world (event.NewBlack a)).main at
    (new_start world.main a at) (joined_keeps world.main.mine a at) free
main_free world _ at free = free

-- nor where a seat is taken back
return_free : (world : World) (number : ℕ) (view : Option HelperView) (at : ℕ)
    → IsTrue (is_free (after_return world number view).main at) → IsTrue (is_free world.main at)
return_free world number None at free = free
return_free world number (Some view) at free = free

-- nor by any step
pub step_free : (world : World) (of : Event) (by : Actor) (at : ℕ) → IsTrue (is_free (after_step world of by).main at)
    → IsTrue (is_free world.main at)
step_free world of Actor.Mutator at free = main_free world of at free
step_free world of (Actor.Helper number) at free =
    subst (λ (main : MainView). IsTrue (is_free main at))
    (helper_main world number of (slice_get world.helpers number)) free
step_free world of Actor.Lends at free = free
step_free world of (Actor.Returns number) at free = return_free world number (slice_get world.helpers number) at free

-- each address that is a free start after an event was one before
pub free_before : (world : World) (of : Event) (at : ℕ) → IsTrue (is_free (after world of).main at)
    → IsTrue (is_free world.main at)
free_before world of = step_free world of (actor of)
