-- The lists of what is published, born, made black by the mutator and sure to it only grow.
use Rattle.std.proofs.Common.{ℕ, ◌≤◌, List, [], ◌∷◌, length, Option, Some, None, Contains, slice_get}
use Rattle.std.proofs.Common.{sym, subst, arith}
use Rattle.std.proofs.lemmas.List.Elements.{All-contains, All-contains_itself}
use Rattle.core_parts.specs.Lists.{joined}
use Rattle.core_parts.proofs.Joining.{joined_keeps}
use Rattle.mark_laws.specs.Types.{Event, Actor, HelperView, MainView, World}
use Rattle.mark_world.specs.declared.event.Event.TheVariants as event
use Rattle.mark_world.specs.Pages.{targets_joined}
use Rattle.mark_world.specs.Steps.{actor, free_slot_words}
use Rattle.mark_world.specs.AfterEvents.{after, after_all, after_main, after_return, after_step, moment}
use Rattle.mark_world.specs.Soundness.{AreIn}
use Rattle.mark_laws.specs.Growing.{Grows}
use Rattle.mark_laws.proofs.Joins.{all_from, targets_keep}
use Rattle.mark_laws.proofs.Moments.{at_each_from, next_moment}
use Rattle.mark_laws.proofs.Sureness.{helper_main}

-- a list has what it has
own : (list : List ℕ) → AreIn list list
own list = All-contains_itself list

-- a list that one cell joined has what it had
with_one : (list : List ℕ) (new : ℕ) → AreIn (joined list new) list
with_one list new = all_from (Contains (joined list new)) list (joined_keeps list new)

-- so does one that targets joined
with_targets : (old : ℕ) (list words : List ℕ) → AreIn (targets_joined old list words) list
with_targets old list words = all_from (Contains (targets_joined old list words)) list (targets_keep old list words)

-- what is in a list is in one that has all of it
through : (first next last : List ℕ) → AreIn next first → AreIn last next → AreIn last first
through first next last early late =
    all_from (Contains last) first
    (λ at c. All-contains (Contains last) next at late (All-contains (Contains next) first at early c))

-- a view has grown from itself
pub grown_from_itself : (main : MainView) → Grows main main
grown_from_itself main =
    record { starts = own main.starts; born = own main.born; mine = own main.mine; sure = own main.sure }

-- what has grown twice has grown
pub grown_twice : (first next last : MainView) → Grows first next → Grows next last → Grows first last
grown_twice first next last early late = record {
  starts = through first.starts next.starts last.starts early.starts late.starts;
  born = through first.born next.born last.born early.born late.born;
  mine = through first.mine next.mine last.mine early.mine late.mine;
  sure = through first.sure next.sure last.sure early.sure late.sure;
}

-- the lists grow through a step of the mutator
main_grows : (world : World) (of : Event) → Grows world.main (after_main world of).main
main_grows world (event.ShadeMain at) = record {
  starts = own world.main.starts;
  born = own world.main.born;
  mine = own world.main.mine;
  sure = with_one world.main.sure at;
}
main_grows world (event.Blacken at) = record {
  starts = own world.main.starts;
  born = own world.main.born;
  mine = with_one world.main.mine at;
  sure = with_targets world.old world.main.sure
      (free_slot_words world.old world.words world.layouts world.main at);
}
main_grows world (event.NewBlack at) = record {
  starts = with_one world.main.starts at;
  born = with_one world.main.born at;
  mine = with_one world.main.mine at;
  sure = own world.main.sure;
}
main_grows world _ = record {
  starts = own world.main.starts;
  born = own world.main.born;
  mine = own world.main.mine;
  sure = own world.main.sure;
}

-- and where a seat is taken back
return_grows : (world : World) (number : ℕ) (view : Option HelperView)
    → Grows world.main (after_return world number view).main
return_grows world number None = grown_from_itself world.main
return_grows world number (Some view) = record {
  starts = own world.main.starts;
  born = own world.main.born;
  mine = own world.main.mine;
  sure = own world.main.sure;
}

-- and through every step
pub step_grows : (world : World) (of : Event) (by : Actor) → Grows world.main (after_step world of by).main
step_grows world of Actor.Mutator = main_grows world of
step_grows world of (Actor.Helper number) =
    subst (Grows world.main) (sym (helper_main world number of (slice_get world.helpers number)))
    (grown_from_itself world.main)
step_grows world of Actor.Lends = grown_from_itself world.main
step_grows world of (Actor.Returns number) = return_grows world number (slice_get world.helpers number)

-- no event takes a cell from the lists
pub lists_grow : (world : World) (of : Event) → Grows world.main (after world of).main
lists_grow world of = step_grows world of (actor of)

-- nor does a list of events
pub lists_grow_along : (start : World) (events : List Event) → Grows start.main (after_all start events).main
lists_grow_along start [] = grown_from_itself start.main
lists_grow_along start (of ∷ rest) =
    grown_twice start.main (after start of).main (after_all (after start of) rest).main (lists_grow start of)
    (lists_grow_along (after start of) rest)

-- from each moment to each later one
pub moments_grow : (start : World) (events : List Event) (from to : ℕ) → from ≤ to → to ≤ length events
    → Grows (moment start events from).main (moment start events to).main
moments_grow start events from to later within =
    let first : MainView = (moment start events from).main in
    at_each_from events from to (λ k. Grows first (moment start events k).main) within (grown_from_itself first)
    (λ k of begun early there before. subst (λ (world : World). Grows first world.main)
    (sym (next_moment start events k of there))
    (grown_twice first (moment start events k).main (after (moment start events k) of).main before
    (lists_grow (moment start events k) of))) to later (omega arith)
