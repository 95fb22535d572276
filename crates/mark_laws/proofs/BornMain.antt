-- What is born stays so through the steps of the mutator.
use Rattle.std.proofs.Common.{ℕ, ◌≢◌, ◌∙◌, inl, inr, IsTrue, List, slice_index, slice_set, All, Contains}
use Rattle.std.proofs.Common.{get_or, sym, subst, ◌==◌, eqb-true}
use Rattle.std.proofs.lemmas.Bool.{eqb-false}
use Rattle.core_parts.specs.Lists.{joined}
use Rattle.core_parts.specs.Boards.{joined_by}
use Rattle.core_parts.proofs.Joining.{decided, joined_from, joined_in, joined_keeps}
use Rattle.mark_laws.specs.Types.{Event, Actor, HelperView, World}
use Rattle.mark_world.specs.declared.event.Event.TheVariants as event
use Rattle.mark_world.specs.Pages.{EachFree, is_free, target}
use Rattle.mark_world.specs.Steps.{becomes, black, main_spot, shaded, white}
use Rattle.mark_world.specs.Conditions.{MayMain}
use Rattle.mark_world.specs.AfterEvents.{after_main, IsMarked, word_at}
use Rattle.mark_world.specs.Coverage.{colour_of}
use Rattle.mark_world.specs.Soundness.{AreIn, HasCells, HasLists, HasSizes, HasSure}
use Rattle.mark_world.specs.BornCells.{Born}
use Rattle.mark_laws.proofs.BornSlots.{Grows, StartBorn, ViewBorn, header_slots_born, layout_slots_born}
use Rattle.mark_laws.proofs.BornSlots.{owned_slots_born, slot_slots_born, slots_grow, views_born}
use Rattle.mark_laws.proofs.Colours.{step_rises, put_or_stays}
use Rattle.mark_laws.proofs.Coverage.{with_word_views}
use Rattle.mark_laws.proofs.Listing.{all_weaker, some_weaker}
use Rattle.mark_laws.proofs.Slots.{grey_before}
use Rattle.mark_laws.proofs.Stores.{free_is, free_made}

-- what is born is born after a step of the mutator
pub main_grows : (world : World) (of : Event) → Grows world (after_main world of)
main_grows world (event.NewBlack at) word born =
    some_weaker (Contains world.main.born) (Contains (joined world.main.born at)) (target world.old word)
    (λ to c. joined_keeps world.main.born at to c) born
main_grows world _ word born = born

-- a cell that was coloured by an event, or before it
coloured_born : (world : World) (born : List ℕ) (a colour at : ℕ) → ((k : ℕ) → IsMarked world k → Contains born k)
    → Contains world.main.starts at → Contains born a
    → slice_index (slice_set world.colours a colour) at ≢ white → Contains born at
coloured_born world born a colour at were start is_born coloured = elim (put_or_stays world.colours a colour at) [
  | inl same ↦ subst (Contains born) (sym same) is_born
  | inr stays ↦ were at record { start = start; coloured = λ is_white. coloured (stays ∙ is_white) }
]

-- a cell that was reached before one joined the published ones
joins_born : (world : World) → Born world → (a at : ℕ) → IsMarked (after_main world (event.NewBlack a)) at
    → colour_of world at ≢ white → Contains (joined world.main.born a) at
joins_born world born a at reached coloured = elim (decided (at == a)) [
  | inl same ↦ subst (Contains (joined world.main.born a)) (sym (eqb-true _ _ same)) (joined_in world.main.born a)
  | inr differs ↦
      let other : at ≢ a = eqb-false at a differs in
      joined_keeps world.main.born a at (born.reached at
      record { start = joined_from world.main.starts a at other reached.start; coloured = coloured })
]

-- a cell that joined the published ones
new_born : (world : World) → Born world → (a at : ℕ) → IsMarked (after_main world (event.NewBlack a)) at
    → Contains (joined world.main.born a) at
new_born world born a at reached = elim (put_or_stays world.colours a black at) [
  | inl same ↦ subst (Contains (joined world.main.born a)) (sym same) (joined_in world.main.born a)
  | inr stays ↦ joins_born world born a at reached (λ is_white. reached.coloured (stays ∙ is_white))
]

-- what is reached is born, after a step of the mutator
main_reached : (world : World) (of : Event) → Born world → MayMain world.old world.words world.layouts world.main of
    → (at : ℕ) → IsMarked (after_main world of) at → Contains (after_main world of).main.born at
main_reached world (event.ShadeMain a) born may at reached =
    coloured_born world world.main.born a (shaded (slice_index world.colours a)) at born.reached reached.start may
    reached.coloured
main_reached world (event.Blacken a) born may at reached =
    coloured_born world world.main.born a black at born.reached reached.start may reached.coloured
main_reached world (event.NewBlack a) born may at reached = new_born world born a at reached
main_reached world _ born may at reached = born.reached at record { start = reached.start; coloured = reached.coloured }

-- the slots of a free start that is left after a cell became new are those of one before
new_slots : (world : World) (a start : ℕ) → Born world
    → IsTrue (is_free (after_main world (event.NewBlack a)).main start)
    → StartBorn (after_main world (event.NewBlack a)) start
new_slots world a start born free is_born =
    let later : World = after_main world (event.NewBlack a) in
    let is = free_is later.main start free in
    let other : start ≢ a = λ e. is.1 (subst (Contains (joined world.main.mine a)) (sym e)
    (joined_in world.main.mine a)) in
    let was : IsTrue (is_free world.main start) = free_made world.main start
    (joined_from world.main.starts a start other is.0) (λ m. is.1 (joined_keeps world.main.mine a start m)) in
    slots_grow world later.main later.colours later.board later.helpers start (main_grows world (event.NewBlack a))
    (born.slots start was (joined_from world.main.born a start other is_born))

-- the slots of a free start that is left after one turned black
black_slots : (world : World) (a start : ℕ) → Born world
    → IsTrue (is_free (after_main world (event.Blacken a)).main start)
    → StartBorn (after_main world (event.Blacken a)) start
black_slots world a start born free is_born =
    let is = free_is (after_main world (event.Blacken a)).main start free in
    born.slots start (free_made world.main start is.0 (λ m. is.1 (joined_keeps world.main.mine a start m))) is_born

-- the targets of the slots of each born free start are born, after a step of the mutator
main_slots : (world : World) (of : Event) → HasCells world → HasSure world → Born world
    → MayMain world.old world.words world.layouts world.main of
    → EachFree (after_main world of).main (StartBorn (after_main world of))
main_slots world (event.StoreSlot at word) cells sure born may start free is_born =
    slot_slots_born world at word start (joined_by world.main.owed (target world.old word)) cells may free
    (born.slots start free is_born)
main_slots world (event.StoreOwned at word) cells sure born may start free is_born =
    owned_slots_born world at word start cells may free (born.slots start free is_born)
main_slots world (event.StoreHeader at word) cells sure born may start free is_born =
    header_slots_born world at word start cells sure may free (born.slots start free is_born)
main_slots world (event.AddLayout shape word) cells sure born may start free is_born =
    layout_slots_born world shape word start cells may free (born.slots start free is_born)
main_slots world (event.NewBlack a) cells sure born may start free is_born = new_slots world a start born free is_born
main_slots world (event.Blacken a) cells sure born may start free is_born = black_slots world a start born free is_born
main_slots world _ cells sure born may start free is_born = born.slots start free is_born

-- what helpers are to visit stays born
visits_grow : (world : World) (of : Event) (list : List ℕ) → AreIn world.main.born list
    → AreIn (after_main world of).main.born list
visits_grow world (event.NewBlack a) list born = λ k d l. joined_keeps world.main.born a (get_or list k d) (born k d l)
visits_grow world _ list born = born

-- a step of the mutator leaves what it should born
pub main_born : (world : World) (of : Event) → HasSizes world → HasCells world → HasLists world → HasSure world
    → Born world → MayMain world.old world.words world.layouts world.main of → Born (after_main world of)
main_born world of sizes cells lists sure born may =
    let later : World = after_main world of in
    let same = sym (with_word_views world (main_spot of) (becomes of (word_at world (main_spot of)))) in
    record {
      reached = main_reached world of born may;
      slots = main_slots world of cells sure born may;
      snaps = subst (All (ViewBorn later)) same
          (views_born world later (main_grows world of)
          (λ at reached. grey_before (colour_of world at) (colour_of later at) reached.coloured
          (step_rises world of Actor.Mutator sizes at)) lists born.snaps);
      visits = subst (All (λ (view : HelperView). AreIn later.main.born view.visit)) same
          (all_weaker (λ (view : HelperView). AreIn world.main.born view.visit)
          (λ (view : HelperView). AreIn later.main.born view.visit) world.helpers
          (λ view. visits_grow world of view.visit)
          born.visits);
    }
