-- Which cells stand after a command: those that stood before, and those of objects that can be reached then.
use Rattle.std.proofs.Common.{◌≡◌, ◌∙◌, ℕ, ◌<◌, List, [], ◌∷◌, length, inl, inr, IsTrue}
use Rattle.std.proofs.Common.{sym, ap, subst, arith, length-append}
use Rattle.std.specs.FinMap.{get}
use Rattle.std.proofs.lemmas.Option.{option_and_then_some}
use Rattle.tagged_word.proofs.Members.{first_in, one_in}
use Rattle.handle_roots.specs.declared.held.Held.TheVariants as held
use Rattle.graph_laws.specs.Laws.{MayChange, changes}
use Rattle.graph_laws.proofs.Reaches.{reach_has_bound}
use Rattle.heap_model.specs.Types.{Cell, Command, Object, Held}
use Rattle.heap_model.specs.Heaps.{Heap, HasCell, words_of_cell}
use Rattle.heap_model.specs.Laws.{bound}
use Rattle.heap_model.specs.Showing.{ShowsObject}
use Rattle.heap_model.specs.Slots.{IsPlace}
use Rattle.heap_model.specs.Wholeness.{Whole}
use Rattle.heap_model.proofs.AnewBindings.{get-insert_same}
use Rattle.heap_model.proofs.BoundHeaps.{none_in, bound_keeps, bound_moves}
use Rattle.heap_model.proofs.CellsApart.{one_at}
use Rattle.heap_model.proofs.ShownObjects.{object_of_shown}
use Rattle.live_cells.specs.Laws.{BelongsToReached}
use Rattle.object_cells.specs.Capacities.{IsOldOrOwn}
use Rattle.object_graph.specs.declared.value.Value.TheVariants.{Ref}
use Rattle.object_graph.specs.Graphs.{Graph, make}
use Rattle.object_graph.specs.Reach.{is_marked, reach}
use Rattle.write_barrier.specs.MutatorState.{Mutator, heap_of}
use Rattle.mutator.specs.Changing.{MayStandAfter, MakesNoOtherCell}
use Rattle.mutator.proofs.NewCells.{NewCell, cell_of}
use Rattle.mutator.proofs.PutCells.{IsPutCell}

-- where nothing has changed, each cell stood
pub still_stands : {old new : Mutator} (after : Graph) → new ≡ old
    → MakesNoOtherCell (heap_of old) (heap_of new) after
still_stands after same cell words has =
    MayStandAfter.stood (subst (λ (main : Mutator). HasCell (heap_of main) cell words) same has)

-- a cell of a heap in which a variable was bound anew stood before that
unbound_stood : {heap : Heap} (x : ℕ) (one : Held) {cell : Cell} {words : List ℕ} → x < heap.space.variables
    → Whole heap → HasCell (bound heap x one) cell words → HasCell heap cell words
unbound_stood {heap} x one {cell} {words} below whole has =
    elim ((bound_moves heap x one below whole).cells.back cell words has) [
      | inl comes ↦ absurd (none_in cell comes)
      | inr stays ↦ stays.0
    ]

-- so each cell stood
pub bound_stands : {heap new : Heap} (after : Graph) (x : ℕ) (one : Held) → x < heap.space.variables → Whole heap
    → new ≡ bound heap x one → MakesNoOtherCell heap new after
bound_stands after x one below whole is cell words has =
    MayStandAfter.stood (unbound_stood x one below whole (subst (λ h. HasCell h cell words) is has))

-- the object that a command may change can be reached where variables are bound as before
pub changed_is_reached : (graph after : Graph) (command : Command) (number : ℕ) → MayChange graph command number
    → after.bindings ≡ graph.bindings → number < length after.objects → IsTrue (is_marked (reach after) number)
changed_is_reached graph after command number may same below =
    option_and_then_some (λ x. get graph.bindings x) (changes command) (Ref number) may
    (λ x names is. reach_has_bound after x number below (ap (λ bindings. get bindings x) same ∙ is))

-- where a cell that did not stand is free or a box, or belongs to the object at the address, which can be reached, no
-- other cell stands
pub own_stands : {old new : Heap} {after : Graph} {number at : ℕ} → IsPlace new number at
    → IsTrue (is_marked (reach after) number)
    → ((cell : Cell) (words : List ℕ) → HasCell new cell words → IsOldOrOwn old new at cell words)
    → MakesNoOtherCell old new after
own_stands {new = new} {after} {number} {at} place marked cells cell words has = elim (cells cell words has) [
  | IsOldOrOwn.stood stood ↦ MayStandAfter.stood stood
  | IsOldOrOwn.free free ↦ MayStandAfter.free free
  | IsOldOrOwn.boxed boxed ↦ MayStandAfter.boxed boxed
  | IsOldOrOwn.itself is ↦
      MayStandAfter.reached (BelongsToReached.place number (subst (IsPlace new number) (sym is) place) marked)
  | IsOldOrOwn.named owner slot is names ↦
      let same : place.cell ≡ owner = one_at place.has names.has (place.stands ∙ sym is) in
      let carries : number ≡ owner.header.object = sym place.carries ∙ ap (λ (c : Cell). c.header.object) same in
      MayStandAfter.reached
      (BelongsToReached.named owner slot names (subst (λ n. IsTrue (is_marked (reach after) n)) carries marked))
]

-- an object that was made can be reached
made_is_reached : (graph : Graph) (x : ℕ) (what : Object)
    → IsTrue (is_marked (reach (make graph x what)) (length graph.objects))
made_is_reached graph x what =
    reach_has_bound (make graph x what) x (length graph.objects)
    (omega (arith, length-append graph.objects (what ∷ [])))
    (get-insert_same graph.bindings x (Ref (length graph.objects)))

-- where the cell of an object was put and a variable bound to it, no cell stands that did not, but the object's
pub put_stands : {heap now : Heap} {at : ℕ} {one : NewCell} (graph : Graph) (x : ℕ) (what : Object)
    → IsPutCell heap now at one → x < now.space.variables → one.header.object ≡ length graph.objects
    → ShowsObject now (reach (make graph x what)) (cell_of at one) (words_of_cell now (cell_of at one)) what
    → MakesNoOtherCell heap (bound now x (held.Ref at)) (make graph x what)
put_stands {now = now} {at} {one} graph x what put below carries shows cell words has =
    let made : Cell = cell_of at one in
    elim (put.cells.back cell words (unbound_stood x (held.Ref at) below put.whole has)) [
      | inl among ↦
          let same : made ≡ cell = one_in made cell among in
          let place : IsPlace (bound now x (held.Ref at)) (length graph.objects) cell.at = record {
            cell = made;
            words = words_of_cell now made;
            has = bound_keeps now x (held.Ref at) below put.whole (put.cells.comes made (first_in made []));
            stands = ap (λ (c : Cell). c.at) same;
            object = object_of_shown now (reach (make graph x what)) made (words_of_cell now made) what shows;
            carries = carries;
          } in
          MayStandAfter.reached (BelongsToReached.place (length graph.objects) place (made_is_reached graph x what))
      | inr stays ↦ MayStandAfter.stood stays.0
    ]
