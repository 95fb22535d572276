-- `push`, `put`, `shift` and `trunc` are carried out as the calls on elements say.
use Rattle.std.proofs.Common.{◌≡◌, ℕ, List, [], ◌∷◌, ◌++◌, Ok, Err, Some, refl, ◌∙◌, subst, ℤ}
use Rattle.std.specs.Prelude.{slice_set, take, drop}
use Rattle.std.specs.FinMap.{get}
use Rattle.heap_model.specs.Types.{Operand, Value, Held}
use Rattle.heap_command.specs.declared.command.Command.TheVariants.{Push, Put, Shift, Trunc}
use Rattle.heap_command.specs.declared.command.FaultWord.TheVariants as word
use Rattle.object_graph.specs.declared.object.Object.TheVariants as object
use Rattle.object_graph.specs.declared.value.Value.TheVariants.{Ref}
use Rattle.object_graph.specs.Graphs.{Graph, ListObject, value_of, as_list}
use Rattle.object_graph.specs.Meaning.{relist}
use Rattle.write_barrier.specs.MutatorState.{Mutator, MainShows}
use Rattle.object_cells.specs.ListObjects.{IsListAt}
use Rattle.object_cells.specs.HeldValues.{IsValueHeld}
use Rattle.object_cells.specs.declared.lists.Range.{Range}
use Rattle.array_trim.specs.Trims.{ShiftsElements, TruncatesElements}
use Rattle.list_store.specs.ListChanges.{IsShownSetting, HasPushed, PushesElement, PutsElement}
use Rattle.list_store.specs.declared.stop.PushStop.{PushStop}
use Rattle.list_store.specs.declared.stop.PushStop.TheVariants as push
use Rattle.list_store.specs.declared.stop.PutStop.{PutStop}
use Rattle.list_store.specs.declared.stop.PutStop.TheVariants as put
use Rattle.mutator.specs.Stops.{stop_of_push, stop_of_put}
use Rattle.mutator.specs.CarriesOut.{Carries}
use Rattle.mutator.specs.Reading.{StandsFor, StandForBoth, IsFoundList}
use Rattle.mutator.specs.declared.stop.Stop.TheVariants.{Fault}
use Rattle.mutator.proofs.GivenValues.{IsGiven}
use Rattle.mutator.proofs.IndexedLists.{IsIndexedList}
use Rattle.mutator.proofs.KnownObjects.{IsKnown, known_found, change_carried}
use Rattle.mutator.proofs.ListMeanings.{push_done, push_full, put_done, put_outside}
use Rattle.mutator.proofs.ListMeanings.{shift_done, shift_outside, trunc_done, trunc_outside}
use Rattle.mutator.proofs.CommandRooms.{push_need_is, put_need_is, keeps_object, keeps_push, keeps_shift, keeps_trunc}
use Rattle.mutator.proofs.Rebinding.{room_for_none}
use Rattle.mutator.proofs.StillShown.{shows_still, stands_still}

-- what is known once the list of a `push` and the value were found
pub record IsPutting (main : Mutator) (graph : Graph) (x : ℕ) (v : Operand) (at : ℕ) (one : Held) : Type 0 where
  pub list : ListObject
  pub value : Value
  pub shows : MainShows main graph
  pub known : IsKnown as_list graph x (Ref list.number) list
  pub value_is : value_of graph v ≡ Some value
  pub stands : IsListAt main graph at list
  pub held : IsValueHeld main graph one value

-- so it is once the operands were read, of a heap that is the same
pub putting_read : {old now : Mutator} {graph : Graph} {pair : Held × Held} {at : ℕ} (x : ℕ) (v : Operand)
    → now ≡ old → MainShows old graph → StandForBoth old graph (get graph.bindings x) (value_of graph v) pair
    → ((value : Value) → MainShows now graph → StandsFor now graph value pair.0 → IsFoundList now graph value at)
    → IsPutting now graph x v at pair.1
putting_read x v same shows both found =
    let shown = shows_still same shows in
    let named = found both.first shown (stands_still same both.stands_first) in
    record {
      list = named.list;
      value = both.second;
      shows = shown;
      known = known_found both.is_first named.is named.refers;
      value_is = both.is_second;
      stands = named.stands;
      held = (stands_still same both.stands_second).is;
    }

-- the call that pushes the value may be made
pub putting_shown : {main : Mutator} {graph : Graph} {x at : ℕ} {v : Operand} {one : Held}
    → IsPutting main graph x v at one → IsShownSetting main at one
putting_shown {graph = graph} putting = record {
  graph = graph;
  list = putting.list;
  value = putting.value;
  shows = putting.shows;
  is = putting.stands;
  is_held = putting.held;
}

-- an element that was pushed
pub push_carried : {old main new : Mutator} {graph : Graph} {x at : ℕ} {v : Operand} {one : Held}
    (names : List (List ℕ)) → main ≡ old
    → (putting : IsPutting main graph x v at one) → HasPushed main new graph at putting.list putting.value
    → Carries names old new graph (Push x v) [] (Ok tt)
push_carried {v = v} names same putting pushed =
    change_carried names same putting.shows pushed.shows (push_done names v putting.known putting.value_is pushed.few)
    refl refl putting.known.bound putting.stands.place pushed.changes pushed.room pushed.uses
    (λ rooms has. push_need_is has v putting.value putting.known putting.value_is putting.stands)
    (λ rooms one fewer.
    keeps_push one fewer v (putting.list.elements ++ putting.value ∷ []) putting.known putting.stands refl
    pushed.changes)

-- and one that was not
pub push_stopped : {main : Mutator} {graph : Graph} {x at : ℕ} {v : Operand} {one : Held} (new : Mutator)
    (names : List (List ℕ)) (stop : PushStop) → (putting : IsPutting main graph x v at one)
    → PushesElement main new graph at putting.list putting.value (Err stop)
    → Carries names main new graph (Push x v) [] (Err (stop_of_push stop))
push_stopped {v = v} new names push.ListFull putting pushes =
    (push_full names v putting.known putting.value_is pushes.0, pushes.1)
push_stopped {graph = graph} {v = v} new names (push.Full room) putting pushes = (
  relist graph putting.list (putting.list.elements ++ putting.value ∷ []),
  [],
  push_done names v putting.known putting.value_is pushes.0,
  λ rooms has. pushes.1 ∙ push_need_is has v putting.value putting.known putting.value_is putting.stands,
  pushes.2,
  pushes.3,
)

module _ {main : Mutator} {graph : Graph} {x at : ℕ} {i : Operand} {n told : ℤ} (names : List (List ℕ))
    (indexed : IsIndexedList main graph x i at n) (integer : told ≡ n) where
  -- an element that was put
  pub put_carried : {old new : Mutator} {v : Operand} {one : Held} → main ≡ old → (given : IsGiven main graph v one)
      → PutsElement main new graph at indexed.list told given.value (Ok tt)
      → Carries names old new graph (Put x i v) [] (Ok tt)
  put_carried {new = new} {v} same given puts =
      let list = indexed.list in
      let (place, is, has_put) =
      subst (λ (k : ℤ). PutsElement main new graph at list k given.value (Ok tt)) integer puts in
      change_carried names same indexed.shows has_put.shows (put_done names indexed.known indexed.index v given.is is)
      refl refl indexed.known.bound indexed.stands.place has_put.changes has_put.room has_put.uses
      (λ rooms has. put_need_is i v given.value indexed.known indexed.index given.is is rooms)
      (λ rooms one fewer.
      keeps_object one fewer (Put x i v) (object.List (slice_set list.elements place given.value)) _ refl
      indexed.stands.object indexed.stands.reached indexed.stands.place refl
      (one.has list.number at _ indexed.stands.object indexed.stands.reached indexed.stands.place)
      (λ number apart. refl) has_put.changes)

  -- and one that was not
  pub put_stopped : {v : Operand} {one : Held} (new : Mutator) (stop : PutStop) → (given : IsGiven main graph v one)
      → PutsElement main new graph at indexed.list told given.value (Err stop)
      → Carries names main new graph (Put x i v) [] (Err (stop_of_put stop))
  put_stopped {v} new put.Range given puts =
      let (outside, same) =
      subst (λ (k : ℤ). PutsElement main new graph at indexed.list k given.value (Err put.Range)) integer puts in
      (put_outside names indexed.known indexed.index v given.is outside, same)
  put_stopped {v} new (put.Full room) given puts =
      let (place, is, need, lacks, same) =
      subst (λ (k : ℤ). PutsElement main new graph at indexed.list k given.value (Err (put.Full room)))
      integer puts in (
        relist graph indexed.list (slice_set indexed.list.elements place given.value),
        [],
        put_done names indexed.known indexed.index v given.is is,
        λ rooms has. need ∙ put_need_is i v given.value indexed.known indexed.index given.is is rooms,
        lacks,
        same,
      )

  -- first elements that went
  pub shift_carried : {old new : Mutator} → main ≡ old → ShiftsElements main new graph at indexed.list told (Ok tt)
      → Carries names old new graph (Shift x i) [] (Ok tt)
  shift_carried {new = new} same shifts =
      let list = indexed.list in
      let (gone, is, shifted) = subst (λ (k : ℤ). ShiftsElements main new graph at list k (Ok tt)) integer shifts in
      change_carried names same indexed.shows shifted.trims.shows (shift_done names indexed.known indexed.index is) refl
      refl indexed.known.bound indexed.stands.place shifted.trims.changes (room_for_none indexed.shows)
      shifted.trims.uses (λ rooms has. refl)
      (λ rooms one fewer.
      keeps_shift one fewer i (drop gone list.elements) indexed.known indexed.index is indexed.stands refl
      shifted.trims.changes)

  -- and none that did
  pub shift_stopped : {new : Mutator} (range : Range) → ShiftsElements main new graph at indexed.list told (Err range)
      → Carries names main new graph (Shift x i) [] (Err (Fault word.Range))
  shift_stopped {new} range shifts =
      let (outside, same) =
      subst (λ (k : ℤ). ShiftsElements main new graph at indexed.list k (Err range)) integer shifts in
      (shift_outside names indexed.known indexed.index outside, same)

  -- first elements that stay alone
  pub trunc_carried : {old new : Mutator} → main ≡ old → TruncatesElements main new graph at indexed.list told (Ok tt)
      → Carries names old new graph (Trunc x i) [] (Ok tt)
  trunc_carried {new = new} same truncates =
      let list = indexed.list in
      let (kept, is, cut) = subst (λ (k : ℤ). TruncatesElements main new graph at list k (Ok tt)) integer truncates in
      change_carried names same indexed.shows cut.trims.shows (trunc_done names indexed.known indexed.index is) refl
      refl indexed.known.bound indexed.stands.place cut.trims.changes (room_for_none indexed.shows) cut.trims.uses
      (λ rooms has. refl)
      (λ rooms one fewer.
      keeps_trunc one fewer i (take kept list.elements) indexed.known indexed.index is indexed.stands refl
      cut.trims.changes)

  -- and all that do
  pub trunc_stopped : {new : Mutator} (range : Range)
      → TruncatesElements main new graph at indexed.list told (Err range)
      → Carries names main new graph (Trunc x i) [] (Err (Fault word.Range))
  trunc_stopped {new} range truncates =
      let (outside, same) =
      subst (λ (k : ℤ). TruncatesElements main new graph at indexed.list k (Err range)) integer truncates in
      (trunc_outside names indexed.known indexed.index outside, same)

-- the call that puts the value may be made
pub indexed_setting : {main : Mutator} {graph : Graph} {x at : ℕ} {i v : Operand} {n : ℤ} {one : Held}
    → IsIndexedList main graph x i at n → IsGiven main graph v one → IsShownSetting main at one
indexed_setting {graph = graph} indexed given = record {
  graph = graph;
  list = indexed.list;
  value = given.value;
  shows = indexed.shows;
  is = indexed.stands;
  is_held = given.held;
}
