-- `wput` and `wdel` are carried out as the calls on entries say.
use Rattle.std.proofs.Common.{◌≡◌, ℕ, false, List, [], Ok, Err, Some, refl, sym, ◌∙◌, ap, subst}
use Rattle.std.specs.Prelude.{option_and_then}
use Rattle.std.specs.FinMap.{get}
use Rattle.heap_model.specs.Types.{Operand, Value, Held}
use Rattle.heap_command.specs.declared.command.Command.TheVariants.{WPut, WDel}
use Rattle.object_graph.specs.declared.value.Value.TheVariants.{Ref}
use Rattle.object_graph.specs.Objects.{with_entry}
use Rattle.object_graph.specs.Graphs.{Graph, WeakObject, value_of, object_in, as_weak}
use Rattle.object_graph.specs.Meaning.{no_entry_for, reweave}
use Rattle.object_graph.specs.Reach.{reach}
use Rattle.heap_model.specs.Needs.{count_at}
use Rattle.heap_model.specs.Rooms.{Room, IsMapFull}
use Rattle.live_cells.proofs.PairCounts.{maps_have_reached_keys}
use Rattle.write_barrier.specs.MutatorState.{Mutator, heap_of, MainShows}
use Rattle.ephemeron_table.specs.WeakObjects.{IsWeakAt, IsKeyAt, IsShownKey, IsShownPutting}
use Rattle.ephemeron_table.specs.EntryChanges.{map_room, HasPutEntry, PutsEntry, DeletesEntry}
use Rattle.ephemeron_table.specs.declared.stop.TableStop.{TableStop}
use Rattle.ephemeron_table.specs.declared.stop.TableStop.TheVariants as table
use Rattle.mutator.specs.Stops.{stop_of_table}
use Rattle.mutator.specs.CarriesOut.{Carries}
use Rattle.mutator.specs.Reading.{StandsFor, StandForBoth, IsFoundWeak, IsFoundKey}
use Rattle.mutator.proofs.GivenValues.{IsGiven}
use Rattle.mutator.proofs.KnownObjects.{IsKnown, known_found, known_is, change_carried}
use Rattle.mutator.proofs.Rebinding.{room_for_none}
use Rattle.mutator.proofs.StillShown.{shows_still, stands_still}
use Rattle.mutator.proofs.WeakMeanings.{has_test, wput_done, wdel_done}
use Rattle.mutator.proofs.CommandRooms.{wput_need_is}
use Rattle.mutator.proofs.EntryRooms.{keeps_wput, keeps_wdel}

-- what is known once the weak map of a command and the key were found
pub record IsEntering (main : Mutator) (graph : Graph) (m : ℕ) (k : Operand) (at key : ℕ) : Type 0 where
  pub weak : WeakObject
  pub number : ℕ
  pub shows : MainShows main graph
  pub known : IsKnown as_weak graph m (Ref weak.number) weak
  pub named : value_of graph k ≡ Some (Ref number)
  pub stands : IsWeakAt main graph at weak
  pub key_stands : IsKeyAt main graph key number

-- so it is once the operands were read, of a heap that is the same
pub entering_read : {old now : Mutator} {graph : Graph} {pair : Held × Held} {at key : ℕ} (m : ℕ) (k : Operand)
    → now ≡ old → MainShows old graph → StandForBoth old graph (get graph.bindings m) (value_of graph k) pair
    → ((value : Value) → MainShows now graph → StandsFor now graph value pair.0 → IsFoundWeak now graph value at)
    → ((value : Value) → StandsFor now graph value pair.1 → IsFoundKey now graph value key)
    → IsEntering now graph m k at key
entering_read m k same shows both found which =
    let shown = shows_still same shows in
    let named = found both.first shown (stands_still same both.stands_first) in
    let key = which both.second (stands_still same both.stands_second) in
    record {
      weak = named.weak;
      number = key.number;
      shows = shown;
      known = known_found both.is_first named.is named.refers;
      named = both.is_second ∙ ap (λ one. Some one) key.is;
      stands = named.stands;
      key_stands = key.stands;
    }

-- the call on the entry may be made
pub entering_shown : {main : Mutator} {graph : Graph} {m at key : ℕ} {k : Operand}
    → IsEntering main graph m k at key → IsShownKey main at key
entering_shown {graph = graph} entering = record {
  graph = graph;
  weak = entering.weak;
  number = entering.number;
  shows = entering.shows;
  is = entering.stands;
  is_key = entering.key_stands;
}

-- the call that puts the value may be made
pub putting_entry_shown : {main : Mutator} {graph : Graph} {m at key : ℕ} {k v : Operand} {one : Held}
    → IsEntering main graph m k at key → IsGiven main graph v one → IsShownPutting main at key one
putting_entry_shown {graph = graph} entering given = record {
  graph = graph;
  weak = entering.weak;
  number = entering.number;
  value = given.value;
  shows = entering.shows;
  is = entering.stands;
  is_key = entering.key_stands;
  is_held = given.held;
}

-- a map that is not full of pairs for a key takes an entry for it: no more of its keys can be reached than there are
-- pairs
takes_entry : {main : Mutator} {graph : Graph} {m at key : ℕ} {k : Operand}
    → (entering : IsEntering main graph m k at key)
    → (IsMapFull (map_room main at entering.weak) entering.weak entering.number → ⊥)
    → no_entry_for (reach graph) entering.weak.entries entering.number ≡ false
takes_entry {main} {graph} {at = at} entering few =
    has_test graph (count_at (heap_of main) at) entering.weak.entries entering.number entering.key_stands.reached
    (maps_have_reached_keys (heap_of main) graph at entering.weak.entries entering.shows.is_graph entering.shows.shows
    (record {
      number = entering.weak.number;
      place = entering.stands.place;
      stands = entering.stands.object;
      reached = entering.stands.reached;
    }))
    (λ fresh full. few (record { fresh = fresh; full = full }))

-- an entry that was put
pub wput_carried : {old main new : Mutator} {graph : Graph} {m at key : ℕ} {k v : Operand} {one : Held}
    (names : List (List ℕ)) → main ≡ old → (entering : IsEntering main graph m k at key)
    → (given : IsGiven main graph v one)
    → HasPutEntry main new graph at key entering.weak entering.number given.value
    → Carries names old new graph (WPut m k v) [] (Ok tt)
wput_carried {k = k} {v} names same entering given puts =
    change_carried names same entering.shows puts.shows
    (wput_done names k entering.known entering.named v given.is (takes_entry entering puts.few)) refl
    refl entering.known.bound entering.stands.place puts.changes puts.room puts.uses
    (λ rooms has. wput_need_is has k v given.value entering.known entering.named given.is entering.stands)
    (λ rooms one fewer.
    keeps_wput one fewer k v given.value entering.known entering.named entering.stands refl puts.changes puts.counts)

-- and one that was not
pub wput_stopped : {main : Mutator} {graph : Graph} {m at key : ℕ} {k v : Operand} {one : Held} (new : Mutator)
    (names : List (List ℕ)) (stop : TableStop) → (entering : IsEntering main graph m k at key)
    → (given : IsGiven main graph v one)
    → PutsEntry main new graph at key entering.weak entering.number given.value (Err stop)
    → Carries names main new graph (WPut m k v) [] (Err (stop_of_table stop))
wput_stopped {m = m} {k = k} {v} new names (table.TableFull entries) entering given (full, count, same) = (
  λ rooms has.
      let room = has entering.weak.number _ _ entering.stands.object entering.stands.reached entering.stands.place in
      record {
        m = m;
        k = k;
        v = v;
        is = refl;
        weak = entering.weak;
        map = known_is entering.known;
        key = entering.number;
        named = ap (option_and_then object_in) entering.named;
        value = given.value;
        given = given.is;
        full = subst (λ one. IsMapFull one entering.weak entering.number) (sym room) full;
        count = count ∙ ap (λ (one : Room). one.entries) (sym room);
      },
  same,
)
wput_stopped {graph = graph} {k = k} {v} new names (table.Full room) entering given (few, need, lacks, same) = (
  reweave graph entering.weak (with_entry entering.weak.entries entering.number given.value),
  [],
  wput_done names k entering.known entering.named v given.is (takes_entry entering few),
  λ rooms has. need ∙ wput_need_is has k v given.value entering.known entering.named given.is entering.stands,
  lacks,
  same,
)

-- an entry that was taken out, or of which there was none
pub wdel_carried : {old main new : Mutator} {graph : Graph} {m at key : ℕ} {k : Operand} (names : List (List ℕ))
    → main ≡ old → (entering : IsEntering main graph m k at key)
    → DeletesEntry main new graph at entering.weak entering.number → Carries names old new graph (WDel m k) [] (Ok tt)
wdel_carried {k = k} names same entering deletes =
    change_carried names same entering.shows deletes.shows (wdel_done names k entering.known entering.named) refl
    refl entering.known.bound entering.stands.place deletes.changes (room_for_none entering.shows) deletes.uses
    (λ rooms has. refl)
    (λ rooms one fewer. keeps_wdel one fewer k entering.known entering.named entering.stands refl deletes.changes
    deletes.counts)
