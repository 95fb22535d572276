-- Commands that do not find their weak map full of pairs, and calls that do not ask for a clearing.
use Rattle.std.proofs.Common.{◌≡◌, ◌≢◌, ℕ, ◌⊎◌, inl, inr, Some, None, Result, Ok, Err, sym, ◌∙◌, ap, subst}
use Rattle.std.specs.Prelude.{option_and_then}
use Rattle.std.specs.FinMap.{get}
use Rattle.std.specs.Result.{IsErrAnd}
use Rattle.std.proofs.lemmas.Option.{none-some, same_Some}
use Rattle.heap_model.specs.Types.{Command, Operand, Value}
use Rattle.heap_command.specs.declared.command.Command.TheVariants.{WPut}
use Rattle.object_graph.specs.Graphs.{Graph, WeakObject, value_of, object_in, weak_at}
use Rattle.heap_model.specs.Rooms.{Room, HasRooms, IsMapFull, FindsMapFull, weak_of, key_of}
use Rattle.heap_model.proofs.ShownRooms.{shown_objects_have_rooms}
use Rattle.write_barrier.specs.MutatorState.{Mutator, heap_of, MainShows}
use Rattle.ephemeron_table.specs.EntryChanges.{map_room, PutsEntry}
use Rattle.ephemeron_table.specs.declared.stop.TableStop.{TableStop}
use Rattle.ephemeron_table.specs.declared.stop.TableStop.TheVariants as table
use Rattle.mutator.specs.declared.stop.Stop.{Stop}
use Rattle.mutator.specs.declared.stop.Stop.TheVariants.{Fault, NoRoom, NoClear}
use Rattle.mutator.specs.Stops.{stop_of_table}
use Rattle.mutator.specs.CarriesOut.{FindsMapNotFull, AsksWhereFull}
use Rattle.mutator.proofs.EntriesSet.{IsEntering}
use Rattle.mutator.proofs.KnownObjects.{known_is}
use Rattle.mutator.proofs.StoppedBy.{stopped_by}

-- a command does not find its map full where no rooms that objects have in the heap make it full, since they have some
not_full_by_rooms : {main : Mutator} {graph : Graph} (command : Command) → MainShows main graph
    → ((rooms : ℕ → Room) (entries : ℕ) → HasRooms (heap_of main) graph rooms
    → FindsMapFull graph rooms command entries → ⊥)
    → FindsMapNotFull main graph command
not_full_by_rooms {main} {graph} command shows none entries full =
    let (rooms, has) = shown_objects_have_rooms (heap_of main) graph shows.shows in
    none rooms entries has (full rooms has)

-- a command that is no `wput` finds no map full
pub others_find_not_full : (main : Mutator) (graph : Graph) (command : Command)
    → ((m : ℕ) (k v : Operand) → command ≢ WPut m k v) → MainShows main graph → FindsMapNotFull main graph command
others_find_not_full main graph command other shows =
    not_full_by_rooms command shows (λ rooms entries has full. other full.m full.k full.v full.is)

module _ {graph : Graph} {rooms : ℕ → Room} {m : ℕ} {k v : Operand} {entries : ℕ}
    (full : FindsMapFull graph rooms (WPut m k v) entries) where
  -- the variable of a `wput` that finds its map full leads to the map
  full_map : weak_of graph m ≡ Some full.weak
  full_map = let is = full.is in let map = full.map in cc

  -- its key is an object
  full_key : key_of graph k ≡ Some full.key
  full_key = let is = full.is in let named = full.named in cc

  -- its value is there
  full_value : value_of graph v ≡ Some full.value
  full_value = let is = full.is in let given = full.given in cc

  -- so the map that is found is full, for the key that is found
  full_found : (weak : WeakObject) (number : ℕ) → weak_of graph m ≡ Some weak → key_of graph k ≡ Some number
      → IsMapFull (rooms weak.number) weak number
  full_found weak number map key =
      let same_map = same_Some full.weak weak (sym full_map ∙ map) in
      let same_key = same_Some full.key number (sym full_key ∙ key) in
      subst (λ one. IsMapFull (rooms one.number) one number) same_map
      (subst (λ (one : ℕ). IsMapFull (rooms full.weak.number) full.weak one) same_key full.full)

module _ {main : Mutator} {graph : Graph} (m : ℕ) (k v : Operand) (shows : MainShows main graph) where
  -- a `wput` finds no map full where its variable leads to none
  pub without_map : weak_of graph m ≡ None → FindsMapNotFull main graph (WPut m k v)
  without_map none =
      not_full_by_rooms (WPut m k v) shows (λ rooms entries has full. none-some full.weak (sym none ∙ full_map full))

  -- nor where its key is no object
  pub without_key : key_of graph k ≡ None → FindsMapNotFull main graph (WPut m k v)
  without_key none =
      not_full_by_rooms (WPut m k v) shows (λ rooms entries has full. none-some full.key (sym none ∙ full_key full))

  -- nor where its value is not there
  pub without_value : value_of graph v ≡ None → FindsMapNotFull main graph (WPut m k v)
  without_value none =
      not_full_by_rooms (WPut m k v) shows (λ rooms entries has full. none-some full.value (sym none ∙ full_value full))

  -- nor where the variable of one of the two is unbound
  pub without_operand : (get graph.bindings m ≡ None) ⊎ (value_of graph k ≡ None)
      → FindsMapNotFull main graph (WPut m k v)
  without_operand (inl none) = without_map (ap (option_and_then (weak_at graph.objects)) none)
  without_operand (inr none) = without_key (ap (option_and_then object_in) none)

  -- nor where the map that was found is not full of pairs for the key that was found
  pub without_pairs : {at key : ℕ} (entering : IsEntering main graph m k at key)
      → (IsMapFull (map_room main at entering.weak) entering.weak entering.number → ⊥)
      → FindsMapNotFull main graph (WPut m k v)
  without_pairs entering few =
      not_full_by_rooms (WPut m k v) shows (λ rooms entries has full.
      let stands = entering.stands in
      let room = has entering.weak.number _ _ stands.object stands.reached stands.place in
      few (subst (λ one. IsMapFull one entering.weak entering.number) room
      (full_found full entering.weak entering.number (known_is entering.known)
      (ap (option_and_then object_in) entering.named))))

module _ (main : Mutator) (graph : Graph) where
  -- a call that did not find its map full need not ask for a clearing, whatever it answers
  pub asks_for_nothing : {command : Command} (answer : Result Unit Stop) → FindsMapNotFull main graph command
      → AsksWhereFull main graph command answer
  asks_for_nothing (Ok done) lacks = lacks
  asks_for_nothing (Err (Fault word)) lacks = lacks
  asks_for_nothing (Err (NoRoom need)) lacks = lacks
  asks_for_nothing (Err (NoClear entries)) lacks = tt

  -- a call that stopped where an entry was not put asks for a clearing, or did not find its map full
  pub asks_where_stopped : {m at key : ℕ} {k : Operand} (v : Operand) (new : Mutator) (value : Value)
      (answer : Result Unit Stop) (stop : TableStop) → (entering : IsEntering main graph m k at key)
      → PutsEntry main new graph at key entering.weak entering.number value (Err stop)
      → IsErrAnd answer (λ one. one ≡ stop_of_table stop) → AsksWhereFull main graph (WPut m k v) answer
  asks_where_stopped {m} {k = k} v new value answer (table.TableFull entries) entering puts is =
      subst (λ one. AsksWhereFull main graph (WPut m k v) one) (sym (stopped_by answer (NoClear entries) is)) tt
  asks_where_stopped {m} {k = k} v new value answer (table.Full room) entering puts is =
      asks_for_nothing answer (without_pairs m k v entering.shows entering puts.0)

  -- so it is of a heap that was the same before
  pub asks_still : {old : Mutator} (command : Command) (answer : Result Unit Stop) → main ≡ old
      → AsksWhereFull main graph command answer → AsksWhereFull old graph command answer
  asks_still command answer same asks = subst (λ one. AsksWhereFull one graph command answer) same asks
