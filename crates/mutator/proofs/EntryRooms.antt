-- Which rooms `wput` and `wdel` give a weak map, where the map is known.
use Rattle.std.proofs.Common.{◌≡◌, ℕ, List, Option, Some, None, refl, sym, ◌∙◌, ap, subst}
use Rattle.std.specs.Prelude.{option_and_then, slice_set}
use Rattle.heap_model.specs.Types.{Operand, Command, Value, Entry}
use Rattle.heap_command.specs.declared.command.Command.TheVariants as command
use Rattle.object_graph.specs.declared.value.Value.TheVariants.{Ref}
use Rattle.object_graph.specs.declared.object.Object.TheVariants.{Weak}
use Rattle.object_graph.specs.Graphs.{Graph, WeakObject, value_of, object_in, as_weak}
use Rattle.object_graph.specs.Objects.{entry_value, with_entry, without_entry}
use Rattle.heap_model.specs.Laws.{ReachesNoMore}
use Rattle.heap_model.specs.Needs.{capacity_at, count_at}
use Rattle.heap_model.specs.Rooms.{Room, weak_of, key_of, with_room, changed, room_put, room_without, rooms_after}
use Rattle.write_barrier.specs.MutatorState.{Mutator, heap_of}
use Rattle.object_cells.specs.Capacities.{ChangesObject}
use Rattle.ephemeron_table.specs.WeakObjects.{IsWeakAt}
use Rattle.ephemeron_table.specs.EntryChanges.{map_room}
use Rattle.mutator.specs.Capacities.{KeepsStores}
use Rattle.mutator.proofs.KnownObjects.{IsKnown, known_is}
use Rattle.mutator.proofs.KeptStores.{IsAfter, keeps_others, with_room-same, with_room-other}

module _ {old new : Mutator} {graph after : Graph} {rooms : ℕ → Room} (one : IsAfter old new graph after rooms)
    (fewer : ReachesNoMore graph after) where
  -- the weak map of a command has the room that the command gives it, of which so many pairs are filled
  pub keeps_weak : {at : ℕ} {weak : WeakObject} {from to : ℕ} (command : Command) (entries : List Entry) (room : Room)
      → IsWeakAt old graph at weak → after.objects ≡ slice_set graph.objects weak.number (Weak entries)
      → rooms_after graph rooms command ≡ with_room rooms weak.number room
      → count_at (heap_of new) at ≡ room.entries → ChangesObject (heap_of old) (heap_of new) from to at room.capacity
      → KeepsStores (heap_of old) (heap_of new) graph after command rooms
  keeps_weak {at} {weak} {from} {to} command entries room stands objects gives many changes =
      keeps_others command weak.number at (Weak weak.entries) (Weak entries) room one fewer (record {
        there = stands.object;
        reached = stands.reached;
        place = stands.place;
        objects = objects;
        becomes = ap (λ (r : ℕ → Room). r weak.number) gives ∙ with_room-same rooms weak.number room;
        others = λ number apart.
            ap (λ (r : ℕ → Room). r number) gives ∙ with_room-other rooms weak.number room number apart;
        own = λ there marked place.
            let same = sym changes.own in
            let counts = sym many in
            λ i. record { capacity = same i; entries = counts i };
        from = from;
        to = to;
        changes = changes;
      })

  -- which room a command gives the weak map by the entry of its key
  entry_gives : {m at number : ℕ} {weak : WeakObject} (k : Operand) (after_it : Room → Option Value → Room)
      → IsKnown as_weak graph m (Ref weak.number) weak → value_of graph k ≡ Some (Ref number)
      → IsWeakAt old graph at weak
      → changed rooms (weak_of graph m) (λ (one : WeakObject). changed rooms (key_of graph k) (λ key.
      with_room rooms one.number (after_it (rooms one.number) (entry_value one.entries key))))
      ≡ with_room rooms weak.number (after_it (map_room old at weak) (entry_value weak.entries number))
  entry_gives {at = at} {number} {weak} k after_it known key stands =
      ap (λ found. changed rooms found (λ (one : WeakObject). changed rooms (key_of graph k) (λ key.
      with_room rooms one.number (after_it (rooms one.number) (entry_value one.entries key))))) (known_is known)
      ∙ ap (λ found. changed rooms (option_and_then object_in found) (λ key.
      with_room rooms weak.number (after_it (rooms weak.number) (entry_value weak.entries key)))) key
      ∙ ap (λ was. with_room rooms weak.number (after_it was (entry_value weak.entries number)))
      (one.has weak.number at _ stands.object stands.reached stands.place)

  -- `wput`
  pub keeps_wput : {m at number : ℕ} {weak : WeakObject} {from to : ℕ} (k v : Operand) (value : Value)
      → IsKnown as_weak graph m (Ref weak.number) weak → value_of graph k ≡ Some (Ref number)
      → IsWeakAt old graph at weak
      → after.objects ≡ slice_set graph.objects weak.number (Weak (with_entry weak.entries number value))
      → ChangesObject (heap_of old) (heap_of new) from to at
      (room_put (map_room old at weak) (entry_value weak.entries number)).capacity
      → count_at (heap_of new) at ≡ (room_put (map_room old at weak) (entry_value weak.entries number)).entries
      → KeepsStores (heap_of old) (heap_of new) graph after (command.WPut m k v) rooms
  keeps_wput {m} {at} {number} {weak} k v value known key stands objects changes counts =
      keeps_weak (command.WPut m k v) (with_entry weak.entries number value) _ stands objects
      (entry_gives k room_put known key stands) counts changes

  -- the capacity of a weak map stays when an entry goes
  without_capacity : (room : Room) (found : Option Value) → (room_without room found).capacity ≡ room.capacity
  without_capacity room None = refl
  without_capacity room (Some before) = refl

  -- `wdel`
  pub keeps_wdel : {m at number : ℕ} {weak : WeakObject} {from to : ℕ} (k : Operand)
      → IsKnown as_weak graph m (Ref weak.number) weak → value_of graph k ≡ Some (Ref number)
      → IsWeakAt old graph at weak
      → after.objects ≡ slice_set graph.objects weak.number (Weak (without_entry weak.entries number))
      → ChangesObject (heap_of old) (heap_of new) from to at (capacity_at (heap_of old) at)
      → count_at (heap_of new) at ≡ (room_without (map_room old at weak) (entry_value weak.entries number)).entries
      → KeepsStores (heap_of old) (heap_of new) graph after (command.WDel m k) rooms
  keeps_wdel {m} {at} {number} {weak} {from} {to} k known key stands objects changes counts =
      let found : Option Value = entry_value weak.entries number in
      keeps_weak (command.WDel m k) (without_entry weak.entries number) _ stands objects
      (entry_gives k room_without known key stands) counts
      (subst (ChangesObject (heap_of old) (heap_of new) from to at)
      (sym (without_capacity (map_room old at weak) found)) changes)
