-- What commands need, and which rooms those on a plain object or a list give it, where the object is known.
use Rattle.std.proofs.Common.{◌≡◌, ◌≢◌, ℕ, suc, ◌-◌, List, length, ℤ, Some, refl, sym, ◌∙◌, ap}
use Rattle.std.specs.Prelude.{option_and_then, IsTrue, slice_get, slice_set}
use Rattle.heap_model.specs.Types.{Operand, Command, Value, Object, Field}
use Rattle.heap_command.specs.declared.command.Command.TheVariants as command
use Rattle.object_graph.specs.declared.value.Value.TheVariants.{Ref}
use Rattle.object_graph.specs.declared.object.Object.TheVariants.{Plain, List as ListOf}
use Rattle.object_graph.specs.Graphs.{Graph, PlainObject, ListObject, WeakObject, value_of, integer_in, object_in}
use Rattle.object_graph.specs.Graphs.{as_plain, as_list, as_weak}
use Rattle.object_graph.specs.Meaning.{below}
use Rattle.heap_model.specs.Laws.{ReachesNoMore}
use Rattle.heap_model.specs.Needs.{capacity_at}
use Rattle.heap_model.specs.Slots.{IsPlace}
use Rattle.object_graph.specs.Reach.{is_marked, reach}
use Rattle.heap_model.specs.Rooms.{Room, room_at, list_of, number_of, with_room, with_capacity, changed, rooms_after}
use Rattle.heap_model.specs.Rooms.{set_capacity, push_capacity, truncated_capacity}
use Rattle.heap_model.specs.Rooms.{HasRooms, on_found, key_of, set_need, push_need, put_need, wput_need, need_of}
use Rattle.write_barrier.specs.MutatorState.{Mutator, heap_of}
use Rattle.object_cells.specs.Capacities.{ChangesObject}
use Rattle.object_cells.specs.PlainObjects.{IsPlainAt}
use Rattle.object_cells.specs.ListObjects.{IsListAt}
use Rattle.ephemeron_table.specs.WeakObjects.{IsWeakAt}
use Rattle.ephemeron_table.specs.EntryChanges.{map_room}
use Rattle.mutator.specs.Capacities.{KeepsStores}
use Rattle.mutator.proofs.KnownObjects.{IsKnown, known_is}
use Rattle.mutator.proofs.ListMeanings.{IsIndex}
use Rattle.mutator.proofs.KeptStores.{IsAfter, keeps_others, with_room-same, with_room-other}

-- the number that an operand stands for
pub number_is : {graph : Graph} {i : Operand} {n : ℤ} {place : ℕ} (most : ℕ) → IsIndex graph i n
    → below most n ≡ Some place → number_of graph most i ≡ Some place
number_is most index is =
    ap (λ found. option_and_then (below most) (option_and_then integer_in found)) index.value_is
    ∙ ap (option_and_then (below most)) index.integer ∙ is

-- what `put` needs
pub put_need_is : {graph : Graph} {x : ℕ} {list : ListObject} {n : ℤ} {place : ℕ} (i v : Operand) (value : Value)
    → IsKnown as_list graph x (Ref list.number) list → IsIndex graph i n → value_of graph v ≡ Some value
    → below (length list.elements) n ≡ Some place
    → (rooms : ℕ → Room) → put_need list value place ≡ need_of graph rooms (command.Put x i v)
put_need_is {graph} {list = list} i v value known index is names rooms =
    sym (ap (λ found. on_found found (λ (one : ListObject).
    on_found (value_of graph v) (λ what. on_found (number_of graph (length one.elements) i) (put_need one what))))
    (known_is known)
    ∙ ap (λ found. on_found found (λ what. on_found (number_of graph (length list.elements) i) (put_need list what)))
    is
    ∙ ap (λ found. on_found found (put_need list value)) (number_is (length list.elements) index names))

module _ {main : Mutator} {graph : Graph} {rooms : ℕ → Room} (has : HasRooms (heap_of main) graph rooms) where
  -- what `set` needs
  pub set_need_is : {x at : ℕ} {plain : PlainObject} (f : ℕ) (v : Operand) (value : Value)
      → IsKnown as_plain graph x (Ref plain.number) plain → value_of graph v ≡ Some value
      → IsPlainAt main graph at plain
      → set_need (capacity_at (heap_of main) at) plain f value ≡ need_of graph rooms (command.Set x f v)
  set_need_is {x} {at} {plain} f v value known is stands =
      sym (ap (λ found. on_found found (λ (one : PlainObject).
      on_found (value_of graph v) (set_need (rooms one.number).capacity one f))) (known_is known)
      ∙ ap (λ found. on_found found (set_need (rooms plain.number).capacity plain f)) is
      ∙ ap (λ (room : Room). set_need room.capacity plain f value)
      (has plain.number at _ stands.object stands.reached stands.place))

  -- what `push` needs
  pub push_need_is : {x at : ℕ} {list : ListObject} (v : Operand) (value : Value)
      → IsKnown as_list graph x (Ref list.number) list → value_of graph v ≡ Some value → IsListAt main graph at list
      → push_need (capacity_at (heap_of main) at) list value ≡ need_of graph rooms (command.Push x v)
  push_need_is {x} {at} {list} v value known is stands =
      sym (ap (λ found. on_found found (λ (one : ListObject).
      on_found (value_of graph v) (push_need (rooms one.number).capacity one))) (known_is known)
      ∙ ap (λ found. on_found found (push_need (rooms list.number).capacity list)) is
      ∙ ap (λ (room : Room). push_need room.capacity list value)
      (has list.number at _ stands.object stands.reached stands.place))

  -- what `wput` needs
  pub wput_need_is : {m at number : ℕ} {weak : WeakObject} (k v : Operand) (value : Value)
      → IsKnown as_weak graph m (Ref weak.number) weak → value_of graph k ≡ Some (Ref number)
      → value_of graph v ≡ Some value → IsWeakAt main graph at weak
      → wput_need (map_room main at weak) weak value number ≡ need_of graph rooms (command.WPut m k v)
  wput_need_is {m} {at} {number} {weak} k v value known key is stands =
      sym (ap (λ found. on_found found (λ (one : WeakObject).
      on_found (value_of graph v) (λ what. on_found (key_of graph k) (wput_need (rooms one.number) one what))))
      (known_is known)
      ∙ ap (λ found. on_found found (λ what. on_found (key_of graph k) (wput_need (rooms weak.number) weak what))) is
      ∙ ap (λ found. on_found (option_and_then object_in found) (wput_need (rooms weak.number) weak value)) key
      ∙ ap (λ room. wput_need room weak value number)
      (has weak.number at _ stands.object stands.reached stands.place))

-- the room of an object that has a store of so many slots, and no table
abbrev store_room : ℕ → Room
store_room capacity = record { capacity = capacity; entries = 0 }

module _ {old new : Mutator} {graph after : Graph} {rooms : ℕ → Room} (one : IsAfter old new graph after rooms)
    (fewer : ReachesNoMore graph after) where
  -- the object of a command, which has no table, has the store that the command gives it
  pub keeps_object : {number at : ℕ} {was : Object} {from to : ℕ} (command : Command) (is : Object) (capacity : ℕ)
      → room_at (heap_of new) at is ≡ store_room (capacity_at (heap_of new) at)
      → slice_get graph.objects number ≡ Some was → IsTrue (is_marked (reach graph) number)
      → IsPlace (heap_of old) number at → after.objects ≡ slice_set graph.objects number is
      → rooms_after graph rooms command number ≡ store_room capacity
      → ((other : ℕ) → other ≢ number → rooms_after graph rooms command other ≡ rooms other)
      → ChangesObject (heap_of old) (heap_of new) from to at capacity
      → KeepsStores (heap_of old) (heap_of new) graph after command rooms
  keeps_object {number} {at} {was} {from} {to} command is capacity bare there reached place objects becomes others
      changes =
      keeps_others command number at was is (store_room capacity) one fewer (record {
        there = there;
        reached = reached;
        place = place;
        objects = objects;
        becomes = becomes;
        others = others;
        own = λ there marked place. ap store_room (sym changes.own) ∙ sym bare;
        from = from;
        to = to;
        changes = changes;
      })

  -- so it is where the command gives rooms to no other
  gives_object : {number at : ℕ} {was : Object} {from to : ℕ} (command : Command) (is : Object) (capacity : ℕ)
      → room_at (heap_of new) at is ≡ store_room (capacity_at (heap_of new) at)
      → slice_get graph.objects number ≡ Some was → IsTrue (is_marked (reach graph) number)
      → IsPlace (heap_of old) number at → after.objects ≡ slice_set graph.objects number is
      → rooms_after graph rooms command ≡ with_room rooms number (store_room capacity)
      → ChangesObject (heap_of old) (heap_of new) from to at capacity
      → KeepsStores (heap_of old) (heap_of new) graph after command rooms
  gives_object {number} command is capacity bare there reached place objects gives changes =
      keeps_object command is capacity bare there reached place objects
      (ap (λ (r : ℕ → Room). r number) gives ∙ with_room-same rooms number _)
      (λ other apart. ap (λ (r : ℕ → Room). r other) gives ∙ with_room-other rooms number _ other apart) changes

  -- `set`
  pub keeps_set : {x at : ℕ} {plain : PlainObject} {from to : ℕ} (f : ℕ) (v : Operand) (fields : List Field)
      → IsKnown as_plain graph x (Ref plain.number) plain → IsPlainAt old graph at plain
      → after.objects ≡ slice_set graph.objects plain.number (Plain plain.cap plain.proto fields)
      → ChangesObject (heap_of old) (heap_of new) from to at (set_capacity (capacity_at (heap_of old) at) plain f)
      → KeepsStores (heap_of old) (heap_of new) graph after (command.Set x f v) rooms
  keeps_set {x} {at} {plain} f v fields known stands objects changes =
      gives_object (command.Set x f v) (Plain plain.cap plain.proto fields) _ refl stands.object stands.reached
      stands.place objects
      (ap (λ found. changed rooms found (λ (one : PlainObject).
      with_capacity rooms one.number (set_capacity (rooms one.number).capacity one f))) (known_is known)
      ∙ ap (λ (room : Room). with_room rooms plain.number
      (record room { capacity = set_capacity room.capacity plain f }))
      (one.has plain.number at _ stands.object stands.reached stands.place)) changes

  -- `push`
  pub keeps_push : {x at : ℕ} {list : ListObject} {from to : ℕ} (v : Operand) (elements : List Value)
      → IsKnown as_list graph x (Ref list.number) list → IsListAt old graph at list
      → after.objects ≡ slice_set graph.objects list.number (ListOf elements)
      → ChangesObject (heap_of old) (heap_of new) from to at
      (push_capacity (capacity_at (heap_of old) at) (length list.elements))
      → KeepsStores (heap_of old) (heap_of new) graph after (command.Push x v) rooms
  keeps_push {x} {at} {list} v elements known stands objects changes =
      gives_object (command.Push x v) (ListOf elements) _ refl stands.object stands.reached stands.place objects
      (ap (λ found. changed rooms found (λ (one : ListObject).
      with_capacity rooms one.number (push_capacity (rooms one.number).capacity (length one.elements))))
      (known_is known) ∙ ap (λ (room : Room). with_room rooms list.number
      (record room { capacity = push_capacity room.capacity (length list.elements) }))
      (one.has list.number at _ stands.object stands.reached stands.place)) changes

  -- which rooms a command gives that takes the number of some elements of a list
  counted_gives : {x at count : ℕ} {list : ListObject} {k : ℤ} (n : Operand) (after_it : ℕ → ℕ → ℕ → ℕ)
      → IsKnown as_list graph x (Ref list.number) list → IsIndex graph n k
      → below (suc (length list.elements)) k ≡ Some count → IsListAt old graph at list
      → changed rooms (list_of graph x) (λ (one : ListObject).
      changed rooms (number_of graph (suc (length one.elements)) n) (λ count.
      with_capacity rooms one.number (after_it (rooms one.number).capacity (length one.elements) count)))
      ≡ with_room rooms list.number
      (store_room (after_it (capacity_at (heap_of old) at) (length list.elements) count))
  counted_gives {x} {at} {count} {list} n after_it known index is stands =
      ap (λ found. changed rooms found (λ (one : ListObject).
      changed rooms (number_of graph (suc (length one.elements)) n) (λ count.
      with_capacity rooms one.number (after_it (rooms one.number).capacity (length one.elements) count))))
      (known_is known)
      ∙ ap (λ found. changed rooms found (λ count.
      with_capacity rooms list.number (after_it (rooms list.number).capacity (length list.elements) count)))
      (number_is _ index is)
      ∙ ap (λ (room : Room). with_room rooms list.number
      (record room { capacity = after_it room.capacity (length list.elements) count }))
      (one.has list.number at _ stands.object stands.reached stands.place)

  -- `shift`
  pub keeps_shift : {x at gone : ℕ} {list : ListObject} {k : ℤ} {from to : ℕ} (n : Operand) (elements : List Value)
      → IsKnown as_list graph x (Ref list.number) list → IsIndex graph n k
      → below (suc (length list.elements)) k ≡ Some gone
      → IsListAt old graph at list → after.objects ≡ slice_set graph.objects list.number (ListOf elements)
      → ChangesObject (heap_of old) (heap_of new) from to at (capacity_at (heap_of old) at - gone)
      → KeepsStores (heap_of old) (heap_of new) graph after (command.Shift x n) rooms
  keeps_shift {x} n elements known index is stands objects changes =
      gives_object (command.Shift x n) (ListOf elements) _ refl stands.object stands.reached stands.place objects
      (counted_gives n (λ capacity many gone. capacity - gone) known index is stands) changes

  -- `trunc`
  pub keeps_trunc : {x at kept : ℕ} {list : ListObject} {k : ℤ} {from to : ℕ} (n : Operand) (elements : List Value)
      → IsKnown as_list graph x (Ref list.number) list → IsIndex graph n k
      → below (suc (length list.elements)) k ≡ Some kept
      → IsListAt old graph at list → after.objects ≡ slice_set graph.objects list.number (ListOf elements)
      → ChangesObject (heap_of old) (heap_of new) from to at
      (truncated_capacity (capacity_at (heap_of old) at) (length list.elements) kept)
      → KeepsStores (heap_of old) (heap_of new) graph after (command.Trunc x n) rooms
  keeps_trunc {x} n elements known index is stands objects changes =
      gives_object (command.Trunc x n) (ListOf elements) _ refl stands.object stands.reached stands.place objects
      (counted_gives n truncated_capacity known index is stands) changes
