-- How many words a command allocates, and what room objects have after it: told by the graph, and by the room of each
-- object.
use Rattle.std.specs.Prelude.{◌≡◌, ℕ, suc, ◌+◌, ◌-◌, ◌*◌, ◌≤◌, Bool, false, not, ◌&&◌, List, [], ◌∷◌, length}
use Rattle.std.specs.Prelude.{Option, Some, None, option_map, option_and_then, slice_get, ◌==◌, nat_lt, IsTrue}
use Rattle.std.specs.Prelude.{if◌then◌else◌}
use Rattle.std.specs.FinMap.{get}
use Rattle.tagged_word.specs.Words.{small}
use Rattle.tagged_word.specs.Cells.{plain_head}
use Rattle.heap_model.specs.Types.{Command, Operand, Value, Rep, Object, Field}
use Rattle.heap_command.specs.declared.command.Command.TheVariants as command
use Rattle.object_graph.specs.declared.value.Value.TheVariants.{Int}
use Rattle.object_graph.specs.declared.value.Rep.TheVariants.{Small, Wide, Tagged}
use Rattle.object_graph.specs.declared.object.Object.TheVariants as kind
use Rattle.object_graph.specs.Values.{rep_of, join}
use Rattle.object_graph.specs.Objects.{entry_value}
use Rattle.object_graph.specs.Graphs.{Graph, PlainObject, ListObject, WeakObject, value_of, integer_in, object_in}
use Rattle.object_graph.specs.Graphs.{plain_at, list_at, weak_at}
use Rattle.object_graph.specs.Meaning.{below, weak_most}
use Rattle.object_graph.specs.Reach.{is_marked, reach}
use Rattle.heap_model.specs.Heaps.{Heap}
use Rattle.heap_model.specs.Slots.{IsPlace}
use Rattle.heap_model.specs.Showing.{Shows}
use Rattle.heap_model.specs.Needs.{box_need, capacity_at, count_at, grown, store_need, grown_list, list_store_need}
use Rattle.heap_model.specs.Needs.{grown_table, table_need, list_words, weak_words}

-- The room of an object: how many slots its property store has, or its list's store, or how many pairs its table; and
-- how many of the pairs are filled, which is 0 where there is no table.
pub record Room : Type 0 where
  pub capacity : ℕ
  pub entries : ℕ

-- the room of an object that has neither a store nor a table
abbrev pub bare_room : Room
bare_room = record { capacity = 0; entries = 0 }

-- how many pairs are filled of the table of this object, which stands at the address
abbrev pub entries_at : Heap → ℕ → Object → ℕ
entries_at heap at (kind.Plain cap proto fields) = 0
entries_at heap at (kind.List elements) = 0
entries_at heap at (kind.Weak entries) = count_at heap at

-- the room of this object, which stands at the address
abbrev pub room_at : Heap → ℕ → Object → Room
room_at heap at what = record { capacity = capacity_at heap at; entries = entries_at heap at what }

-- These are the rooms of the graph's objects in the heap: each that can be reached has its room where it stands.
abbrev pub HasRooms : Heap → Graph → (ℕ → Room) → Type 0
HasRooms heap graph rooms =
    (number at : ℕ) (what : Object) → slice_get graph.objects number ≡ Some what
    → IsTrue (is_marked (reach graph) number) → IsPlace heap number at → rooms number ≡ room_at heap at what

-- The objects of a graph that a heap shows have rooms.
abbrev pub ShownObjectsHaveRooms : Type 0
ShownObjectsHaveRooms =
    (heap : Heap) (graph : Graph) → Shows heap graph → (rooms : ℕ → Room) × HasRooms heap graph rooms

-- what is needed for what is found; nothing where it is not, since the command faults
abbrev pub on_found : {A : Type 0} → Option A → (A → ℕ) → ℕ
on_found None need = 0
on_found (Some found) need = need found

-- the plain object that a variable is bound to, if it is bound to one
abbrev pub plain_of : Graph → ℕ → Option PlainObject
plain_of graph x = option_and_then (plain_at graph.objects) (get graph.bindings x)

-- the list that a variable is bound to
abbrev pub list_of : Graph → ℕ → Option ListObject
list_of graph x = option_and_then (list_at graph.objects) (get graph.bindings x)

-- the weak map that a variable is bound to
abbrev pub weak_of : Graph → ℕ → Option WeakObject
weak_of graph x = option_and_then (weak_at graph.objects) (get graph.bindings x)

-- the number below this one that an operand stands for, if it stands for one
abbrev pub number_of : Graph → ℕ → Operand → Option ℕ
number_of graph most n = option_and_then (below most) (option_and_then integer_in (value_of graph n))

-- the number of the object that an operand stands for, if it stands for one
abbrev pub key_of : Graph → Operand → Option ℕ
key_of graph k = option_and_then object_in (value_of graph k)

-- whether a value is an integer that is not small
abbrev pub is_wide : Value → Bool
is_wide (Int v) = not (small v)
is_wide _ = false

-- Whether a field of this representation and value stands in a box: a wide one beside the object itself, and a tagged
-- one where its value is wide.
abbrev pub is_boxed : Bool → Rep → Value → Bool
is_boxed own Small value = false
is_boxed own Wide value = not own
is_boxed own Tagged value = is_wide value

-- which of the fields has the name
abbrev pub field_place : List Field → ℕ → Option ℕ
field_place [] name = None
field_place (field ∷ fields) name =
    if field.name == name then Some 0 else option_map suc (field_place fields name)

-- a field that is there, and gets the value: a box where it comes to stand in one, and does not before
abbrev pub field_need : Bool → Field → Value → ℕ
field_need own field value =
    box_need (is_boxed own (join field.rep (rep_of value)) value && not (is_boxed own field.rep field.value))

-- A field that is new, behind so many of an object of this cap: nothing in the object itself, and in the property
-- store, which has so many slots, a store where that is full or absent, and a box where the value is wide.
abbrev pub new_field_need : ℕ → ℕ → ℕ → Bool → ℕ
new_field_need capacity cap fields wide =
    if nat_lt fields cap then 0 else store_need capacity (fields - cap) + box_need wide

-- `set` of a field, by its place if it is there
abbrev pub set_need_by : ℕ → PlainObject → Value → Option ℕ → ℕ
set_need_by capacity plain value None = new_field_need capacity plain.cap (length plain.fields) (is_wide value)
set_need_by capacity plain value (Some at) =
    on_found (slice_get plain.fields at) (λ field. field_need (nat_lt at plain.cap) field value)

-- `set` of a field of an object whose property store has so many slots
abbrev pub set_need : ℕ → PlainObject → ℕ → Value → ℕ
set_need capacity plain name value = set_need_by capacity plain value (field_place plain.fields name)

-- `push` to a list whose store has so many slots: a store where that is full, and a box where the value is wide
abbrev pub push_need : ℕ → ListObject → Value → ℕ
push_need capacity list value = list_store_need capacity (length list.elements) + box_need (is_wide value)

-- `put` of an element: a box where the value is wide and the one before is not
abbrev pub put_need : ListObject → Value → ℕ → ℕ
put_need list value at =
    on_found (slice_get list.elements at) (λ before. box_need (is_wide value && not (is_wide before)))

-- `wput` of a key, by the value of its entry if it is there. A key that is new: a table where there is none, or one
-- that would be too full, and a box where the value is wide. A key that is there: a box where the value is wide and the
-- one before is not.
abbrev pub wput_need_by : Room → Value → Option Value → ℕ
wput_need_by room value None = table_need room.capacity room.entries + box_need (is_wide value)
wput_need_by room value (Some before) = box_need (is_wide value && not (is_wide before))

-- `wput` of a key to a weak map with this room
abbrev pub wput_need : Room → WeakObject → Value → ℕ → ℕ
wput_need room weak value key = wput_need_by room value (entry_value weak.entries key)

-- `wput` of a key finds a weak map with this room full: no entry has the key, and as many pairs of the table are filled
-- as there may be entries, or more. A pair counts whose key can no longer be reached, until it is cleared.
pub record IsMapFull (room : Room) (weak : WeakObject) (key : ℕ) : Type 0 where
  pub fresh : entry_value weak.entries key ≡ None
  pub full : weak_most ≤ room.entries

-- The command is a `wput` that no other fault stops, and finds its map full, with so many pairs filled, where objects
-- have these rooms.
pub record FindsMapFull (graph : Graph) (rooms : ℕ → Room) (put : Command) (entries : ℕ) : Type 0 where
  pub m : ℕ
  pub k : Operand
  pub v : Operand
  pub is : put ≡ command.WPut m k v
  pub weak : WeakObject
  pub map : weak_of graph m ≡ Some weak
  pub key : ℕ
  pub named : key_of graph k ≡ Some key
  pub value : Value
  pub given : value_of graph v ≡ Some value
  pub full : IsMapFull (rooms weak.number) weak key
  pub count : entries ≡ (rooms weak.number).entries

-- How many words a command allocates, where objects have these rooms.
abbrev pub need_of : Graph → (ℕ → Room) → Command → ℕ
need_of graph rooms (command.New x cap) = plain_head + cap
need_of graph rooms (command.List x) = list_words
need_of graph rooms (command.Weak x) = weak_words
need_of graph rooms (command.Set x name v) =
    on_found (plain_of graph x) (λ plain. on_found (value_of graph v)
    (set_need (rooms plain.number).capacity plain name))
need_of graph rooms (command.Push x v) =
    on_found (list_of graph x) (λ list. on_found (value_of graph v) (push_need (rooms list.number).capacity list))
need_of graph rooms (command.Put x i v) =
    on_found (list_of graph x) (λ list.
    on_found (value_of graph v) (λ value. on_found (number_of graph (length list.elements) i) (put_need list value)))
need_of graph rooms (command.WPut m k v) =
    on_found (weak_of graph m) (λ weak.
    on_found (value_of graph v) (λ value. on_found (key_of graph k) (wput_need (rooms weak.number) weak value)))
need_of graph rooms _ = 0

-- the rooms with another one of the object of this number
abbrev pub with_room : (ℕ → Room) → ℕ → Room → ℕ → Room
with_room rooms number room other = if other == number then room else rooms other

-- the rooms after a change of the object that is found; the same where none is, since the command faults
abbrev pub changed : {A : Type 0} → (ℕ → Room) → Option A → (A → ℕ → Room) → ℕ → Room
changed rooms None change = rooms
changed rooms (Some one) change = change one

-- A property store of so many slots once a field is new, behind so many of an object of this cap: the field comes to
-- the object itself below its cap, and else to the store, which is made anew where it is full.
abbrev pub new_field_capacity : ℕ → ℕ → ℕ → ℕ
new_field_capacity capacity cap fields =
    if nat_lt fields cap then capacity else (if nat_lt (fields - cap) capacity then capacity else grown capacity)

-- a property store of so many slots after `set`, by the place of the field if it is there
abbrev pub set_capacity_by : ℕ → PlainObject → Option ℕ → ℕ
set_capacity_by capacity plain None = new_field_capacity capacity plain.cap (length plain.fields)
set_capacity_by capacity plain (Some at) = capacity

-- and by the name of the field
abbrev pub set_capacity : ℕ → PlainObject → ℕ → ℕ
set_capacity capacity plain name = set_capacity_by capacity plain (field_place plain.fields name)

-- the store of so many slots of a list of so many elements after `push`
abbrev pub push_capacity : ℕ → ℕ → ℕ
push_capacity capacity count = if count == capacity then grown_list count else capacity

-- and once its first elements alone, so many, stay
abbrev pub truncated_capacity : ℕ → ℕ → ℕ → ℕ
truncated_capacity capacity count kept = if kept == count then capacity else kept

-- how many pairs a weak map's table has once a key is put that is new
abbrev pub table_capacity : Room → ℕ
table_capacity room = if nat_lt room.capacity (2 * suc room.entries) then grown_table room.capacity else room.capacity

-- the room of a weak map after `wput`, by the value of the key's entry if it is there
abbrev pub room_put : Room → Option Value → Room
room_put room None = record { capacity = table_capacity room; entries = suc room.entries }
room_put room (Some value) = room

-- and after `wdel`
abbrev pub room_without : Room → Option Value → Room
room_without room None = room
room_without room (Some value) = record room { entries = room.entries - 1 }

-- the rooms with another capacity of the object of this number
abbrev pub with_capacity : (ℕ → Room) → ℕ → ℕ → ℕ → Room
with_capacity rooms number capacity = with_room rooms number (record (rooms number) { capacity = capacity })

-- The rooms after a command. An object that is made has no store. `set`, `push`, `shift` and `trunc` change the store
-- of their object, `wput` and `wdel` the table of their map. A scavenge keeps all rooms; what a full collection leaves,
-- which clears entries, is told by `RoomsAreNoFuller`.
abbrev pub rooms_after : Graph → (ℕ → Room) → Command → ℕ → Room
rooms_after graph rooms (command.New x cap) = with_room rooms (length graph.objects) bare_room
rooms_after graph rooms (command.List x) = with_room rooms (length graph.objects) bare_room
rooms_after graph rooms (command.Weak x) = with_room rooms (length graph.objects) bare_room
rooms_after graph rooms (command.Set x name v) =
    changed rooms (plain_of graph x) (λ plain.
    with_capacity rooms plain.number (set_capacity (rooms plain.number).capacity plain name))
rooms_after graph rooms (command.Push x v) =
    changed rooms (list_of graph x) (λ list.
    with_capacity rooms list.number (push_capacity (rooms list.number).capacity (length list.elements)))
rooms_after graph rooms (command.Shift x n) =
    changed rooms (list_of graph x) (λ list.
    changed rooms (number_of graph (suc (length list.elements)) n) (λ gone.
    with_capacity rooms list.number ((rooms list.number).capacity - gone)))
rooms_after graph rooms (command.Trunc x n) =
    changed rooms (list_of graph x) (λ list.
    changed rooms (number_of graph (suc (length list.elements)) n) (λ kept.
    with_capacity rooms list.number (truncated_capacity (rooms list.number).capacity (length list.elements) kept)))
rooms_after graph rooms (command.WPut m k v) =
    changed rooms (weak_of graph m) (λ weak. changed rooms (key_of graph k) (λ key.
    with_room rooms weak.number (room_put (rooms weak.number) (entry_value weak.entries key))))
rooms_after graph rooms (command.WDel m k) =
    changed rooms (weak_of graph m) (λ weak. changed rooms (key_of graph k) (λ key.
    with_room rooms weak.number (room_without (rooms weak.number) (entry_value weak.entries key))))
rooms_after graph rooms (command.Put x i v) = rooms
rooms_after graph rooms (command.Del x name) = rooms
rooms_after graph rooms (command.Proto x v) = rooms
rooms_after graph rooms (command.LetValue x v) = rooms
rooms_after graph rooms (command.DropVar x) = rooms
rooms_after graph rooms (command.Add x v) = rooms
rooms_after graph rooms (command.Get y x name) = rooms
rooms_after graph rooms (command.At y x i) = rooms
rooms_after graph rooms (command.WGet y m k) = rooms
rooms_after graph rooms (command.Print v) = rooms
rooms_after graph rooms (command.Same a b) = rooms
rooms_after graph rooms (command.Alike x y) = rooms
rooms_after graph rooms (command.Shape x) = rooms
rooms_after graph rooms command.Census = rooms
rooms_after graph rooms command.Scavenge = rooms
rooms_after graph rooms command.Mark = rooms
rooms_after graph rooms command.Finish = rooms
rooms_after graph rooms command.Gc = rooms

-- the one room has as many slots or pairs as the other, and no more of the pairs are filled
pub record IsNoFuller (room other : Room) : Type 0 where
  pub capacity : room.capacity ≡ other.capacity
  pub entries : room.entries ≤ other.entries

-- The room in one heap of each object of the graph that can be reached is no fuller than in another one.
abbrev pub RoomsAreNoFuller : Heap → Heap → Graph → Type 0
RoomsAreNoFuller old new graph =
    (rooms were : ℕ → Room) (number : ℕ) (what : Object) → HasRooms new graph rooms → HasRooms old graph were
    → slice_get graph.objects number ≡ Some what → IsTrue (is_marked (reach graph) number)
    → IsNoFuller (rooms number) (were number)
