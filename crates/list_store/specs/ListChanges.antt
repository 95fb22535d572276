-- What the calls on the elements of a list do.
use Rattle.tagged_word.specs.Cells.{store_head}
use Rattle.std.specs.Prelude.{◌≡◌, ℕ, ◌+◌, ◌<◌, ◌≤◌, [], ◌∷◌}
use Rattle.std.specs.Prelude.{◌++◌, length, Some, None, slice_get, slice_set, ℤ}
use Rattle.std.specs.Prelude.{Result, Ok, Err}
use Rattle.tagged_word.specs.declared.word.Word.{Word}
use Rattle.write_barrier.specs.Seats.{heap_words}
use Rattle.handle_roots.specs.Roots.{FitsHeld, with_root}
use Rattle.heap_model.specs.Types.{Value, Held}
use Rattle.object_graph.specs.Graphs.{Graph, ListObject}
use Rattle.object_graph.specs.Meaning.{list_most, below, relist}
use Rattle.nursery.specs.Young.{HasRoom}
use Rattle.heap_model.specs.Showing.{ShowsHeld}
use Rattle.heap_model.specs.Needs.{capacity_at}
use Rattle.heap_model.specs.Rooms.{push_need, put_need, push_capacity}
use Rattle.write_barrier.specs.MutatorState.{Mutator, heap_of, MainShows, with_variable}
use Rattle.write_barrier.specs.ValueLaws.{ShowsByClass}
use Rattle.object_cells.specs.ListObjects.{IsListAt}
use Rattle.object_cells.specs.HeldValues.{IsValueHeld}
use Rattle.object_cells.specs.declared.stores.Store.{Store}
use Rattle.object_cells.specs.Contents.{FillsSlot}
use Rattle.object_cells.specs.Made.{IsStoreAt, store_content}
use Rattle.object_cells.specs.Uses.{UsesMore}
use Rattle.object_cells.specs.Capacities.{ChangesObjectUsing}
use Rattle.list_store.specs.Pushes.{PushesAt}
use Rattle.list_store.specs.declared.stop.PushStop.{PushStop}
use Rattle.list_store.specs.declared.stop.PushStop.TheVariants as push
use Rattle.list_store.specs.declared.stop.PutStop.{PutStop}
use Rattle.list_store.specs.declared.stop.PutStop.TheVariants as put
use Rattle.object_cells.specs.declared.lists.Range.{Range}

-- The heap shows a graph whose list of some number stands at the address, and what is held shows a value of it.
pub record IsShownSetting (main : Mutator) (at : ℕ) (held : Held) : Type 0 where
  pub graph : Graph
  pub list : ListObject
  pub value : Value
  pub shows : MainShows main graph
  pub is : IsListAt main graph at list
  pub is_held : IsValueHeld main graph held value

-- How a value comes to be the last element of the list at the address: it allocates what that needs, for which there is
-- room, and the heap shows the graph in which it is. Which words are put is said: only words of the list change, and
-- those that it allocates, a store and behind it a box. The store is made anew where it is full or absent; no other
-- object's is.
pub record HasPushed (old new : Mutator) (graph : Graph) (at : ℕ) (list : ListObject) (value : Value) : Type 0 where
  pub few : length list.elements < list_most
  pub room : HasRoom old.young (push_need (capacity_at (heap_of old) at) list value)
  pub uses : UsesMore old new (push_need (capacity_at (heap_of old) at) list value)
  pub changes : ChangesObjectUsing old new (push_need (capacity_at (heap_of old) at) list value) at
      (push_capacity (capacity_at (heap_of old) at) (length list.elements))
  pub shows : MainShows new (relist graph list (list.elements ++ value ∷ []))
  pub held : Held
  pub holds : ShowsHeld (heap_of old) held (Some value)
  pub puts : PushesAt old new at (length list.elements) held

-- `push`: the value becomes the last element; or the list has as many as it may have, or there is no room, in this
-- order, and nothing changes.
abbrev pub PushesElement : Mutator → Mutator → Graph → ℕ → ListObject → Value → Result Unit PushStop → Type 0
PushesElement old new graph at list value (Ok _) = HasPushed old new graph at list value
PushesElement old new graph at list value (Err push.ListFull) = (list_most ≤ length list.elements) × (new ≡ old)
PushesElement old new graph at list value (Err (push.Full room)) =
    (length list.elements < list_most) × (room.need ≡ push_need (capacity_at (heap_of old) at) list value)
    × (HasRoom old.young room.need → ⊥) × (new ≡ old)

-- the place that an index names in a list; none where it is below 0, or not below the length
abbrev pub IsPlaceIn : ListObject → ℤ → ℕ → Type 0
IsPlaceIn list index place = below (length list.elements) index ≡ Some place

abbrev pub IsIndexOutside : ListObject → ℤ → Type 0
IsIndexOutside list index = below (length list.elements) index ≡ None

-- How the element at a place of the list at the address comes to be a value: it allocates what that needs, for which
-- there is room, and the heap shows the graph in which it is. Which words are put is said: that of the element's slot
-- and of a box that is made, or the integer of the box that stands there. Each store keeps its capacity.
pub record HasPut (old new : Mutator) (graph : Graph) (at : ℕ) (list : ListObject) (place : ℕ)
    (value : Value) : Type 0 where
  pub room : HasRoom old.young (put_need list value place)
  pub uses : UsesMore old new (put_need list value place)
  pub changes : ChangesObjectUsing old new (put_need list value place) at (capacity_at (heap_of old) at)
  pub shows : MainShows new (relist graph list (slice_set list.elements place value))
  pub store : Store
  pub is_store : IsStoreAt (heap_of old) at store
  pub held : Held
  pub holds : ShowsHeld (heap_of old) held (Some value)
  pub puts : FillsSlot old new (store.at + (store_head + place)) (store_content held)

-- `put`: the element that an index names becomes the value; or it names none, or there is no room, in this order, and
-- nothing changes.
abbrev pub PutsElement : Mutator → Mutator → Graph → ℕ → ListObject → ℤ → Value → Result Unit PutStop → Type 0
PutsElement old new graph at list index value (Ok _) =
    (place : ℕ) × IsPlaceIn list index place × HasPut old new graph at list place value
PutsElement old new graph at list index value (Err put.Range) = IsIndexOutside list index × (new ≡ old)
PutsElement old new graph at list index value (Err (put.Full room)) =
    (place : ℕ) × IsPlaceIn list index place
    × (room.need ≡ put_need list value place) × (HasRoom old.young room.need → ⊥)
    × (new ≡ old)

-- the element that an index names
pub record IsElementAt (list : ListObject) (index : ℤ) (value : Value) : Type 0 where
  pub place : ℕ
  pub names : IsPlaceIn list index place
  pub stands : slice_get list.elements place ≡ Some value

-- a word shows the element that an index names; or it names none
abbrev pub TellsWord : Mutator → ListObject → ℤ → Result Word Range → Type 0
TellsWord main list index (Ok word) =
    (value : Value) × IsElementAt list index value × ShowsByClass (heap_of main) word.0 value
TellsWord main list index (Err range) = IsIndexOutside list index

-- `at`: what is held shows the element that an index names; or it names none.
abbrev pub TellsElement : Mutator → ListObject → ℤ → Result Held Range → Type 0
TellsElement main list index (Ok held) =
    (value : Value) × IsElementAt list index value × ShowsHeld (heap_of main) held (Some value)
TellsElement main list index (Err range) = IsIndexOutside list index

-- a variable holds this, and no other word has changed
pub record HoldsThis (old new : Mutator) (variable : ℕ) (held : Held) : Type 0 where
  pub fits : FitsHeld held
  pub is : new ≡ with_variable old variable held
  pub heap : heap_words new.seat ≡ with_root old.seat.space (heap_words old.seat) variable held

-- `hold_at`: a variable holds what shows the element that an index names; or it names none, and nothing has changed.
abbrev pub HoldsElement : Mutator → Mutator → ℕ → ListObject → ℤ → Result Unit Range → Type 0
HoldsElement old new variable list index (Ok _) =
    (held : Held) × TellsElement old list index (Ok held) × HoldsThis old new variable held
HoldsElement old new variable list index (Err range) = IsIndexOutside list index × (new ≡ old)
