-- What the calls on the fields of an object do.
use Rattle.std.specs.Prelude.{◌≡◌, ◌<◌, ◌≤◌, ℕ, List, Some, None, unwrap_or, slice_get, nat_lt}
use Rattle.std.specs.Prelude.{Result, Ok, Err}
use Rattle.tagged_word.specs.Shapes.{first_path_shape}
use Rattle.heap_model.specs.Types.{Value, Field, ShapesFull, Held, Cell, PathField, Header}
use Rattle.handle_roots.specs.declared.given.Given.{Given}
use Rattle.handle_roots.specs.Givens.{IsGivenFor}
use Rattle.write_barrier.specs.Reading.{IsHeaderAt}
use Rattle.heap_model.specs.Heaps.{HasCell}
use Rattle.heap_model.specs.Kinds.{HasSlots, HasWord}
use Rattle.heap_model.specs.Showing.{ShowsHeld, ShowsField}
use Rattle.handle_roots.specs.Roots.{FitsHeld, with_root}
use Rattle.write_barrier.specs.Seats.{heap_words}
use Rattle.object_graph.specs.declared.value.Value.TheVariants.{Undefined}
use Rattle.object_graph.specs.Objects.{field_value, with_field, without_field}
use Rattle.object_graph.specs.Paths.{path_of}
use Rattle.object_graph.specs.Graphs.{Graph, PlainObject}
use Rattle.object_graph.specs.Prototypes.{prototypes_most, field_along}
use Rattle.shape_tree.specs.Shapes.{LacksPathsFor, shape_path}
use Rattle.nursery.specs.Young.{HasRoom}
use Rattle.heap_model.specs.Needs.{capacity_at}
use Rattle.heap_model.specs.Rooms.{set_need, set_capacity}
use Rattle.write_barrier.specs.MutatorState.{Mutator, heap_of, MainShows, with_variable}
use Rattle.object_cells.specs.PlainObjects.{IsPlainAt, ShowsRefilled, LacksPaths, LacksFields}
use Rattle.object_cells.specs.HeldValues.{IsValueHeld}
use Rattle.object_cells.specs.Uses.{UsesMore}
use Rattle.object_cells.specs.Capacities.{ChangesObjectUsing}
use Rattle.shape_change.specs.declared.stop.FieldStop.{FieldStop}
use Rattle.shape_change.specs.declared.stop.FieldStop.TheVariants as stop

-- A variable holds what shows a value to it, and no other word has changed.
pub record HoldsValue (old new : Mutator) (variable : ℕ) (value : Value) : Type 0 where
  pub held : Held
  pub shows : ShowsHeld (heap_of old) held (Some value)
  pub fits : FitsHeld held
  pub is : new ≡ with_variable old variable held
  pub heap : heap_words new.seat ≡ with_root old.seat.space (heap_words old.seat) variable held

-- a variable holds the field of this number of the plain object at the address
abbrev pub HoldsSlot : Mutator → Mutator → ℕ → ℕ → ℕ → Type 0
HoldsSlot old new variable at slot =
    (cell : Cell) (words slots : List ℕ) (field : PathField) (word : ℕ) (value : Value)
    → HasCell (heap_of old) cell words → cell.at ≡ at → HasSlots (heap_of old) words slots
    → slice_get (shape_path old.paths cell.header.shape).fields slot ≡ Some field → HasWord slots slot word
    → ShowsField (heap_of old) (nat_lt slot (shape_path old.paths cell.header.shape).cap) word field.rep value
    → HoldsValue old new variable value

-- The heap shows a graph whose plain object of some number stands at the address, and what is held shows a value of it.
pub record IsShownSetting (main : Mutator) (at : ℕ) (held : Held) : Type 0 where
  pub graph : Graph
  pub plain : PlainObject
  pub value : Value
  pub shows : MainShows main graph
  pub is : IsPlainAt main graph at plain
  pub is_held : IsValueHeld main graph held value

-- How a field of the object at the address comes to have a value: it allocates what that needs, for which there is
-- room, and the heap shows the graph in which the field has it. Only words of the object change, and those that it
-- allocates. Its property store is made anew where it is full or absent and the field needs a slot of it; no other
-- object's is.
pub record HasSetField (old new : Mutator) (graph : Graph) (at : ℕ) (plain : PlainObject) (name : ℕ) (value : Value)
    : Type 0 where
  pub few : LacksFields plain name → ⊥
  pub room : HasRoom old.young (set_need (capacity_at (heap_of old) at) plain name value)
  pub uses : UsesMore old new (set_need (capacity_at (heap_of old) at) plain name value)
  pub changes : ChangesObjectUsing old new (set_need (capacity_at (heap_of old) at) plain name value) at
      (set_capacity (capacity_at (heap_of old) at) plain name)
  pub shows : ShowsRefilled new graph plain (with_field plain.fields name value)

-- There may not be as many paths as the object with these fields needs; the refusal says how many there are, and how
-- many it lacks.
abbrev pub IsFullOfPaths : Graph → PlainObject → List Field → ShapesFull → Type 0
IsFullOfPaths graph plain fields full = LacksPathsFor graph.paths graph.paths (path_of plain.cap fields) full

-- `set` of a field: the field has the value; or there are too many fields, too many paths, or no room, in this order,
-- and nothing changes.
abbrev pub SetsField : Mutator → Mutator → Graph → ℕ → PlainObject → ℕ → Value → Result Unit FieldStop
    → Type 0
SetsField old new graph at plain name value (Ok _) = HasSetField old new graph at plain name value
SetsField old new graph at plain name value (Err stop.NotPlain) = ⊥
SetsField old new graph at plain name value (Err stop.FieldsFull) = LacksFields plain name × (new ≡ old)
SetsField old new graph at plain name value (Err (stop.ShapesFull full)) =
    (LacksFields plain name → ⊥) × IsFullOfPaths graph plain (with_field plain.fields name value) full × (new ≡ old)
SetsField old new graph at plain name value (Err (stop.Full room)) =
    (LacksFields plain name → ⊥) × (LacksPaths graph plain (with_field plain.fields name value) → ⊥)
    × (room.need ≡ set_need (capacity_at (heap_of old) at) plain name value) × (HasRoom old.young room.need → ⊥)
    × (new ≡ old)

-- The object at the address has this header, and where that is a plain object's, the heap shows the object and the
-- value.
pub record MaySet (main : Mutator) (at : ℕ) (header : Header) (value : Given) : Type 0 where
  pub held : Held
  pub gives : IsGivenFor value held
  pub plain : first_path_shape ≤ header.shape → IsShownSetting main at held
  pub headed : IsHeaderAt (heap_of main) at header

-- `set` of a field of the object with this header at the address: of a plain object as above, and of another nothing
-- changes.
pub record Sets (old new : Mutator) (at : ℕ) (header : Header) (name : ℕ) (value : Given) (came : Result Unit FieldStop)
    : Type 0 where
  pub plain : first_path_shape ≤ header.shape → (held : Held) → IsGivenFor value held
      → (graph : Graph) (plain : PlainObject) (what : Value) → MainShows old graph → IsPlainAt old graph at plain
      → IsValueHeld old graph held what → SetsField old new graph at plain name what came
  pub other : header.shape < first_path_shape → (came ≡ Err stop.NotPlain) × (new ≡ old)

-- How a field is taken out: the heap shows the graph in which the object lacks it, and nothing changes where it lacked
-- it before. Only words of the object change, and each property store stays.
pub record HasDeletedField (old new : Mutator) (graph : Graph) (at : ℕ) (plain : PlainObject) (name : ℕ) : Type 0 where
  pub none : field_value plain.fields name ≡ None → new ≡ old
  pub uses : UsesMore old new 0
  pub changes : ChangesObjectUsing old new 0 at (capacity_at (heap_of old) at)
  pub shows : ShowsRefilled new graph plain (without_field plain.fields name)

-- `del` of a field: it is taken out, and nothing happens where it is not there; or there are too many paths.
abbrev pub DeletesField : Mutator → Mutator → Graph → ℕ → PlainObject → ℕ → Result Unit ShapesFull → Type 0
DeletesField old new graph at plain name (Ok _) = HasDeletedField old new graph at plain name
DeletesField old new graph at plain name (Err full) =
    IsFullOfPaths graph plain (without_field plain.fields name) full × (new ≡ old)

-- the value of the field in the object or in the nearest that follows it by prototypes and has it, or undefined where
-- none has
abbrev pub value_along : Graph → PlainObject → ℕ → Value
value_along graph plain name = unwrap_or (field_along graph.objects prototypes_most plain name) Undefined
