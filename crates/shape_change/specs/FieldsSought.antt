-- Fields that are sought in a plain object, and along its prototypes.
use Rattle.std.specs.Prelude.{◌≡◌, ℕ, zero, suc, Bool, true, false, List, Option, Some, None, unwrap_or}
use Rattle.heap_model.specs.Types.{Value}
use Rattle.object_graph.specs.declared.value.Value.TheVariants.{Undefined}
use Rattle.object_graph.specs.declared.object.Object.{Object}
use Rattle.object_graph.specs.Objects.{field_value}
use Rattle.object_graph.specs.Graphs.{Graph, PlainObject}
use Rattle.object_graph.specs.Prototypes.{prototypes_most, field_along}
use Rattle.write_barrier.specs.MutatorState.{Mutator, MainShows}
use Rattle.object_cells.specs.PlainObjects.{IsPlainAt}
use Rattle.shape_change.specs.FieldChanges.{HoldsValue, value_along}

-- a variable holds the value that was sought, where there is one; where there is none, nothing changes
abbrev pub HoldsSought : Mutator → Mutator → ℕ → Option Value → Bool → Type 0
HoldsSought old new variable sought true =
    (value : Value) × (sought ≡ Some value) × HoldsValue old new variable value
HoldsSought old new variable sought false = (sought ≡ None) × (new ≡ old)

-- the same of a field of the plain object itself that stands at the address
abbrev pub HoldsOwn : Mutator → Mutator → ℕ → ℕ → ℕ → Bool → Type 0
HoldsOwn old new variable at name found =
    (graph : Graph) (plain : PlainObject) → MainShows old graph → IsPlainAt old graph at plain
    → HoldsSought old new variable (field_value plain.fields name) found

-- a variable holds the field of the plain object at the address, its own or one of its prototypes', or undefined
abbrev pub HoldsAlong : Mutator → Mutator → ℕ → ℕ → ℕ → Type 0
HoldsAlong old new variable at name =
    (graph : Graph) (plain : PlainObject) → MainShows old graph → IsPlainAt old graph at plain
    → HoldsValue old new variable (value_along graph plain name)

-- the plain object at the address has no field of the name
abbrev pub LacksName : Mutator → ℕ → ℕ → Type 0
LacksName main at name =
    (graph : Graph) (plain : PlainObject) → MainShows main graph → IsPlainAt main graph at plain
    → field_value plain.fields name ≡ None

-- The value of the field of this name in the first of so many objects that has it: the plain object, and those that
-- follow it by prototypes.
abbrev pub field_in_first : List Object → ℕ → PlainObject → ℕ → Option Value
field_in_first objects zero plain name = None
field_in_first objects (suc k) plain name = field_along objects k plain name

-- A variable holds the value of the field in the first that has it of as many objects as prototypes are looked at: the
-- plain object, and those that follow it by prototypes; undefined where none has it.
abbrev pub HoldsFirst : Mutator → Mutator → ℕ → Graph → PlainObject → ℕ → Type 0
HoldsFirst old new variable graph plain name =
    HoldsValue old new variable (unwrap_or (field_in_first graph.objects prototypes_most plain name) Undefined)
