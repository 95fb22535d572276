-- The graph of all objects ever made.
use Rattle.std.specs.Prelude.{ℕ, List, [], ◌∷◌, ◌++◌, length, Option, Some, None, ℤ, slice_get, slice_set}
use Rattle.std.specs.Prelude.{option_and_then}
use Rattle.std.specs.Ordering.{nat_cmp}
use Rattle.std.specs.FinMap.{FinMap, empty, get, insert}
use Rattle.heap_command.specs.declared.command.Operand.{Operand}
use Rattle.heap_command.specs.declared.command.Operand.TheVariants as operand
use Rattle.object_graph.specs.declared.value.Value.{Value}
use Rattle.object_graph.specs.declared.value.Value.TheVariants.{Int, Undefined, Ref}
use Rattle.object_graph.specs.declared.object.Object.{Object}
use Rattle.object_graph.specs.declared.object.Object.TheVariants as kind
use Rattle.object_graph.specs.declared.object.Field.{Field}
use Rattle.object_graph.specs.declared.object.Entry.{Entry}
use Rattle.object_graph.specs.declared.path.Path.{Path}
use Rattle.object_graph.specs.Paths.{empty_paths}

-- all objects ever made, by their numbers; what the variables are bound to; the field paths
pub record Graph : Type 0 where
  pub objects : List Object
  pub bindings : FinMap nat_cmp Value
  pub paths : List Path

-- no object, no bound variable, and the nine empty paths
abbrev pub start : Graph
start = record { objects = []; bindings = empty; paths = empty_paths }

-- the graph with a variable bound to a value
abbrev pub bind : Graph → ℕ → Value → Graph
bind graph x value = record graph { bindings = insert graph.bindings x value }

-- the graph with one object more, to which a variable is bound
abbrev pub make : Graph → ℕ → Object → Graph
make graph x object =
    record graph {
      objects = graph.objects ++ object ∷ [];
      bindings = insert graph.bindings x (Ref (length graph.objects));
    }

-- the graph with another object of this number
abbrev pub replace : Graph → ℕ → Object → Graph
replace graph number object = record graph { objects = slice_set graph.objects number object }

-- the value that an operand stands for; nothing where its variable is unbound
abbrev pub value_of : Graph → Operand → Option Value
value_of graph (operand.Int v) = Some (Int v)
value_of graph operand.Undefined = Some Undefined
value_of graph (operand.Var x) = get graph.bindings x

-- the integer that a value is, if it is one
abbrev pub integer_in : Value → Option ℤ
integer_in (Int v) = Some v
integer_in Undefined = None
integer_in (Ref number) = None

-- the number of the object that a value refers to, if it refers to one
abbrev pub object_in : Value → Option ℕ
object_in (Int v) = None
object_in Undefined = None
object_in (Ref number) = Some number

-- a plain object with its number, and with that of its prototype if it has one
pub record PlainObject : Type 0 where
  pub number : ℕ
  pub cap : ℕ
  pub proto : Option ℕ
  pub fields : List Field

-- a list with its number
pub record ListObject : Type 0 where
  pub number : ℕ
  pub elements : List Value

-- a weak map with its number
pub record WeakObject : Type 0 where
  pub number : ℕ
  pub entries : List Entry

-- the object of this number, if it is a plain one
abbrev pub as_plain : ℕ → Object → Option PlainObject
as_plain number (kind.Plain cap proto fields) =
    Some (record { number = number; cap = cap; proto = proto; fields = fields })
as_plain number (kind.List elements) = None
as_plain number (kind.Weak entries) = None

-- the object of this number, if it is a list
abbrev pub as_list : ℕ → Object → Option ListObject
as_list number (kind.Plain cap proto fields) = None
as_list number (kind.List elements) = Some (record { number = number; elements = elements })
as_list number (kind.Weak entries) = None

-- the object of this number, if it is a weak map
abbrev pub as_weak : ℕ → Object → Option WeakObject
as_weak number (kind.Plain cap proto fields) = None
as_weak number (kind.List elements) = None
as_weak number (kind.Weak entries) = Some (record { number = number; entries = entries })

-- what a value refers to, if it is an object of the wanted kind
abbrev pub found_at : {Kind : Type 0} → (ℕ → Object → Option Kind) → List Object → Value → Option Kind
found_at as_kind objects (Int v) = None
found_at as_kind objects Undefined = None
found_at as_kind objects (Ref number) = option_and_then (as_kind number) (slice_get objects number)

-- the plain object that a value refers to, if it refers to one
abbrev pub plain_at : List Object → Value → Option PlainObject
plain_at objects value = found_at as_plain objects value

-- the list that a value refers to, if it refers to one
abbrev pub list_at : List Object → Value → Option ListObject
list_at objects value = found_at as_list objects value

-- the weak map that a value refers to, if it refers to one
abbrev pub weak_at : List Object → Value → Option WeakObject
weak_at objects value = found_at as_weak objects value
