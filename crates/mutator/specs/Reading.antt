-- What is read from a heap that shows a graph: what is held of the values that are sought, and the objects that it
-- refers to.
use Rattle.std.specs.Prelude.{◌≡◌, ℕ, ℤ, ◌⊎◌, IsTrue, List, [], Option, Some, None, Result, Ok, Err, slice_get}
use Rattle.tagged_word.specs.Shapes.{list_shape, weak_shape}
use Rattle.tagged_word.specs.declared.header.Header.{Header}
use Rattle.heap_model.specs.Types.{FaultWord, Value, Held, Object, Path, Operand}
use Rattle.heap_command.specs.declared.command.Command.TheVariants.{Add}
use Rattle.heap_command.specs.declared.command.FaultWord.TheVariants.{Unbound, NotObject, NotList}
use Rattle.heap_command.specs.declared.command.FaultWord.TheVariants.{NotWeak, NotInt, BadKey}
use Rattle.object_graph.specs.declared.value.Value.TheVariants.{Int, Ref}
use Rattle.object_graph.specs.declared.object.Object.TheVariants as kind
use Rattle.object_graph.specs.Paths.{path_of}
use Rattle.object_graph.specs.Graphs.{Graph, PlainObject, ListObject, WeakObject, integer_in, object_in}
use Rattle.object_graph.specs.Graphs.{plain_at, list_at, weak_at, bind}
use Rattle.object_graph.specs.Limits.{ideal_limits}
use Rattle.object_graph.specs.Meaning.{done, meaning}
use Rattle.object_graph.specs.Reach.{is_marked, reach}
use Rattle.shape_tree.specs.Shapes.{IsShapeOf}
use Rattle.handle_roots.specs.declared.given.Given.{Given}
use Rattle.handle_roots.specs.declared.given.Given.TheVariants as given
use Rattle.handle_roots.specs.declared.held.Held.TheVariants as held
use Rattle.tagged_word.specs.declared.word.Word.{Word}
use Rattle.tagged_word.specs.Words.{small}
use Rattle.handle_roots.specs.Givens.{IsGivenFor}
use Rattle.handle_roots.specs.Roots.{FitsHeld}
use Rattle.heap_model.specs.Slots.{IsPlace}
use Rattle.write_barrier.specs.MutatorState.{Mutator, MainShows, heap_of}
use Rattle.write_barrier.specs.Reading.{IsHeaderAt}
use Rattle.object_cells.specs.PlainObjects.{IsPlainAt}
use Rattle.object_cells.specs.ListObjects.{IsListAt}
use Rattle.object_cells.specs.HeldValues.{IsValueHeld}
use Rattle.ephemeron_table.specs.WeakObjects.{IsWeakAt, IsKeyAt}
use Rattle.mutator.specs.declared.lookups.Found.{Found}

-- what is held stands for the value: it shows it, and a variable may hold it
pub record StandsFor (main : Mutator) (graph : Graph) (value : Value) (held : Held) : Type 0 where
  pub is : IsValueHeld main graph held value
  pub fits : FitsHeld held

-- what was found stands for the value that is sought; where none is there, the word is `unbound`
abbrev pub Finds : Mutator → Graph → Option Value → Result Held FaultWord → Type 0
Finds main graph sought (Ok held) = (value : Value) × (sought ≡ Some value) × StandsFor main graph value held
Finds main graph sought (Err word) = (sought ≡ None) × (word ≡ Unbound)

-- What was found stands for the two values that are sought, in order.
pub record StandForBoth (main : Mutator) (graph : Graph) (one other : Option Value) (found : Held × Held) : Type 0 where
  pub first : Value
  pub is_first : one ≡ Some first
  pub stands_first : StandsFor main graph first found.0
  pub second : Value
  pub is_second : other ≡ Some second
  pub stands_second : StandsFor main graph second found.1

-- both were found; where one of them is not there, the word is `unbound`
abbrev pub FindsBoth : Mutator → Graph → Option Value → Option Value → Result (Held × Held) FaultWord → Type 0
FindsBoth main graph one other (Ok found) = StandForBoth main graph one other found
FindsBoth main graph one other (Err word) = ((one ≡ None) ⊎ (other ≡ None)) × (word ≡ Unbound)

-- the value that is sought is given, or none is there
abbrev pub FindsGiven : Mutator → Graph → Option Value → Option Given → Type 0
FindsGiven main graph sought (Some given) = (held : Held) × IsGivenFor given held × Finds main graph sought (Ok held)
FindsGiven main graph sought None = sought ≡ None

-- the value that is sought is there and refers to no plain object, or is not there; this is the fault of a command that
-- wants one
abbrev pub LacksPlain : Graph → Option Value → FaultWord → Type 0
LacksPlain graph sought word =
    ((sought ≡ None) × (word ≡ Unbound))
    ⊎ ((value : Value) × (sought ≡ Some value) × (plain_at graph.objects value ≡ None) × (word ≡ NotObject))

-- what is held stands for a value of a graph that the heap shows
pub record IsShownValue (main : Mutator) (held : Held) : Type 0 where
  pub graph : Graph
  pub value : Value
  pub shows : MainShows main graph
  pub stands : StandsFor main graph value held

-- The shape is that of the object's cell: a plain one has that of its path, lists and weak maps one each.
abbrev pub HasShapeOf : List Path → Object → ℕ → Type 0
HasShapeOf paths (kind.Plain cap proto fields) shape = IsShapeOf paths (path_of cap fields) shape
HasShapeOf paths (kind.List elements) shape = shape ≡ list_shape
HasShapeOf paths (kind.Weak entries) shape = shape ≡ weak_shape

-- the object to which the value refers stands where it was found, and its cell has this shape
pub record IsFoundObject (main : Mutator) (graph : Graph) (value : Value) (found : Found) : Type 0 where
  pub number : ℕ
  pub what : Object
  pub is : value ≡ Ref number
  pub there : slice_get graph.objects number ≡ Some what
  pub place : IsPlace (heap_of main) number found.at
  pub reached : IsTrue (is_marked (reach graph) number)
  pub shaped : HasShapeOf main.paths what found.shape

-- the object to which the value refers was found, or it refers to none
abbrev pub FindsObject : Mutator → Graph → Value → Option Found → Type 0
FindsObject main graph value (Some found) = IsFoundObject main graph value found
FindsObject main graph value None = object_in value ≡ None

-- the plain object to which the value refers stands where it was found, and has this shape
pub record IsFound (main : Mutator) (graph : Graph) (value : Value) (found : Found) : Type 0 where
  pub plain : PlainObject
  pub is : value ≡ Ref plain.number
  pub refers : plain_at graph.objects value ≡ Some plain
  pub stands : IsPlainAt main graph found.at plain
  pub shaped : IsShapeOf main.paths (path_of plain.cap plain.fields) found.shape

-- the plain object to which the value refers was found; where it refers to none, the word is `notobject`
abbrev pub FindsPlain : Mutator → Graph → Value → Result Found FaultWord → Type 0
FindsPlain main graph value (Ok found) = IsFound main graph value found
FindsPlain main graph value (Err word) = (plain_at graph.objects value ≡ None) × (word ≡ NotObject)

-- the value that is sought refers to an object that stands here, and this is its cell's header
pub record FindsHeader (main : Mutator) (graph : Graph) (sought : Option Value) (at : ℕ) (header : Header)
    : Type 0 where
  pub value : Value
  pub is : sought ≡ Some value
  pub found : IsFoundObject main graph value (record { at = at; shape = header.shape })
  pub headed : IsHeaderAt (heap_of main) at header

-- the value that is sought is a small integer, and this its word
pub record IsSmallWord (sought : Option Value) (word : Word) : Type 0 where
  pub v : ℤ
  pub small : IsTrue (small v)
  pub gives : IsGivenFor (given.Word word) (held.Int v)
  pub is : sought ≡ Some (Int v)

-- the value that is sought refers to a plain object that stands here, and this is its cell's header
pub record FindsHeaded (main : Mutator) (graph : Graph) (sought : Option Value) (at : ℕ) (header : Header)
    : Type 0 where
  pub value : Value
  pub is : sought ≡ Some value
  pub found : IsFound main graph value (record { at = at; shape = header.shape })
  pub headed : IsHeaderAt (heap_of main) at header

-- the list to which the value refers stands where it was found
pub record IsFoundList (main : Mutator) (graph : Graph) (value : Value) (at : ℕ) : Type 0 where
  pub list : ListObject
  pub is : value ≡ Ref list.number
  pub refers : list_at graph.objects value ≡ Some list
  pub stands : IsListAt main graph at list

-- the list to which the value refers was found; where it refers to none, the word is `notlist`
abbrev pub FindsList : Mutator → Graph → Value → Result ℕ FaultWord → Type 0
FindsList main graph value (Ok at) = IsFoundList main graph value at
FindsList main graph value (Err word) = (list_at graph.objects value ≡ None) × (word ≡ NotList)

-- the weak map to which the value refers stands where it was found
pub record IsFoundWeak (main : Mutator) (graph : Graph) (value : Value) (at : ℕ) : Type 0 where
  pub weak : WeakObject
  pub is : value ≡ Ref weak.number
  pub refers : weak_at graph.objects value ≡ Some weak
  pub stands : IsWeakAt main graph at weak

-- the weak map to which the value refers was found; where it refers to none, the word is `notweak`
abbrev pub FindsWeak : Mutator → Graph → Value → Result ℕ FaultWord → Type 0
FindsWeak main graph value (Ok at) = IsFoundWeak main graph value at
FindsWeak main graph value (Err word) = (weak_at graph.objects value ≡ None) × (word ≡ NotWeak)

-- the object that is the key stands where it was found
pub record IsFoundKey (main : Mutator) (graph : Graph) (value : Value) (at : ℕ) : Type 0 where
  pub number : ℕ
  pub is : value ≡ Ref number
  pub stands : IsKeyAt main graph at number

-- the object that is the key was found; where the value is none, the word is `badkey`
abbrev pub FindsKey : Mutator → Graph → Value → Result ℕ FaultWord → Type 0
FindsKey main graph value (Ok at) = IsFoundKey main graph value at
FindsKey main graph value (Err word) = (object_in value ≡ None) × (word ≡ BadKey)

-- the integer is the value; where it is none, the word is `notint`
abbrev pub FindsInteger : Value → Result ℤ FaultWord → Type 0
FindsInteger value (Ok v) = integer_in value ≡ Some v
FindsInteger value (Err word) = (integer_in value ≡ None) × (word ≡ NotInt)

-- this is the sum that the command `add` binds
abbrev pub FindsSum : List (List ℕ) → Graph → ℕ → Operand → ℤ → Type 0
FindsSum names graph x v sum = meaning ideal_limits names graph (Add x v) ≡ done (bind graph x (Int sum)) []
