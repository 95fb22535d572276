-- Laws of reach after a command, and after a run: nothing comes back, and what is new is what a command made.
use Rattle.std.specs.Prelude.{◌≡◌, ◌⊎◌, ℕ, ◌<◌, ◌≤◌, List, length, All, Contains, Option, Some, None, is_some}
use Rattle.std.specs.Prelude.{IsTrue, slice_get}
use Rattle.std.specs.FinMap.{get}
use Rattle.heap_command.specs.Executed.{Executed}
use Rattle.heap_command.specs.declared.command.Command.{Command}
use Rattle.heap_command.specs.declared.command.Command.TheVariants as command
use Rattle.object_graph.specs.declared.value.Value.TheVariants.{Ref}
use Rattle.object_graph.specs.declared.object.Object.{Object}
use Rattle.object_graph.specs.declared.object.Object.TheVariants as kind
use Rattle.object_graph.specs.declared.object.Field.{Field}
use Rattle.object_graph.specs.declared.object.Entry.{Entry}
use Rattle.object_graph.specs.Graphs.{Graph}
use Rattle.object_graph.specs.Meaning.{Limits, done, meaning}
use Rattle.object_graph.specs.Reach.{is_marked, reach}
use Rattle.object_graph.specs.Run.{Told, run_from}
use Rattle.object_graph.specs.Invariants.{IsGraph}
use Rattle.graph_laws.specs.GraphLaws.{HasFieldLimit, FitsLine}

-- the variable that the command binds to a new object, if it makes one
abbrev pub made_for : Command → Option ℕ
made_for (command.New x cap) = Some x
made_for (command.List x) = Some x
made_for (command.Weak x) = Some x
made_for _ = None

-- the command makes an object, and this is its number
abbrev pub IsMadeBy : Graph → Command → ℕ → Type 0
IsMadeBy graph command number = IsTrue (is_some (made_for command)) × (number ≡ length graph.objects)

-- what can be reached after a command could be reached before it, or is the object that the command made
abbrev pub OnlyMadeIsNew : Type 0
OnlyMadeIsNew =
    (limits : Limits) (names : List (List ℕ)) (graph : Graph) (command : Command) (after : Graph) (text : List ℕ)
    (number : ℕ)
    → IsGraph graph → meaning limits names graph command ≡ done after text → IsTrue (is_marked (reach after) number)
    → IsTrue (is_marked (reach graph) number) ⊎ IsMadeBy graph command number

-- the command's variable is bound to the object that a command made, so the object can be reached
abbrev pub MadeIsReached : Type 0
MadeIsReached =
    (limits : Limits) (names : List (List ℕ)) (graph : Graph) (command : Command) (after : Graph) (text : List ℕ)
    (x : ℕ)
    → meaning limits names graph command ≡ done after text → made_for command ≡ Some x
    → (get after.bindings x ≡ Some (Ref (length graph.objects)))
    × IsTrue (is_marked (reach after) (length graph.objects))

-- the prototype, a field, an element, a key or a value of the object is the object of this number
abbrev pub Mentions : Object → ℕ → Type 0
Mentions (kind.Plain cap proto fields) number =
    (proto ≡ Some number) ⊎ ((field : Field) × Contains fields field × (field.value ≡ Ref number))
Mentions (kind.List elements) number = Contains elements (Ref number)
Mentions (kind.Weak entries) number =
    (entry : Entry) × Contains entries entry × ((entry.key ≡ number) ⊎ (entry.value ≡ Ref number))

-- nothing in the graph refers to the object of this number but the variable
pub record IsOnlyBoundTo (graph : Graph) (x number : ℕ) : Type 0 where
  -- no other variable is bound to it
  pub variables : (other : ℕ) → get graph.bindings other ≡ Some (Ref number) → other ≡ x
  -- no object refers to it, and it does not itself
  pub objects : (holder : ℕ) (object : Object) → slice_get graph.objects holder ≡ Some object → ¬ Mentions object number

-- nothing refers to the object that a command made but the command's variable
abbrev pub MadeIsUnshared : Type 0
MadeIsUnshared =
    (limits : Limits) (names : List (List ℕ)) (graph : Graph) (command : Command) (after : Graph) (text : List ℕ)
    (x : ℕ)
    → IsGraph graph → meaning limits names graph command ≡ done after text → made_for command ≡ Some x
    → IsOnlyBoundTo after x (length graph.objects)

-- Since the first graph nothing was taken out, and nothing came back: what can be reached in the second graph could be
-- reached in the first, or was made since.
pub record StaysLost (before after : Graph) : Type 0 where
  pub grows : length before.objects ≤ length after.objects
  pub lost : (number : ℕ) → number < length before.objects → IsTrue (is_marked (reach after) number)
      → IsTrue (is_marked (reach before) number)

-- what is lost stays lost, whatever lines come
abbrev pub LostStaysLost : Type 0
LostStaysLost =
    (limits : Limits) (names : List (List ℕ)) (lines : List Executed) (before after : Told)
    → HasFieldLimit limits → All (λ line. FitsLine line.command) lines → IsGraph before.graph
    → run_from limits names before lines ≡ Some after → StaysLost before.graph after.graph
