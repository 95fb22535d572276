-- Laws of the graphs that scripts make.
use Rattle.std.specs.Prelude.{◌≡◌, ℕ, ◌≤◌, List, length, All, Option, Some, None, slice_get, FitsSigned}
use Rattle.std.specs.Int.{w64}
use Rattle.heap_command.specs.Executed.{Executed}
use Rattle.heap_command.specs.declared.command.Command.{Command}
use Rattle.heap_command.specs.declared.command.Command.TheVariants as command
use Rattle.heap_command.specs.declared.command.Operand.{Operand}
use Rattle.heap_command.specs.declared.command.Operand.TheVariants as operand
use Rattle.object_graph.specs.declared.object.Field.{Field}
use Rattle.object_graph.specs.declared.object.Object.TheVariants.{Plain}
use Rattle.object_graph.specs.Graphs.{Graph}
use Rattle.object_graph.specs.Meaning.{Limits, done, meaning}
use Rattle.object_graph.specs.Run.{Told, run_of}
use Rattle.heap_command.specs.Commands.{cap_most}
use Rattle.object_graph.specs.Invariants.{fields_most, IsGraph}

-- an operand that is an integer has 64 bits
abbrev pub FitsOperand : Operand → Type 0
FitsOperand (operand.Int v) = FitsSigned w64 v
FitsOperand _ = Unit {0}

-- an object that the command makes has at most 8 slots of its own, and an integer that it stores has 64 bits
abbrev pub FitsCommand : Command → Type 0
FitsCommand (command.New x cap) = cap ≤ cap_most
FitsCommand (command.LetValue x v) = FitsOperand v
FitsCommand (command.Set x f v) = FitsOperand v
FitsCommand (command.Push x v) = FitsOperand v
FitsCommand (command.Put x i v) = FitsOperand v
FitsCommand (command.WPut m k v) = FitsOperand v
FitsCommand _ = Unit {0}

-- and so it is of the command of a line, if it runs one
abbrev pub FitsLine : Option Command → Type 0
FitsLine None = Unit {0}
FitsLine (Some command) = FitsCommand command

-- the limits let no object have more fields than 64
abbrev pub HasFieldLimit : Limits → Type 0
HasFieldLimit limits = (cap : ℕ) → cap ≤ cap_most → limits.fields cap ≤ fields_most

-- a plain object of a graph has at most 64 fields
abbrev pub FieldsAreFew : Type 0
FieldsAreFew =
    (graph : Graph) (number cap : ℕ) (proto : Option ℕ) (fields : List Field)
    → IsGraph graph → slice_get graph.objects number ≡ Some (Plain cap proto fields) → length fields ≤ fields_most

-- a command that is carried out on a graph leaves a graph
abbrev pub GraphsStay : Type 0
GraphsStay =
    (limits : Limits) (names : List (List ℕ)) (graph : Graph) (command : Command) (after : Graph) (text : List ℕ)
    → HasFieldLimit limits → FitsCommand command → meaning limits names graph command ≡ done after text
    → IsGraph graph → IsGraph after

-- what a run tells is always a graph
abbrev pub RunsMakeGraphs : Type 0
RunsMakeGraphs =
    (limits : Limits) (names : List (List ℕ)) (lines : List Executed) (so_far : Told)
    → HasFieldLimit limits → All (λ line. FitsLine line.command) lines → run_of limits names lines ≡ Some so_far
    → IsGraph so_far.graph
