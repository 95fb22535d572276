-- What adding a field path answers.
use Rattle.std.specs.Prelude.{◌≡◌, ℕ, List, Option, Some, None, Result, Ok, Err}
use Rattle.heap_command.specs.declared.command.FaultWord.TheVariants.{ShapesFull}
use Rattle.object_graph.specs.declared.path.Path.{Path}
use Rattle.ideal_graph.specs.declared.ideal.IdealStop.{IdealStop}
use Rattle.ideal_graph.specs.declared.ideal.IdealStop.TheVariants.{ScriptFault, NoMemory}
use Rattle.object_graph.specs.Paths.{with_path}

-- the path and its prefixes are added; where there may not be so many and for want of memory all stay
abbrev pub LearnsPath : Option ℕ → List Path → List Path → Path → Result (Unit {0}) IdealStop → Type 0
LearnsPath most old new path (Ok added) = with_path most old path ≡ Some new
LearnsPath most old new path (Err (ScriptFault word)) =
    (with_path most old path ≡ None) × (word ≡ ShapesFull) × (new ≡ old)
LearnsPath most old new path (Err NoMemory) = new ≡ old
