-- What a step of `Ideal` may answer.
use Rattle.std.specs.Prelude.{◌≡◌, ℕ, List, Result, Ok, Err}
use Rattle.heap_command.specs.declared.command.Command.{Command}
use Rattle.ideal_graph.specs.declared.ideal.IdealStop.{IdealStop}
use Rattle.ideal_graph.specs.declared.ideal.IdealStop.TheVariants.{ScriptFault, NoMemory}
use Rattle.object_graph.specs.Graphs.{Graph}
use Rattle.object_graph.specs.Meaning.{Outcome, meaning, done, fault}
use Rattle.object_graph.specs.Limits.{ideal_limits}

-- a graph, and the names of its fields by number
pub record NamedGraph : Type 0 where
  pub names : List (List ℕ)
  pub graph : Graph

-- the answer is this outcome, or want of memory; a fault and want of memory leave all as it was
abbrev pub StepsTo : NamedGraph → NamedGraph → Outcome → Result (List ℕ) IdealStop → Type 0
StepsTo old new outcome (Ok text) = (outcome ≡ done new.graph text) × (new.names ≡ old.names)
StepsTo old new outcome (Err (ScriptFault word)) = (outcome ≡ fault word) × (new ≡ old)
StepsTo old new outcome (Err NoMemory) = new ≡ old

-- the answer is the command's meaning, or want of memory
abbrev pub Steps : NamedGraph → NamedGraph → Command → Result (List ℕ) IdealStop → Type 0
Steps old new command answer = StepsTo old new (meaning ideal_limits old.names old.graph command) answer
