-- One step of a run.
use Rattle.std.specs.Prelude.{ℕ, Option}
use Rattle.heap_command.specs.declared.command.Command.{Command}

-- an executed line: its number in the source, and the command that it runs; None where it runs none
pub record Executed : Type 0 where
  pub number : ℕ
  pub command : Option Command
