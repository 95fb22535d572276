-- The phases of a heap: those of the table that helpers read.
pub use Rattle.shared_table.specs.declared.phase.Phase.{Phase}
pub use Rattle.shared_table.specs.declared.phase.Phase.TheVariants.{Quiet, Mark, Paused}
