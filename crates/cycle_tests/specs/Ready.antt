-- What holds of a heap of these tests between two commands.
use Rattle.std.specs.Prelude.{◌≡◌, ℕ, ◌+◌, true, length, IsSome, Result, Ok, Err}
use Rattle.object_graph.specs.Graphs.{Graph}
use Rattle.shared_table.specs.declared.rule.SharedTable.{SharedTable}
use Rattle.shared_table.specs.Seats.{Helping}
use Rattle.mutator.specs.declared.stop.Stop.{Stop}
use Rattle.write_barrier.specs.MutatorState.{Mutator, MainShows}

-- The heap shows a graph of so many objects. It has a shared table, and none of its seats is out.
pub record IsReady (main : Mutator) (objects : ℕ) : Type 0 where
  pub graph : Graph
  pub shows : MainShows main graph
  pub counted : objects ≡ length graph.objects
  pub shared : IsSome main.seat.shared
  pub home : main.seat.home ≡ true
  pub out : main.seat.out ≡ 0

-- the seat is one of the table
pub record IsSeatOf (seat : Helping) (table : SharedTable) : Type 0 where
  pub own : seat.table ≡ table.table.shared.table_id

-- so many and one more, if the command came out well
abbrev pub counted_more : ℕ → Result (Unit {0}) Stop → ℕ
counted_more count (Ok _) = count + 1
counted_more count (Err stop) = count
