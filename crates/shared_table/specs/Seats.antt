-- What seats are to their callers.
use Rattle.atomic_table.specs.Seated.{TableId}
use Rattle.shared_table.specs.declared.overview.Lent.{Lent}
use Rattle.shared_table.specs.declared.overview.Overview.{Overview}

-- the main seat: its table, and what it knows of it
pub record Side : Type 0 where
  pub table : TableId
  pub main : Overview

-- a seat that was lent: its table, and what it knows
pub record Helping : Type 0 where
  pub table : TableId
  pub lent : Lent
