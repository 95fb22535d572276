-- A heap's main seat with a shared table, on which a cycle begins with no cell, and then has one.
use Rattle.std.specs.Prelude.{◌≡◌, ℕ, IsTrue, is_some, Some, slice_get}
use Rattle.heap_table.specs.Seats.{Seat}
use Rattle.heap_table.specs.Overviews.{overview}
use Rattle.table_tests.specs.OneCell.{IsBare, HasOneCell}

-- no cycle is open, and no cell has a colour
pub record IsBareSeat (seat : Seat) : Type 0 where
  pub shared : IsTrue (is_some seat.shared)
  pub bare : IsBare (overview seat)

-- a cycle is open in which one cell was made, a black one
pub record HasOneCellOpen (seat : Seat) (at : ℕ) : Type 0 where
  pub shared : IsTrue (is_some seat.shared)
  pub cell : HasOneCell (overview seat) at

-- the shape has no layout word
abbrev pub HasNoLayout : Seat → ℕ → Type 0
HasNoLayout seat shape = slice_get (overview seat).layouts shape ≡ Some 0
