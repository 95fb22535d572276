-- What the table of places keeps in its fields.
use Rattle.std.specs.Prelude.{◌≤◌, vec_capacity}
use Rattle.compactor.specs.declared.moves.Moves.TheInside.{Inside}
use Rattle.compactor.specs.Tables.{Table}

-- the bound, and the places
abbrev pub table_of : Inside → Table
table_of moves = record { bound = moves.bound; places = moves.places.items }

-- there is room for the place of each address below the bound
abbrev pub HasRoom : Inside → Type 0
HasRoom moves = moves.bound ≤ vec_capacity moves.places
