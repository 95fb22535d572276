-- What the code's name for a cell says that a snap names.
use Rattle.std.specs.Prelude.{All, ◌<◌}
use Rattle.mark_world.specs.Naming.{Named}
use Rattle.tagged_word.specs.Cells.{cell_words_most, tagged_offsets}
use Rattle.mark_core.specs.declared.naming.Name.{Name}

-- a cell's name stands for its tagged slots
abbrev pub named_by : Name → Named
named_by Name.Unread = Named.unread
named_by Name.NoCell = Named.no_cell
named_by (Name.Cell layout long) = Named.slots (tagged_offsets layout long)

-- the tagged slots of a cell that is named lie within as many words as a page has
abbrev pub IsShort : Name → Type 0
IsShort Name.Unread = Unit {0}
IsShort Name.NoCell = Unit {0}
IsShort (Name.Cell layout long) = All (λ offset. offset < cell_words_most) (tagged_offsets layout long)
