-- The entries of a weak map where that of one key was put, or removed.
use Rattle.std.specs.Prelude.{ℕ, List, Option, Some, None}
use Rattle.heap_model.specs.Types.{Value, Entry}
use Rattle.object_graph.specs.Objects.{with_entry, without_entry}

-- the entries with that of one key put, or removed
abbrev pub entries_with : List Entry → ℕ → Option Value → List Entry
entries_with entries number (Some value) = with_entry entries number value
entries_with entries number None = without_entry entries number
