-- What graphs may hold.
use Rattle.std.specs.Prelude.{ℕ, Some}
use Rattle.object_graph.specs.Meaning.{Limits}
use Rattle.object_graph.specs.Invariants.{fields_most}

-- the most field paths of the language
abbrev pub paths_most : ℕ
paths_most = 8192

-- An object may have 64 fields, whatever its cap, and there may be 8,192 field paths.
abbrev pub ideal_limits : Limits
ideal_limits = record { fields = λ cap. fields_most; paths = Some paths_most }
