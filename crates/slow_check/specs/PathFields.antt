-- Fields as paths know them.
use Rattle.std.specs.Prelude.{◌≡◌, ℕ, Some, slice_get}
use Rattle.heap_model.specs.Types.{Field, Path, PathField}

-- a field of an object without its value
abbrev pub known_field : Field → PathField
known_field field = record { name = field.name; rep = field.rep }

-- the field stands at this place of the path
abbrev pub IsFieldAt : Path → ℕ → PathField → Type 0
IsFieldAt path at field = slice_get path.fields at ≡ Some field
