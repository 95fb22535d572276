-- The limits of a script.
use Rattle.std.specs.Prelude.{ℕ}

-- the most bytes of a line
abbrev pub line_bytes_most : ℕ
line_bytes_most = 4096

-- the most bytes of a name
abbrev pub name_bytes_most : ℕ
name_bytes_most = 32

-- the most turns of a `repeat`
abbrev pub turns_most : ℕ
turns_most = 20000000

-- the most `repeat`s that are open at once
abbrev pub open_most : ℕ
open_most = 4

-- the most names of variables
abbrev pub variable_names_most : ℕ
variable_names_most = 1024

-- the most names of fields
abbrev pub field_names_most : ℕ
field_names_most = 4096
