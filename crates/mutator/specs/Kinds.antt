-- The kinds of objects, by the shapes in the headers of their cells.
use Rattle.std.specs.Prelude.{ℕ, List, ◌==◌, if◌then◌else◌, codes}
use Rattle.tagged_word.specs.Shapes.{list_shape, weak_shape}

-- what the text of an object with a cell of this shape begins with
abbrev pub noun_by_shape : ℕ → List ℕ
noun_by_shape shape =
    if shape == list_shape then codes "list " else (if shape == weak_shape then codes "weak " else codes "object ")
