-- What is written of a shape, field by field.
use Rattle.std.specs.Prelude.{ℕ, List, [], ◌++◌, slice_get, unwrap_or, codes}
use Rattle.heap_model.specs.Types.{PathField}
use Rattle.object_graph.specs.Texts.{rep_text}

-- the name of this number; nothing where there is none
abbrev pub name_of : List (List ℕ) → ℕ → List ℕ
name_of names number = unwrap_or (slice_get names number) []

-- a field of a path: a space, its name, a colon and its representation
abbrev pub path_field_text : List (List ℕ) → PathField → List ℕ
path_field_text names field = codes " " ++ name_of names field.name ++ codes ":" ++ rep_text field.rep
