-- Field paths, and how many there may be.
use Rattle.std.specs.Prelude.{ℕ, ◌+◌, Bool, true, false, not, ◌&&◌, List, [], ◌∷◌, ◌++◌, map, filter, length}
use Rattle.std.specs.Prelude.{take, Option, Some, None, ◌==◌, nat_le, if◌then◌else◌}
use Rattle.std.specs.List.{list_any, range_with_len}
use Rattle.object_graph.specs.declared.object.Field.{Field}
use Rattle.object_graph.specs.declared.path.Path.{Path}
use Rattle.object_graph.specs.declared.path.PathField.{PathField}
use Rattle.object_graph.specs.Values.{same_rep}

-- the path of a plain object: its cap, and the names and representations of its fields in order
abbrev pub path_of : ℕ → List Field → Path
path_of cap fields = record { cap = cap; fields = map (λ f. record { name = f.name; rep = f.rep }) fields }

-- two rows of fields have the same names and representations in order
abbrev pub same_fields : List PathField → List PathField → Bool
same_fields [] [] = true
same_fields [] (b ∷ bs) = false
same_fields (a ∷ as') [] = false
same_fields (a ∷ as') (b ∷ bs) = (a.name == b.name) && same_rep a.rep b.rep && same_fields as' bs

-- two paths have the same cap, and the same names and representations in order
abbrev pub same_path : Path → Path → Bool
same_path a b = (a.cap == b.cap) && same_fields a.fields b.fields

-- the path of the first so many fields of a path
abbrev pub prefix_of : Path → ℕ → Path
prefix_of path n = record { cap = path.cap; fields = take n path.fields }

-- the path of no field, of the first field, and so on to the path itself
abbrev pub prefixes : Path → List Path
prefixes path = map (prefix_of path) (range_with_len 0 (length path.fields + 1))

-- those prefixes of the path that are not among the paths, shortest first
abbrev pub missing : List Path → Path → List Path
missing paths path = filter (λ prefix. not (list_any (same_path prefix) paths)) (prefixes path)

-- whether there may be so many paths; None is no limit
abbrev pub may_have : Option ℕ → ℕ → Bool
may_have None count = true
may_have (Some most) count = nat_le count most

-- the paths with the path and its prefixes added, or nothing where there may not be so many
abbrev pub with_path : Option ℕ → List Path → Path → Option (List Path)
with_path most paths path =
    if may_have most (length paths + length (missing paths path)) then Some (paths ++ missing paths path) else None

-- the nine paths that are there from the start: no field, and a cap from 0 to 8
abbrev pub empty_paths : List Path
empty_paths = map (λ cap. record { cap = cap; fields = [] }) (range_with_len 0 9)
