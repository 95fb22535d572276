-- What objects consist of: the fields of a plain object, the entries of a weak map.
use Rattle.std.specs.Prelude.{ℕ, List, [], ◌∷◌, Option, Some, None, ◌==◌, if◌then◌else◌}
use Rattle.object_graph.specs.declared.value.Value.{Value}
use Rattle.object_graph.specs.declared.object.Field.{Field}
use Rattle.object_graph.specs.declared.object.Entry.{Entry}
use Rattle.object_graph.specs.Values.{rep_of, join}

-- the value of the field of this name, if there is one
abbrev pub field_value : List Field → ℕ → Option Value
field_value [] name = None
field_value (field ∷ fields) name = if field.name == name then Some field.value else field_value fields name

-- a field with another value: its representation never narrows
abbrev pub revalued : Field → Value → Field
revalued field value = record { name = field.name; rep = join field.rep (rep_of value); value = value }

-- the field of this name has the value; a name that is new comes last, with the value's representation
abbrev pub with_field : List Field → ℕ → Value → List Field
with_field [] name value = record { name = name; rep = rep_of value; value = value } ∷ []
with_field (field ∷ fields) name value =
    if field.name == name then revalued field value ∷ fields else field ∷ with_field fields name value

-- the field of this name is taken out, and the later ones keep their order
abbrev pub without_field : List Field → ℕ → List Field
without_field [] name = []
without_field (field ∷ fields) name = if field.name == name then fields else field ∷ without_field fields name

-- the value of the entry of this key, if there is one
abbrev pub entry_value : List Entry → ℕ → Option Value
entry_value [] key = None
entry_value (entry ∷ entries) key = if entry.key == key then Some entry.value else entry_value entries key

-- the entry of this key has the value; a key that is new comes last
abbrev pub with_entry : List Entry → ℕ → Value → List Entry
with_entry [] key value = record { key = key; value = value } ∷ []
with_entry (entry ∷ entries) key value =
    if entry.key == key then record { key = key; value = value } ∷ entries else entry ∷ with_entry entries key value

-- the entry of this key is taken out
abbrev pub without_entry : List Entry → ℕ → List Entry
without_entry [] key = []
without_entry (entry ∷ entries) key = if entry.key == key then entries else entry ∷ without_entry entries key
