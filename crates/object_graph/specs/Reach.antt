-- Which objects can be reached from the variables, and the census.
use Rattle.std.specs.Prelude.{ℕ, zero, suc, Bool, true, false, ◌&&◌, ◌||◌, List, map, length, zip, slice_get, unwrap_or}
use Rattle.std.specs.Prelude.{◌==◌, count_by, sum_by, Option, Some, None}
use Rattle.std.specs.List.{list_any, range_with_len}
use Rattle.std.specs.FinMap.{values}
use Rattle.object_graph.specs.declared.value.Value.{Value}
use Rattle.object_graph.specs.declared.value.Value.TheVariants.{Int, Undefined, Ref}
use Rattle.object_graph.specs.declared.object.Object.{Object}
use Rattle.object_graph.specs.declared.object.Object.TheVariants as kind
use Rattle.object_graph.specs.Graphs.{Graph}

-- whether the object of this number is marked, where each object has a mark
abbrev pub is_marked : List Bool → ℕ → Bool
is_marked marks number = unwrap_or (slice_get marks number) false

-- the value refers to the object of this number
abbrev pub refers_to : ℕ → Value → Bool
refers_to number (Int v) = false
refers_to number Undefined = false
refers_to number (Ref other) = other == number

-- the prototype, if there is one, is the object of this number
abbrev pub is_number : ℕ → Option ℕ → Bool
is_number number None = false
is_number number (Some other) = other == number

-- An object links to another: by its prototype, by a field, by an element, or by the value of an entry whose key is
-- marked.
abbrev pub links : List Bool → Object → ℕ → Bool
links marks (kind.Plain cap proto fields) number =
    is_number number proto || list_any (λ field. refers_to number field.value) fields
links marks (kind.List elements) number = list_any (refers_to number) elements
links marks (kind.Weak entries) number =
    list_any (λ entry. is_marked marks entry.key && refers_to number entry.value) entries

-- a marked object links to this one
abbrev pub is_linked : List Object → List Bool → ℕ → Bool
is_linked objects marks number = list_any (λ pair. pair.0 && links marks pair.1 number) (zip marks objects)

-- the objects that variables are bound to
abbrev pub bound_marks : Graph → List Bool
bound_marks graph =
    map (λ number. list_any (refers_to number) (values graph.bindings)) (range_with_len 0 (length graph.objects))

-- one round: what was marked, and what a marked object links to
abbrev pub round : Graph → List Bool → List Bool
round graph marks =
    map (λ number. is_marked marks number || is_linked graph.objects marks number)
    (range_with_len 0 (length graph.objects))

-- what is marked after so many rounds
abbrev pub rounds : Graph → ℕ → List Bool
rounds graph zero = bound_marks graph
rounds graph (suc n) = round graph (rounds graph n)

-- The objects that can be reached: those of bound variables, and what as many rounds add as there are objects.
abbrev pub reach : Graph → List Bool
reach graph = rounds graph (length graph.objects)

-- the entries of an object whose keys are marked
abbrev pub marked_entries : List Bool → Object → ℕ
marked_entries marks (kind.Plain cap proto fields) = 0
marked_entries marks (kind.List elements) = 0
marked_entries marks (kind.Weak entries) = count_by (λ entry. is_marked marks entry.key) entries

-- the same for an object that is itself marked or not; one that is not counts none
abbrev pub entries_if : List Bool → Bool → Object → ℕ
entries_if marks true object = marked_entries marks object
entries_if marks false object = 0

-- how many objects can be reached
abbrev pub reached_objects : Graph → ℕ
reached_objects graph = count_by (λ mark. mark) (reach graph)

-- how many entries there are whose map and key can be reached
abbrev pub reached_entries : Graph → ℕ
reached_entries graph = sum_by (λ pair. entries_if (reach graph) pair.0 pair.1) (zip (reach graph) graph.objects)
