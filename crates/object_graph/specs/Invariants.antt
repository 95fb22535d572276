-- What holds of every graph that a script makes.
use Rattle.std.specs.Prelude.{◌≡◌, ℕ, ◌<◌, ◌≤◌, List, ◌++◌, map, length, All, Contains, Option, Some, None, ◌==◌}
use Rattle.std.specs.Prelude.{FitsSigned}
use Rattle.std.specs.Int.{w64}
use Rattle.std.specs.List.{IsDistinct}
use Rattle.std.specs.Ordering.{nat_cmp}
use Rattle.std.specs.FinMap.{FinMap, get}
use Rattle.heap_command.specs.Commands.{cap_most}
use Rattle.object_graph.specs.declared.value.Value.{Value}
use Rattle.object_graph.specs.declared.value.Value.TheVariants.{Int, Undefined, Ref}
use Rattle.object_graph.specs.declared.object.Object.{Object}
use Rattle.object_graph.specs.declared.object.Object.TheVariants as kind
use Rattle.object_graph.specs.declared.object.Field.{Field}
use Rattle.object_graph.specs.declared.object.Entry.{Entry}
use Rattle.object_graph.specs.declared.path.Path.{Path}
use Rattle.object_graph.specs.Paths.{empty_paths, path_of, same_path, prefixes}
use Rattle.object_graph.specs.Graphs.{Graph}
use Rattle.object_graph.specs.Meaning.{list_most}
use Rattle.object_graph.specs.Prototypes.{AreProtos}

-- the most fields of an object
abbrev pub fields_most : ℕ
fields_most = 64

-- an integer has 64 bits, and a value that refers to an object refers to one of so many
abbrev pub IsValue : ℕ → Value → Type 0
IsValue count (Int v) = FitsSigned w64 v
IsValue count Undefined = Unit {0}
IsValue count (Ref number) = number < count

-- the key of the entry is one of so many objects, and its value is a value over these
pub record IsEntry (count : ℕ) (entry : Entry) : Type 0 where
  pub key : entry.key < count
  pub value : IsValue count entry.value

-- the fields have values over so many objects, and no name stands twice
pub record AreFields (count : ℕ) (fields : List Field) : Type 0 where
  pub values : All (λ field. IsValue count field.value) fields
  pub distinct : IsDistinct ◌==◌ (map (λ field. field.name) fields)

-- the entries have keys and values over so many objects, and no key stands twice
pub record AreEntries (count : ℕ) (entries : List Entry) : Type 0 where
  pub keys_and_values : All (IsEntry count) entries
  pub distinct : IsDistinct ◌==◌ (map (λ entry. entry.key) entries)

-- the elements are values over so many objects, and no more than a list may have
pub record AreElements (count : ℕ) (elements : List Value) : Type 0 where
  pub values : All (IsValue count) elements
  pub few : length elements ≤ list_most

-- the prototype, if there is one, is one of so many objects
abbrev pub IsProto : ℕ → Option ℕ → Type 0
IsProto count None = Unit {0}
IsProto count (Some number) = number < count

-- the cap of a plain object is at most 8, and its prototype and the values of its fields are over so many objects
pub record IsPlain (count cap : ℕ) (proto : Option ℕ) (fields : List Field) : Type 0 where
  pub capped : cap ≤ cap_most
  pub leads : IsProto count proto
  pub are : AreFields count fields

-- The object holds values over so many objects. Of a plain object the cap is at most 8 and no field name stands twice;
-- a list has at most 1,000 elements; in a weak map no key stands twice.
abbrev pub IsObject : ℕ → Object → Type 0
IsObject count (kind.Plain cap proto fields) = IsPlain count cap proto fields
IsObject count (kind.List elements) = AreElements count elements
IsObject count (kind.Weak entries) = AreEntries count entries

-- each variable is bound to a value over so many objects
abbrev pub AreBound : ℕ → FinMap nat_cmp Value → Type 0
AreBound count bindings = (x : ℕ) (value : Value) → get bindings x ≡ Some value → IsValue count value

-- the cap of the path is at most 8, it has at most 64 fields, and no name stands twice in it
pub record IsPath (path : Path) : Type 0 where
  pub cap : path.cap ≤ cap_most
  pub short : length path.fields ≤ fields_most
  pub distinct : IsDistinct ◌==◌ (map (λ field. field.name) path.fields)

-- the paths begin with the nine empty ones
abbrev pub BeginEmpty : List Path → Type 0
BeginEmpty paths = (later : List Path) × (paths ≡ empty_paths ++ later)

-- The paths begin with the nine empty ones, none stands twice, the prefixes of each are there, and each is a path.
pub record ArePaths (paths : List Path) : Type 0 where
  pub begins : BeginEmpty paths
  pub distinct : IsDistinct same_path paths
  pub closed : (path : Path) → Contains paths path → All (Contains paths) (prefixes path)
  pub each : All IsPath paths

-- the path of a plain object is among these
abbrev pub HasItsPath : List Path → Object → Type 0
HasItsPath paths (kind.Plain cap proto fields) = Contains paths (path_of cap fields)
HasItsPath paths (kind.List elements) = Unit {0}
HasItsPath paths (kind.Weak entries) = Unit {0}

-- Variables and objects hold integers of 64 bits and references to objects of the graph alone, the paths are in order,
-- the path of each plain object is among them, and prototypes are plain objects in no ring.
pub record IsGraph (graph : Graph) : Type 0 where
  pub bound : AreBound (length graph.objects) graph.bindings
  pub made : All (IsObject (length graph.objects)) graph.objects
  pub paths : ArePaths graph.paths
  pub shaped : All (HasItsPath graph.paths) graph.objects
  pub protos : AreProtos graph.objects
