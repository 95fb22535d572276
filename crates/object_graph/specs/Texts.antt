-- What commands write.
use Rattle.std.specs.Prelude.{ℕ, Bool, true, false, List, [], ◌∷◌, ◌++◌, flat_map, Option, Some, None, slice_get}
use Rattle.std.specs.Prelude.{unwrap_or, decimal, codes}
use Rattle.std.specs.Fmt.{signed_decimal}
use Rattle.object_graph.specs.declared.value.Value.{Value}
use Rattle.object_graph.specs.declared.value.Value.TheVariants.{Int, Undefined, Ref}
use Rattle.object_graph.specs.declared.value.Rep.{Rep}
use Rattle.object_graph.specs.declared.value.Rep.TheVariants.{Small, Wide, Tagged}
use Rattle.object_graph.specs.declared.object.Object.{Object}
use Rattle.object_graph.specs.declared.object.Object.TheVariants as kind
use Rattle.object_graph.specs.declared.object.Field.{Field}

-- a text and its line feed
abbrev pub line : List ℕ → List ℕ
line text = text ++ 10 ∷ []

-- what the text of a value calls an object of this kind
abbrev pub noun : Object → List ℕ
noun (kind.Plain cap proto fields) = codes "object "
noun (kind.List elements) = codes "list "
noun (kind.Weak entries) = codes "weak "

-- an object of this number: its kind and the number; nothing where there is none
abbrev pub object_text : ℕ → Option Object → List ℕ
object_text number None = []
object_text number (Some object) = noun object ++ decimal number

-- a value: an integer in decimal, `undefined`, or the object's kind and number
abbrev pub value_text : List Object → Value → List ℕ
value_text objects (Int v) = signed_decimal v
value_text objects Undefined = codes "undefined"
value_text objects (Ref number) = object_text number (slice_get objects number)

-- the answer of a comparison
abbrev pub truth_text : Bool → List ℕ
truth_text true = codes "true"
truth_text false = codes "false"

-- the word of a representation
abbrev pub rep_text : Rep → List ℕ
rep_text Small = codes "small"
rep_text Wide = codes "wide"
rep_text Tagged = codes "tagged"

-- a field of a shape: a space, its name, a colon and its representation
abbrev pub field_text : List (List ℕ) → Field → List ℕ
field_text names field = codes " " ++ unwrap_or (slice_get names field.name) [] ++ codes ":" ++ rep_text field.rep

-- the shape of a plain object: its cap, and its fields in order
abbrev pub shape_text : List (List ℕ) → ℕ → List Field → List ℕ
shape_text names cap fields = codes "cap " ++ decimal cap ++ flat_map (field_text names) fields

-- the census: how many objects and how many entries are reached
abbrev pub census_text : ℕ → ℕ → List ℕ
census_text objects entries = codes "objects " ++ decimal objects ++ codes " entries " ++ decimal entries
