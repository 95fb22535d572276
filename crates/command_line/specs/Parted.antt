-- The words after a command, parted into those of its options and the positional ones.
use Rattle.std.specs.Prelude.{List, [], ◌∷◌}
use Rattle.command_line.specs.declared.parting.Expected.{Expected}
use Rattle.command_line.specs.declared.parting.Expected.TheVariants.{AnyWord, Value, PositionalWord}
use Rattle.command_line.specs.declared.parting.Part.{Part}
use Rattle.command_line.specs.declared.parting.Part.TheVariants.{OfOptions, Positional, Neither}
use Rattle.command_line.specs.Given.{Text, Kind, valued, named, ends_options, plain, stray, kind_of}

-- the words of the options and the positional ones, each in their order
pub record Parted : Type 0 where
  pub options : List Text
  pub positional : List Text

-- The part of a word of this kind. A stray word goes to the options, where it is refused.
abbrev pub part_of_kind : Kind → Part
part_of_kind (valued name text) = OfOptions AnyWord
part_of_kind (named name) = OfOptions Value
part_of_kind ends_options = Neither
part_of_kind plain = Positional AnyWord
part_of_kind stray = OfOptions AnyWord

-- the part of a word, by what is expected
abbrev pub part_of : Expected → Text → Part
part_of AnyWord word = part_of_kind (kind_of word)
part_of Value word = OfOptions AnyWord
part_of PositionalWord word = Positional PositionalWord

-- A word of this part, before others that are parted. `next` parts those, by what is expected then.
abbrev pub parted_by : Text → Part → (Expected → Parted) → Parted
parted_by word (OfOptions expected) next =
    let rest = next expected in record rest { options = word ∷ rest.options }
parted_by word (Positional expected) next =
    let rest = next expected in record rest { positional = word ∷ rest.positional }
parted_by word Neither next = next PositionalWord

-- words, parted, by what is expected of the first
abbrev pub parts_of : Expected → List Text → Parted
parts_of expected [] = record { options = []; positional = [] }
parts_of expected (word ∷ words) = parted_by word (part_of expected word) (λ then. parts_of then words)
