-- What a word means, and the cell at an address, as functions of the words. The relations beside them say the same.
use Rattle.std.specs.Prelude.{◌≡◌, ℕ, zero, suc, ◌+◌, ◌/◌, ◌%◌, ◌^◌, ◌==◌, ◌&&◌, ◌↔◌, Bool}
use Rattle.std.specs.Prelude.{List, ◌∷◌, length, slice_get, Option, Some, None, nat_lt, nat_le, if◌then◌else◌}
use Rattle.std.specs.Option.{option_and_then}
use Rattle.tagged_word.specs.declared.header.Header.{Header}
use Rattle.tagged_word.specs.declared.layout.Kind.{Kind}
use Rattle.tagged_word.specs.declared.layout.Kind.TheVariants as kind
use Rattle.tagged_word.specs.declared.layout.LayoutWord.{LayoutWord}
use Rattle.tagged_word.specs.declared.reading.Reading.{Reading}
use Rattle.tagged_word.specs.declared.word.Class.TheVariants.{Ref}
use Rattle.tagged_word.specs.Words.{IsClass, bits_of}
use Rattle.tagged_word.specs.Headers.{IsHeader, header_bits}
use Rattle.tagged_word.specs.Layouts.{IsLayout, in_object_most, kind_number, layout_bits}
use Rattle.tagged_word.specs.Shapes.{fixed_kinds, shapes_most}
use Rattle.tagged_word.specs.Cells.{ReadsAs, cell_size, has_length, length_by, length_offset}

-- the value, if the test holds
abbrev pub given : {X : Type 0} → Bool → X → Option X
given test value = if test then Some value else None

-- the address of a reference word: what stands over the bits 01, if 32 bits hold it
abbrev pub reference_in : ℕ → Option ℕ
reference_in word = given (word % 4 == 1 && nat_lt (word / 4) 4294967296) (word / 4)

-- what stands over the two lowest bits of the lower half of a word
abbrev pub low_part : ℕ → ℕ
low_part word = word % 4294967296 / 4

-- whether the word is a header's: bits 10, a shape of 16 bits over them, and 64 bits in all
abbrev pub is_header_word : ℕ → Bool
is_header_word word = word % 4 == 2 && nat_lt (low_part word) 65536 && nat_lt (word / 4294967296) 4294967296

-- the header of a word that is one's
abbrev pub header_in : ℕ → Option Header
header_in word = given (is_header_word word) (record { shape = low_part word; object = word / 4294967296 })

-- the kinds in the order of their numbers, which begin at 1
abbrev pub kinds : List Kind
kinds = kind.Plain ∷ fixed_kinds

-- the kind of a number; 0 and those from 9 on have none
abbrev pub kind_in : ℕ → Option Kind
kind_in zero = None
kind_in (suc place) = slice_get kinds place

-- whether there are no in-object slots
abbrev pub has_no_in_object_slots : LayoutWord → Bool
has_no_in_object_slots layout = layout.cap == 0 && layout.used == 0 && layout.raw == 0

-- whether there are at most 8 in-object slots, used ones among them, and a bit of the mask for those alone
abbrev pub has_in_object_slots : LayoutWord → Bool
has_in_object_slots layout =
    nat_le layout.cap in_object_most && nat_le layout.used layout.cap && nat_lt layout.raw (2 ^ layout.used)

-- whether a layout is one that its kind may have, which is tested by the bits of its word
abbrev pub is_layout_of_kind : Kind → LayoutWord → Bool
is_layout_of_kind kind.Plain layout = has_in_object_slots layout
is_layout_of_kind kind.List layout = has_no_in_object_slots layout
is_layout_of_kind kind.Weak layout = has_no_in_object_slots layout
is_layout_of_kind kind.Store layout = has_no_in_object_slots layout
is_layout_of_kind kind.Table layout = has_no_in_object_slots layout
is_layout_of_kind kind.Boxed layout = has_no_in_object_slots layout
is_layout_of_kind kind.Filler layout = has_no_in_object_slots layout
is_layout_of_kind kind.Gap layout = has_no_in_object_slots layout

-- whether a layout is one: only a plain one has in-object slots
abbrev pub is_layout : LayoutWord → Bool
is_layout layout = is_layout_of_kind layout.kind layout

-- the parts of a layout word, for a kind
abbrev pub layout_parts : ℕ → Kind → LayoutWord
layout_parts word kind = record {
  kind = kind;
  cap = word / 16 % 16;
  used = word / 256 % 16;
  raw = word / 4096;
}

-- the layout of a word that is one's
abbrev pub layout_in : ℕ → Option LayoutWord
layout_in word =
    option_and_then (λ kind. given (is_layout (layout_parts word kind)) (layout_parts word kind)) (kind_in (word % 16))

-- the layout of a shape by its layout word, if there may be such a shape
abbrev pub shape_layout : List ℕ → ℕ → Option LayoutWord
shape_layout layouts shape =
    if nat_lt shape shapes_most then option_and_then layout_in (slice_get layouts shape) else None

-- the length of a cell with this layout at an address; 0 for a kind that has none
abbrev pub length_at : List ℕ → ℕ → LayoutWord → Option ℕ
length_at words at layout = length_by (has_length layout.kind) (slice_get words (at + length_offset))

-- whether so many words from an address end at a bound or before, and are all there
abbrev pub is_within : List ℕ → ℕ → ℕ → ℕ → Bool
is_within words at bound size = nat_le (at + size) bound && nat_le (at + size) (length words)

-- the cell of these parts at an address, if it is within
abbrev pub sized_cell : List ℕ → ℕ → ℕ → Header → LayoutWord → ℕ → ℕ → Option Reading
sized_cell words at bound header layout long size =
    given (is_within words at bound size) (record { header = header; layout = layout; length = long; size = size })

-- the cell of a header and a layout, by its length
abbrev pub long_cell : List ℕ → ℕ → ℕ → Header → LayoutWord → ℕ → Option Reading
long_cell words at bound header layout long =
    option_and_then (λ size. sized_cell words at bound header layout long size) (cell_size layout long)

-- the cell of a header and a layout
abbrev pub laid_cell : List ℕ → ℕ → ℕ → Header → LayoutWord → Option Reading
laid_cell words at bound header layout =
    option_and_then (λ long. long_cell words at bound header layout long) (length_at words at layout)

-- the cell of a header
abbrev pub headed_cell : List ℕ → List ℕ → ℕ → ℕ → Header → Option Reading
headed_cell words layouts at bound header =
    option_and_then (λ layout. laid_cell words at bound header layout) (shape_layout layouts header.shape)

-- the header at an address
abbrev pub header_at : List ℕ → ℕ → Option Header
header_at words at = option_and_then header_in (slice_get words at)

-- what the words read as at an address, with one layout word for each shape; none where no cell stands that ends at the
-- bound or before
abbrev pub read_cell : List ℕ → List ℕ → ℕ → ℕ → Option Reading
read_cell words layouts at bound =
    option_and_then (λ header. headed_cell words layouts at bound header) (header_at words at)

-- a word reads as a header exactly where it is that header's
abbrev pub HeadersAreReadBack : Type 0
HeadersAreReadBack = (word : ℕ) (header : Header)
    → (header_in word ≡ Some header) ↔ (IsHeader header × (word ≡ header_bits header))

-- a number reads as a kind exactly where it is that kind's
abbrev pub KindsAreReadBack : Type 0
KindsAreReadBack = (number : ℕ) (kind : Kind) → (kind_in number ≡ Some kind) ↔ (number ≡ kind_number kind)

-- a word reads as a layout exactly where it is that layout's
abbrev pub LayoutsAreReadBack : Type 0
LayoutsAreReadBack = (word : ℕ) (layout : LayoutWord)
    → (layout_in word ≡ Some layout) ↔ (IsLayout layout × (word ≡ layout_bits layout))

-- a word reads as the address of a cell exactly where it is the reference to it
abbrev pub ReferencesAreReadBack : Type 0
ReferencesAreReadBack = (word address : ℕ)
    → (reference_in word ≡ Some address) ↔ (IsClass (Ref address) × (word ≡ bits_of (Ref address)))

-- the function of words and the relation between words and cells agree
abbrev pub CellsAreReadBack : Type 0
CellsAreReadBack = (words layouts : List ℕ) (at bound : ℕ) (reading : Reading)
    → (read_cell words layouts at bound ≡ Some reading) ↔ ReadsAs words layouts at bound reading
