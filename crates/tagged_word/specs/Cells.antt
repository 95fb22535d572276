-- The table of cells, by kind: is it an object, is it free, is the second word a length, how many words are there, and
-- which of them are slots. And what words read as at an address.
use Rattle.std.specs.Prelude.{◌≡◌, ℕ, ◌+◌, ◌*◌, ◌<◌, ◌≤◌, Bool, true, false, not, ◌&&◌, List, []}
use Rattle.std.specs.Prelude.{◌∷◌, map, filter, length, slice_get, Option, Some, None, nat_le, if◌then◌else◌}
use Rattle.std.specs.List.{range_with_len}
use Rattle.tagged_word.specs.declared.layout.Kind.{Kind}
use Rattle.tagged_word.specs.declared.layout.Kind.TheVariants as kind
use Rattle.tagged_word.specs.declared.layout.LayoutWord.{LayoutWord}
use Rattle.tagged_word.specs.declared.reading.Reading.{Reading}
use Rattle.tagged_word.specs.Headers.{IsHeader, header_bits}
use Rattle.tagged_word.specs.Layouts.{IsLayout, layout_bits, is_raw}
use Rattle.tagged_word.specs.Shapes.{shapes_most}

-- the most words of a cell, which are those of a page
abbrev pub cell_words_most : ℕ
cell_words_most = 2048

-- the words of a plain cell before its in-object slots: its header, its property store, and its prototype
abbrev pub plain_head : ℕ
plain_head = 3

-- the words of a store or table before its slots: its header, and its capacity
abbrev pub store_head : ℕ
store_head = 2

-- the offset of the slot for the store or table of a plain cell, a list or a weak map
abbrev pub store_slot : ℕ
store_slot = 1

-- the offset of the slot for the prototype of a plain cell
abbrev pub proto_slot : ℕ
proto_slot = 2

-- the offset of the word that is the length, in the kinds that have one
abbrev pub length_offset : ℕ
length_offset = 1

-- whether a cell is an object: one that a script can name, by its number
abbrev pub is_object_kind : Kind → Bool
is_object_kind kind.Plain = true
is_object_kind kind.List = true
is_object_kind kind.Weak = true
is_object_kind kind.Store = false
is_object_kind kind.Table = false
is_object_kind kind.Boxed = false
is_object_kind kind.Filler = false
is_object_kind kind.Gap = false

-- whether the words are free: they hold nothing, and may be used again
abbrev pub is_free_kind : Kind → Bool
is_free_kind kind.Plain = false
is_free_kind kind.List = false
is_free_kind kind.Weak = false
is_free_kind kind.Store = false
is_free_kind kind.Table = false
is_free_kind kind.Boxed = false
is_free_kind kind.Filler = true
is_free_kind kind.Gap = true

-- whether marking reads the length of a cell to know its slots
abbrev pub marks_by_length : Kind → Bool
marks_by_length kind.Plain = false
marks_by_length kind.List = false
marks_by_length kind.Weak = false
marks_by_length kind.Store = true
marks_by_length kind.Table = false
marks_by_length kind.Boxed = false
marks_by_length kind.Filler = false
marks_by_length kind.Gap = false

-- whether the second word is a length: the capacity of a store or table in slots or pairs, the size of a gap
abbrev pub has_length : Kind → Bool
has_length kind.Plain = false
has_length kind.List = false
has_length kind.Weak = false
has_length kind.Store = true
has_length kind.Table = true
has_length kind.Boxed = false
has_length kind.Filler = false
has_length kind.Gap = true

-- how many words a cell of this kind has, by its cap and its length
abbrev pub words_of : Kind → ℕ → ℕ → ℕ
words_of kind.Plain cap length = plain_head + cap
words_of kind.List cap length = 3
words_of kind.Weak cap length = 3
words_of kind.Store cap length = store_head + length
words_of kind.Table cap length = store_head + 2 * length
words_of kind.Boxed cap length = 2
words_of kind.Filler cap length = 1
words_of kind.Gap cap length = length

-- the fewest words of a cell: a gap has at least 2 words; no other kind has none
abbrev pub words_least : Kind → ℕ
words_least kind.Gap = 2
words_least _ = 1

-- the number of words, if it is one from the fewest to the most
abbrev pub size_within : ℕ → ℕ → Option ℕ
size_within least words = if nat_le least words && nat_le words cell_words_most then Some words else None

-- The size of a cell in words. There is none where it would pass a page, nor for a gap of fewer than 2 words.
abbrev pub cell_size : LayoutWord → ℕ → Option ℕ
cell_size layout length = size_within (words_least layout.kind) (words_of layout.kind layout.cap length)

-- the offsets of the in-object slots that are used and not raw
abbrev pub in_object_offsets : LayoutWord → List ℕ
in_object_offsets layout =
    map (λ slot. plain_head + slot) (filter (λ slot. not (is_raw layout slot)) (range_with_len 0 layout.used))

-- The offsets of the slots that marking visits, ascending. The pairs of a weak table are none of them.
abbrev pub tagged_offsets_of : Kind → LayoutWord → ℕ → List ℕ
tagged_offsets_of kind.Plain layout length = store_slot ∷ proto_slot ∷ in_object_offsets layout
tagged_offsets_of kind.List layout length = store_slot ∷ []
tagged_offsets_of kind.Weak layout length = store_slot ∷ []
tagged_offsets_of kind.Store layout length = range_with_len store_head length
tagged_offsets_of kind.Table layout length = []
tagged_offsets_of kind.Boxed layout length = []
tagged_offsets_of kind.Filler layout length = []
tagged_offsets_of kind.Gap layout length = []

-- those of a cell, by its layout and its length
abbrev pub tagged_offsets : LayoutWord → ℕ → List ℕ
tagged_offsets layout length = tagged_offsets_of layout.kind layout length

-- The offsets of the slots that a scavenge visits, ascending: those of marking, and the pairs of a weak table.
abbrev pub scavenge_offsets_of : Kind → LayoutWord → ℕ → List ℕ
scavenge_offsets_of kind.Table layout length = range_with_len store_head (2 * length)
scavenge_offsets_of other layout length = tagged_offsets_of other layout length

-- those of a cell, by its layout and its length
abbrev pub scavenge_offsets : LayoutWord → ℕ → List ℕ
scavenge_offsets layout length = scavenge_offsets_of layout.kind layout length

-- the length of a cell: its second word, or 0 for a kind that has none there
abbrev pub length_by : Bool → Option ℕ → Option ℕ
length_by true second = second
length_by false second = Some 0

-- These words, with one layout word for each shape, read as this at an address: a header and the layout of its shape,
-- with a length and a size. It ends at the bound or before, and all its words are there.
pub record ReadsAs (words layouts : List ℕ) (at bound : ℕ) (reading : Reading) : Type 0 where
  pub is_header : IsHeader reading.header
  pub first : slice_get words at ≡ Some (header_bits reading.header)
  pub known : reading.header.shape < shapes_most
  pub is_layout : IsLayout reading.layout
  pub of_shape : slice_get layouts reading.header.shape ≡ Some (layout_bits reading.layout)
  pub second : length_by (has_length reading.layout.kind) (slice_get words (at + length_offset)) ≡ Some reading.length
  pub sized : cell_size reading.layout reading.length ≡ Some reading.size
  pub ends : at + reading.size ≤ bound
  pub there : at + reading.size ≤ length words
