-- The function of words that reads the cell at an address agrees with the relation between words and cells.
use Rattle.std.proofs.Common.{ℕ, ◌+◌, ◌<◌, ◌≤◌, ◌≡◌, Bool, true, false, IsTrue, List, length, slice_get}
use Rattle.std.proofs.Common.{Option, Some, None, nat_lt, if◌then◌else◌, arith, refl, ap, subst, ◌∙◌}
use Rattle.std.proofs.lemmas.Bool.Decides.{nat_tests}
use Rattle.std.specs.Option.{option_and_then}
use Rattle.std.proofs.lemmas.Option.{option_and_then_some}
use Rattle.tagged_word.specs.declared.header.Header.{Header}
use Rattle.tagged_word.specs.declared.layout.LayoutWord.{LayoutWord}
use Rattle.tagged_word.specs.declared.reading.Reading.{Reading}
use Rattle.tagged_word.specs.Headers.{IsHeader, header_bits}
use Rattle.tagged_word.specs.Layouts.{IsLayout, layout_bits}
use Rattle.tagged_word.specs.Shapes.{shapes_most}
use Rattle.tagged_word.specs.Cells.{ReadsAs, cell_size}
use Rattle.tagged_word.specs.Readings.{header_in, layout_in, shape_layout, length_at, is_within, sized_cell}
use Rattle.tagged_word.specs.Readings.{long_cell, laid_cell, headed_cell, header_at, read_cell}
use Rattle.tagged_word.proofs.Cells.{made}
use Rattle.tagged_word.proofs.Readings.{given_is, given_some, header_from, header_to, layout_from, layout_to}

-- where a test fails, nothing passes
kept_if : {X : Type 0} (test : Bool) (o : Option X) (y : X) → (if test then o else None) ≡ Some y →
    IsTrue test × (o ≡ Some y)
kept_if true o y e = (refl, e)
kept_if false o y e = cc

-- what passes is kept
kept_by : {X : Type 0} (test : Bool) (o : Option X) (y : X) → IsTrue test → o ≡ Some y →
    (if test then o else None) ≡ Some y
kept_by true o y t e = e
kept_by false o y t e = cc

-- a word and a layout of a shape that may be
record OfShape (layouts : List ℕ) (shape : ℕ) (layout : LayoutWord) : Type 0 where
  known : shape < shapes_most
  is_layout : IsLayout layout
  of_shape : slice_get layouts shape ≡ Some (layout_bits layout)

-- a shape that has a layout is known, and its layout word is that layout's
shape_from : (layouts : List ℕ) (shape : ℕ) (layout : LayoutWord) → shape_layout layouts shape ≡ Some layout →
    OfShape layouts shape layout
shape_from layouts shape layout e =
    let k = kept_if (nat_lt shape shapes_most) (option_and_then layout_in (slice_get layouts shape)) layout e in
    option_and_then_some layout_in (slice_get layouts shape) layout k.1
    (λ word at is. let l = layout_from word layout is in record {
      known = grind (arith, nat_tests, k.0);
      is_layout = l.0;
      of_shape = at ∙ ap (λ w. Some w) l.1;
    })

-- a known shape has the layout of its layout word
shape_to : (layouts : List ℕ) (shape : ℕ) (layout : LayoutWord) → OfShape layouts shape layout →
    shape_layout layouts shape ≡ Some layout
shape_to layouts shape layout of =
    kept_by (nat_lt shape shapes_most) (option_and_then layout_in (slice_get layouts shape)) layout
    (grind (arith, nat_tests, of.known))
    (ap (option_and_then layout_in) of.of_shape ∙ layout_to (layout_bits layout) layout of.is_layout refl)

-- the header at an address is that of the word there
head_from : (words : List ℕ) (at : ℕ) (header : Header) → header_at words at ≡ Some header →
    IsHeader header × (slice_get words at ≡ Some (header_bits header))
head_from words at header e =
    option_and_then_some header_in (slice_get words at) header e
    (λ word there is. let h = header_from word header is in (h.0, there ∙ ap (λ w. Some w) h.1))

-- and the word of a header is read as it
head_to : (words : List ℕ) (at : ℕ) (header : Header) → IsHeader header →
    slice_get words at ≡ Some (header_bits header) → header_at words at ≡ Some header
head_to words at header is e = ap (option_and_then header_in) e ∙ header_to (header_bits header) header is refl

-- a cell that stands there is within
within_is : (words : List ℕ) (at bound : ℕ) (r : Reading) → at + r.size ≤ bound → at + r.size ≤ length words →
    IsTrue (is_within words at bound r.size)
within_is words at bound r ends there = grind (arith, nat_tests)

-- the parts that a cell is read from are those of the cell that stands there
sized_from : (words layouts : List ℕ) (at bound : ℕ) (reading : Reading) →
    header_at words at ≡ Some reading.header → shape_layout layouts reading.header.shape ≡ Some reading.layout →
    length_at words at reading.layout ≡ Some reading.length →
    cell_size reading.layout reading.length ≡ Some reading.size →
    IsTrue (is_within words at bound reading.size) → ReadsAs words layouts at bound reading
sized_from words layouts at bound reading header layout long size within =
    let head = head_from words at reading.header header in
    let shape = shape_from layouts reading.header.shape reading.layout layout in
    record {
      is_header = head.0;
      first = head.1;
      known = shape.known;
      is_layout = shape.is_layout;
      of_shape = shape.of_shape;
      second = long;
      sized = size;
      ends = grind (arith, nat_tests, within);
      there = grind (arith, nat_tests, within);
    }

-- what words read as at an address stands there
pub cell_from : (words layouts : List ℕ) (at bound : ℕ) (reading : Reading) →
    read_cell words layouts at bound ≡ Some reading → ReadsAs words layouts at bound reading
cell_from words layouts at bound reading e =
    option_and_then_some (headed_cell words layouts at bound) (header_at words at) reading e (λ h header e1.
    option_and_then_some (laid_cell words at bound h) (shape_layout layouts h.shape) reading e1 (λ l layout e2.
    option_and_then_some (long_cell words at bound h l) (length_at words at l) reading e2 (λ n long e3.
    option_and_then_some (sized_cell words at bound h l n) (cell_size l n) reading e3 (λ s size e4.
    let g = given_is (is_within words at bound s) (made h l n s) reading e4 in
    subst (ReadsAs words layouts at bound) g.1
    (sized_from words layouts at bound (made h l n s) header layout long size g.0)))))

-- the words of a cell that stands at an address read as it
pub cell_to : (words layouts : List ℕ) (at bound : ℕ) (reading : Reading) → ReadsAs words layouts at bound reading →
    read_cell words layouts at bound ≡ Some reading
cell_to words layouts at bound r reads =
    let within = within_is words at bound r reads.ends reads.there in
    let shape : OfShape layouts r.header.shape r.layout =
    record { known = reads.known; is_layout = reads.is_layout; of_shape = reads.of_shape } in
    ap (option_and_then (headed_cell words layouts at bound)) (head_to words at r.header reads.is_header reads.first)
    ∙ ap (option_and_then (laid_cell words at bound r.header)) (shape_to layouts r.header.shape r.layout shape)
    ∙ ap (option_and_then (long_cell words at bound r.header r.layout)) reads.second
    ∙ ap (option_and_then (sized_cell words at bound r.header r.layout r.length)) reads.sized
    ∙ given_some (is_within words at bound r.size) (made r.header r.layout r.length r.size) r within refl
