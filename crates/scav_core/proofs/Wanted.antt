-- How many words a worker wants of a cell that stands as before.
use Rattle.std.proofs.Common.{ℕ, ◌<◌, ◌≤◌, ◌+◌, ◌≡◌, Bool, true, false, List, [], ◌∷◌, length, get_or}
use Rattle.std.proofs.Common.{slice_get, Option, Some, None, IsSome, nat_lt, if◌then◌else◌, arith, refl, sym, ap, subst}
use Rattle.std.proofs.Common.{◌∙◌, eqb-true}
use Rattle.std.specs.Option.{option_and_then}
use Rattle.std.proofs.lemmas.Bool.Decides.{nat_tests}
use Rattle.std.proofs.lemmas.Option.{slice_get_within, get_or_from_slice_get, slice_get-get_or}
use Rattle.tagged_word.specs.declared.header.Header.{Header}
use Rattle.tagged_word.specs.declared.layout.LayoutWord.{LayoutWord}
use Rattle.tagged_word.specs.declared.reading.Reading.{Reading}
use Rattle.tagged_word.specs.Headers.{header_bits}
use Rattle.tagged_word.specs.Layouts.{layout_bits}
use Rattle.tagged_word.specs.Shapes.{shapes_most}
use Rattle.tagged_word.specs.Cells.{ReadsAs, has_length, length_by, cell_size, words_of, words_least}
use Rattle.tagged_word.specs.Readings.{header_in, layout_in, shape_layout, read_cell}
use Rattle.tagged_word.proofs.Cells.{size_is, two_words_of}
use Rattle.tagged_word.proofs.Readings.{header_to, layout_to}
use Rattle.tagged_word.proofs.CellReadings.{cell_from}
use Rattle.scav_copy.specs.Places.{Fixed, last_address, cell_before, words_in, size_of}
use Rattle.scav_core.specs.Possible.{wanted_by, words_wanted, is_part, is_whole}

-- a shape that may be has the layout of its layout word
shape_has : (layouts : List ℕ) (shape : ℕ) (layout : LayoutWord) → shape < shapes_most
    → slice_get layouts shape ≡ Some (layout_bits layout) → layout_in (layout_bits layout) ≡ Some layout
    → shape_layout layouts shape ≡ Some layout
shape_has layouts shape layout known of is =
    let t : nat_lt shape shapes_most ≡ true = grind (arith, nat_tests) in
    ap (λ (b : Bool). if b then option_and_then layout_in (slice_get layouts shape) else None) t
    ∙ ap (option_and_then layout_in) of ∙ is

-- The words wanted of a cell are all of it, or its first two where the second is its length and is not read.
pub data IsWanted (wanted : Option ℕ) (size : ℕ) (body : List ℕ) : Type 0 where
  all : wanted ≡ Some size → IsWanted wanted size body
  short : wanted ≡ Some 2 → body ≡ [] → 2 ≤ size → IsWanted wanted size body

-- the words wanted by a layout, with or without the second word
wanted_at : (layout : LayoutWord) (long size : ℕ) (second : Option ℕ) (body : List ℕ) (b : Bool)
    → has_length layout.kind ≡ b → length_by b second ≡ Some long → cell_size layout long ≡ Some size
    → ((k : ℕ) → k < length body → second ≡ Some long → slice_get body 0 ≡ second)
    → IsWanted (wanted_by layout (length_by b (slice_get body 0))) size body
wanted_at layout long size second body false e is sized same =
    IsWanted.all (ap (λ (o : Option ℕ). wanted_by layout o) is ∙ sized)
wanted_at layout long size second [] true e is sized same =
    let s = size_is (words_least layout.kind) (words_of layout.kind layout.cap long) size sized in
    let most : words_least layout.kind ≤ size = omega (arith, s.0, s.1) in
    IsWanted.short refl refl (two_words_of layout.kind layout.cap long size e s.0 most)
wanted_at layout long size second (x ∷ xs) true e is sized same =
    IsWanted.all (ap (λ (o : Option ℕ). wanted_by layout o) (same 0 (omega arith) is ∙ is) ∙ sized)

-- the words wanted of a cell by its header and the words behind it, as far as they are read
reads_wanted : (words layouts : List ℕ) (cell bound header : ℕ) (body : List ℕ) (reading : Reading)
    → ReadsAs words layouts cell bound reading → header ≡ get_or words cell 0
    → ((k : ℕ) → k < length body → get_or body k 0 ≡ get_or words (cell + 1 + k) 0)
    → IsWanted (words_wanted layouts header body) reading.size body
reads_wanted words layouts cell bound header body r reads e same =
    let bits : header ≡ header_bits r.header =
    e ∙ get_or_from_slice_get words cell (header_bits r.header) 0 reads.first in
    let head : header_in header ≡ Some r.header = header_to header r.header reads.is_header bits in
    let layout : shape_layout layouts r.header.shape ≡ Some r.layout =
    shape_has layouts r.header.shape r.layout reads.known reads.of_shape
    (layout_to (layout_bits r.layout) r.layout reads.is_layout refl) in
    let b : Bool = has_length r.layout.kind in
    let second : Option ℕ = slice_get words (cell + 1) in
    let wanted : Option ℕ = wanted_by r.layout (length_by b (slice_get body 0)) in
    let is : words_wanted layouts header body ≡ wanted =
    ap (option_and_then (λ (h : Header). option_and_then
    (λ (l : LayoutWord). wanted_by l (length_by (has_length l.kind) (slice_get body 0)))
    (shape_layout layouts h.shape))) head
    ∙ ap (option_and_then (λ (l : LayoutWord). wanted_by l (length_by (has_length l.kind) (slice_get body 0)))) layout
    in
    subst (λ (o : Option ℕ). IsWanted o r.size body) (sym is)
    (wanted_at r.layout r.length r.size second body b refl reads.second reads.sized
    (λ k less has.
    let within : cell + 1 < length words = slice_get_within words (cell + 1) r.length has in
    let some : 0 < length body = omega (arith, less) in
    let first : get_or body 0 0 ≡ get_or words (cell + 1) 0 =
    same 0 some ∙ ap (λ (at : ℕ). get_or words at 0) (omega arith) in
    slice_get-get_or body 0 0 some ∙ ap (λ (x : ℕ). Some x) first ∙ sym (slice_get-get_or words (cell + 1) 0 within)))

-- of the cell that was read
wanted_by_reading : (fixed : Fixed) (cell header : ℕ) (body : List ℕ) (reading : Option Reading)
    → read_cell fixed.before fixed.layouts cell last_address ≡ reading → IsSome reading
    → header ≡ get_or fixed.before cell 0
    → ((k : ℕ) → k < length body → get_or body k 0 ≡ get_or fixed.before (cell + 1 + k) 0)
    → IsWanted (words_wanted fixed.layouts header body) (words_in reading) body
wanted_by_reading fixed cell header body None read is e same = cc
wanted_by_reading fixed cell header body (Some r) read is e same =
    reads_wanted fixed.before fixed.layouts cell last_address header body r
    (cell_from fixed.before fixed.layouts cell last_address r read) e same

-- of a cell that stood before, with its words as before
pub wanted : (fixed : Fixed) (cell header : ℕ) (body : List ℕ) → IsSome (cell_before fixed cell)
    → header ≡ get_or fixed.before cell 0
    → ((k : ℕ) → k < length body → get_or body k 0 ≡ get_or fixed.before (cell + 1 + k) 0)
    → IsWanted (words_wanted fixed.layouts header body) (size_of fixed cell) body
unfolding cell_before
wanted fixed cell header body is e same = wanted_by_reading fixed cell header body
    (cell_before fixed cell) refl is e same

-- more words are wanted than were read only where the cell has more
pub part_within : (wanted : Option ℕ) (size : ℕ) (body : List ℕ) → IsWanted wanted size body
    → is_part wanted (1 + length body) ≡ true → 1 + length body < size
part_within wanted size body (IsWanted.all e) t =
    let u : nat_lt (1 + length body) size ≡ true = ap (λ (o : Option ℕ). is_part o (1 + length body)) (sym e) ∙ t in
    grind (arith, nat_tests)
part_within wanted size body (IsWanted.short e none two) t =
    let few : length body ≡ 0 = ap (λ (xs : List ℕ). length xs) none in
    omega (arith, few, two)

-- just so many are wanted only where the cell has so many
pub whole_size : (wanted : Option ℕ) (size : ℕ) (body : List ℕ) → IsWanted wanted size body
    → is_whole wanted (1 + length body) ≡ true → 1 + length body ≡ size
whole_size wanted size body (IsWanted.all e) t =
    sym (eqb-true _ _ (ap (λ (o : Option ℕ). is_whole o (1 + length body)) (sym e) ∙ t))
whole_size wanted size body (IsWanted.short e none two) t =
    let few : length body ≡ 0 = ap (λ (xs : List ℕ). length xs) none in
    let bad : 2 ≡ 1 + length body = eqb-true _ _ (ap (λ (o : Option ℕ). is_whole o (1 + length body)) (sym e) ∙ t) in
    absurd (omega (arith, few, bad))
