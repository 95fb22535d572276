-- Where no cell stands: what each test of a reading rules out.
use Rattle.std.proofs.Common.{◌≡◌, ℕ, zero, suc, ◌+◌, ◌≤◌, ◌<◌, List, [], ◌∷◌, length, take, drop}
use Rattle.std.proofs.Common.{Option, Some, None, slice_get, unwrap_or, IfSome, MatchOption, arith, ap, subst, sym}
use Rattle.std.proofs.Common.{refl, ◌∙◌, ◌⊎◌, inl, inr}
use Rattle.std.proofs.lemmas.Bool.{cases_lt}
use Rattle.std.proofs.lemmas.List.{length-take}
use Rattle.std.proofs.lemmas.Option.{slice_get_past, none-some, same_Some}
use Rattle.tagged_word.specs.declared.header.Header.{Header}
use Rattle.tagged_word.specs.declared.layout.LayoutWord.{LayoutWord}
use Rattle.tagged_word.specs.Shapes.{shapes_most}
use Rattle.tagged_word.specs.Headers.{IsHeader, header_bits}
use Rattle.tagged_word.specs.Layouts.{IsLayout, layout_bits}
use Rattle.tagged_word.specs.Cells.{ReadsAs, has_length, length_by, cell_size}
use Rattle.tagged_word.proofs.Headers.{same_header}
use Rattle.tagged_word.proofs.Layouts.{same_layout}
use Rattle.tagged_word.proofs.Cells.{some_same}
use Rattle.page_space.specs.Extents.{Space, CellsEndAt, layouts_start}
use Rattle.page_space.proofs.CellEnds.{end_once}
use Rattle.cell_layout.specs.declared.cell.Cell.{Cell}
use Rattle.cell_layout.specs.Cells.{reading_of, IsCell, IsNoCell, HasNoCell, HasWordsUpTo, IsLayoutOf, layouts_in}

-- an element of the first ones is that of all
slice_get-take : (n : ℕ) (xs : List ℕ) (k : ℕ) → k < n → slice_get (take n xs) k ≡ slice_get xs k
slice_get-take zero xs k below = absurd (omega arith)
slice_get-take (suc n) [] k below = refl
slice_get-take (suc n) (x ∷ xs) zero below = refl
slice_get-take (suc n) (x ∷ xs) (suc k) below = slice_get-take n xs k (omega arith)

-- an element of the later ones is that so many places on
slice_get-drop : (n : ℕ) (xs : List ℕ) (k place : ℕ) → n + k ≡ place → slice_get (drop n xs) k ≡ slice_get xs place
slice_get-drop zero xs k place is = let same : k ≡ place = omega arith in ap (λ at. slice_get xs at) same
slice_get-drop (suc n) [] k place is = refl
slice_get-drop (suc n) (x ∷ xs) k zero is = absurd (omega arith)
slice_get-drop (suc n) (x ∷ xs) k (suc place) is = slice_get-drop n xs k place (omega arith)

-- the layout word of a shape stands among the words
pub slice_get-layouts_in : (space : Space) (words : List ℕ) (shape : ℕ) → shape < shapes_most →
    slice_get (layouts_in space words) shape ≡ slice_get words (layouts_start space + shape)
unfolding layouts_in
slice_get-layouts_in space words shape below =
    slice_get-take shapes_most (drop (layouts_start space) words) shape below
    ∙ slice_get-drop (layouts_start space) words shape (layouts_start space + shape) refl

-- past the last shape there is none
pub slice_get-layouts_past : (space : Space) (words : List ℕ) (shape : ℕ) → shapes_most ≤ shape →
    slice_get (layouts_in space words) shape ≡ None
unfolding layouts_in
slice_get-layouts_past space words shape past =
    slice_get_past (take shapes_most (drop (layouts_start space) words)) shape
    (omega (arith, length-take shapes_most (drop (layouts_start space) words)))

-- past the last shape there is no layout
pub no_layout_past : (space : Space) (words : List ℕ) (shape : ℕ) → shapes_most ≤ shape →
    (layout : LayoutWord) → IsLayoutOf space words shape layout → ⊥
no_layout_past space words shape past layout is =
    none-some (layout_bits layout) (sym (slice_get-layouts_past space words shape past) ∙ is.of_shape)

-- by whether the number is below that of all shapes
known_by : (space : Space) (words : List ℕ) (shape : ℕ) (layout : LayoutWord) → IsLayoutOf space words shape layout →
    (shape < shapes_most) ⊎ (shapes_most ≤ shape) → shape < shapes_most
known_by space words shape layout is (inl below) = below
known_by space words shape layout is (inr past) = absurd (no_layout_past space words shape past layout is)

-- a shape that has a layout is one of the 8,200
pub known : (space : Space) (words : List ℕ) (shape : ℕ) (layout : LayoutWord) → IsLayoutOf space words shape layout →
    shape < shapes_most
known space words shape layout is = known_by space words shape layout is (cases_lt shape shapes_most)

-- nor where the layout word is past the last word
pub no_layout_behind : (space : Space) (words : List ℕ) (shape : ℕ) → shape < shapes_most →
    length words ≤ layouts_start space + shape → (layout : LayoutWord) → IsLayoutOf space words shape layout → ⊥
no_layout_behind space words shape below behind layout is =
    none-some (layout_bits layout)
    (sym (slice_get_past words (layouts_start space + shape) behind)
    ∙ sym (slice_get-layouts_in space words shape below) ∙ is.of_shape)

-- what the layout word of a shape is parsed as is the layout of the shape, and where it is none, there is none
pub layout_as_parsed : (space : Space) (words : List ℕ) (shape word : ℕ) (result : Option LayoutWord) →
    shape < shapes_most → slice_get words (layouts_start space + shape) ≡ Some word →
    ((layout : LayoutWord) → IsLayout layout → word ≡ layout_bits layout → result ≡ Some layout) →
    IfSome result (λ layout. IsLayout layout × (word ≡ layout_bits layout)) →
    MatchOption result ((layout : LayoutWord) → IsLayoutOf space words shape layout → ⊥)
    (λ layout. IsLayoutOf space words shape layout)
layout_as_parsed space words shape word None below read parses one =
    λ layout is. none-some layout (parses layout is.is_layout (same_Some word (layout_bits layout)
    (sym read ∙ sym (slice_get-layouts_in space words shape below) ∙ is.of_shape)))
layout_as_parsed space words shape word (Some layout) below read parses one = record {
  is_layout = one.0;
  of_shape = slice_get-layouts_in space words shape below ∙ read ∙ ap (λ bits. Some bits) one.1;
}

-- the parts that an address reads as, whatever their end is
pub record HasParts
    (space : Space) (words : List ℕ) (at : ℕ) (header : Header) (layout : LayoutWord) (long size : ℕ) : Type 0 where
  pub is_header : IsHeader header
  pub first : slice_get words at ≡ Some (header_bits header)
  pub layout_of : IsLayoutOf space words header.shape layout
  pub second : length_by (has_length layout.kind) (slice_get words (at + 1)) ≡ Some long
  pub sized : cell_size layout long ≡ Some size

-- a cell there has these parts
size_there : (space : Space) (words : List ℕ) (cell : Cell) (header : Header) (layout : LayoutWord) (long size : ℕ) →
    IsCell space words cell → HasParts space words cell.at header layout long size → cell.size ≡ size
size_there space words cell header layout long size is_cell parts =
    let reads = is_cell.reads in
    let of_header : cell.header ≡ header =
    same_header cell.header header reads.is_header parts.is_header (some_same reads.first parts.first) in
    let of_shape : slice_get (layouts_in space words) cell.header.shape ≡ Some (layout_bits layout) =
    ap (λ one. slice_get (layouts_in space words) one.shape) of_header ∙ parts.layout_of.of_shape in
    let of_layout : cell.layout ≡ layout =
    same_layout cell.layout layout reads.is_layout parts.layout_of.is_layout (some_same reads.of_shape of_shape) in
    let second : length_by (has_length cell.layout.kind) (slice_get words (cell.at + 1)) ≡ Some long =
    ap (λ one. length_by (has_length one.kind) (slice_get words (cell.at + 1))) of_layout ∙ parts.second in
    let of_length : cell.length ≡ long = some_same reads.second second in
    let sized : cell_size cell.layout cell.length ≡ Some size =
    ap (λ one. cell_size one cell.length) of_layout ∙ ap (λ one. cell_size layout one) of_length ∙ parts.sized in
    some_same reads.sized sized

-- no cell with these parts stands where there is no room for it
pub no_room : (space : Space) (words : List ℕ) (at room : ℕ) (header : Header) (layout : LayoutWord) (long size : ℕ) →
    HasParts space words at header layout long size → HasWordsUpTo space words at room → room < size →
    HasNoCell space words at
no_room space words at room header layout long size parts has_room more cell same is_cell =
    let here = subst (λ (one : ℕ). HasParts space words one header layout long size) (sym same) parts in
    let stands = subst (λ (one : ℕ). CellsEndAt space one is_cell.end) same is_cell.stands in
    let once : is_cell.end ≡ has_room.end = end_once space at is_cell.end has_room.end stands has_room.stands in
    let sized : cell.size ≡ size = size_there space words cell header layout long size is_cell here in
    let before : cell.at + cell.size ≤ is_cell.end = is_cell.reads.ends in
    let there : cell.at + cell.size ≤ length words = is_cell.reads.there in
    omega (arith, has_room.ends)

-- where there is no size at its length, no cell stands
pub no_size : (space : Space) (words : List ℕ) (at : ℕ) (header : Header) (layout : LayoutWord) (long : ℕ) →
    IsHeader header → slice_get words at ≡ Some (header_bits header) → IsLayoutOf space words header.shape layout →
    length_by (has_length layout.kind) (slice_get words (at + 1)) ≡ Some long → cell_size layout long ≡ None →
    HasNoCell space words at
no_size space words at header layout long is_header first layout_of second none cell same is_cell =
    let reads = subst (λ (one : ℕ). ReadsAs words (layouts_in space words) one is_cell.end (reading_of cell)) same
    is_cell.reads in
    let of_header : cell.header ≡ header =
    same_header cell.header header reads.is_header is_header (some_same reads.first first) in
    let of_shape : slice_get (layouts_in space words) cell.header.shape ≡ Some (layout_bits layout) =
    ap (λ one. slice_get (layouts_in space words) one.shape) of_header ∙ layout_of.of_shape in
    let of_layout : cell.layout ≡ layout =
    same_layout cell.layout layout reads.is_layout layout_of.is_layout (some_same reads.of_shape of_shape) in
    let of_second : length_by (has_length cell.layout.kind) (slice_get words (at + 1)) ≡ Some long =
    ap (λ one. length_by (has_length one.kind) (slice_get words (at + 1))) of_layout ∙ second in
    let of_length : cell.length ≡ long = some_same reads.second of_second in
    let sized : cell_size cell.layout cell.length ≡ None =
    ap (λ one. cell_size one cell.length) of_layout ∙ ap (λ one. cell_size layout one) of_length ∙ none in
    none-some cell.size (sym sized ∙ reads.sized)

-- the parts make a cell where there is room for it
pub makes_cell : (space : Space) (words : List ℕ) (at room : ℕ) (header : Header) (layout : LayoutWord) (long size : ℕ)
    → HasParts space words at header layout long size → HasWordsUpTo space words at room → size ≤ room →
    IsCell space words (record { at = at; header = header; layout = layout; length = long; size = size })
makes_cell space words at room header layout long size parts has_room fits = record {
  end = has_room.end;
  stands = has_room.stands;
  reads = record {
    is_header = parts.is_header;
    first = parts.first;
    known = known space words header.shape layout parts.layout_of;
    is_layout = parts.layout_of.is_layout;
    of_shape = parts.layout_of.of_shape;
    second = parts.second;
    sized = parts.sized;
    ends = omega (arith, has_room.ends, fits);
    there = omega (arith, has_room.ends, fits);
  };
}

-- where no cell stands, the word there is what is told
pub no_cell_with : (space : Space) (words : List ℕ) (at word : ℕ) → HasNoCell space words at →
    slice_get words at ≡ Some word → IsNoCell space words at (record { at = at; word = word })
no_cell_with space words at word none read = record {
  none = none;
  address = refl;
  found = ap (λ one. unwrap_or one 0) (sym read);
}
