-- Words over which a free cell is put: the cell stands there, and what stands beside it stays.
use Rattle.std.proofs.Common.{◌≡◌, ◌≢◌, ℕ, ◌+◌, ◌<◌, ◌≤◌, ◌⊎◌, inl, inr, Bool, true, false, List, length, IsTrue}
use Rattle.std.proofs.Common.{Some, None, cond, nat_le, ◌&&◌, ◌==◌, slice_get}
use Rattle.std.proofs.Common.{refl, sym, ◌∙◌, ap, subst, arith, length-set}
use Rattle.std.specs.Prelude.{slice_set, if◌then◌else◌}
use Rattle.std.proofs.lemmas.Bool.{cases_lt, cases_eq}
use Rattle.std.proofs.lemmas.Bool.Decides.{nat_tests}
use Rattle.tagged_word.specs.declared.layout.Kind.TheVariants as kind
use Rattle.tagged_word.specs.Headers.{header_bits}
use Rattle.tagged_word.specs.Shapes.{shapes_most, filler_shape, gap_shape}
use Rattle.tagged_word.specs.Cells.{is_free_kind, length_offset, size_within, cell_words_most}
use Rattle.page_space.specs.Extents.{Space, CellsEndAt, layouts_start}
use Rattle.page_space.proofs.Starts.{layouts_start_is}
use Rattle.page_space.proofs.CellEnds.{end_before_roots, same_end}
use Rattle.object_graph.proofs.Lists.{slice_get-set_same, slice_get-set_other}
use Rattle.heap_model.specs.Types.{Kind, LayoutWord, Path, Cell}
use Rattle.cell_layout.specs.Cells.{IsLayoutOf, IsCell, layouts_in}
use Rattle.cell_layout.proofs.CellsThere.{slice_get-layouts_in, slice_get-layouts_past}
use Rattle.cell_layout.proofs.OneCell.{cells_have_words, cells_stay}
use Rattle.cell_layout.proofs.Puts.{two_words}
use Rattle.heap_model.specs.Kinds.{HasNoNumber}
use Rattle.heap_model.proofs.LayoutsStay.{SayLayouts}
use Rattle.write_barrier.specs.MutatorState.{gap_header}
use Rattle.write_barrier.specs.FreeCells.{filler_header, with_free_cell}

-- the layout of a kind of cell without slots
abbrev pub free_layout : Kind → LayoutWord
free_layout one = record { kind = one; cap = 0; used = 0; raw = 0 }

-- the free cell over so many words: a filler, or a gap
abbrev pub free_cell_by : Bool → ℕ → ℕ → Cell
free_cell_by filler at count = record {
  at = at;
  header = if filler then filler_header else gap_header;
  layout = free_layout (if filler then kind.Filler else kind.Gap);
  length = if filler then 0 else count;
  size = count;
}

-- a filler over one word, a gap over more
abbrev pub free_cell : ℕ → ℕ → Cell
free_cell at count = free_cell_by (count == 1) at count

-- such a cell is free
free_by : (filler : Bool) (at count : ℕ) → IsTrue (is_free_kind (free_cell_by filler at count).layout.kind)
free_by true at count = refl
free_by false at count = refl

-- and has no number
no_number_by : (filler : Bool) (at count : ℕ) → HasNoNumber (free_cell_by filler at count)
no_number_by true at count = refl
no_number_by false at count = refl

-- the free cell is free
pub free_cell_is_free : (at count : ℕ) → IsTrue (is_free_kind (free_cell at count).layout.kind)
free_cell_is_free at count = free_by (count == 1) at count

-- it has no number
pub free_cell_no_number : (at count : ℕ) → HasNoNumber (free_cell at count)
free_cell_no_number at count = no_number_by (count == 1) at count

-- the words with a gap over so many
abbrev pub with_gap : List ℕ → ℕ → ℕ → List ℕ
with_gap words at count = slice_set (slice_set words at (header_bits gap_header)) (at + length_offset) count

-- Nothing was put over no words, a filler over one, and a gap over more.
pub data PutAs (words : List ℕ) (at count : ℕ) : Type 0 where
  none : count ≡ 0 → with_free_cell words at count ≡ words → PutAs words at count
  filler : count ≡ 1 → with_free_cell words at count ≡ slice_set words at (header_bits filler_header)
      → PutAs words at count
  gap : 2 ≤ count → with_free_cell words at count ≡ with_gap words at count → PutAs words at count

-- more words than one are no filler
not_one : (count : ℕ) → 2 ≤ count → (count == 1) ≡ false
not_one count some = grind (arith, nat_tests, some)

-- over more than one word a gap was put
put_as_gap : (words : List ℕ) (at count : ℕ) → 2 ≤ count
    → with_free_cell words at count ≡ with_gap words at count
put_as_gap words at count some =
    let filler : List ℕ = slice_set words at (header_bits filler_header) in
    let gap : List ℕ = with_gap words at count in
    let not_none : (count == 0) ≡ false = grind (arith, nat_tests, some) in
    ap (λ t. cond t words (cond (count == 1) filler gap)) not_none
    ∙ ap (λ t. cond t filler gap) (not_one count some)

-- each number of words is one of these
pub put_as : (words : List ℕ) (at count : ℕ) → PutAs words at count
put_as words at count = elim (cases_eq count 0) [
  | inl is ↦ PutAs.none is (subst (λ n. with_free_cell words at n ≡ words) (sym is) refl)
  | inr some ↦ elim (cases_eq count 1) [
    | inl is ↦
        PutAs.filler is
        (subst (λ n. with_free_cell words at n ≡ slice_set words at (header_bits filler_header)) (sym is) refl)
    | inr more ↦
        let two : 2 ≤ count = omega (arith, some, more) in
        PutAs.gap two (put_as_gap words at count two)
  ]
]

-- there are as many words
pub length-free_cell : (words : List ℕ) (at count : ℕ) → length (with_free_cell words at count) ≡ length words
length-free_cell words at count = elim (put_as words at count) [
  | PutAs.none is same ↦ ap length same
  | PutAs.filler is same ↦ ap length same ∙ length-set words at (header_bits filler_header)
  | PutAs.gap some same ↦
      ap length same ∙ length-set (slice_set words at (header_bits gap_header)) (at + length_offset) count
      ∙ length-set words at (header_bits gap_header)
]

-- an address beside a range is none of its own
not_in : (from to at one : ℕ) → (at < from) ⊎ (to ≤ at) → from ≤ one → one < to → at ≢ one
not_in from to at one (inl before) low high same = omega (arith, before, low, same)
not_in from to at one (inr behind) low high same = omega (arith, behind, high, same)

-- a word beside the free cell stays
pub beside_free_cell : (words : List ℕ) (at count a : ℕ) → (a < at) ⊎ (at + count ≤ a)
    → slice_get (with_free_cell words at count) a ≡ slice_get words a
beside_free_cell words at count a out = elim (put_as words at count) [
  | PutAs.none is same ↦ ap (λ all. slice_get all a) same
  | PutAs.filler is same ↦
      ap (λ all. slice_get all a) same
      ∙ slice_get-set_other words at a (header_bits filler_header)
      (not_in at (at + count) a at out (omega arith) (omega (arith, is)))
  | PutAs.gap some same ↦
      let first : List ℕ = slice_set words at (header_bits gap_header) in
      ap (λ all. slice_get all a) same
      ∙ slice_get-set_other first (at + length_offset) a count
      (not_in at (at + count) a (at + length_offset) out (omega arith) (omega (arith, some)))
      ∙ slice_get-set_other words at a (header_bits gap_header)
      (not_in at (at + count) a at out (omega arith) (omega (arith, some)))
]

-- so the layout words stay where the free cell ends before them
pub layouts_beside : (space : Space) (words : List ℕ) (at count shape : ℕ) → at + count ≤ layouts_start space
    → slice_get (layouts_in space (with_free_cell words at count)) shape ≡ slice_get (layouts_in space words) shape
layouts_beside space words at count shape before = elim (cases_lt shape shapes_most) [
  | inl below ↦
      slice_get-layouts_in space (with_free_cell words at count) shape below
      ∙ beside_free_cell words at count (layouts_start space + shape) (inr (omega (arith, before)))
      ∙ sym (slice_get-layouts_in space words shape below)
  | inr past ↦
      slice_get-layouts_past space (with_free_cell words at count) shape past
      ∙ sym (slice_get-layouts_past space words shape past)
]

-- and a cell that has no word in common with the free one stands as before
pub cell_beside : (space : Space) (words : List ℕ) (at count : ℕ) (cell : Cell) → at + count ≤ layouts_start space
    → IsCell space words cell → (cell.at + cell.size ≤ at) ⊎ (at + count ≤ cell.at)
    → IsCell space (with_free_cell words at count) cell
cell_beside space words at count cell before is_cell out =
    let some = (cells_have_words space words cell is_cell).0 in
    let apart : (a : ℕ) → cell.at ≤ a → a < cell.at + cell.size → (a < at) ⊎ (at + count ≤ a) =
    λ a from below. elim out [
      | inl low ↦ inl (omega (arith, low, below))
      | inr high ↦ inr (omega (arith, high, from))
    ] in
    cells_stay space words (with_free_cell words at count) cell is_cell (length-free_cell words at count) (record {
      first = beside_free_cell words at count cell.at (apart cell.at (omega arith) (omega (arith, some)));
      second = λ long. beside_free_cell words at count (cell.at + 1)
          (apart (cell.at + 1) (omega arith) (omega (arith, two_words space words cell is_cell long)));
      of_shape = layouts_beside space words at count cell.header.shape before;
    })

-- the layouts of fillers and of gaps stand among the words
pub record HasFreeLayouts (space : Space) (words : List ℕ) : Type 0 where
  pub filler : IsLayoutOf space words filler_shape (free_layout kind.Filler)
  pub gap : IsLayoutOf space words gap_shape (free_layout kind.Gap)

-- they do where the layout words are those of the shapes
pub shapes_have_free : (space : Space) (words : List ℕ) (paths : List Path) → SayLayouts space words paths
    → HasFreeLayouts space words
shapes_have_free space words paths say = record {
  filler = record {
    is_layout = record { cap = refl; used = refl; raw = refl };
    of_shape = slice_get-layouts_in space words filler_shape (omega arith) ∙ say filler_shape (omega arith);
  };
  gap = record {
    is_layout = record { cap = refl; used = refl; raw = refl };
    of_shape = slice_get-layouts_in space words gap_shape (omega arith) ∙ say gap_shape (omega arith);
  };
}

-- a filler stands where its header does
pub filler_there : (space : Space) (words : List ℕ) (at end : ℕ) → HasFreeLayouts space words → CellsEndAt space at end
    → at + 1 ≤ end → at + 1 ≤ length words → slice_get words at ≡ Some (header_bits filler_header)
    → IsCell space words (free_cell_by true at 1)
filler_there space words at end has stands within long header = record {
  end = end;
  stands = stands;
  reads = record {
    is_header = record { shape = omega arith; object = omega arith };
    first = header;
    known = omega arith;
    is_layout = has.filler.is_layout;
    of_shape = has.filler.of_shape;
    second = refl;
    sized = refl;
    ends = within;
    there = long;
  };
}

-- so many words make the size of a gap
gap_sized : (count : ℕ) → 2 ≤ count → count ≤ cell_words_most → size_within 2 count ≡ Some count
gap_sized count some few =
    let test : (nat_le 2 count && nat_le count cell_words_most) ≡ true = grind (arith, nat_tests, some, few) in
    ap (λ t. cond t (Some count) None) test

-- a gap stands where its header and its length do
gap_there : (space : Space) (words : List ℕ) (at count end : ℕ) → HasFreeLayouts space words
    → CellsEndAt space at end → 2 ≤ count → count ≤ cell_words_most → at + count ≤ end → at + count ≤ length words
    → slice_get words at ≡ Some (header_bits gap_header) → slice_get words (at + length_offset) ≡ Some count
    → IsCell space words (free_cell_by false at count)
gap_there space words at count end has stands some few within long header counted = record {
  end = end;
  stands = stands;
  reads = record {
    is_header = record { shape = omega arith; object = omega arith };
    first = header;
    known = omega arith;
    is_layout = has.gap.is_layout;
    of_shape = has.gap.of_shape;
    second = counted;
    sized = gap_sized count some few;
    ends = within;
    there = long;
  };
}

-- the layouts of fillers and gaps stand there where the free cell was put before them
pub free_layouts_stay : (space : Space) (words : List ℕ) (at count : ℕ) → at + count ≤ layouts_start space
    → HasFreeLayouts space words → HasFreeLayouts space (with_free_cell words at count)
free_layouts_stay space words at count before has = record {
  filler = record {
    is_layout = has.filler.is_layout;
    of_shape = layouts_beside space words at count filler_shape before ∙ has.filler.of_shape;
  };
  gap = record {
    is_layout = has.gap.is_layout;
    of_shape = layouts_beside space words at count gap_shape before ∙ has.gap.of_shape;
  };
}

-- the end of a region of cells is before the layout words
end_before_layouts : (space : Space) (at end : ℕ) → CellsEndAt space at end → end ≤ layouts_start space
end_before_layouts space at end stands =
    omega (arith, end_before_roots space at end stands, layouts_start_is space)

-- the free cell that was put before the end of a region of cells stands there
pub free_cell_put : (space : Space) (words : List ℕ) (at count end : ℕ) → HasFreeLayouts space words
    → CellsEndAt space at end → 1 ≤ count → count ≤ cell_words_most → at + count ≤ end → at + count ≤ length words
    → IsCell space (with_free_cell words at count) (free_cell at count)
free_cell_put space words at count end has stands some few within long =
    let new : List ℕ = with_free_cell words at count in
    let before : at + count ≤ layouts_start space = omega (arith, within, end_before_layouts space at end stands) in
    let has_new = free_layouts_stay space words at count before has in
    let long_new : at + count ≤ length new = omega (arith, long, length-free_cell words at count) in
    elim (put_as words at count) [
      | PutAs.none is same ↦ absurd (omega (arith, some, is))
      | PutAs.filler is same ↦
          let header : slice_get new at ≡ Some (header_bits filler_header) =
          ap (λ all. slice_get all at) same
          ∙ slice_get-set_same words at (header_bits filler_header) (omega (arith, long, some)) in
          subst (λ n. IsCell space new (free_cell at n)) (sym is)
          (filler_there space new at end has_new stands (omega (arith, within, is)) (omega (arith, long_new, is))
          header)
      | PutAs.gap two same ↦
          let first : List ℕ = slice_set words at (header_bits gap_header) in
          let header : slice_get new at ≡ Some (header_bits gap_header) =
          ap (λ all. slice_get all at) same
          ∙ slice_get-set_other first (at + length_offset) at count (λ there. omega (arith, there))
          ∙ slice_get-set_same words at (header_bits gap_header) (omega (arith, long, some)) in
          let counted : slice_get new (at + length_offset) ≡ Some count =
          ap (λ all. slice_get all (at + length_offset)) same
          ∙ slice_get-set_same first (at + length_offset) count
          (omega (arith, long, two, length-set words at (header_bits gap_header))) in
          subst (λ t. IsCell space new (free_cell_by t at count)) (sym (not_one count two))
          (gap_there space new at count end has_new stands two few within long_new header counted)
    ]

-- so does one that is put in the words of a cell
pub free_cell_within : (space : Space) (words : List ℕ) (stood : Cell) (at count : ℕ) → HasFreeLayouts space words
    → IsCell space words stood → stood.at ≤ at → 1 ≤ count → at + count ≤ stood.at + stood.size
    → IsCell space (with_free_cell words at count) (free_cell at count)
free_cell_within space words stood at count has is_cell from some below =
    let ends = is_cell.reads.ends in
    let few = (cells_have_words space words stood is_cell).1 in
    free_cell_put space words at count is_cell.end has
    (same_end space stood.at at is_cell.end is_cell.stands from (omega (arith, ends, some, below))) some
    (omega (arith, few, from, below)) (omega (arith, ends, below)) (omega (arith, is_cell.reads.there, below))
