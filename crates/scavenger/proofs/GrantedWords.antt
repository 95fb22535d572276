-- Words of a free cell of a page are granted: which words of the heap stay, and which cells stand in those of the free
-- one.
use Rattle.std.proofs.Common.{◌≡◌, ℕ, zero, suc, ◌+◌, ◌-◌, ◌/◌, ◌<◌, ◌≤◌, ◌⊎◌, inl, inr, List, [], ◌∷◌, ◌++◌, Contains}
use Rattle.std.proofs.Common.{true, length, slice_get, IsTrue, refl, sym, ◌∙◌, ap, subst, arith}
use Rattle.std.specs.Prelude.{replicate, slice_set}
use Rattle.std.proofs.lemmas.Bool.{cases_eq}
use Rattle.std.proofs.lemmas.List.{length-replicate}
use Rattle.std.proofs.lemmas.List.Elements.{Contains-append_left, Contains-append_right, Contains-append_cases}
use Rattle.tagged_word.specs.Headers.{header_bits}
use Rattle.tagged_word.specs.Cells.{is_free_kind, length_offset}
use Rattle.tagged_word.proofs.Members.{first_in, one_in}
use Rattle.object_graph.proofs.Lists.{slice_get-set_other}
use Rattle.page_space.specs.Sizes.{page_words}
use Rattle.page_space.specs.Extents.{eden_start, layouts_start}
use Rattle.page_space.proofs.CellAddresses.{page_ends}
use Rattle.page_space.proofs.CellEnds.{same_end}
use Rattle.page_space.proofs.LawsHold.{kinds_by_number}
use Rattle.cell_layout.specs.Cells.{IsCell, IsRow, none}
use Rattle.cell_layout.proofs.CellsThere.{slice_get-layouts_in}
use Rattle.cell_layout.proofs.OneCell.{cells_stay}
use Rattle.cell_layout.proofs.Rows.{rows_join, row_push}
use Rattle.heap_model.specs.Types.{Cell, Run}
use Rattle.heap_model.specs.Heaps.{Heap}
use Rattle.heap_model.specs.Kinds.{HasNoNumber}
use Rattle.heap_model.specs.Wholeness.{Whole}
use Rattle.heap_model.specs.Collectable.{IsFreeCell}
use Rattle.heap_model.proofs.BoundHeaps.{none_in}
use Rattle.heap_model.proofs.CellsApart.{has_is_cell}
use Rattle.heap_model.proofs.LayoutsStay.{SayLayouts}
use Rattle.heap_model.proofs.Rewrites.{row_of_one}
use Rattle.write_barrier.specs.FreeCells.{filler_header, with_free_cell}
use Rattle.write_barrier.specs.MutatorState.{gap_header}
use Rattle.write_barrier.proofs.FreeCells.{free_cell_by, free_cell, free_cell_is_free, free_cell_no_number}
use Rattle.write_barrier.proofs.FreeCells.{length-free_cell, beside_free_cell, shapes_have_free, filler_there}
use Rattle.write_barrier.proofs.FreeCells.{free_cell_within, PutAs, put_as}
use Rattle.write_barrier.proofs.PutRanges.{length-with_range, with_range_before, with_range_behind, with_range_filled}
use Rattle.scavenger.specs.Granting.{granted_words}
use Rattle.scavenger.proofs.PagesWords.{cell_in_page}

-- The first n words of a run of a page may be granted: it is one free cell of a whole heap, and has so many.
pub record Granting (heap : Heap) (run : Run) (n : ℕ) : Type 0 where
  pub whole : Whole heap
  pub free : IsFreeCell heap run
  pub some : 1 ≤ n
  pub enough : n ≤ run.words

-- a word behind the header and the length of a free cell stays
behind_free_head : (words : List ℕ) (at count a : ℕ) → at + length_offset < a
    → slice_get (with_free_cell words at count) a ≡ slice_get words a
behind_free_head words at count a behind = elim (put_as words at count) [
  | PutAs.none is same ↦ ap (λ all. slice_get all a) same
  | PutAs.filler is same ↦
      ap (λ all. slice_get all a) same
      ∙ slice_get-set_other words at a (header_bits filler_header) (λ here. omega (arith, behind, here))
  | PutAs.gap some same ↦
      ap (λ all. slice_get all a) same
      ∙ slice_get-set_other (slice_set words at (header_bits gap_header)) (at + length_offset) a count
      (λ here. omega (arith, behind, here))
      ∙ slice_get-set_other words at a (header_bits gap_header) (λ here. omega (arith, behind, here))
]

-- so many fillers from an address on
abbrev pub fillers_from : ℕ → ℕ → List Cell
fillers_from at zero = []
fillers_from at (suc many) = fillers_from at many ++ (free_cell_by true (at + many) 1 ∷ [])

-- each of them stands at one of the addresses
filler_of : (at many : ℕ) (cell : Cell) → Contains (fillers_from at many) cell
    → (one : ℕ) × (at ≤ one) × (one < at + many) × (free_cell_by true one 1 ≡ cell)
filler_of at zero cell there = absurd (none_in cell there)
filler_of at (suc many) cell there =
    elim (Contains-append_cases (fillers_from at many) (free_cell_by true (at + many) 1 ∷ []) cell there) [
      | inl before ↦
          let found = filler_of at many cell before in
          (found.0, found.1, omega (arith, found.2), found.3)
      | inr last ↦ (at + many, omega arith, omega arith, one_in (free_cell_by true (at + many) 1) cell last)
    ]

-- and at each one does
filler_in : (at many one : ℕ) → at ≤ one → one < at + many
    → Contains (fillers_from at many) (free_cell_by true one 1)
filler_in at zero one above below = absurd (omega (arith, above, below))
filler_in at (suc many) one above below =
    let last : Cell = free_cell_by true (at + many) 1 in
    elim (cases_eq one (at + many)) [
      | inl same ↦
          Contains-append_right (fillers_from at many) (last ∷ []) (free_cell_by true one 1)
          (subst (λ n. Contains (last ∷ []) (free_cell_by true n 1)) (sym same) (first_in last []))
      | inr other ↦
          Contains-append_left (fillers_from at many) (last ∷ []) (free_cell_by true one 1)
          (filler_in at many one above (omega (arith, below, other)))
    ]

module _ {heap : Heap} {run : Run} {n : ℕ} (granting : Granting heap run n) where
  -- the free cell that stood there
  abbrev pub stood : Cell
  stood = granting.free.cell

  -- it is one of the words
  pub stood_is : IsCell heap.space heap.words stood
  stood_is = has_is_cell granting.free.has

  -- it ends where eden begins, or before
  pub in_page : run.at + run.words ≤ eden_start heap.space
  in_page =
      let page : ℕ = stood.at / page_words in
      let known : page < heap.space.sizes.pages = omega (arith, granting.free.of_page) in
      omega (
        arith,
        cell_in_page heap.space heap.words stood stood_is granting.free.of_page,
        page_ends heap.space page known,
        granting.free.stands,
        granting.free.size,
      )

  -- so it ends before the layout words
  before_layouts : run.at + run.words ≤ layouts_start heap.space
  before_layouts =
      let numbers = kinds_by_number heap.space in
      omega (arith, in_page, numbers.roots, numbers.layouts)

  -- there is a word for each of its addresses
  run_there : run.at + run.words ≤ length heap.words
  run_there = omega (arith, stood_is.reads.there, granting.free.stands, granting.free.size)

  -- the words of afterwards
  abbrev pub now : List ℕ
  now = granted_words heap.words run n

  -- the words with one free cell over those that are not granted
  abbrev covered : List ℕ
  covered = with_free_cell heap.words (run.at + n) (run.words - n)

  -- there are as many
  covered_long : length covered ≡ length heap.words
  covered_long = length-free_cell heap.words (run.at + n) (run.words - n)

  -- there are so many fillers
  fillers_long : length (replicate n (header_bits filler_header)) ≡ n
  fillers_long = length-replicate n (header_bits filler_header)

  -- there are as many words as before
  pub as_many : length now ≡ length heap.words
  as_many =
      length-with_range covered (replicate n (header_bits filler_header)) run.at
      (omega (arith, run_there, granting.enough, covered_long, fillers_long))
      ∙ covered_long

  -- the run begins among them
  begins_there : run.at ≤ length covered
  begins_there = omega (arith, run_there, covered_long)

  -- a word behind those that are granted is that of the free cell, or as before
  rest_word : (at : ℕ) → run.at + n ≤ at → slice_get now at ≡ slice_get covered at
  rest_word at behind =
      with_range_behind covered (replicate n (header_bits filler_header)) run.at at begins_there
      (omega (arith, behind, fillers_long))

  -- a word beside the run stays
  pub beside_stays : (at : ℕ) → (at < run.at) ⊎ (run.at + run.words ≤ at)
      → slice_get now at ≡ slice_get heap.words at
  beside_stays at beside = elim beside [
    | inl before ↦
        with_range_before covered (replicate n (header_bits filler_header)) run.at at begins_there before
        ∙ beside_free_cell heap.words (run.at + n) (run.words - n) at (inl (omega (arith, before)))
    | inr behind ↦
        rest_word at (omega (arith, behind, granting.enough))
        ∙ beside_free_cell heap.words (run.at + n) (run.words - n) at
        (inr (omega (arith, behind, granting.enough)))
  ]

  -- so does one of the run behind the head of the free cell over what is left
  pub rest_stays : (at : ℕ) → run.at + n + length_offset < at → slice_get now at ≡ slice_get heap.words at
  rest_stays at behind =
      rest_word at (omega (arith, behind)) ∙ behind_free_head heap.words (run.at + n) (run.words - n) at behind

  -- the layout words are those of the shapes
  pub say_layouts : SayLayouts heap.space now heap.paths
  say_layouts shape known =
      beside_stays (layouts_start heap.space + shape) (inr (omega (arith, before_layouts)))
      ∙ granting.whole.sized.layouts shape known

  -- a filler stands at each granted address
  filler_stands : (at : ℕ) → run.at ≤ at → at < run.at + n → IsCell heap.space now (free_cell_by true at 1)
  filler_stands at above below =
      let ends = stood_is.reads.ends in
      let high : at < stood.at + stood.size =
      omega (arith, below, granting.enough, granting.free.stands, granting.free.size) in
      filler_there heap.space now at stood_is.end (shapes_have_free heap.space now heap.paths say_layouts)
      (same_end heap.space stood.at at stood_is.end stood_is.stands (omega (arith, above, granting.free.stands))
      (omega (arith, high, ends)))
      (omega (arith, high, ends)) (omega (arith, high, stood_is.reads.there, as_many))
      (with_range_filled covered run.at n (header_bits filler_header) at begins_there above below)

  -- where no word lies between two addresses, there is a row of no cell
  no_cells : (from to : ℕ) → from ≡ to → IsRow heap.space now from to []
  no_cells from to same = subst (λ (end : ℕ). IsRow heap.space now from end []) same (none from)

  -- they are a row
  fillers_row : (many : ℕ) → many ≤ n → IsRow heap.space now run.at (run.at + many) (fillers_from run.at many)
  fillers_row zero few = no_cells run.at (run.at + zero) (omega arith)
  fillers_row (suc many) few =
      let at : ℕ = run.at + many in
      let one = filler_stands at (omega arith) (omega (arith, few)) in
      let end : at + 1 ≡ run.at + suc many = omega arith in
      subst (λ (to : ℕ). IsRow heap.space now run.at to (fillers_from run.at (suc many))) end
      (row_push heap.space now run.at (fillers_from run.at many) (free_cell_by true at 1)
      (fillers_row many (omega (arith, few))) one)

  -- the free cell over the words that are not granted
  abbrev pub rest : Cell
  rest = free_cell (run.at + n) (run.words - n)

  -- it stands there where there are some
  rest_stands : n < run.words → IsCell heap.space now rest
  rest_stands more =
      let put = free_cell_within heap.space heap.words stood (run.at + n) (run.words - n)
      (shapes_have_free heap.space heap.words heap.paths granting.whole.sized.layouts) stood_is
      (omega (arith, granting.free.stands)) (omega (arith, more))
      (omega (arith, more, granting.free.stands, granting.free.size)) in
      let known = put.reads.known in
      cells_stay heap.space covered now rest put (as_many ∙ sym covered_long) record {
        first = rest_word (run.at + n) (omega arith);
        second = λ long. rest_word (run.at + n + 1) (omega arith);
        of_shape = slice_get-layouts_in heap.space now rest.header.shape known
            ∙ rest_word (layouts_start heap.space + rest.header.shape)
            (omega (arith, before_layouts, granting.enough))
            ∙ sym (slice_get-layouts_in heap.space covered rest.header.shape known);
      }

  -- what stands in the words that are not granted: one free cell, or none
  pub record RestCells : Type 0 where
    pub cells : List Cell
    pub row : IsRow heap.space now (run.at + n) (run.at + run.words) cells
    pub each : (cell : Cell) → Contains cells cell → rest ≡ cell
    pub there : n < run.words → Contains cells rest

  -- it does
  pub rest_cells : RestCells
  rest_cells = elim (cases_eq n run.words) [
    | inl same ↦ record {
      cells = [];
      row = no_cells (run.at + n) (run.at + run.words) (omega (arith, same));
      each = λ cell there. absurd (none_in cell there);
      there = λ more. absurd (omega (arith, more, same));
    }
    | inr other ↦
        let more : n < run.words = omega (arith, other, granting.enough) in
        record {
          cells = rest ∷ [];
          row = row_of_one {cell = rest} (run.at + n) (run.at + run.words) (rest_stands more) refl
              (omega (arith, more));
          each = λ cell there. one_in rest cell there;
          there = λ some. first_in rest [];
        }
  ]

  -- the cells that stand in the words of the free one afterwards
  abbrev pub after : List Cell
  after = fillers_from run.at n ++ rest_cells.cells

  -- they are a row
  pub after_row : IsRow heap.space now run.at (run.at + run.words) after
  after_row =
      rows_join heap.space now run.at (run.at + n) (run.at + run.words) (fillers_from run.at n) rest_cells.cells
      (fillers_row n (omega arith)) rest_cells.row

  -- at each granted address a filler is one of them
  pub filler_after : (at : ℕ) → run.at ≤ at → at < run.at + n → Contains after (free_cell_by true at 1)
  filler_after at above below =
      Contains-append_left (fillers_from run.at n) rest_cells.cells (free_cell_by true at 1)
      (filler_in run.at n at above below)

  -- and so is what is left
  pub rest_after : n < run.words → Contains after rest
  rest_after more =
      Contains-append_right (fillers_from run.at n) rest_cells.cells rest (rest_cells.there more)

  -- each of them is free and has no number
  pub after_free : (cell : Cell) → Contains after cell → IsTrue (is_free_kind cell.layout.kind) × HasNoNumber cell
  after_free cell there =
      let Says : Cell → Type 0 = λ one. IsTrue (is_free_kind one.layout.kind) × HasNoNumber one in
      elim (Contains-append_cases (fillers_from run.at n) rest_cells.cells cell there) [
        | inl filler ↦
            let found = filler_of run.at n cell filler in
            subst Says found.3 (refl, refl)
        | inr last ↦
            subst Says (rest_cells.each cell last)
            (free_cell_is_free (run.at + n) (run.words - n), free_cell_no_number (run.at + n) (run.words - n))
      ]
