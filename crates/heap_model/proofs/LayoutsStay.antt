-- The layout word of a cell's shape stays where paths are only added.
use Rattle.std.proofs.Common.{◌≡◌, ℕ, ◌+◌, ◌<◌, inl, inr, List, ◌++◌}
use Rattle.std.proofs.Common.{length, map, Some, slice_get, unwrap_or}
use Rattle.std.proofs.Common.{sym, ◌∙◌, ap, arith}
use Rattle.std.proofs.lemmas.List.{map-append}
use Rattle.std.proofs.lemmas.Bool.{cases_lt}
use Rattle.std.proofs.lemmas.Option.{slice_get_past, same_Some}
use Rattle.heap_model.specs.Types.{LayoutWord, Path, Cell}
use Rattle.tagged_word.specs.Layouts.{layout_bits}
use Rattle.tagged_word.specs.Shapes.{shapes_most, fixed_layout_words}
use Rattle.tagged_word.proofs.Layouts.{kind_number-some}
use Rattle.page_space.specs.Extents.{Space, layouts_start}
use Rattle.shape_tree.specs.ShapeLayouts.{layout_of, layout_words, layout_word}
use Rattle.cell_layout.specs.Cells.{IsCell, layouts_in}
use Rattle.cell_layout.proofs.CellsThere.{slice_get-layouts_in, slice_get-layouts_past}
use Rattle.heap_model.proofs.CellWords.{slice_get-append_left}

-- a layout word is no 0
layout_counts : (layout : LayoutWord) → layout_bits layout ≡ 0 → ⊥
layout_counts layout none = omega (arith, none, kind_number-some layout.kind)

-- the layout words with more paths: those from before, and others
more_layout_words : (paths more : List Path)
    → layout_words (paths ++ more) ≡ layout_words paths ++ map (λ path. layout_bits (layout_of path)) more
more_layout_words paths more =
    ap (λ words. fixed_layout_words ++ words) (map-append (λ path. layout_bits (layout_of path)) paths more)

-- the layout word of a shape in use stays
layout_word_stays : (paths more : List Path) (shape : ℕ) → shape < length (layout_words paths)
    → layout_word (paths ++ more) shape ≡ layout_word paths shape
layout_word_stays paths more shape below =
    let behind = map (λ path. layout_bits (layout_of path)) more in
    ap (λ all. unwrap_or (slice_get all shape) 0) (more_layout_words paths more)
    ∙ ap (λ found. unwrap_or found 0) (slice_get-append_left (layout_words paths) behind shape below)

-- the words say of each shape what its layout word is
abbrev pub SayLayouts : Space → List ℕ → List Path → Type 0
SayLayouts space words paths =
    (shape : ℕ) → shape < shapes_most → slice_get words (layouts_start space + shape) ≡ Some (layout_word paths shape)

-- a cell's shape is in use
shape_in_use : (space : Space) (words : List ℕ) (paths : List Path) (cell : Cell) → SayLayouts space words paths
    → IsCell space words cell → cell.header.shape < shapes_most → cell.header.shape < length (layout_words paths)
shape_in_use space words paths cell say is_cell below =
    let shape : ℕ = cell.header.shape in
    elim (cases_lt shape (length (layout_words paths))) [
      | inl used ↦ used
      | inr past ↦
          let none : layout_word paths shape ≡ 0 =
          ap (λ found. unwrap_or found 0) (slice_get_past (layout_words paths) shape past) in
          let bits : layout_bits cell.layout ≡ layout_word paths shape =
          same_Some _ _ (sym is_cell.reads.of_shape ∙ slice_get-layouts_in space words shape below ∙ say shape below) in
          absurd (layout_counts cell.layout (bits ∙ none))
    ]

-- the layout word of a cell's shape stays where paths are only added
pub layout_stays : (space : Space) (words other : List ℕ) (paths more : List Path) (cell : Cell)
    → SayLayouts space words paths → SayLayouts space other (paths ++ more) → IsCell space words cell
    → slice_get (layouts_in space other) cell.header.shape ≡ slice_get (layouts_in space words) cell.header.shape
layout_stays space words other paths more cell say say_more is_cell =
    let shape : ℕ = cell.header.shape in
    elim (cases_lt shape shapes_most) [
      | inl below ↦
          let used = shape_in_use space words paths cell say is_cell below in
          slice_get-layouts_in space other shape below ∙ say_more shape below
          ∙ ap (λ word. Some word) (layout_word_stays paths more shape used) ∙ sym (say shape below)
          ∙ sym (slice_get-layouts_in space words shape below)
      | inr past ↦ slice_get-layouts_past space other shape past ∙ sym (slice_get-layouts_past space words shape past)
    ]
