-- The first address of each kind of region, as a number.
use Rattle.std.proofs.Common.{◌≡◌, ℕ, ◌+◌, ◌*◌, ◌++◌, ◌∷◌, [], ◌∙◌, ap, arith}
use Rattle.tagged_word.specs.Shapes.{shapes_most}
use Rattle.page_space.specs.declared.region.Region.TheVariants.{Page, Eden, Segment, Root, Layout, Mark, Board}
use Rattle.page_space.specs.Sizes.{page_words}
use Rattle.page_space.specs.Extents.{Space, Stretch, root_words, board_words, mark_words, half_segments, segments_start}
use Rattle.page_space.specs.Extents.{words_in, words_count, roots_start, layouts_start, marks_start, board_start}
use Rattle.page_space.specs.Extents.{each_of, cell_stretches, root_stretches, layout_stretches, mark_stretches}
use Rattle.page_space.specs.Extents.{board_stretches, half_of}
use Rattle.page_space.proofs.Stretches.{words_in-append, words_in-each_of}

-- the words of the segments of one half
abbrev pub half_words : Space → ℕ
half_words space = half_segments space * space.sizes.young

-- the segments of either half have as many words
pub words_in-half_of : (space : Space) (half : ℕ) → words_in (half_of space half) ≡ half_words space
words_in-half_of space half =
    words_in-each_of (λ worker. Segment half worker) space.sizes.young (space.sizes.helpers + 1) ∙ grind arith

-- the roots begin behind both halves
pub roots_start_is : (space : Space) → roots_start space ≡ segments_start space + 2 * half_words space
unfolding roots_start
roots_start_is space =
    let pages = each_of (λ page. Page page) page_words space.sizes.pages in
    let eden : Stretch = record { region = Eden; words = space.sizes.young } in
    let before = pages ++ (eden ∷ []) in
    omega (
      arith,
      words_in-append (before ++ half_of space 0) (half_of space 1),
      words_in-append before (half_of space 0),
      words_in-append pages (eden ∷ []),
      words_in-each_of (λ page. Page page) page_words space.sizes.pages,
      words_in-half_of space 0,
      words_in-half_of space 1,
    )

-- the layout words begin behind the roots
pub layouts_start_is : (space : Space) → layouts_start space ≡ roots_start space + root_words * space.variables
unfolding layouts_start
layouts_start_is space =
    ap (λ n. roots_start space + n) (words_in-each_of (λ variable. Root variable) root_words space.variables)

-- the mark words begin behind the layout words
pub marks_start_is : (space : Space) → marks_start space ≡ layouts_start space + shapes_most
unfolding marks_start
marks_start_is space =
    ap (λ n. layouts_start space + n) (words_in-each_of (λ shape. Layout shape) 1 shapes_most)

-- the board begins behind the mark words
pub board_start_is : (space : Space) → board_start space ≡ marks_start space + mark_words space.sizes.pages
unfolding board_start
board_start_is space =
    ap (λ n. marks_start space + n)
    (words_in-each_of (λ mark. Mark mark) 1 (mark_words space.sizes.pages) ∙ omega arith)

-- the words end with the board
pub words_count_is : (space : Space) → words_count space ≡ board_start space + board_words
unfolding words_count roots_start layouts_start marks_start board_start
words_count_is space =
    let cells = cell_stretches space in
    let roots = root_stretches space in
    let layouts = layout_stretches in
    let marks = mark_stretches space in
    let board = board_stretches in
    omega (
      arith,
      words_in-append (cells ++ roots ++ layouts ++ marks) board,
      words_in-append (cells ++ roots ++ layouts) marks,
      words_in-append (cells ++ roots) layouts,
      words_in-append cells roots,
      words_in-each_of (λ place. Board place) 1 board_words,
    )
