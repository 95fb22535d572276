-- Where each region stands, by its kind and its numbers.
use Rattle.std.proofs.Common.{◌≡◌, ℕ, ◌+◌, ◌*◌, ◌<◌, ◌≤◌, ◌++◌, ◌∷◌, [], List, zero, suc}
use Rattle.std.proofs.Common.{Contains, subst, arith}
use Rattle.tagged_word.specs.Shapes.{shapes_most}
use Rattle.page_space.specs.declared.region.Region.{Region}
use Rattle.page_space.specs.declared.region.Region.TheVariants.{Page, Eden, Segment, Root, Layout, Mark, Board, Outside}
use Rattle.page_space.specs.Sizes.{page_words}
use Rattle.page_space.specs.Extents.{Space, Stretch, Extent, root_words, board_words, mark_words, eden_start}
use Rattle.page_space.specs.Extents.{segments_start, words_in, roots_start, layouts_start, marks_start, board_start}
use Rattle.page_space.specs.Extents.{each_of, cell_stretches, root_stretches, layout_stretches, mark_stretches}
use Rattle.page_space.specs.Extents.{board_stretches, half_of, extents, extents_from, IsRegion}
use Rattle.tagged_word.proofs.Members.{first_in}
use Rattle.page_space.proofs.Stretches.{words_in-append, words_in-each_of, stands_first, stands_then, stands_each}
use Rattle.page_space.proofs.Starts.{half_words, words_in-half_of}

-- the first address of a region
abbrev pub start_of : Space → Region → ℕ
start_of space (Page page) = page_words * page
start_of space Eden = eden_start space
start_of space (Segment half worker) = segments_start space + half * half_words space + space.sizes.young * worker
start_of space (Root variable) = roots_start space + root_words * variable
start_of space (Layout shape) = layouts_start space + shape
start_of space (Mark mark) = marks_start space + mark
start_of space (Board place) = board_start space + place
start_of space Outside = 0

-- the words of a region
abbrev pub length_of : Space → Region → ℕ
length_of space (Page page) = page_words
length_of space Eden = space.sizes.young
length_of space (Segment half worker) = space.sizes.young
length_of space (Root variable) = root_words
length_of space (Layout shape) = 1
length_of space (Mark mark) = 1
length_of space (Board place) = 1
length_of space Outside = 0

-- a region where it stands
abbrev pub extent_of : Space → Region → Extent
extent_of space region = record { region = region; start = start_of space region; words = length_of space region }

-- it stands there
abbrev pub Stands : Space → Region → Type 0
Stands space region = Contains (extents space) (extent_of space region)

-- it stands among stretches from an address on
abbrev pub StandsAmong : ℕ → List Stretch → Extent → Type 0
StandsAmong start some extent = Contains (extents_from start some) extent

-- the parts of the list of stretches, from the front: the pages
abbrev pub pages : Space → List Stretch
pages space = each_of (λ page. Page page) page_words space.sizes.pages

-- eden alone
abbrev pub eden : Space → List Stretch
eden space = record { region = Eden; words = space.sizes.young } ∷ []

-- the pages and eden
abbrev pub to_eden : Space → List Stretch
to_eden space = pages space ++ eden space

-- those and the first half
abbrev pub to_half : Space → List Stretch
to_half space = to_eden space ++ half_of space 0

-- all up to the roots
abbrev pub to_roots : Space → List Stretch
to_roots space = cell_stretches space ++ root_stretches space

-- all up to the layout words
abbrev pub to_layouts : Space → List Stretch
to_layouts space = to_roots space ++ layout_stretches

-- all up to the mark words
abbrev pub to_marks : Space → List Stretch
to_marks space = to_layouts space ++ mark_stretches space

-- the words of the pages
pub words_in-pages : (space : Space) → words_in (pages space) ≡ eden_start space
words_in-pages space = words_in-each_of (λ page. Page page) page_words space.sizes.pages

-- the words of the pages and eden
pub words_in-to_eden : (space : Space) → words_in (to_eden space) ≡ segments_start space
words_in-to_eden space = omega (arith, words_in-append (pages space) (eden space), words_in-pages space)

-- the words of those and the first half
pub words_in-to_half : (space : Space) → words_in (to_half space) ≡ segments_start space + half_words space
words_in-to_half space =
    omega (arith, words_in-append (to_eden space) (half_of space 0), words_in-to_eden space, words_in-half_of space 0)

-- what stands among all up to the mark words stands among all
among_marks : (space : Space) (extent : Extent) → StandsAmong 0 (to_marks space) extent
    → Contains (extents space) extent
unfolding extents
among_marks space extent there = stands_first 0 (to_marks space) board_stretches extent there

-- so of all up to the layout words
among_layouts : (space : Space) (extent : Extent) → StandsAmong 0 (to_layouts space) extent
    → Contains (extents space) extent
among_layouts space extent there =
    among_marks space extent (stands_first 0 (to_layouts space) (mark_stretches space) extent there)

-- so of all up to the roots
among_roots : (space : Space) (extent : Extent) → StandsAmong 0 (to_roots space) extent
    → Contains (extents space) extent
among_roots space extent there =
    among_layouts space extent (stands_first 0 (to_roots space) layout_stretches extent there)

-- so of the cells
among_cells : (space : Space) (extent : Extent) → StandsAmong 0 (cell_stretches space) extent →
    Contains (extents space) extent
among_cells space extent there =
    among_roots space extent (stands_first 0 (cell_stretches space) (root_stretches space) extent there)

-- so of all up to the first half
among_half : (space : Space) (extent : Extent) → StandsAmong 0 (to_half space) extent → Contains (extents space) extent
among_half space extent there = among_cells space extent (stands_first 0 (to_half space) (half_of space 1) extent there)

-- so of the pages and eden
among_eden : (space : Space) (extent : Extent) → StandsAmong 0 (to_eden space) extent → Contains (extents space) extent
among_eden space extent there = among_half space extent (stands_first 0 (to_eden space) (half_of space 0) extent there)

-- a page stands behind those before it
pub page_stands : (space : Space) (page : ℕ) → page < space.sizes.pages → Stands space (Page page)
page_stands space page below =
    among_eden space _ (stands_first 0 (pages space) (eden space) _
    (stands_each (λ n. Page n) page_words space.sizes.pages 0 page (page_words * page) below (omega arith)))

-- eden stands behind the pages
pub eden_stands : (space : Space) → Stands space Eden
eden_stands space =
    let P : ℕ → Type 0 = λ n. Contains (extents_from n (eden space)) (extent_of space Eden) in
    let begins : eden_start space ≡ 0 + words_in (pages space) = omega (arith, words_in-pages space) in
    among_eden space _ (stands_then 0 (pages space) (eden space) _
    (subst P begins (first_in (extent_of space Eden) [])))

-- a segment of the first half stands behind eden and those before it
pub first_half_stands : (space : Space) (worker : ℕ) → worker ≤ space.sizes.helpers →
    Stands space (Segment 0 worker)
first_half_stands space worker below =
    among_half space _ (stands_then 0 (to_eden space) (half_of space 0) _
    (stands_each (λ n. Segment 0 n) space.sizes.young (space.sizes.helpers + 1) (0 + words_in (to_eden space)) worker
    (start_of space (Segment 0 worker)) (omega arith) (omega (arith, words_in-to_eden space))))

-- a segment of the second half stands behind the first half and those before it
pub second_half_stands : (space : Space) (worker : ℕ) → worker ≤ space.sizes.helpers →
    Stands space (Segment 1 worker)
second_half_stands space worker below =
    among_cells space _ (stands_then 0 (to_half space) (half_of space 1) _
    (stands_each (λ n. Segment 1 n) space.sizes.young (space.sizes.helpers + 1) (0 + words_in (to_half space)) worker
    (start_of space (Segment 1 worker)) (omega arith) (omega (arith, words_in-to_half space))))

-- a root stands behind the cells and those before it
pub root_stands : (space : Space) (variable : ℕ) → variable < space.variables → Stands space (Root variable)
unfolding roots_start
root_stands space variable below =
    among_roots space _ (stands_then 0 (cell_stretches space) (root_stretches space) _
    (stands_each (λ n. Root n) root_words space.variables (0 + words_in (cell_stretches space)) variable
    (start_of space (Root variable)) below (omega arith)))

-- a layout word stands behind the roots and those before it
pub layout_stands : (space : Space) (shape : ℕ) → shape < shapes_most → Stands space (Layout shape)
unfolding roots_start layouts_start
layout_stands space shape below =
    among_layouts space _ (stands_then 0 (to_roots space) layout_stretches _
    (stands_each (λ n. Layout n) 1 shapes_most (0 + words_in (to_roots space)) shape
    (start_of space (Layout shape)) below
    (omega (arith, words_in-append (cell_stretches space) (root_stretches space)))))

-- a mark word stands behind the layout words and those before it
pub mark_stands : (space : Space) (mark : ℕ) → mark < mark_words space.sizes.pages → Stands space (Mark mark)
unfolding roots_start layouts_start marks_start
mark_stands space mark below =
    among_marks space _ (stands_then 0 (to_layouts space) (mark_stretches space) _
    (stands_each (λ n. Mark n) 1 (mark_words space.sizes.pages) (0 + words_in (to_layouts space)) mark
    (start_of space (Mark mark)) below
    (omega (
      arith,
      words_in-append (to_roots space) layout_stretches,
      words_in-append (cell_stretches space) (root_stretches space),
    ))))

-- a word of the board stands behind the mark words and those before it
pub board_stands : (space : Space) (place : ℕ) → place < board_words → Stands space (Board place)
unfolding extents roots_start layouts_start marks_start board_start
board_stands space place below =
    stands_then 0 (to_marks space) board_stretches _
    (stands_each (λ n. Board n) 1 board_words (0 + words_in (to_marks space)) place
    (start_of space (Board place)) below
    (omega (
      arith,
      words_in-append (to_layouts space) (mark_stretches space),
      words_in-append (to_roots space) layout_stretches,
      words_in-append (cell_stretches space) (root_stretches space),
    )))

-- each region stands at its place
pub stands : (space : Space) (region : Region) → IsRegion space region → Stands space region
stands space (Page page) is_one = page_stands space page is_one
stands space Eden is_one = eden_stands space
stands space (Segment zero worker) is_one = first_half_stands space worker is_one.1
stands space (Segment (suc zero) worker) is_one = second_half_stands space worker is_one.1
stands space (Segment (suc (suc half)) worker) is_one = absurd (omega (arith, is_one.0))
stands space (Root variable) is_one = root_stands space variable is_one
stands space (Layout shape) is_one = layout_stands space shape is_one
stands space (Mark mark) is_one = mark_stands space mark is_one
stands space (Board place) is_one = board_stands space place is_one
stands space Outside is_one = absurd is_one
