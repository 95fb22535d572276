-- The regions of the words of a heap: one after another from address 0 on.
use Rattle.std.specs.Prelude.{◌≡◌, ℕ, ◌+◌, ◌*◌, ◌<◌, ◌≤◌, Bool, true, false, List, [], ◌∷◌}
use Rattle.std.specs.Prelude.{◌++◌, map, sum_by, Contains, IsTrue}
use Rattle.std.specs.List.{range_with_len}
use Rattle.tagged_word.specs.Shapes.{shapes_most}
use Rattle.page_space.specs.declared.sizes.Sizes.{Sizes}
use Rattle.page_space.specs.declared.region.Region.{Region}
use Rattle.page_space.specs.declared.region.Region.TheVariants.{Page, Eden, Segment, Root, Layout, Mark, Board, Outside}
use Rattle.page_space.specs.Sizes.{page_words}

-- what decides the regions: the sizes of the heap, and the number of the script's variables
pub record Space : Type 0 where
  pub sizes : Sizes
  pub variables : ℕ

-- a region and its number of words
pub record Stretch : Type 0 where
  pub region : Region
  pub words : ℕ

-- the words of a variable: its value's, and those of an integer that is not small
abbrev pub root_words : ℕ
root_words = 2

-- the words of the board
abbrev pub board_words : ℕ
board_words = 64

-- how many mark words there are for so many pages: one for each word of a page
abbrev pub mark_words : ℕ → ℕ
mark_words pages = page_words * pages

-- the number of the mark word of a page word, by its address
abbrev pub mark_number : ℕ → ℕ
mark_number a = a

-- The regions that stand for the numbers from 0 on, each of so many words. There are thousands of layout words, so a
-- proof unfolds this, and what is made of it, only where it says so.
unfoldable pub each_of : (ℕ → Region) → ℕ → ℕ → List Stretch
each_of region words count = map (λ n. record { region = region n; words = words }) (range_with_len 0 count)

-- how many segments a half has: one for each helper and one for the main side
abbrev pub half_segments : Space → ℕ
half_segments space = space.sizes.helpers + 1

-- the segments of one half
abbrev pub half_of : Space → ℕ → List Stretch
half_of space half = each_of (λ worker. Segment half worker) space.sizes.young (half_segments space)

-- where cells stand: the pages, eden, and the segments of both halves
abbrev pub cell_stretches : Space → List Stretch
cell_stretches space =
    each_of (λ page. Page page) page_words space.sizes.pages
    ++ (record { region = Eden; words = space.sizes.young } ∷ [])
    ++ half_of space 0 ++ half_of space 1

-- the roots, one for each variable
abbrev pub root_stretches : Space → List Stretch
root_stretches space = each_of (λ variable. Root variable) root_words space.variables

-- the layout words, one for each shape
abbrev pub layout_stretches : List Stretch
layout_stretches = each_of (λ shape. Layout shape) 1 shapes_most

-- the mark words, one for each word of a page
abbrev pub mark_stretches : Space → List Stretch
mark_stretches space = each_of (λ mark. Mark mark) 1 (mark_words space.sizes.pages)

-- the words of the board, each a region of its own
abbrev pub board_stretches : List Stretch
board_stretches = each_of (λ place. Board place) 1 board_words

-- The regions in order, from address 0 on: cells, roots, layout words, mark words, the board.
abbrev pub stretches : Space → List Stretch
stretches space =
    cell_stretches space ++ root_stretches space ++ layout_stretches ++ mark_stretches space ++ board_stretches

-- how many words stretches have together
abbrev pub words_in : List Stretch → ℕ
words_in all = sum_by (λ stretch. stretch.words) all

-- how many words there are
unfoldable pub words_count : Space → ℕ
words_count space = words_in (stretches space)

-- the first address of eden
abbrev pub eden_start : Space → ℕ
eden_start space = page_words * space.sizes.pages

-- the first address of the segments, those of the first half before those of the second
abbrev pub segments_start : Space → ℕ
segments_start space = eden_start space + space.sizes.young

-- the first address of the roots, of the layout words, of the mark words and of the board
unfoldable pub roots_start : Space → ℕ
roots_start space = words_in (cell_stretches space)

unfoldable pub layouts_start : Space → ℕ
layouts_start space = roots_start space + words_in (root_stretches space)

unfoldable pub marks_start : Space → ℕ
marks_start space = layouts_start space + words_in layout_stretches

unfoldable pub board_start : Space → ℕ
board_start space = marks_start space + words_in (mark_stretches space)

-- the most words that there may be, within the limits of all sizes
abbrev pub words_most : ℕ
words_most = 3221576

-- where a region stands: its first address and its number of words
pub record Extent : Type 0 where
  pub region : Region
  pub start : ℕ
  pub words : ℕ

-- the regions one after another from an address on
abbrev pub extents_from : ℕ → List Stretch → List Extent
extents_from start [] = []
extents_from start (stretch ∷ more) =
    record { region = stretch.region; start = start; words = stretch.words } ∷ extents_from (start + stretch.words) more

-- where each region stands, in order
unfoldable pub extents : Space → List Extent
extents space = extents_from 0 (stretches space)

-- the address is one of the extent's
pub record ContainsAddress (extent : Extent) (a : ℕ) : Type 0 where
  pub from : extent.start ≤ a
  pub below : a < extent.start + extent.words

-- the address is in this region, which stands there
pub record IsIn (space : Space) (a : ℕ) (region : Region) : Type 0 where
  pub extent : Extent
  pub stands : Contains (extents space) extent
  pub of_region : extent.region ≡ region
  pub holds : ContainsAddress extent a

-- the region begins at the address
pub record StartsAt (space : Space) (region : Region) (a : ℕ) : Type 0 where
  pub extent : Extent
  pub stands : Contains (extents space) extent
  pub of_region : extent.region ≡ region
  pub starts : extent.start ≡ a

-- the region is one of the heap's
abbrev pub IsRegion : Space → Region → Type 0
IsRegion space (Page page) = page < space.sizes.pages
IsRegion space Eden = Unit {0}
IsRegion space (Segment half worker) = (half < 2) × (worker ≤ space.sizes.helpers)
IsRegion space (Root variable) = variable < space.variables
IsRegion space (Layout shape) = shape < shapes_most
IsRegion space (Mark mark) = mark < mark_words space.sizes.pages
IsRegion space (Board place) = place < board_words
IsRegion space Outside = ⊥

-- the region is a page
abbrev pub is_page_region : Region → Bool
is_page_region (Page page) = true
is_page_region _ = false

-- the region is of the young generation: eden or a segment
abbrev pub is_young_region : Region → Bool
is_young_region Eden = true
is_young_region (Segment half worker) = true
is_young_region _ = false

-- cells stand in the region: a page, eden or a segment
abbrev pub is_cell_region : Region → Bool
is_cell_region (Page page) = true
is_cell_region Eden = true
is_cell_region (Segment half worker) = true
is_cell_region _ = false

-- the address is in a region that passes
pub record IsInOne (space : Space) (passes : Region → Bool) (a : ℕ) : Type 0 where
  pub region : Region
  pub is_in : IsIn space a region
  pub of_kind : IsTrue (passes region)

-- the address is in a region in which cells stand, and that is the first address behind it
pub record CellsEndAt (space : Space) (a end : ℕ) : Type 0 where
  pub extent : Extent
  pub stands : Contains (extents space) extent
  pub of_cells : IsTrue (is_cell_region extent.region)
  pub holds : ContainsAddress extent a
  pub ends : extent.start + extent.words ≡ end

-- the number of the segment that an address is in, counted through both halves
pub record IsNumberOf (space : Space) (a number : ℕ) : Type 0 where
  pub among : number < 2 * half_segments space
  pub from : segments_start space + space.sizes.young * number ≤ a
  pub below : a < segments_start space + space.sizes.young * number + space.sizes.young
