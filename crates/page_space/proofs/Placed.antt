-- Each extent is that of a region of the heap, where that region stands.
use Rattle.std.proofs.Common.{◌≡◌, ◌+◌, Contains, sym, ◌∙◌, ap, subst, ⊎_elim, arith}
use Rattle.tagged_word.specs.Shapes.{shapes_most}
use Rattle.page_space.specs.declared.region.Region.{Region}
use Rattle.page_space.specs.declared.region.Region.TheVariants.{Page, Eden, Segment, Root, Layout, Mark, Board}
use Rattle.page_space.specs.Sizes.{page_words}
use Rattle.page_space.specs.Extents.{Space, Extent, root_words, board_words, mark_words, words_in, roots_start}
use Rattle.page_space.specs.Extents.{layouts_start, marks_start, board_start, cell_stretches, root_stretches}
use Rattle.page_space.specs.Extents.{layout_stretches, mark_stretches, board_stretches, half_of, extents, IsRegion}
use Rattle.tagged_word.proofs.Members.{one_in}
use Rattle.page_space.proofs.Stretches.{words_in-append, stands_cases, numbered, IsNumbered}
use Rattle.page_space.proofs.Standing.{start_of, length_of, extent_of, StandsAmong, pages, eden, to_eden, to_half}
use Rattle.page_space.proofs.Standing.{to_roots, to_layouts, to_marks, words_in-pages, words_in-to_eden}
use Rattle.page_space.proofs.Standing.{words_in-to_half}

-- the extent is where its region stands, and the region is one of the heap's
pub record IsPlaced (space : Space) (extent : Extent) : Type 0 where
  pub is_region : IsRegion space extent.region
  pub place : extent ≡ extent_of space extent.region

-- so it is if that is so of a region that is its own
placed_as : (space : Space) (extent : Extent) (region : Region) → IsRegion space region → region ≡ extent.region →
    start_of space region ≡ extent.start → length_of space region ≡ extent.words → IsPlaced space extent
placed_as space extent region is_one same begins as_long =
    let starts : extent.start ≡ start_of space extent.region = sym begins ∙ ap (start_of space) same in
    let lengths : extent.words ≡ length_of space extent.region = sym as_long ∙ ap (length_of space) same in
    record {
      is_region = subst (IsRegion space) same is_one;
      place = λ i. record { region = extent.region; start = starts i; words = lengths i };
    }

-- what stands among the pages is a page at its place
in_pages : (space : Space) (extent : Extent) → StandsAmong 0 (pages space) extent → IsPlaced space extent
in_pages space extent there =
    let found : IsNumbered (λ n. Page n) page_words space.sizes.pages 0 extent = numbered _ _ _ _ extent there in
    placed_as space extent (Page found.number) found.below found.of_region (omega (arith, found.begins)) found.as_long

-- what stands behind the pages is eden
in_eden : (space : Space) (extent : Extent) → StandsAmong (0 + words_in (pages space)) (eden space) extent →
    IsPlaced space extent
in_eden space extent there =
    let found = one_in _ extent there in
    placed_as space extent Eden tt (ap (λ e. e.region) found)
    (omega (arith, ap (λ e. e.start) found, words_in-pages space))
    (ap (λ e. e.words) found)

-- what stands behind eden is a segment of the first half
in_first_half : (space : Space) (extent : Extent) →
    StandsAmong (0 + words_in (to_eden space)) (half_of space 0) extent → IsPlaced space extent
in_first_half space extent there =
    let found : IsNumbered (λ n. Segment 0 n) space.sizes.young (space.sizes.helpers + 1)
    (0 + words_in (to_eden space)) extent =
    numbered _ _ _ _ extent there in
    placed_as space extent (Segment 0 found.number) (omega arith, omega (arith, found.below)) found.of_region
    (omega (arith, found.begins, words_in-to_eden space)) found.as_long

-- what stands behind that is a segment of the second half
in_second_half : (space : Space) (extent : Extent) →
    StandsAmong (0 + words_in (to_half space)) (half_of space 1) extent → IsPlaced space extent
in_second_half space extent there =
    let found : IsNumbered (λ n. Segment 1 n) space.sizes.young (space.sizes.helpers + 1)
    (0 + words_in (to_half space)) extent =
    numbered _ _ _ _ extent there in
    placed_as space extent (Segment 1 found.number) (omega arith, omega (arith, found.below)) found.of_region
    (omega (arith, found.begins, words_in-to_half space)) found.as_long

-- what stands behind the cells is a root
in_roots : (space : Space) (extent : Extent) →
    StandsAmong (0 + words_in (cell_stretches space)) (root_stretches space) extent → IsPlaced space extent
unfolding roots_start
in_roots space extent there =
    let found : IsNumbered (λ n. Root n) root_words space.variables (0 + words_in (cell_stretches space)) extent =
    numbered _ _ _ _ extent there in
    placed_as space extent (Root found.number) found.below found.of_region (omega (arith, found.begins)) found.as_long

-- what stands behind the roots is a layout word
in_layouts : (space : Space) (extent : Extent) → StandsAmong (0 + words_in (to_roots space)) layout_stretches extent →
    IsPlaced space extent
unfolding roots_start layouts_start
in_layouts space extent there =
    let found : IsNumbered (λ n. Layout n) 1 shapes_most (0 + words_in (to_roots space)) extent =
    numbered _ _ _ _ extent there in
    placed_as space extent (Layout found.number) found.below found.of_region
    (omega (arith, found.begins, words_in-append (cell_stretches space) (root_stretches space))) found.as_long

-- what stands behind the layout words is a mark word
in_marks : (space : Space) (extent : Extent) →
    StandsAmong (0 + words_in (to_layouts space)) (mark_stretches space) extent → IsPlaced space extent
unfolding roots_start layouts_start marks_start
in_marks space extent there =
    let found : IsNumbered (λ n. Mark n) 1 (mark_words space.sizes.pages) (0 + words_in (to_layouts space)) extent =
    numbered _ _ _ _ extent there in
    placed_as space extent (Mark found.number) found.below found.of_region
    (omega (
      arith,
      found.begins,
      words_in-append (to_roots space) layout_stretches,
      words_in-append (cell_stretches space) (root_stretches space),
    )) found.as_long

-- what stands behind the mark words is of the board
in_board : (space : Space) (extent : Extent) → StandsAmong (0 + words_in (to_marks space)) board_stretches extent →
    IsPlaced space extent
unfolding roots_start layouts_start marks_start board_start
in_board space extent there =
    let found : IsNumbered (λ n. Board n) 1 board_words (0 + words_in (to_marks space)) extent =
    numbered _ _ _ _ extent there in
    placed_as space extent (Board found.number) found.below found.of_region
    (omega (
      arith,
      found.begins,
      words_in-append (to_layouts space) (mark_stretches space),
      words_in-append (to_roots space) layout_stretches,
      words_in-append (cell_stretches space) (root_stretches space),
    )) found.as_long

-- so up to eden
in_to_eden : (space : Space) (extent : Extent) → StandsAmong 0 (to_eden space) extent → IsPlaced space extent
in_to_eden space extent there =
    ⊎_elim (in_pages space extent) (in_eden space extent) (stands_cases 0 (pages space) (eden space) extent there)

-- so up to the first half
in_to_half : (space : Space) (extent : Extent) → StandsAmong 0 (to_half space) extent → IsPlaced space extent
in_to_half space extent there =
    ⊎_elim (in_to_eden space extent) (in_first_half space extent)
    (stands_cases 0 (to_eden space) (half_of space 0) extent there)

-- so of all cells
in_cells : (space : Space) (extent : Extent) → StandsAmong 0 (cell_stretches space) extent → IsPlaced space extent
in_cells space extent there =
    ⊎_elim (in_to_half space extent) (in_second_half space extent)
    (stands_cases 0 (to_half space) (half_of space 1) extent there)

-- so up to the roots
in_to_roots : (space : Space) (extent : Extent) → StandsAmong 0 (to_roots space) extent → IsPlaced space extent
in_to_roots space extent there =
    ⊎_elim (in_cells space extent) (in_roots space extent)
    (stands_cases 0 (cell_stretches space) (root_stretches space) extent there)

-- so up to the layout words
in_to_layouts : (space : Space) (extent : Extent) → StandsAmong 0 (to_layouts space) extent → IsPlaced space extent
in_to_layouts space extent there =
    ⊎_elim (in_to_roots space extent) (in_layouts space extent)
    (stands_cases 0 (to_roots space) layout_stretches extent there)

-- so up to the mark words
in_to_marks : (space : Space) (extent : Extent) → StandsAmong 0 (to_marks space) extent → IsPlaced space extent
in_to_marks space extent there =
    ⊎_elim (in_to_layouts space extent) (in_marks space extent)
    (stands_cases 0 (to_layouts space) (mark_stretches space) extent there)

-- so of all extents
pub placed : (space : Space) (extent : Extent) → Contains (extents space) extent → IsPlaced space extent
unfolding extents
placed space extent there =
    ⊎_elim (in_to_marks space extent) (in_board space extent)
    (stands_cases 0 (to_marks space) board_stretches extent there)
