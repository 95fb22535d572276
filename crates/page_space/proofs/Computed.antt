-- The computed numbers are the first addresses of the kinds of regions, and in order.
use Rattle.std.proofs.Common.{◌≡◌, ◌+◌, ◌*◌, ◌≤◌, refl, subst}
use Rattle.tagged_word.specs.Shapes.{shapes_most}
use Rattle.page_space.specs.declared.regions.Regions.TheInside.{Inside}
use Rattle.page_space.specs.Regions.{space_of, AreComputed}
use Rattle.page_space.specs.Sizes.{AreWithin}
use Rattle.page_space.specs.Extents.{Space, root_words, board_words, mark_words, eden_start, segments_start}
use Rattle.page_space.specs.Extents.{roots_start, layouts_start, marks_start, board_start, words_count, words_most}
use Rattle.page_space.proofs.Starts.{half_words, roots_start_is, layouts_start_is, marks_start_is, board_start_is}
use Rattle.page_space.proofs.Starts.{words_count_is}
use Rattle.page_space.proofs.Limits.{words_count_most}

-- what is known of the numbers of a space
pub record AreNumbers (space : Space) : Type 0 where
  pub within : AreWithin space.sizes space.variables
  pub roots : roots_start space ≡ segments_start space + 2 * half_words space
  pub layouts : layouts_start space ≡ roots_start space + root_words * space.variables
  pub marks : marks_start space ≡ layouts_start space + shapes_most
  pub board : board_start space ≡ marks_start space + mark_words space.sizes.pages
  pub count : words_count space ≡ board_start space + board_words
  pub most : words_count space ≤ words_most

-- so it is of each space within its limits
pub numbers : (space : Space) → AreWithin space.sizes space.variables → AreNumbers space
numbers space within = record {
  within = within;
  roots = roots_start_is space;
  layouts = layouts_start_is space;
  marks = marks_start_is space;
  board = board_start_is space;
  count = words_count_is space;
  most = words_count_most space within;
}

-- the fields are the numbers of the space
pub record IsComputedFor (regions : Inside) (space : Space) : Type 0 where
  pub numbers : AreNumbers space
  pub pages : regions.sizes.pages ≡ space.sizes.pages
  pub young : regions.sizes.young ≡ space.sizes.young
  pub helpers : regions.sizes.helpers ≡ space.sizes.helpers
  pub variables : regions.variables ≡ space.variables
  pub eden : regions.eden ≡ eden_start space
  pub segments : regions.segments ≡ segments_start space
  pub roots : regions.roots ≡ roots_start space
  pub layouts : regions.layouts ≡ layouts_start space
  pub marks : regions.marks ≡ marks_start space
  pub board : regions.board ≡ board_start space
  pub count : regions.count ≡ words_count space

-- so they are where they show the space
pub computed_for : (regions : Inside) (space : Space) → space_of regions ≡ space → AreComputed regions →
    IsComputedFor regions space
computed_for regions space shown is =
    subst (IsComputedFor regions) shown (record {
      numbers = numbers (space_of regions) is.within;
      pages = refl;
      young = refl;
      helpers = refl;
      variables = refl;
      eden = is.eden;
      segments = is.segments;
      roots = is.roots;
      layouts = is.layouts;
      marks = is.marks;
      board = is.board;
      count = is.count;
    })
