-- The sizes of a heap, and their limits.
use Rattle.std.specs.Prelude.{ℕ, ◌≤◌}
use Rattle.tagged_word.specs.Cells.{cell_words_most}
use Rattle.page_space.specs.declared.sizes.Sizes.{Sizes}

-- the words of a page: a cell may be as long
abbrev pub page_words : ℕ
page_words = cell_words_most

-- the most pages
abbrev pub pages_most : ℕ
pages_most = 512

-- the least words of eden, and so of each segment
abbrev pub young_least : ℕ
young_least = 64

-- and the most of them
abbrev pub young_most : ℕ
young_most = 65536

-- the most helpers beside the main side
abbrev pub helpers_most : ℕ
helpers_most = 7

-- the most variables, each of which has a root
abbrev pub variables_most : ℕ
variables_most = 1024

-- at least one page, and no size below its least or above its most
pub record AreWithin (sizes : Sizes) (variables : ℕ) : Type 0 where
  pub some_page : 1 ≤ sizes.pages
  pub pages : sizes.pages ≤ pages_most
  pub young_is_least : young_least ≤ sizes.young
  pub young : sizes.young ≤ young_most
  pub helpers : sizes.helpers ≤ helpers_most
  pub of_variables : variables ≤ variables_most
