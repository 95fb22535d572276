-- A list at the first word of eden, whose slot refers to it, as two variables do.
use Rattle.std.specs.Prelude.{◌≡◌, ℕ, ◌+◌, List, Some, length, slice_get, slice_index}
use Rattle.page_space.specs.Extents.{Space, roots_start, layouts_start, marks_start}
use Rattle.shared_table.specs.Owned.{Own}

-- a page, an eden of 64 words, one helper and two variables
abbrev pub small : Space
small = record { sizes = record { pages = 1; young = 64; helpers = 1 }; variables = 2 }

-- The words have the list's header, its slot and its layout word; the first root word of each variable refers to it.
pub record HaveList (words : List ℕ) : Type 0 where
  pub counted : length words ≡ marks_start small
  pub header : slice_get words 2048 ≡ Some 6
  pub slot : slice_index words 2049 ≡ 8193
  pub layout : slice_get words (layouts_start small + 1) ≡ Some 2
  pub first : slice_index words (roots_start small) ≡ 8193
  pub second : slice_index words (roots_start small + 2) ≡ 8193

-- these are the words of such a heap
pub record HasList (own : Own) : Type 0 where
  pub space : own.space ≡ small
  pub words : HaveList own.words
