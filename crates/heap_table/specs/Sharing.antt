-- What the shared table has after words were put among the own ones.
use Rattle.std.specs.Prelude.{◌≡◌, ℕ, ◌<◌, ◌≤◌, ◌⊎◌, length, take, slice_index}
use Rattle.tagged_word.specs.Shapes.{shapes_most}
use Rattle.page_space.specs.Extents.{eden_start}
use Rattle.shared_table.specs.declared.overview.Overview.{Overview}
use Rattle.shared_table.specs.Seats.{Side}
use Rattle.shared_table.specs.Owned.{Own}

-- the shared table has the own words of the pages, and a layout word for each shape that there may be
pub record Agrees (own : Own) (main : Overview) : Type 0 where
  pub old : main.old ≡ eden_start own.space
  pub words : main.words ≡ take (eden_start own.space) own.words
  pub layouts : length main.layouts ≡ shapes_most

-- the address is not among those from one on up to another
abbrev pub IsOutside : ℕ → ℕ → ℕ → Type 0
IsOutside from to a = (a < from) ⊎ (to ≤ a)

-- the shared table has the own words of the pages, but for those at these addresses
pub record AgreesOutside (own : Own) (from to : ℕ) (main : Overview) : Type 0 where
  pub old : main.old ≡ eden_start own.space
  pub words : length main.words ≡ eden_start own.space
  pub layouts : length main.layouts ≡ shapes_most
  pub page : (a : ℕ) → a < eden_start own.space → IsOutside from to a
      → slice_index main.words a ≡ slice_index own.words a

-- what the seat knows where words of pages were put
abbrev pub with_pages : Side → Overview → Side
with_pages side now = record side { main = record side.main { words = now.words } }
