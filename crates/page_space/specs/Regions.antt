-- What is computed once for the regions of a heap: where each kind of region begins.
use Rattle.std.specs.Prelude.{◌≡◌}
use Rattle.std.proofs.Common.{sym}
use Rattle.page_space.specs.declared.regions.Regions.TheInside.{Inside}
use Rattle.page_space.specs.Sizes.{AreWithin}
use Rattle.page_space.specs.Extents.{Space, eden_start, segments_start, roots_start, layouts_start, marks_start}
use Rattle.page_space.specs.Extents.{board_start, words_count}

-- the sizes and the number of variables alone
abbrev pub space_of : Inside → Space
space_of regions = record { sizes = regions.sizes; variables = regions.variables }

-- the sizes are within their limits, and each number is the first address of its kind of region
pub record AreComputed (regions : Inside) : Type 0 where
  pub within : AreWithin regions.sizes regions.variables
  pub eden : regions.eden ≡ eden_start (space_of regions)
  pub segments : regions.segments ≡ segments_start (space_of regions)
  pub roots : regions.roots ≡ roots_start (space_of regions)
  pub layouts : regions.layouts ≡ layouts_start (space_of regions)
  pub marks : regions.marks ≡ marks_start (space_of regions)
  pub board : regions.board ≡ board_start (space_of regions)
  pub count : regions.count ≡ words_count (space_of regions)

-- what is computed for a space
abbrev pub computed : Space → Inside
computed space =
    record {
      sizes = space.sizes;
      variables = space.variables;
      eden = eden_start space;
      segments = segments_start space;
      roots = roots_start space;
      layouts = layouts_start space;
      marks = marks_start space;
      board = board_start space;
      count = words_count space;
    }

-- what is computed for the space of computed regions are those regions
pub computed-space_of : (regions : Inside) → AreComputed regions → computed (space_of regions) ≡ regions
computed-space_of regions is = λ i. record {
  sizes = regions.sizes;
  variables = regions.variables;
  eden = sym is.eden i;
  segments = sym is.segments i;
  roots = sym is.roots i;
  layouts = sym is.layouts i;
  marks = sym is.marks i;
  board = sym is.board i;
  count = sym is.count i;
}
