-- Where the pages end.
use Rattle.std.proofs.Common.{◌≤◌, arith}
use Rattle.page_space.specs.Extents.{Space, eden_start, layouts_start, marks_start}
use Rattle.page_space.proofs.Starts.{roots_start_is, layouts_start_is, marks_start_is}

-- the pages end before the layout words begin
pub pages_before_layouts : (space : Space) → eden_start space ≤ layouts_start space
pages_before_layouts space = omega (arith, roots_start_is space, layouts_start_is space)

-- and before the marks begin
pub pages_before_marks : (space : Space) → eden_start space ≤ marks_start space
pages_before_marks space = omega (arith, pages_before_layouts space, marks_start_is space)
