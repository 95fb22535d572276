-- The words that a seat has for itself.
use Rattle.std.specs.Prelude.{ℕ, List, replicate}
use Rattle.page_space.specs.Extents.{Space, marks_start}

-- the regions of a heap, and the words that stand before the marks
pub record Own : Type 0 where
  pub space : Space
  pub words : List ℕ

-- all these words are 0
abbrev pub zeros : Space → Own
zeros space = record { space = space; words = replicate (marks_start space) 0 }
