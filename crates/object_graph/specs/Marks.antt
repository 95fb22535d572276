-- How marks of objects grow.
use Rattle.std.specs.Prelude.{◌≡◌, ℕ, ◌<◌, Bool, ◌||◌, List, length}
use Rattle.object_graph.specs.Reach.{is_marked}

-- each object keeps its mark, and these objects are marked too
pub record MarksAlso (old new : List Bool) (these : ℕ → Bool) : Type 0 where
  pub same_length : length new ≡ length old
  pub also : (number : ℕ) → number < length old → is_marked new number ≡ (is_marked old number || these number)
