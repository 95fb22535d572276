-- The flags of a checker.
use Rattle.std.specs.Prelude.{◌≡◌, ℕ, Bool, false, List, length, replicate}
use Rattle.heap_model.specs.Heaps.{Heap}
use Rattle.page_space.specs.Extents.{marks_start}
use Rattle.heap_check.specs.declared.checker.Checker.TheInside.{Inside}

-- for how many words a checker has flags
abbrev pub words_of : Inside → ℕ
words_of checker = length checker.starts.items

-- there are as many flags of each sort
pub record HasFlags (checker : Inside) : Type 0 where
  pub beside : length checker.beside.items ≡ length checker.starts.items
  pub named : length checker.named.items ≡ length checker.starts.items

-- there is a flag for each word that the sizes of a heap ask for, and none is set
abbrev pub AreClearedFor : Heap → List Bool → Type 0
AreClearedFor heap flags = flags ≡ replicate (marks_start heap.space) false
