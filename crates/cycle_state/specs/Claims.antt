-- What a command knows of a cell of a page while it changes it in an open cycle, whatever steps come in between.
use Rattle.std.specs.Prelude.{◌≡◌, ◌≢◌, ℕ, ◌+◌, ◌≤◌, ◌⊎◌, ◌==◌, ◌&&◌, ◌||◌, Bool, Some, IsTrue, length}
use Rattle.tagged_word.specs.Cells.{has_length, length_offset}
use Rattle.mark_world.specs.Pages.{EachFree, is_free}
use Rattle.mark_world.specs.Coverage.{cell_of}
use Rattle.mark_laws.specs.Types.{Kind, Reading, World}
use Rattle.mark_laws.specs.Cells.{Widens}
use Rattle.mark_laws.specs.Growing.{Grows}

-- A cell reads later as one of the same kind and size, with at least the tagged slots of before: as the cell itself, or
-- under a safe change of its header.
pub record ReadsOn (next : World) (start : ℕ) (before : Reading) : Type 0 where
  pub cell : Reading
  pub is : cell_of next start ≡ Some cell
  pub one_kind : cell.layout.kind ≡ before.layout.kind
  pub widens : Widens before cell

-- One world goes on to another: there are as many words, the mutator's lists only grow, and each free start was one
-- and reads on. So it is through each event, of the mutator, of a helper or of a seat.
pub record GoesOn (world next : World) : Type 0 where
  pub old : next.old ≡ world.old
  pub long : length next.words ≡ length world.words
  pub grows : Grows world.main next.main
  pub free : EachFree next.main (λ start. IsTrue (is_free world.main start))
  pub reads : EachFree next.main (λ start. (cell : Reading) → cell_of world start ≡ Some cell
      → ReadsOn next start cell)

-- the free start's cell has so many words, and is of the kind
pub record ReadsItself (world : World) (at size : ℕ) (kind : Kind) : Type 0 where
  pub cell : Reading
  pub is : cell_of world at ≡ Some cell
  pub size_is : cell.size ≡ size
  pub kind_is : cell.layout.kind ≡ kind

-- the free start's cell ends before so many words from an address on, or begins behind them
pub record ReadsBeside (world : World) (start at size : ℕ) : Type 0 where
  pub cell : Reading
  pub is : cell_of world start ≡ Some cell
  pub beside : (start + cell.size ≤ at) ⊎ (at + size ≤ start)

-- The words of a cell of a page are claimed: no helper that reads a cell meets them, but one that reads this cell, of
-- so many words and this kind.
pub record Claims (world : World) (at size : ℕ) (kind : Kind) : Type 0 where
  pub page : at + size ≤ world.old
  pub there : at + size ≤ length world.words
  pub own : IsTrue (is_free world.main at) → ReadsItself world at size kind
  pub others : EachFree world.main (λ start. start ≢ at → ReadsBeside world start at size)

-- whether an offset is that of the header of a cell of the kind, or of a length that its size is read from
abbrev pub is_head_in : Kind → ℕ → Bool
is_head_in kind offset = offset == 0 || (has_length kind && offset == length_offset)
