-- What holds between two commands of an open cycle, when a cycle begins, and at its end.
use Rattle.std.specs.Prelude.{◌≡◌, ℕ, ◌+◌, ◌≤◌, ◌⊎◌, false, List, [], All}
use Rattle.std.specs.Prelude.{Contains, slice_index, Some}
use Rattle.tagged_word.specs.declared.reading.Reading.{Reading}
use Rattle.mark_world.specs.declared.world.World.{World}
use Rattle.mark_world.specs.Pages.{OfTarget, slots_of, target}
use Rattle.mark_world.specs.Steps.{white, black}
use Rattle.mark_world.specs.AfterEvents.{IsMarked}
use Rattle.mark_world.specs.Coverage.{EachSlot, cell_of, colour_of}
use Rattle.mark_world.specs.Soundness.{Sound}
use Rattle.mark_world.specs.BornCells.{Born}

-- a word has no target, or one that the mutator is sure of
abbrev pub HasSureTarget : World → ℕ → Type 0
HasSureTarget world word = OfTarget world.old word (λ to. Contains world.main.sure to)

-- The mutator's part is done: it owes nothing, and is sure of each target of a tagged slot of a cell that it made
-- black. Of these cells `Sound` says nothing, since a helper that reads one can't make it black.
pub record Settled (world : World) : Type 0 where
  pub owed : world.main.owed ≡ []
  pub sure : All (λ at. EachSlot world at (λ offset. HasSureTarget world)) world.main.mine

-- a born object has a number that was reached when the cycle began, or one that was not given then
abbrev pub IsBornObject : List ℕ → ℕ → ℕ → Type 0
IsBornObject reached made object = Contains reached object ⊎ (made ≤ object)

-- A cycle begins: the world is sound, with born cells, all cells are white, no seat is out, the board is clear, and the
-- mutator knows only which cells are published and born.
pub record Fresh (world : World) : Type 0 where
  pub sound : Sound world
  pub born : Born world
  pub white : All (λ colour. colour ≡ white) world.colours
  pub board : All (λ word. word ≡ 0) world.board
  pub none_out : All (λ view. view.out ≡ false) world.helpers
  pub mine : world.main.mine ≡ []
  pub sure : world.main.sure ≡ []
  pub owed : world.main.owed ≡ []
  pub grey : world.main.grey ≡ []
  pub log : world.main.log ≡ []

-- an old cell is a published one that is not white, or a tagged slot of such a cell refers to it, and so on
pub data IsReachedByMarking (world : World) : ℕ → Type 0 where
  start : (at : ℕ) → IsMarked world at → IsReachedByMarking world at
  slot : (from at offset : ℕ) (cell : Reading) → IsReachedByMarking world from → cell_of world from ≡ Some cell
      → Contains (slots_of cell) offset → target world.old (slice_index world.words (from + offset)) ≡ Some at
      → IsReachedByMarking world at

-- nothing waits: no seat is out, no grey cell waits with the mutator or on the board, and nothing is owed
pub record IsDrained (world : World) : Type 0 where
  pub none_out : All (λ view. view.out ≡ false) world.helpers
  pub grey : world.main.grey ≡ []
  pub owed : world.main.owed ≡ []
  pub board : All (λ word. word ≡ 0) world.board

-- each old cell that is reached is black
abbrev pub MarksAll : World → Type 0
MarksAll world = (at : ℕ) → IsReachedByMarking world at → colour_of world at ≡ black
